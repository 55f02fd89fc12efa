use Rattle.std.proofs.Common.{rules}
use Rattle.easl_model.specs.{IsChecked}
use Rattle.easl_model.proofs.CheckedForms.{constructs_at}
use Rattle.easl_model.proofs.checked.CheckedSpec.constructor.Goals as goal

pub returns-clause-constructs : goal.returns-clause-constructs
returns-clause-constructs c =
    let checked : IsChecked c.args.self.now = search rules in
    constructs_at c.args.self.now c.args.class c.as_slice.result.now c.index-as_slice-class.result checked (search rules) (search rules)
