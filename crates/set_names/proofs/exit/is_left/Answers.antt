use Rattle.std.proofs.Common.{ap, false, sym, ◌∙◌}
use Rattle.std.proofs.lemmas.Option.{unwrap_or-slice_get}
use Rattle.std.specs.Prelude.{unwrap_or}
use Rattle.set_names.specs.Names.{is_left}
use Rattle.set_names.proofs.exit.is_left.Goals as goal

pub returns-in-None-get : goal.returns-in-None-get
returns-in-None-get c =
    let flags = c.in-Some.flags in
    sym (ap (λ o. is_left o c.args.variable) c.in-Some.is ∙ sym (unwrap_or-slice_get flags c.args.variable false) ∙ ap (λ o. unwrap_or o false) (sym c.in-None-get.ensures.value))
