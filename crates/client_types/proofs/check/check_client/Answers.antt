use Rattle.std.proofs.Common.{subst, sym}
use Rattle.client_model.proofs.Least.{none_is_well_formed}
use Rattle.client_model.specs.Checked.{IsFitting}
use Rattle.client_model.specs.Trees.{Client, client_of}
use Rattle.client_types.specs.Answers.{IsCheckedAs}
use Rattle.client_types.specs.Passing.{IsPassed}
use Rattle.client_types.proofs.Fitting.{fitting}
use Rattle.client_types.proofs.InRange.{in_range}
use Rattle.client_types.proofs.check.check_client.Goals as goal
use Rattle.easl_model.specs.Form.{Form}

pub new-requires-clause-checked : goal.new-requires-clause-checked
new-requires-clause-checked c =
    let form : Form = c.args.spec.now in
    let client : Client = client_of c.args.client in
    let passed : IsPassed form client c.in_ok-bodies.bodies = c.in_ok-bodies.ensures in
    let is = c.in_ok-parts.ensures form client c.procedures_of.ensures passed.written (none_is_well_formed form client passed.well_formed).bodies in
    record { form = form; specification = c.is_kept.ensures.checked; fits = fitting form client _ passed.well_formed is }

pub new-requires-clause-in_range : goal.new-requires-clause-in_range
new-requires-clause-in_range c =
    let form : Form = c.args.spec.now in
    let client : Client = client_of c.args.client in
    let passed : IsPassed form client c.in_ok-bodies.bodies = c.in_ok-bodies.ensures in
    let is = c.in_ok-parts.ensures form client c.procedures_of.ensures passed.written (none_is_well_formed form client passed.well_formed).bodies in
    in_range c.requires.text form c.args.client _ c.requires.few_bytes c.requires.spells is

pub returns-clause-answer : goal.returns-clause-answer
returns-clause-answer c =
    let form : Form = c.args.spec.now in
    let client : Client = client_of c.args.client in
    let passed : IsPassed form client c.in_ok-bodies.bodies = c.in_ok-bodies.ensures in
    let is = c.in_ok-parts.ensures form client c.procedures_of.ensures passed.written (none_is_well_formed form client passed.well_formed).bodies in
    subst (IsCheckedAs form client) (sym c.new.ensures) (record { well_formed = passed.well_formed; is = is })

pub returns-clause-fits : goal.returns-clause-fits
returns-clause-fits c =
    let form : Form = c.args.spec.now in
    let client : Client = client_of c.args.client in
    let passed : IsPassed form client c.in_ok-bodies.bodies = c.in_ok-bodies.ensures in
    let is = c.in_ok-parts.ensures form client c.procedures_of.ensures passed.written (none_is_well_formed form client passed.well_formed).bodies in
    subst (IsFitting form) (sym c.new.ensures) (fitting form client _ passed.well_formed is)
