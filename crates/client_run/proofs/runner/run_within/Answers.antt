use Rattle.std.proofs.Common.{subst}
use Rattle.client_run.proofs.ByTrees.{points_are_trees}
use Rattle.client_run.proofs.Lowering.{goes_lower}
use Rattle.client_run.proofs.Whole.{faulted, passes}
use Rattle.client_run.specs.Answers.{outcome_told}
use Rattle.client_run.specs.Deeds.{moment}
use Rattle.client_run.specs.Places.{Comes, Standing, ended, place}
use Rattle.client_run.specs.Turns.{place_in}
use Rattle.client_model.specs.Checked.{seen}
use Rattle.client_run.proofs.runner.run_within.Goals as goal

pub each-init : goal.each-init
each-init c = λ o comes.
    let at = λ (s : Standing). Comes c.args.spec.now (seen c.args.program.now) (place 0 0 s.behind (moment s.state c.args.choices.now c.args.budget)) o in
    (points_are_trees c.args.spec.now (seen c.args.program.now) c.args.choices.now c.args.budget o c.requires.agreed).trees (subst at c.in-Ok.ensures comes)

pub each-smaller : goal.each-smaller
each-smaller c =
    goes_lower c.args.spec.now (seen c.args.program.now) c.requires.agreed (place_in c.each.runner) (place_in c.turn.new.self)
    (rw c.in-Ok-None.field-0-is at c.in-Ok-None.ensures)

pub each-preserved : goal.each-preserved
each-preserved c =
    passes c.args.spec.now (seen c.args.program.now) c.args.choices.now c.args.budget (place_in c.each.runner) (place_in c.turn.new.self) c.each.invariant
    (rw c.in-Ok-None.field-0-is at c.in-Ok-None.ensures)

pub returns-in-Ok-Some : goal.returns-in-Ok-Some
returns-in-Ok-Some c =
    c.each.invariant (outcome_told c.in-Ok-Some.outcome)
    (ended (place_in c.each.runner) (outcome_told c.in-Ok-Some.outcome) (rw c.in-Ok-Some.field-0-is at c.in-Ok-Some.ensures))

pub returns-in-Err : goal.returns-in-Err
returns-in-Err c =
    faulted c.args.spec.now (seen c.args.program.now) c.args.choices.now c.args.budget (place_in c.each.runner) c.turn.new.self c.in-Err.fault
    c.each.invariant c.in-Err.ensures
