-- The outcome of a run, from the answer that is written.
use Rattle.std.proofs.Common.{◌≡◌, ℕ, List, subst, sym, ◌∙◌}
use Rattle.std.specs.Prelude.{Bool, Option, String}
use Rattle.std.specs.declared.alloc.Global.{Global}
use Rattle.cv_base.specs.Causes.{Appends}
use Rattle.cv_base.specs.declared.status.Status.{Status}
use Rattle.canvas_cli.proofs.Headlines.{writes_answer}
use Rattle.canvas_cli.proofs.Told.{IsWhole}
use Rattle.canvas_cli.specs.Answers.{WritesAllowed}
use Rattle.canvas_cli.specs.Headline.{RunsExactly, WritesOutcome}
use Rattle.canvas_cli.specs.Verdicts.{Tells, most_units}
use Rattle.canvas_cli.specs.declared.answer.Answer.{Answer}
use Rattle.canvas_cli.specs.declared.answer.Answer.TheVariants.{Ends, Short, Fails, Long}
use Rattle.canvas_cli.specs.declared.command.Command.TheVariants.{Run}
use Rattle.client_model.specs.CheckedForm.{ClientForm}
use Rattle.client_steps.proofs.Once.{runs_once}
use Rattle.client_steps.specs.Runs as runs
use Rattle.client_steps.specs.Runs.{Outcome}
use Rattle.easl_model.specs.Form.{Form}

-- the answer that tells an outcome is written as that outcome is
told_written : (form : Form) (client : ClientForm) (old new : Option (List ℕ)) (status : Status) (answer : Answer) (o : Outcome) → Tells form client answer o
    → IsWhole old new answer status → WritesOutcome form client o old new status
told_written form client old new status (Ends text) (runs.Ends left) told written = (written.0, subst (Appends old new) told written.1)
told_written form client old new status Short runs.Short told written = written
told_written form client old new status (Fails text) (runs.Fails call clause left) told written = (text.items, told, written.0, written.1)
told_written form client old new status Long runs.Cut told written = written
told_written form client old new status answer o told written = absurd told

pub runs_exactly : (held : List ℕ → Option (List ℕ)) (rose : List ℕ → Type 0) (words : List (String Global)) (old new : Option (List ℕ)) (failed : Type 0)
    (status : Status) → WritesAllowed held rose words old new failed status → RunsExactly held words old new status
runs_exactly held rose words old new failed status writes spec text choices form client texts pair done o run =
    let found = writes_answer held rose words old new failed status (Run choices) spec text form client writes texts pair done in
    let tells = found.1 in
    subst (λ x. WritesOutcome form client x old new status) (runs_once form client choices most_units tells.0 o tells.1 run)
    (told_written form client old new status found.0 tells.0 tells.2 found.2)
