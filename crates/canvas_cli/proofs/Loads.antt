-- What is answered after the loads, by the shelf as it was before the first.
use Rattle.std.proofs.Common.{◌≡◌, ℕ, ◌≤◌, List, Option, subst, arith}
use Rattle.std.specs.Prelude.{String}
use Rattle.std.specs.declared.alloc.Global.{Global}
use Rattle.cv_base.specs.Causes.{Rose}
use Rattle.canvas_cli.specs.Answers.{ClientAnswers, IsAllowed, IsLoaded, MayAnswer, TextsDecide}
use Rattle.canvas_cli.specs.Commands.{IsAsked, Request, One, Pair}
use Rattle.canvas_cli.specs.Verdicts.{Decides, DecidesOne, IsAnswer}
use Rattle.canvas_cli.specs.declared.answer.Role.{Role}
use Rattle.canvas_cli.specs.declared.answer.Role.TheVariants.{Specification, Client}
use Rattle.canvas_cli.specs.declared.answer.Answer.{Answer}
use Rattle.canvas_cli.specs.declared.answer.Answer.TheVariants.{Usage, ReadFault, TooLong, Memory}
use Rattle.canvas_cli.specs.declared.command.Command.{Command}
use Rattle.canvas_cli.specs.declared.command.Command.TheVariants.{Certify, Run}
use Rattle.canvas_cli.specs.declared.command.Single.{Single}
use Rattle.client_model.specs.CheckedForm.{ClientForm}
use Rattle.easl_model.specs.Form.{Form}

-- a count that rose from a later value rose from an earlier one
rose_before : (before between now : ℕ) → before ≤ between → Rose between now → Rose before now
rose_before before between now later rose = omega (arith, later, rose)

-- no answer to a pair or to the words is one of these
no_fault : (command : Command) (form : Form) (c : ClientForm) (role : Role) → IsAnswer command form c (ReadFault role) → ⊥
no_fault Certify form c role answer = answer
no_fault (Run choices) form c role (o, run, told) = told

no_length : (command : Command) (form : Form) (c : ClientForm) (role : Role) → IsAnswer command form c (TooLong role) → ⊥
no_length Certify form c role answer = answer
no_length (Run choices) form c role (o, run, told) = told

no_usage : (command : Command) (form : Form) (c : ClientForm) → IsAnswer command form c Usage → ⊥
no_usage Certify form c answer = answer
no_usage (Run choices) form c (o, run, told) = told

-- the same, by the answer
by_answer : (held : List ℕ → Option (List ℕ)) (before now : List ℕ → ℕ) (between : ℕ) (command : Command) (spec client text : List ℕ) (a : Answer)
    → IsLoaded Specification (held spec) text → before client ≤ between → ClientAnswers command text (held client) (Rose between (now client)) a
    → MayAnswer held (λ name. Rose (before name) (now name)) (Pair command spec client) a
by_answer held before now between command spec client text (ReadFault Specification) loaded later answers = absurd answers
by_answer held before now between command spec client text (ReadFault Client) loaded later answers =
    ((text, loaded), rose_before (before client) between (now client) later answers)
by_answer held before now between command spec client text (TooLong Specification) loaded later answers = absurd answers
by_answer held before now between command spec client text (TooLong Client) loaded later answers = ((text, loaded), answers)
by_answer held before now between command spec client text Memory loaded later answers = tt
by_answer held before now between command spec client text a loaded later answers = (text, loaded, answers)

pub answered : (held mid : List ℕ → Option (List ℕ)) (before between now : List ℕ → ℕ) (command : Command) (spec client text : List ℕ) (a : Answer)
    → IsLoaded Specification (held spec) text → mid client ≡ held client → before client ≤ between client
    → ClientAnswers command text (mid client) (Rose (between client) (now client)) a
    → MayAnswer held (λ name. Rose (before name) (now name)) (Pair command spec client) a
answered held mid before between now command spec client text a loaded same later answers =
    let P : Option (List ℕ) → Type 0 = λ h. ClientAnswers command text h (Rose (between client) (now client)) a in
    by_answer held before now (between client) command spec client text a loaded later (subst P same answers)

-- what the text of a specification alone decides, once it is loaded
pub one_answered : (held : List ℕ → Option (List ℕ)) (rose : List ℕ → Type 0) (single : Single) (spec text : List ℕ) (a : Answer)
    → IsLoaded Specification (held spec) text → DecidesOne single text a → MayAnswer held rose (One single spec) a
one_answered held rose single spec text (ReadFault role) loaded (tree, is, layout) = absurd layout
one_answered held rose single spec text (TooLong role) loaded (tree, is, layout) = absurd layout
one_answered held rose single spec text Memory loaded decides = tt
one_answered held rose single spec text a loaded decides = (text, loaded, decides)

-- what the two texts decide, once the client is loaded
pub decided : (command : Command) (spec text : List ℕ) (held : Option (List ℕ)) (rose : Type 0) (a : Answer) → IsLoaded Client held text
    → Decides command spec text a → ClientAnswers command spec held rose a
decided command spec text held rose (ReadFault role) loaded (form, is, (c, client_is, answer)) = absurd (no_fault command form c role answer)
decided command spec text held rose (TooLong role) loaded (form, is, (c, client_is, answer)) = absurd (no_length command form c role answer)
decided command spec text held rose Memory loaded decides = tt
decided command spec text held rose a loaded decides = (text, loaded, decides)

-- the texts never decide for the usage
texts_use : (held : List ℕ → Option (List ℕ)) (request : Request) → TextsDecide held request Usage → ⊥
texts_use held (One single spec) (text, loaded, (tree, is, layout)) = layout
texts_use held (Pair command spec client) (text, loaded, (more, loaded_too, (form, is, (c, client_is, answer)))) = no_usage command form c answer

-- what may be answered to the request that the words ask is allowed
pub allow : (held : List ℕ → Option (List ℕ)) (rose : List ℕ → Type 0) (words : List (String Global)) (request : Request) (a : Answer) → IsAsked words request
    → MayAnswer held rose request a → IsAllowed held rose words a
allow held rose words request Usage are may = absurd (texts_use held request may)
allow held rose words request a are may = (request, are, may)
