-- From what is read to what the texts decide.
use Rattle.std.proofs.Common.{◌≡◌, ℕ, ◌≤◌, List, None, length, refl, subst}
use Rattle.std.specs.Prelude.{Err, Ok, Vec}
use Rattle.std.specs.declared.alloc.Global.{Global}
use Rattle.canvas_cli.proofs.Trees.{client_readable}
use Rattle.canvas_cli.specs.Readings.{AnswersFault, Breaks, BreaksClient, IsJudged, IsDerivation, IsRead, IsTaken, Refuses, RefusesClient, unread}
use Rattle.canvas_cli.specs.Refusals.{IsTree}
use Rattle.canvas_cli.specs.Texts.{refusal_text}
use Rattle.canvas_cli.specs.Verdicts.{ClientVerdict, Decides, DecidesOne, HasManyCases, IsAnswer, IsClient, IsClosed, IsOpen, IsSpecification}
use Rattle.canvas_cli.specs.declared.answer.Role.{Role}
use Rattle.canvas_cli.specs.declared.answer.Role.TheVariants.{Specification, Client}
use Rattle.canvas_cli.specs.declared.answer.Answer.{Answer}
use Rattle.canvas_cli.specs.declared.answer.Answer.TheVariants.{Refused, Memory, Derived, Open, ManyCases}
use Rattle.canvas_cli.specs.declared.command.Command.{Command}
use Rattle.canvas_cli.specs.declared.command.Command.TheVariants.{Certify, Run}
use Rattle.canvas_cli.specs.declared.command.Single.{Single}
use Rattle.canvas_cli.specs.declared.command.Single.TheVariants.{Derive}
use Rattle.canvas_cli.specs.declared.refusal.NotTaken.{NotTaken}
use Rattle.canvas_cli.specs.declared.refusal.NotTaken.TheVariants as no
use Rattle.canvas_cli.specs.declared.refusal.Refusal.{Refusal}
use Rattle.canvas_cli.specs.declared.refusal.Refusal.TheVariants.{Broken}
use Rattle.canvas_cli.specs.declared.refusal.Rule.TheVariants as language
use Rattle.client_model.specs.Program as told
use Rattle.client_model.specs.declared.tree.Client.{Client as Written}
use Rattle.client_parser.specs.Answers.{ClientAnswers}
use Rattle.client_model.proofs.Least.{none_is_well_formed}
use Rattle.client_model.specs.Checked.{seen}
use Rattle.client_model.specs.CheckedForm as client
use Rattle.client_model.specs.CheckedForm.{ClientForm}
use Rattle.client_model.specs.Fits.{Fits}
use Rattle.client_model.specs.Trees.{client_of}
use Rattle.client_types.specs.Readable.{IsReadable}
use Rattle.cv_lex.specs.declared.fault.TextFault.{TextFault}
use Rattle.cv_lex.specs.declared.fault.TextFault.TheVariants as text_fault
use Rattle.easl_model.specs.CheckedForm.{form_of}
use Rattle.easl_model.specs.Form.{Form}
use Rattle.easl_model.specs.Rules.{first_fault}
use Rattle.easl_model.specs.declared.tree.Spec.{Spec}
use Rattle.easl_parser.specs.Answers.{SpecAnswers}

-- what a reader answers of a text is what is wrong with it
pub reads : (text : List ℕ) (e : TextFault) → SpecAnswers text (Err e) → Refuses text (unread e)
reads text (text_fault.NotUtf8 place) answers = answers
reads text (text_fault.BadToken place) answers = answers
reads text (text_fault.Syntax place) answers = answers
reads text (text_fault.Limit which place) answers = answers
reads text text_fault.Memory answers = tt

pub reads_client : (form : Form) (text : List ℕ) (e : TextFault) → ClientAnswers text (Err e) → RefusesClient form text (unread e)
reads_client form text (text_fault.NotUtf8 place) answers = answers
reads_client form text (text_fault.BadToken place) answers = answers
reads_client form text (text_fault.Syntax place) answers = answers
reads_client form text (text_fault.Limit which place) answers = answers
reads_client form text text_fault.Memory answers = tt

pub readable : (text : List ℕ) (tree : Written) → length text ≤ 1048576 → ClientAnswers text (Ok tree) → IsReadable tree
readable = client_readable

-- the rule that the tree of a text breaks is what is wrong with the text
pub breaks : (text : List ℕ) (tree : Spec) (f : NotTaken) → SpecAnswers text (Ok tree) → Breaks tree f → Refuses text f
breaks text tree (no.Refused (Broken (language.Specification rule) place)) spells first = (tree, spells, first)
breaks text tree (no.Refused refusal) spells first = absurd first
breaks text tree no.Memory spells first = tt

pub breaks_client : (form : Form) (text : List ℕ) (tree : Written) (f : NotTaken) → ClientAnswers text (Ok tree) → BreaksClient form tree f
    → RefusesClient form text f
breaks_client form text tree (no.Refused (Broken (language.Client rule) place)) spells first = (tree, spells, first)
breaks_client form text tree (no.Refused refusal) spells first = absurd first
breaks_client form text tree no.Memory spells first = tt

pub checked : (text : List ℕ) (tree : Spec) (form : Form) → length text ≤ 65536 → SpecAnswers text (Ok tree) → first_fault tree ≡ None → form ≡ form_of tree
    → IsSpecification text form
checked text tree form few spells well_formed form_is =
    record { tree = tree; is = record { few = few; spells = spells; well_formed = well_formed }; form_is = form_is }

pub is_tree : (text : List ℕ) (tree : Spec) → length text ≤ 65536 → SpecAnswers text (Ok tree) → first_fault tree ≡ None → IsTree text tree
is_tree text tree few spells well_formed = record { few = few; spells = spells; well_formed = well_formed }

pub is_read : (form : Form) (text : List ℕ) (tree : Written) (c : told.ClientForm) → length text ≤ 1048576 → ClientAnswers text (Ok tree)
    → IsTaken form (client_of tree) c → IsRead form text c
is_read form text tree c few spells (taken, fits) =
    record { tree = tree; is = record { few = few; spells = spells; well_formed = taken.well_formed }; form_is = taken.is; fits = fits }

-- the line is of the text's role
pub says : (role : Role) (refusal : Refusal) (line : Vec ℕ Global) → line.items ≡ refusal_text role refusal
    → AnswersFault role (no.Refused refusal) (Refused role line)
says Specification refusal line is = is
says Client refusal line is = is

pub says_memory : (role : Role) (f : NotTaken) → AnswersFault role f Memory
says_memory Specification (no.Refused refusal) = tt
says_memory Specification no.Memory = tt
says_memory Client (no.Refused refusal) = tt
says_memory Client no.Memory = tt

-- what is wrong with the specification decides
pub refused : (command : Command) (spec client : List ℕ) (f : NotTaken) (a : Answer) → Refuses spec f → AnswersFault Specification f a
    → Decides command spec client a
refused command spec client (no.Refused refusal) (Refused Specification line) is tells = (refusal, is, tells)
refused command spec client (no.Refused refusal) Memory is tells = tt
refused command spec client (no.Refused refusal) a is tells = absurd tells
refused command spec client no.Memory Memory is tells = tt
refused command spec client no.Memory a is tells = absurd tells

pub not_answered : (single : Single) (text : List ℕ) (f : NotTaken) (a : Answer) → Refuses text f → AnswersFault Specification f a → DecidesOne single text a
not_answered single text (no.Refused refusal) (Refused Specification line) is tells = (refusal, is, tells)
not_answered single text (no.Refused refusal) Memory is tells = tt
not_answered single text (no.Refused refusal) a is tells = absurd tells
not_answered single text no.Memory Memory is tells = tt
not_answered single text no.Memory a is tells = absurd tells

-- and so does what is wrong with the client, the specification being read
pub client_refused : (command : Command) (form : Form) (text : List ℕ) (f : NotTaken) (a : Answer) → RefusesClient form text f → AnswersFault Client f a
    → ClientVerdict command form text a
client_refused command form text (no.Refused refusal) (Refused Client line) is tells = (refusal, is, tells)
client_refused command form text (no.Refused refusal) Memory is tells = tt
client_refused command form text (no.Refused refusal) a is tells = absurd tells
client_refused command form text no.Memory Memory is tells = tt
client_refused command form text no.Memory a is tells = absurd tells

-- what a checked specification closes with, or what stops it, is what its text decides
pub derived : (text : List ℕ) (form : Form) (a : Answer) → IsSpecification text form → IsDerivation form a → DecidesOne Derive text a
derived text form (Derived v) is found = (is.tree, is.is, subst (λ f. IsClosed f v.items) is.form_is found)
derived text form (Open v) is found = (is.tree, is.is, subst (λ f. IsOpen f v.items) is.form_is found)
derived text form (ManyCases v) is found = (is.tree, is.is, subst (λ f. HasManyCases f v.items) is.form_is found)
derived text form Memory is found = tt
derived text form a is found = absurd found

-- what the client's text decides is the answer for both
pub specified : (command : Command) (spec text : List ℕ) (form : Form) (a : Answer) → IsSpecification spec form → ClientVerdict command form text a
    → Decides command spec text a
specified Certify spec text form (Refused Specification line) is (client, taken, answer) = absurd answer
specified (Run choices) spec text form (Refused Specification line) is (client, taken, (o, run, told)) = absurd told
specified command spec text form Memory is verdict = tt
specified command spec text form a is verdict = (form, is, verdict)

-- the answer for a checked client is what its text decides
verdict_of : (command : Command) (form : Form) (text : List ℕ) (c : ClientForm) (a : Answer) → IsClient form text c → IsJudged command form c a
    → ClientVerdict command form text a
verdict_of Certify form text c (Refused Client line) is answer = absurd answer
verdict_of (Run choices) form text c (Refused Client line) is (o, run, told) = absurd told
verdict_of command form text c Memory is answer = tt
verdict_of command form text c a is answer = (c, is, answer)

pub judged : (command : Command) (form : Form) (text : List ℕ) (c : told.ClientForm) (a : Answer) → IsRead form text c → IsJudged command form (seen c) a
    → ClientVerdict command form text a
judged command form text c a read answer =
    verdict_of command form text (seen c) a (record { tree = read.tree; is = read.is; form_is = read.form_is }) answer
