-- What the code tells of texts that it does not take, of a client that it reads, and of a specification that it derives.
use Rattle.std.specs.Prelude.{◌≡◌, ℕ, Bool, true, false, List, [], ◌∷◌, ◌++◌, Some, codes, if◌then◌else◌}
use Rattle.canvas_cli.specs.Refusals.{IsClientRefusal, IsClientTree, IsRefusal}
use Rattle.canvas_cli.specs.Texts.{refusal_text}
use Rattle.canvas_cli.specs.declared.answer.Role.{Role}
use Rattle.canvas_cli.specs.declared.answer.Role.TheVariants as role
use Rattle.canvas_cli.specs.declared.answer.Answer.{Answer}
use Rattle.canvas_cli.specs.declared.answer.Answer.TheVariants as answer
use Rattle.canvas_cli.specs.declared.refusal.Refusal.TheVariants.{NotUtf8, BadToken, Syntax, Limit, Broken}
use Rattle.canvas_cli.specs.declared.refusal.NotTaken.{NotTaken}
use Rattle.canvas_cli.specs.declared.refusal.NotTaken.TheVariants.{Refused, Memory}
use Rattle.canvas_cli.specs.declared.refusal.Rule.TheVariants as language
use Rattle.canvas_cli.specs.Verdicts.{HasManyCases, IsAnswer, IsClosed, IsOpen}
use Rattle.canvas_cli.specs.declared.command.Command.{Command}
use Rattle.access_paths.specs.declared.term.Var.{Var}
use Rattle.client_model.specs.Program as told
use Rattle.client_model.specs.declared.tree.Client.{Client as Written}
use Rattle.client_model.specs.Checked.{IsFitting, seen}
use Rattle.client_model.specs.CheckedForm as checked
use Rattle.client_model.specs.CheckedForm.{ClientForm}
use Rattle.client_model.specs.Faults as client
use Rattle.client_model.specs.Rules as client_rules
use Rattle.client_model.specs.Trees.{Client, client_of}
use Rattle.client_types.specs.Answers.{IsCheckedAs}
use Rattle.client_values.specs.ToldFaults.{rule_told}
use Rattle.cv_lex.specs.declared.fault.TextFault.{TextFault}
use Rattle.cv_lex.specs.declared.fault.TextFault.TheVariants as text_fault
use Rattle.easl_model.specs.Faults.{fault}
use Rattle.easl_model.specs.Form.{Form}
use Rattle.easl_model.specs.Rules.{first_fault}
use Rattle.easl_model.specs.declared.tree.Spec.{Spec}
use Rattle.method_abstraction.specs.Texts.{names_text, var}

-- this is wrong with the text, or memory was wanted
abbrev pub Refuses : List ℕ → NotTaken → Type 0
Refuses text (Refused refusal) = IsRefusal text refusal
Refuses text Memory = Unit {0}

abbrev pub RefusesClient : Form → List ℕ → NotTaken → Type 0
RefusesClient form text (Refused refusal) = IsClientRefusal form text refusal
RefusesClient form text Memory = Unit {0}

-- what is wrong with a text, as its reader answers
abbrev pub unread : TextFault → NotTaken
unread (text_fault.NotUtf8 place) = Refused (NotUtf8 place)
unread (text_fault.BadToken place) = Refused (BadToken place)
unread (text_fault.Syntax place) = Refused (Syntax place)
unread (text_fault.Limit which place) = Refused (Limit which place)
unread text_fault.Memory = Memory

-- this rule is the first that the tree breaks, or memory was wanted
abbrev pub Breaks : Spec → NotTaken → Type 0
Breaks tree (Refused (Broken (language.Specification rule) place)) = first_fault tree ≡ Some (fault rule place)
Breaks tree (Refused refusal) = ⊥
Breaks tree Memory = Unit {0}

abbrev pub BreaksClient : Form → Written → NotTaken → Type 0
BreaksClient form tree (Refused (Broken (language.Client rule) place)) =
    client_rules.first_fault form (client_of tree) ≡ Some (client.fault (rule_told rule) place)
BreaksClient form tree (Refused refusal) = ⊥
BreaksClient form tree Memory = Unit {0}

-- a client that breaks no rule of this specification, and its checked form
abbrev pub IsTaken : Form → Client → told.ClientForm → Type 0
IsTaken form client c = IsCheckedAs form client c × IsFitting form c

-- the text is a client that is well-formed for this specification, and this is its checked form
pub record IsRead (form : Form) (text : List ℕ) (c : told.ClientForm) : Type 0 where
  pub tree : Written
  pub is : IsClientTree form text tree
  pub form_is : seen c ≡ checked.form_of form (client_of tree)
  pub fits : IsFitting form c

-- the answer says so of the text of this role
abbrev pub AnswersFault : Role → NotTaken → Answer → Type 0
AnswersFault role.Specification (Refused refusal) (answer.Refused role.Specification line) = line.items ≡ refusal_text role.Specification refusal
AnswersFault role.Client (Refused refusal) (answer.Refused role.Client line) = line.items ≡ refusal_text role.Client refusal
AnswersFault any none answer.Memory = Unit {0}
AnswersFault any none other = ⊥

-- what is answered to a command for a checked client, unless memory was wanted
abbrev pub IsJudged : Command → Form → ClientForm → Answer → Type 0
IsJudged command form client answer.Memory = Unit {0}
IsJudged command form client other = IsAnswer command form client other

-- what is answered where a checked specification is derived
abbrev pub IsDerivation : Form → Answer → Type 0
IsDerivation form (answer.Derived text) = IsClosed form text.items
IsDerivation form (answer.Open line) = IsOpen form line.items
IsDerivation form (answer.ManyCases line) = HasManyCases form line.items
IsDerivation form answer.Memory = Unit {0}
IsDerivation form other = ⊥

-- the variable of this number, if it is so
abbrev pub var_if : Bool → ℕ → List Var
var_if so n = if so then var n ∷ [] else []

-- the set of those of the three positions at which it is so
abbrev pub set_text : Bool → Bool → Bool → List ℕ
set_text first second third = codes "{" ++ (names_text (var_if first 0 ++ (var_if second 1 ++ (var_if third 2 ++ []))) ++ codes "}")

-- the same set as a word
abbrev pub set_name : Bool → Bool → Bool → List ℕ
set_name false false false = codes "{}"
set_name true false false = codes "{x1}"
set_name false true false = codes "{x2}"
set_name true true false = codes "{x1, x2}"
set_name false false true = codes "{x3}"
set_name true false true = codes "{x1, x3}"
set_name false true true = codes "{x2, x3}"
set_name true true true = codes "{x1, x2, x3}"
