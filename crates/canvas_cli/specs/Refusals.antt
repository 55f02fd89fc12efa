-- What is first wrong with the texts of specifications and clients, or which trees they are.
use Rattle.std.specs.Prelude.{◌≡◌, ℕ, ◌≤◌, List, Ok, Err, Some, None, length}
use Rattle.canvas_cli.specs.Texts.{refusal_text}
use Rattle.canvas_cli.specs.declared.answer.Role.{Role}
use Rattle.canvas_cli.specs.declared.answer.Role.TheVariants.{Specification, Client}
use Rattle.canvas_cli.specs.declared.refusal.Refusal.{Refusal}
use Rattle.canvas_cli.specs.declared.refusal.Refusal.TheVariants.{NotUtf8, BadToken, Syntax, Limit, Broken}
use Rattle.canvas_cli.specs.declared.refusal.Rule.{Rule}
use Rattle.canvas_cli.specs.declared.refusal.Rule.TheVariants as language
use Rattle.client_model.specs.declared.tree.Client.{Client as Written}
use Rattle.client_parser.specs.Answers.{ClientAnswers}
use Rattle.client_model.specs.Faults as client
use Rattle.client_model.specs.Rules as client_rules
use Rattle.client_model.specs.Trees.{client_of}
use Rattle.client_values.specs.ToldFaults.{rule_told}
use Rattle.cv_lex.specs.declared.fault.TextFault.{TextFault}
use Rattle.cv_lex.specs.declared.fault.TextFault.TheVariants as text_fault
use Rattle.easl_model.specs.Faults.{fault}
use Rattle.easl_model.specs.Form.{Form}
use Rattle.easl_model.specs.Rules.{first_fault}
use Rattle.easl_model.specs.declared.fault.Fault.{Fault}
use Rattle.easl_model.specs.declared.place.Place.{Place}
use Rattle.easl_model.specs.declared.tree.Spec.{Spec}
use Rattle.easl_parser.specs.Answers.{SpecAnswers}

-- how many bytes a text may have
abbrev pub most_bytes : Role → ℕ
most_bytes Specification = 65536
most_bytes Client = 1048576

-- the text spells the tree, which keeps the limits and breaks no rule
pub record IsTree (text : List ℕ) (tree : Spec) : Type 0 where
  pub few : length text ≤ most_bytes Specification
  pub spells : SpecAnswers text (Ok tree)
  pub well_formed : first_fault tree ≡ None

-- the same of a client, which breaks no rule for this specification
pub record IsClientTree (form : Form) (text : List ℕ) (tree : Written) : Type 0 where
  pub few : length text ≤ most_bytes Client
  pub spells : ClientAnswers text (Ok tree)
  pub well_formed : client_rules.first_fault form (client_of tree) ≡ None

-- the text spells a tree that keeps the limits, and this is the first rule that it breaks, and where
abbrev pub IsBroken : List ℕ → Fault → Type 0
IsBroken text broken = (tree : Spec) × SpecAnswers text (Ok tree) × (first_fault tree ≡ Some broken)

abbrev pub IsClientBroken : Form → List ℕ → client.Fault → Type 0
IsClientBroken form text broken = (tree : Written) × ClientAnswers text (Ok tree) × (client_rules.first_fault form (client_of tree) ≡ Some broken)

-- the rule is one of the text's language, and is broken so
abbrev pub BreaksRule : List ℕ → Rule → Place → Type 0
BreaksRule text (language.Specification rule) place = IsBroken text (fault rule place)
BreaksRule text (language.Client rule) place = ⊥

abbrev pub BreaksClientRule : Form → List ℕ → Rule → Place → Type 0
BreaksClientRule form text (language.Specification rule) place = ⊥
BreaksClientRule form text (language.Client rule) place = IsClientBroken form text (client.fault (rule_told rule) place)

-- the first that is wrong with a text: its reader answers so, or it breaks a rule
abbrev pub IsWrong : (TextFault → Type 0) → (Rule → Place → Type 0) → Refusal → Type 0
IsWrong reads breaks (NotUtf8 place) = reads (text_fault.NotUtf8 place)
IsWrong reads breaks (BadToken place) = reads (text_fault.BadToken place)
IsWrong reads breaks (Syntax place) = reads (text_fault.Syntax place)
IsWrong reads breaks (Limit which place) = reads (text_fault.Limit which place)
IsWrong reads breaks (Broken rule place) = breaks rule place

-- the first that is wrong with the text of a specification within its limit: what is wrong with the text itself comes before the rules
abbrev pub IsRefusal : List ℕ → Refusal → Type 0
IsRefusal text refusal = IsWrong (λ e. SpecAnswers text (Err e)) (BreaksRule text) refusal

-- the same of a client for this specification
abbrev pub IsClientRefusal : Form → List ℕ → Refusal → Type 0
IsClientRefusal form text refusal = IsWrong (λ e. ClientAnswers text (Err e)) (BreaksClientRule form text) refusal

-- the line says what is wrong with the text
abbrev pub IsRefused : List ℕ → List ℕ → Type 0
IsRefused text line = (refusal : Refusal) × IsRefusal text refusal × (line ≡ refusal_text Specification refusal)

abbrev pub IsClientRefused : Form → List ℕ → List ℕ → Type 0
IsClientRefused form text line = (refusal : Refusal) × IsClientRefusal form text refusal × (line ≡ refusal_text Client refusal)
