-- A text has one tree or one thing that is first wrong with it, and not both.
use Rattle.std.proofs.Common.{◌≡◌, ◌≢◌, ◌⊎◌, inl, inr, ℕ, ◌≤◌, List, Ok, Err, Result, Option, Some, None, ap, length, refl, subst, sym, ◌∙◌}
use Rattle.canvas_cli.specs.Refusals.{BreaksClientRule, BreaksRule, IsClientRefusal, IsClientTree, IsRefusal, IsTree, IsWrong}
use Rattle.canvas_cli.specs.declared.refusal.Refusal.{Refusal}
use Rattle.canvas_cli.specs.declared.refusal.Refusal.TheVariants.{NotUtf8, BadToken, Syntax, Limit, Broken}
use Rattle.canvas_cli.specs.declared.refusal.Rule.{Rule}
use Rattle.canvas_cli.specs.declared.refusal.Rule.TheVariants as language
use Rattle.client_model.specs.declared.tree.Client.{Client as Written}
use Rattle.client_parser.proofs.Limited as client_parser
use Rattle.client_parser.specs.Answers.{ClientAnswers}
use Rattle.client_model.specs.Faults as client
use Rattle.client_model.specs.Rules as client_rules
use Rattle.client_model.specs.Trees.{client_of}
use Rattle.client_types.specs.Readable as clients
use Rattle.client_values.specs.ToldFaults.{rule_told}
use Rattle.client_values.specs.declared.fault.Rule.{Rule as ClientRule}
use Rattle.client_values.specs.declared.fault.Rule.TheVariants as rule
use Rattle.cv_lex.specs.declared.fault.TextFault.{TextFault}
use Rattle.cv_lex.specs.declared.fault.TextFault.TheVariants as text_fault
use Rattle.easl_model.specs.Checked.{IsReadable}
use Rattle.easl_model.specs.Faults.{fault}
use Rattle.easl_model.specs.Form.{Form}
use Rattle.easl_model.specs.Rules.{first_fault}
use Rattle.easl_model.specs.declared.fault.Fault.{Fault}
use Rattle.easl_model.specs.declared.place.Place.{Place}
use Rattle.easl_model.specs.declared.tree.Spec.{Spec}
use Rattle.easl_parser.proofs.Limited as easl_parser
use Rattle.easl_parser.specs.Answers.{SpecAnswers}

-- a tree that was read is one that a reader can give
pub readable : (text : List ℕ) (tree : Spec) → length text ≤ 65536 → SpecAnswers text (Ok tree) → IsReadable tree
readable text tree few answers = record {
  text = text;
  few_bytes = few;
  spells = record { tokens = answers.0.0; cut = answers.0.1; shallow = answers.0.2; spelled = answers.0.3 };
  limits = answers.1;
}

pub client_readable : (text : List ℕ) (tree : Written) → length text ≤ 1048576 → ClientAnswers text (Ok tree) → clients.IsReadable tree
client_readable text tree few answers = record {
  text = text;
  few_bytes = few;
  spells = record { tokens = answers.0.0; cut = answers.0.1; shallow = answers.0.2; spelled = answers.0.3 };
  limits = answers.1;
}

-- what is wrong with the text itself, as its reader says it
abbrev pub as_fault : Refusal → Option TextFault
as_fault (NotUtf8 place) = Some (text_fault.NotUtf8 place)
as_fault (BadToken place) = Some (text_fault.BadToken place)
as_fault (Syntax place) = Some (text_fault.Syntax place)
as_fault (Limit which place) = Some (text_fault.Limit which place)
as_fault (Broken rule place) = None

named_one : (r s : Refusal) (d e : TextFault) → as_fault r ≡ Some d → as_fault s ≡ Some e → d ≡ e → r ≡ s
named_one (NotUtf8 p) (NotUtf8 q) d e first second same = cc
named_one (BadToken p) (BadToken q) d e first second same = cc
named_one (Syntax p) (Syntax q) d e first second same = cc
named_one (Limit w p) (Limit v q) d e first second same = cc
named_one (Broken rule p) s d e first second same = absurd cc
named_one r (Broken rule p) d e first second same = absurd cc
named_one r s d e first second same = absurd cc

-- a language: what is answered for a text, the first fault of a tree, the refusal that names a fault, and the rules that are broken
module _ {T F : Type 0} (S : Result T TextFault → Type 0) (first : T → Option F) (named : F → Refusal) (B : Rule → Place → Type 0)
    (one : (r s : Result T TextFault) → r ≢ Err text_fault.Memory → s ≢ Err text_fault.Memory → S r → S s → r ≡ s)
    (broken : (rule : Rule) (place : Place) → B rule place → (t : T) × (f : F) × (Broken rule place ≡ named f) × S (Ok t) × (first t ≡ Some f)) where
  -- a text spells one tree
  pub tree_one : (x y : T) → S (Ok x) → S (Ok y) → x ≡ y
  tree_one x y a b =
      let p : ◌≡◌ {A = Result T TextFault} (Ok x) (Err text_fault.Memory) → ⊥ = λ e. absurd cc in
      let q : ◌≡◌ {A = Result T TextFault} (Ok y) (Err text_fault.Memory) → ⊥ = λ e. absurd cc in
      let same : ◌≡◌ {A = Result T TextFault} (Ok x) (Ok y) = one (Ok x) (Ok y) p q a b in
      cc

  -- and none where the text itself is wrong
  no_fault : (tree : T) (e : TextFault) → e ≢ text_fault.Memory → S (Ok tree) → S (Err e) → ⊥
  no_fault tree e other a b =
      let p : ◌≡◌ {A = Result T TextFault} (Ok tree) (Err text_fault.Memory) → ⊥ = λ h. absurd cc in
      let q : ◌≡◌ {A = Result T TextFault} (Err e) (Err text_fault.Memory) → ⊥ = λ h. other cc in
      let same : ◌≡◌ {A = Result T TextFault} (Ok tree) (Err e) = one (Ok tree) (Err e) p q a b in
      absurd cc

  one_fault : (d e : TextFault) → d ≢ text_fault.Memory → e ≢ text_fault.Memory → S (Err d) → S (Err e) → d ≡ e
  one_fault d e first_other second_other a b =
      let p : ◌≡◌ {A = Result T TextFault} (Err d) (Err text_fault.Memory) → ⊥ = λ h. first_other cc in
      let q : ◌≡◌ {A = Result T TextFault} (Err e) (Err text_fault.Memory) → ⊥ = λ h. second_other cc in
      let same : ◌≡◌ {A = Result T TextFault} (Err d) (Err e) = one (Err d) (Err e) p q a b in
      cc

  -- what is wrong is wrong with the text itself, or it is a rule that its tree breaks
  abbrev InText : Refusal → Type 0
  InText refusal = (e : TextFault) × (as_fault refusal ≡ Some e) × (e ≢ text_fault.Memory) × S (Err e)

  abbrev InTree : Refusal → Type 0
  InTree refusal = (tree : T) × (f : F) × (refusal ≡ named f) × S (Ok tree) × (first tree ≡ Some f)

  wrong : (refusal : Refusal) → IsWrong (λ e. S (Err e)) B refusal → InText refusal ⊎ InTree refusal
  wrong (NotUtf8 place) is = inl (text_fault.NotUtf8 place, refl, (λ e. absurd cc), is)
  wrong (BadToken place) is = inl (text_fault.BadToken place, refl, (λ e. absurd cc), is)
  wrong (Syntax place) is = inl (text_fault.Syntax place, refl, (λ e. absurd cc), is)
  wrong (Limit which place) is = inl (text_fault.Limit which place, refl, (λ e. absurd cc), is)
  wrong (Broken rule place) is = inr (broken rule place is)

  no_way : (tree : T) (refusal : Refusal) → S (Ok tree) → first tree ≡ None → InText refusal ⊎ InTree refusal → ⊥
  no_way tree refusal spells well (inl (e, is, other, answers)) = no_fault tree e other spells answers
  no_way tree refusal spells well (inr (found, f, is, reads, breaks)) =
      let same : tree ≡ found = tree_one tree found spells reads in
      let none : first found ≡ None = subst (λ t. first t ≡ None) same well in
      let e : None ≡ Some f = sym none ∙ breaks in
      absurd cc

  -- nothing is wrong with the text of a well-formed tree
  pub none_wrong : (tree : T) (refusal : Refusal) → S (Ok tree) → first tree ≡ None → IsWrong (λ e. S (Err e)) B refusal → ⊥
  none_wrong tree refusal spells well is = no_way tree refusal spells well (wrong refusal is)

  one_way : (r s : Refusal) → InText r ⊎ InTree r → InText s ⊎ InTree s → r ≡ s
  one_way r s (inl (d, is, other, answers)) (inl (e, tells, unlike, reads)) = named_one r s d e is tells (one_fault d e other unlike answers reads)
  one_way r s (inl (d, is, other, answers)) (inr (tree, f, breaks, spells, found)) = absurd (no_fault tree d other spells answers)
  one_way r s (inr (tree, f, breaks, spells, found)) (inl (e, is, unlike, reads)) = absurd (no_fault tree e unlike spells reads)
  one_way r s (inr (tree, f, breaks, spells, found)) (inr (other, g, is, reads, tells)) =
      let same : tree ≡ other = tree_one tree other spells reads in
      let here : first other ≡ Some f = subst (λ t. first t ≡ Some f) same found in
      let both : ◌≡◌ {A = Option F} (Some f) (Some g) = sym here ∙ tells in
      let equal : f ≡ g = cc in
      breaks ∙ ap named equal ∙ sym is

  -- one thing is first wrong with a text
  pub one_wrong : (r s : Refusal) → IsWrong (λ e. S (Err e)) B r → IsWrong (λ e. S (Err e)) B s → r ≡ s
  one_wrong r s a b = one_way r s (wrong r a) (wrong s b)

-- specifications
abbrev spec_named : Fault → Refusal
spec_named f = Broken (language.Specification f.rule) f.place

spec_broken : (text : List ℕ) (rule : Rule) (place : Place) → BreaksRule text rule place
    → (t : Spec) × (f : Fault) × (Broken rule place ≡ spec_named f) × SpecAnswers text (Ok t) × (first_fault t ≡ Some f)
spec_broken text (language.Specification rule) place (tree, spells, first) = (tree, fault rule place, refl, spells, first)
spec_broken text (language.Client rule) place is = absurd is

pub one_tree : (text : List ℕ) (x y : Spec) → SpecAnswers text (Ok x) → SpecAnswers text (Ok y) → x ≡ y
one_tree text x y a b = tree_one (SpecAnswers text) first_fault spec_named (BreaksRule text) (easl_parser.one_answer text) (spec_broken text) x y a b

pub not_wrong : (text : List ℕ) (tree : Spec) (refusal : Refusal) → IsTree text tree → IsRefusal text refusal → ⊥
not_wrong text tree refusal is wrong_is =
    none_wrong (SpecAnswers text) first_fault spec_named (BreaksRule text) (easl_parser.one_answer text) (spec_broken text) tree refusal is.spells
    is.well_formed wrong_is

pub one_refusal : (text : List ℕ) (r s : Refusal) → IsRefusal text r → IsRefusal text s → r ≡ s
one_refusal text r s a b = one_wrong (SpecAnswers text) first_fault spec_named (BreaksRule text) (easl_parser.one_answer text) (spec_broken text) r s a b

-- clients
abbrev rule_named : client.Rule → ClientRule
rule_named client.Duplicate = rule.Duplicate
rule_named client.Unknown = rule.Unknown
rule_named client.Mismatch = rule.Mismatch
rule_named client.Unset = rule.Unset
rule_named client.NoReturn = rule.NoReturn
rule_named client.NoMain = rule.NoMain
rule_named client.Unreachable = rule.Unreachable
rule_named client.OutsideLoop = rule.OutsideLoop

rule_back : (r : ClientRule) → r ≡ rule_named (rule_told r)
rule_back rule.Duplicate = refl
rule_back rule.Unknown = refl
rule_back rule.Mismatch = refl
rule_back rule.Unset = refl
rule_back rule.NoReturn = refl
rule_back rule.NoMain = refl
rule_back rule.Unreachable = refl
rule_back rule.OutsideLoop = refl

abbrev client_named : client.Fault → Refusal
client_named f = Broken (language.Client (rule_named f.rule)) f.place

client_broken : (form : Form) (text : List ℕ) (rule : Rule) (place : Place) → BreaksClientRule form text rule place
    → (t : Written) × (f : client.Fault) × (Broken rule place ≡ client_named f) × ClientAnswers text (Ok t) × (client_rules.first_fault form (client_of t) ≡ Some f)
client_broken form text (language.Specification rule) place is = absurd is
client_broken form text (language.Client rule) place (tree, spells, first) =
    (tree, client.fault (rule_told rule) place, ap (λ r. Broken (language.Client r) place) (rule_back rule), spells, first)

pub one_client_tree : (text : List ℕ) (x y : Written) → ClientAnswers text (Ok x) → ClientAnswers text (Ok y) → x ≡ y
one_client_tree text x y a b =
    let p : ◌≡◌ {A = Result Written TextFault} (Ok x) (Err text_fault.Memory) → ⊥ = λ e. absurd cc in
    let q : ◌≡◌ {A = Result Written TextFault} (Ok y) (Err text_fault.Memory) → ⊥ = λ e. absurd cc in
    let same : ◌≡◌ {A = Result Written TextFault} (Ok x) (Ok y) = client_parser.one_answer text (Ok x) (Ok y) p q a b in
    cc

pub client_not_wrong : (form : Form) (text : List ℕ) (tree : Written) (refusal : Refusal) → IsClientTree form text tree → IsClientRefusal form text refusal → ⊥
client_not_wrong form text tree refusal is wrong_is =
    none_wrong (ClientAnswers text) (λ t. client_rules.first_fault form (client_of t)) client_named (BreaksClientRule form text) (client_parser.one_answer text)
    (client_broken form text) tree refusal is.spells is.well_formed wrong_is

pub one_client_refusal : (form : Form) (text : List ℕ) (r s : Refusal) → IsClientRefusal form text r → IsClientRefusal form text s → r ≡ s
one_client_refusal form text r s a b =
    one_wrong (ClientAnswers text) (λ t. client_rules.first_fault form (client_of t)) client_named (BreaksClientRule form text) (client_parser.one_answer text)
    (client_broken form text) r s a b
