-- The classes of terms that are asked, and of their prefixes.
use Rattle.std.proofs.Common.{◌≡◌, ℕ, ◌≤◌, Bool, true, false, if◌then◌else◌, List, [], ◌∷◌, ◌++◌, length, map, Contains, Option, Some, None, slice_index, unwrap_or, arith, refl, ap, sym, subst, ◌∙◌, inl, inr}
use Rattle.std.specs.Prelude.{◌⊎◌, slice_get}
use Rattle.std.specs.Option.{option_map, option_map_or}
use Rattle.std.proofs.lemmas.List.Elements.{Contains-append_cases}
use Rattle.std.proofs.lemmas.Option.{get_or_from_slice_get, slice_get_past}
use Rattle.easl_model.specs.{IsChecked, fields_of}
use Rattle.easl_model.specs.Form.{Form}
use Rattle.easl_model.specs.declared.form.Method.{Method}
use Rattle.easl_model.specs.declared.form.ClassForm.{ClassForm}
use Rattle.easl_heap.specs.{FieldsLead}
use Rattle.access_paths.specs.{IsTermOf, family_classes, no_family}
use Rattle.access_paths.specs.Trees.{Tree}
use Rattle.access_paths.specs.declared.term.Family.{Family}
use Rattle.access_paths.specs.declared.term.Term.{Term}
use Rattle.case_model.specs.{AreTermsOf, AreTyped, HaveClasses, IsPrefix, question_variables, terms_asked, terms_of_clauses, terms_of_tree}
use Rattle.case_model.proofs.Clauses.{clauses_have_classes}
use Rattle.alias_cases.specs.{class_along, class_of_term, start_class}
use Rattle.alias_cases.proofs.Lists.{IsIn, in-contains}

pub no_fields : (form : Form) (class field : ℕ) → length form.classes ≤ class → 0 ≡ slice_index (fields_of form class) field
no_fields form class field past = sym (ap (λ o. slice_index (unwrap_or (option_map (λ (c : ClassForm). c.field_classes) o) []) field) (slice_get_past form.classes class past))

leads_along : (form : Form) (start : ℕ) (fields : List ℕ) (end : ℕ) → FieldsLead form start fields end → class_along form start fields ≡ end
leads_along form start [] end leads = leads
leads_along form start (f ∷ fields) end leads =
    ap (λ c. class_along form c fields) (get_or_from_slice_get (fields_of form start) f leads.0 0 leads.1) ∙ leads_along form leads.0 fields end leads.2

leads_front : (form : Form) (start : ℕ) (front more : List ℕ) (end : ℕ) → FieldsLead form start (front ++ more) end → (mid : ℕ) × FieldsLead form start front mid
leads_front form start [] more end leads = (start, refl)
leads_front form start (f ∷ front) more end leads = let rest = leads_front form leads.0 front more end leads.2 in (rest.0, (leads.0, leads.1, rest.1))

-- a prefix of a term that has a class has one
prefix_typed : (form : Form) (variables : List (Option ℕ)) (t u : Term) → IsPrefix t u → ((class : ℕ) × IsTermOf form variables u class)
    → (class : ℕ) × IsTermOf form variables t class
prefix_typed form variables t u prefix typed =
    let is = typed.1 in
    let front = leads_front form is.start t.fields prefix.1.0 typed.0 (subst (λ fs. FieldsLead form is.start fs typed.0) prefix.1.1 is.leads) in
    (front.0, record { start = is.start; variable = ap (λ (v : _). slice_get variables v) (ap (λ v. v.0) prefix.0) ∙ is.variable; leads = front.1 })

term_class : (form : Form) (variables : List (Option ℕ)) (t : Term) → ((class : ℕ) × IsTermOf form variables t class)
    → IsTermOf form variables t (class_of_term form variables t)
term_class form variables t typed =
    let is = typed.1 in
    let start : start_class variables t.var.0 ≡ is.start = ap (λ o. option_map_or (λ (p : Option ℕ). unwrap_or p 0) o 0) is.variable in
    let same : class_of_term form variables t ≡ typed.0 = ap (λ c. class_along form c t.fields) start ∙ leads_along form is.start t.fields typed.0 is.leads in
    subst (IsTermOf form variables t) (sym same) is

zipped : (form : Form) (variables : List (Option ℕ)) (ts : List Term) → ((t : Term) → IsIn t ts → (class : ℕ) × IsTermOf form variables t class)
    → HaveClasses form variables ts (map (class_of_term form variables) ts)
zipped form variables [] typed = tt
zipped form variables (t ∷ ts) typed = (term_class form variables t (typed t (inl refl)), zipped form variables ts (λ u h. typed u (inr h)))

-- the classes of a term list whose asked terms have classes
pub have_classes : (form : Form) (variables : List (Option ℕ)) (asked ts : List Term) → AreTermsOf asked ts → AreTyped form variables asked
    → HaveClasses form variables ts (map (class_of_term form variables) ts)
have_classes form variables asked ts are typed =
    zipped form variables ts (λ t h.
    let from = (are.holds t).0 (in-contains ts t h) in
    prefix_typed form variables t from.0 from.2 (typed from.0 from.1))

asked_typed : (form : Form) (n : ℕ) (m : Method) (family : Option Family) (tree : Tree) (w : Bool) → IsChecked form → slice_get form.methods n ≡ Some m
    → AreTyped form (question_variables m family) (terms_of_tree tree) → AreTyped form (question_variables m family) (terms_asked m tree w)
asked_typed form n m family tree w checked at typed = λ t has. by family w typed t (Contains-append_cases (terms_of_tree tree) (if w then terms_of_clauses m else []) t has)
  where
    by : (f : Option Family) (b : Bool) → AreTyped form (question_variables m f) (terms_of_tree tree) → (t : Term)
        → Contains (terms_of_tree tree) t ⊎ Contains (if b then terms_of_clauses m else []) t → (class : ℕ) × IsTermOf form (question_variables m f) t class
    by f b typed t (inl h) = typed t h
    by f false typed t (inr h) = absurd (omega (arith, h.1))
    by None true typed t (inr h) = clauses_have_classes form n m no_family checked at refl t h
    by (Some x) true typed t (inr h) = clauses_have_classes form n m (family_classes x) checked at refl t h

-- the classes of a question's term list
pub question_classes : (form : Form) (n : ℕ) (m : Method) (family : Option Family) (tree : Tree) (w : Bool) (ts : List Term) → IsChecked form
    → slice_get form.methods n ≡ Some m
    → AreTyped form (question_variables m family) (terms_of_tree tree) → AreTermsOf (terms_asked m tree w) ts
    → HaveClasses form (question_variables m family) ts (map (class_of_term form (question_variables m family)) ts)
question_classes form n m family tree w ts checked at typed are =
    have_classes form (question_variables m family) (terms_asked m tree w) ts are (asked_typed form n m family tree w checked at typed)
