-- The terms that questions ask are terms of their variables.
use Rattle.std.proofs.Common.{◌≡◌, ℕ, zero, suc, ◌%◌, ◌/◌, Bool, true, false, List, [], ◌∷◌, ◌++◌, Contains, Option, Some, None, arith, refl, ap, sym, subst, ◌∙◌, ⊎_elim, if◌then◌else◌}
use Rattle.std.specs.Prelude.{◌==◌, slice_get}
use Rattle.std.specs.List.{AllZip}
use Rattle.std.proofs.lemmas.List.Elements.{Contains-append_cases}
use Rattle.easl_model.specs.{IsChecked}
use Rattle.easl_model.specs.Form.{Form}
use Rattle.easl_model.specs.declared.form.Method.{Method}
use Rattle.access_paths.specs.{Ask, IsTermOf, Leaf, before_call, variables_of}
use Rattle.access_paths.specs.Trees.{Tree}
use Rattle.access_paths.specs.declared.term.Family.{Family}
use Rattle.access_paths.specs.declared.term.Term.{Term}
use Rattle.access_paths.proofs.Members.{head_member, tail_member, which_member}
use Rattle.case_model.specs.{AreTermsOf, AreTyped, HaveClasses, question_variables, terms_asked, terms_of_clauses, terms_of_tree}
use Rattle.case_model.proofs.Clauses.{clauses_have_classes}
use Rattle.question_model.specs.{AsksTerms}

-- the terms that a tree asks have classes
pub tree_typed : (form : Form) (most : Option ℕ) (variables : List (Option ℕ)) (tree : Tree) → AsksTerms form most variables tree
    → AreTyped form variables (terms_of_tree tree)
tree_typed form most variables (Leaf b) asks t has = absurd (omega (arith, has.1))
tree_typed form most variables (Ask u v x y) asks t has =
    ⊎_elim
    (λ (e : u ≡ t). subst (λ w. (class : ℕ) × IsTermOf form variables w class) e (asks.0.class, asks.0.is))
    (λ (more : Contains (v ∷ terms_of_tree x ++ terms_of_tree y) t).
    ⊎_elim
    (λ (e : v ≡ t). subst (λ w. (class : ℕ) × IsTermOf form variables w class) e (asks.1.class, asks.1.is))
    (λ (rest : Contains (terms_of_tree x ++ terms_of_tree y) t).
    ⊎_elim
    (λ (h : Contains (terms_of_tree x) t). tree_typed form most variables x asks.3 t h)
    (λ (h : Contains (terms_of_tree y) t). tree_typed form most variables y asks.4 t h)
    (Contains-append_cases (terms_of_tree x) (terms_of_tree y) t rest))
    (which_member v (terms_of_tree x ++ terms_of_tree y) t more))
    (which_member u (v ∷ terms_of_tree x ++ terms_of_tree y) t has)

-- a variable that has an object before the call has one of the class that the family tells
pub known_before : (m : Method) (family : Family) (results v start : ℕ) → slice_get (variables_of m (before_call family results)) v ≡ Some (Some start)
    → slice_get (question_variables m (Some family)) v ≡ Some (Some start)
known_before m family results v start = by v
  where
    kept : (b : Bool) (class : Option ℕ) → Some (if b then None else class) ≡ Some (Some start) → Some class ≡ Some (Some start)
    kept true class h = absurd (cc)
    kept false class h = h

    by : (v : ℕ) → slice_get (variables_of m (before_call family results)) v ≡ Some (Some start)
        → slice_get (question_variables m (Some family)) v ≡ Some (Some start)
    by zero h = kept (results % 2 == 1) (slice_get family.classes 0) h
    by (suc zero) h = kept (results / 2 % 2 == 1) (slice_get family.classes 1) h
    by (suc (suc zero)) h = kept (results / 2 / 2 % 2 == 1) (slice_get family.classes 2) h
    by (suc (suc (suc v))) h = h

-- the terms that a question asks before the call are terms of its variables
pub typed_before : (form : Form) (m : Method) (family : Family) (results : ℕ) (asked : List Term)
    → AreTyped form (variables_of m (before_call family results)) asked
    → AreTyped form (question_variables m (Some family)) asked
typed_before form m family results asked typed t has =
    let of = typed t has in
    (of.0, record { start = of.1.start; variable = known_before m family results t.var.0 of.1.start of.1.variable; leads = of.1.leads })

-- what holds of each pair holds too where more is known of the first ones
zip_more : {X Y : Type 0} (P Q : X → Y → Type 0) (xs : List X) (ys : List Y) → ((x : X) (y : Y) → Contains xs x → P x y → Q x y)
    → AllZip P xs ys → AllZip Q xs ys
zip_more P Q [] [] so all = tt
zip_more P Q [] (y ∷ ys) so all = absurd all
zip_more P Q (x ∷ xs) [] so all = absurd all
zip_more P Q (x ∷ xs) (y ∷ ys) so all = (so x y (head_member x xs) all.0, zip_more P Q xs ys (λ z w has. so z w (tail_member x xs z has)) all.1)

-- a list whose asked terms are terms before the call has the classes that they have before the call
pub classes_before : (form : Form) (m : Method) (family : Family) (results : ℕ) (asked ts : List Term) (classes : List ℕ) → AreTermsOf asked ts
    → AreTyped form (variables_of m (before_call family results)) asked → HaveClasses form (question_variables m (Some family)) ts classes
    → HaveClasses form (variables_of m (before_call family results)) ts classes
classes_before form m family results asked ts classes are typed have =
    zip_more (IsTermOf form (question_variables m (Some family))) (IsTermOf form (variables_of m (before_call family results))) ts classes
    (λ t class has is. known t class has is) have
  where
    known : (t : Term) (class : ℕ) → Contains ts t → IsTermOf form (question_variables m (Some family)) t class
        → IsTermOf form (variables_of m (before_call family results)) t class
    known t class has is =
        let from = (are.holds t).0 has in
        let u = from.0 in
        let of = (typed u from.1).1 in
        let same : t.var.0 ≡ u.var.0 = ap (λ v. v.0) from.2.0 in
        let there : slice_get (variables_of m (before_call family results)) t.var.0 ≡ Some (Some of.start) =
        ap (slice_get (variables_of m (before_call family results))) same ∙ of.variable in
        let one : Some (Some of.start) ≡ Some (Some is.start) = sym (known_before m family results t.var.0 of.start there) ∙ is.variable in
        record { start = is.start; variable = there ∙ one; leads = is.leads }

-- what an update question asks are terms before the call
pub update_typed : (form : Form) (n : ℕ) (m : Method) (family : Family) (results : ℕ) (most : Option ℕ) (tree : Tree) → IsChecked form
    → slice_get form.methods n ≡ Some m
    → AsksTerms form most (variables_of m (before_call family results)) tree
    → AreTyped form (variables_of m (before_call family results)) (terms_asked m tree true)
update_typed form n m family results most tree checked at asks t has =
    ⊎_elim
    (λ (h : Contains (terms_of_tree tree) t). tree_typed form most (variables_of m (before_call family results)) tree asks t h)
    (λ (h : Contains (terms_of_clauses m) t). clauses_have_classes form n m (before_call family results) checked at refl t h)
    (Contains-append_cases (terms_of_tree tree) (terms_of_clauses m) t has)
