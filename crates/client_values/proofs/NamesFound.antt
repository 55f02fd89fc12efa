-- Names that are looked for from the front of a list.
use Rattle.std.proofs.Common.{◌≡◌, ◌≢◌, ℕ, suc, zero, ◌+◌, Bool, true, false, List, [], ◌∷◌, ap, drop, refl, sym, ◌∙◌, arith}
use Rattle.std.specs.List.{position_from}
use Rattle.std.specs.Prelude.{Option, Some, None, slice_get, option_map}
use Rattle.client_model.specs.Lookups.{class_named, is_same}
use Rattle.std.proofs.lemmas.Bool.{false_from_ne_true}
use Rattle.std.proofs.lemmas.Slice.Eq.{bytes_eq-Decides}
use Rattle.easl_model.specs.Form.{Form}
use Rattle.easl_model.specs.declared.form.ClassForm.{ClassForm}

pub same_is : (left right : List ℕ) → left ≡ right → is_same left right ≡ true
same_is left right = (bytes_eq-Decides left right).1

pub other_is : (left right : List ℕ) → left ≢ right → is_same left right ≡ false
other_is left right other = false_from_ne_true (is_same left right) (λ same. other ((bytes_eq-Decides left right).0 same))

-- the rest of a list from a place on
pub rest_is : {A : Type 0} (xs : List A) (k : ℕ) (x : A) → slice_get xs k ≡ Some x → drop k xs ≡ x ∷ drop (suc k) xs
rest_is [] k x is = absurd cc
rest_is (y ∷ ys) zero x is =
    let same : y ≡ x = cc in ap (λ z. z ∷ ys) same
rest_is (y ∷ ys) (suc k) x is = rest_is ys k x is

pub found_here : {A : Type 0} (test : A → Bool) (xs : List A) (k : ℕ) (x : A) → slice_get xs k ≡ Some x → test x ≡ true → position_from test k (drop k xs) ≡ Some k
found_here test xs k x is passes = rw (rest_is xs k x is, passes) refl

pub passed_over : {A : Type 0} (test : A → Bool) (xs : List A) (k : ℕ) (x : A) → slice_get xs k ≡ Some x → test x ≡ false
    → position_from test k (drop k xs) ≡ position_from test (k + 1) (drop (k + 1) xs)
passed_over test xs k x is fails =
    let next : k + 1 ≡ suc k = omega arith in
    rw (rest_is xs k x is, fails) (ap (λ n. position_from test (k + 1) (drop n xs)) (sym next))

-- by the names of classes
some_class : (form : Form) (k : ℕ) (other : List ℕ) → option_map (λ c. c.name) (slice_get form.classes k) ≡ Some other → (c : ClassForm) × (slice_get form.classes k ≡ Some c) × (c.name ≡ other)
some_class form k other named = there (slice_get form.classes k) refl named
  where
    there : (found : Option ClassForm) → slice_get form.classes k ≡ found → option_map (λ c. c.name) found ≡ Some other → (c : ClassForm) × (slice_get form.classes k ≡ Some c) × (c.name ≡ other)
    there None is none = absurd cc
    there (Some c) is some = (c, is, cc)

abbrev NamedSo : List ℕ → ClassForm → Bool
NamedSo name c = is_same c.name name

pub class_here : (form : Form) (k : ℕ) (name other : List ℕ) → option_map (λ c. c.name) (slice_get form.classes k) ≡ Some other → other ≡ name
    → position_from (NamedSo name) k (drop k form.classes) ≡ class_named form name → Some k ≡ class_named form name
class_here form k name other there same left =
    let found = some_class form k other there in
    sym (found_here (NamedSo name) form.classes k found.0 found.1 (same_is found.0.name name (found.2 ∙ same))) ∙ left

pub class_passed : (form : Form) (k : ℕ) (name other : List ℕ) → option_map (λ c. c.name) (slice_get form.classes k) ≡ Some other → other ≢ name
    → position_from (NamedSo name) k (drop k form.classes) ≡ class_named form name
    → position_from (NamedSo name) (k + 1) (drop (k + 1) form.classes) ≡ class_named form name
class_passed form k name other there differs left =
    let found = some_class form k other there in
    sym (passed_over (NamedSo name) form.classes k found.0 found.1 (other_is found.0.name name (λ same. differs (sym found.2 ∙ same)))) ∙ left
