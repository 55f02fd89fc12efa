-- Walks over lists.
use Rattle.std.proofs.Common.{◌≡◌, ℕ, suc, zero, ◌+◌, ◌<◌, Bool, true, false, List, [], ◌∷◌, ◌++◌, ap, cond, drop, take, map, get_or, length, refl, sym, ◌∙◌, arith}
use Rattle.std.specs.List.{position_from, range_with_len}
use Rattle.std.specs.Prelude.{Option, Some, None, count_by, slice_get}
use Rattle.std.proofs.lemmas.List.{drop_more, map-append, take_more}
use Rattle.std.proofs.lemmas.List.Recursion.{is_count_by}
use Rattle.easl_model.specs.{Way, faults_of_arguments, faults_of_taken, fields_in, first_with, from_this, owner_of, way_by, way_of}
use Rattle.easl_model.specs.declared.tree.Arg.{Arg}
use Rattle.easl_model.specs.declared.tree.Member.{Member}
use Rattle.easl_model.specs.declared.tree.Member.TheVariants.{Field, Constructor, Method}
use Rattle.easl_model.specs.declared.tree.Param.{Param}
use Rattle.easl_model.specs.declared.tree.Path.{Path}
use Rattle.easl_model.specs.declared.tree.Spec.{Spec}
use Rattle.easl_model.specs.declared.tree.Word.{Word}
use Rattle.easl_model.specs.Faults.{comes_before}
use Rattle.easl_model.specs.declared.fault.Fault.{Fault}
use Rattle.easl_model.proofs.Finding.{both}
use Rattle.easl_model.specs.declared.scope.Context.{Context}
use Rattle.easl_bodies.specs.Shape.{is_field}

pub rest_is : {A : Type 0} (xs : List A) (k : ℕ) (x : A) → k < length xs → x ≡ get_or xs k x → drop k xs ≡ x ∷ drop (k + 1) xs
rest_is xs k x within is = drop_more xs k x within ∙ ap (λ y. y ∷ drop (k + 1) xs) (sym is)

-- one more item is mapped
pub map_more : {A B : Type 0} (f : A → B) (xs : List A) (k : ℕ) (x : A) (ys more : List B) (y : B) → k < length xs → x ≡ get_or xs k x → y ≡ f x
    → more ≡ ys ++ y ∷ []
    → ys ≡ map f (take k xs) → more ≡ map f (take (k + 1) xs)
map_more f xs k x ys more y within at is grown all =
    grown ∙ ap (λ zs. zs ++ y ∷ []) all
    ∙ ap (λ z. map f (take k xs) ++ z ∷ []) is
    ∙ sym (map-append f (take k xs) (x ∷ []))
    ∙ ap (map f) (ap (λ z. take k xs ++ z ∷ []) at ∙ sym (take_more xs k x within))

-- a place that is looked for from the front of a list
pub found_here : {A : Type 0} (test : A → Bool) (xs : List A) (k : ℕ) (x : A) (o : Option ℕ) → k < length xs → x ≡ get_or xs k x
    → test (get_or xs k x) ≡ true → position_from test k (drop k xs) ≡ o → Some k ≡ o
found_here test xs k x o within is passes left = let pass : test x ≡ true = ap test is ∙ passes in sym (rw (rest_is xs k x within is, pass) refl) ∙ left

pub passed_over : {A : Type 0} (test : A → Bool) (xs : List A) (k : ℕ) (x : A) (o : Option ℕ) → k < length xs → x ≡ get_or xs k x
    → test (get_or xs k x) ≡ false → position_from test k (drop k xs) ≡ o → position_from test (k + 1) (drop (k + 1) xs) ≡ o
passed_over test xs k x o within is fails left = let fail : test x ≡ false = ap test is ∙ fails in sym (rw (rest_is xs k x within is, fail) refl) ∙ left

-- one more argument
pub argument_more : (spec : Spec) (c : Context) (params : List Param) (xs : List Arg) (k : ℕ) (x : Arg) (o : Option Param) (found next start : Option Fault)
    → k < length xs → x ≡ get_or xs k x → o ≡ slice_get params k → next ≡ first_with comes_before found (faults_of_taken spec c o x)
    → first_with comes_before found (faults_of_arguments spec c params k (drop k xs)) ≡ start
    → first_with comes_before next (faults_of_arguments spec c params (k + 1) (drop (k + 1) xs)) ≡ start
argument_more spec c params xs k x o found next start within is param stepped left =
    let rest = drop (k + 1) xs in
    let number : k + 1 ≡ suc k = omega arith in
    let taken : next ≡ first_with comes_before found (faults_of_taken spec c (slice_get params k) x) = stepped ∙ ap (λ p. first_with comes_before found (faults_of_taken spec c p x)) param in
    let now = ap (λ ys. first_with comes_before found (faults_of_arguments spec c params k ys)) (rest_is xs k x within is) in
    ap (λ f. first_with comes_before f (faults_of_arguments spec c params (k + 1) rest)) taken
    ∙ ap (λ n. first_with comes_before (first_with comes_before found (faults_of_taken spec c (slice_get params k) x)) (faults_of_arguments spec c params n rest)) number
    ∙ sym (both comes_before found (faults_of_taken spec c (slice_get params k) x) (faults_of_arguments spec c params (suc k) rest))
    ∙ sym now ∙ left

-- so many members are fields
pub field_count : (members : List Member) → count_by is_field members ≡ length (fields_in members)
field_count members = sym (is_count_by (λ ms. length (fields_in ms)) is_field refl step members)
  where
    step : (m : Member) (ms : List Member) → length (fields_in (m ∷ ms)) ≡ cond (is_field m) (1 + length (fields_in ms)) (length (fields_in ms))
    step (Field f) ms = omega arith
    step (Constructor code) ms = omega arith
    step (Method code) ms = omega arith

-- a list of positions grows at its end
pub one_more : (a n p : ℕ) → p ≡ a + n → range_with_len a n ++ p ∷ [] ≡ range_with_len a (n + 1)
one_more a zero p is = let e : p ≡ a = omega (arith, is) in ap (λ q. q ∷ []) e
one_more a (suc n) p is =
    let rest = one_more (a + 1) n p (omega (arith, is)) in
    let e : suc n + 1 ≡ suc (n + 1) = omega arith in
    ap (λ ps. a ∷ ps) rest ∙ ap (range_with_len a) (sym e)

-- a path of fewer than two names behind `this` has no owner but `this`
short : (fields : List Word) → length fields < 2 → from_this (owner_of (let w : Way = record { slot = 0; names = fields } in w)) ≡ None
short [] few = refl
short (w ∷ []) few = refl
short (w ∷ v ∷ fields) few = absurd (omega (arith, few))

pub short_way : (c : Context) (path : Path) (fields : List Word) → path.head ≡ None → fields ≡ path.fields → length fields < 2
    → None ≡ from_this (owner_of (way_of c path))
short_way c path fields none are few =
    sym (ap (λ (h : Option Word). from_this (owner_of (way_by c h path.fields))) none ∙ short path.fields (omega (arith, few, ap length are)))
