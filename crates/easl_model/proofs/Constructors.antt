-- The constructors of the checked form.
use Rattle.std.proofs.Common.{inl, inr, ◌≡◌, ℕ, zero, suc, ◌+◌, List, [], ◌∷◌, ◌++◌, length, map, refl, ap, sym, subst, ◌∙◌, arith, append_assoc, length-append}
use Rattle.std.specs.List.{position_from}
use Rattle.std.specs.Option.{option_map, option_map_or, unwrap_or}
use Rattle.std.specs.Prelude.{Bool, true, false, Option, Some, None, ◌⊎◌, slice_get}
use Rattle.std.proofs.lemmas.List.{length-map}
use Rattle.std.proofs.lemmas.Option.{slice_get-map}
use Rattle.easl_model.specs.{Body, bodies_from, bodies_in, bodies_of, class_named, class_of, classes_from, constructor_body, constructor_in, constructor_of}
use Rattle.easl_model.specs.{constructor_or_implicit, form_of, is_same, method_body, method_of, methods_in, params_of, taken_by}
use Rattle.easl_model.specs.declared.form.ClassForm.{ClassForm}
use Rattle.easl_model.specs.declared.form.Method.{Method}
use Rattle.easl_model.specs.declared.tree.Class.{Class}
use Rattle.easl_model.specs.declared.tree.Code.{Code}
use Rattle.easl_model.specs.declared.tree.Param.{Param}
use Rattle.easl_model.specs.declared.tree.Spec.{Spec}

-- the item behind these
pub item_behind : {A : Type 0} (before : List A) (x : A) (after : List A) → slice_get (before ++ x ∷ after) (length before) ≡ Some x
item_behind [] x after = refl
item_behind (y ∷ before) x after = item_behind before x after

abbrev number_at : Spec → ℕ → List Class → ℕ → ℕ
number_at spec methods cs class = unwrap_or (option_map (λ (x : ClassForm). x.constructor) (slice_get (classes_from spec methods cs) class)) 0

stands_at : (spec : Spec) (before : List Body) (n methods : ℕ) (cs : List Class) (class : ℕ) (c : Class) → methods ≡ length before
    → slice_get cs class ≡ Some c → slice_get (before ++ bodies_from n cs) (number_at spec methods cs class) ≡ Some (constructor_body (n + class) c)
stands_at spec before n methods [] class c is there = absurd cc
stands_at spec before n methods (d ∷ cs) zero c is there =
    let same : d ≡ c = cc in
    let at = item_behind before (constructor_body n d) (map (method_body n) (methods_in d.members) ++ bodies_from (suc n) cs) in
    let number : n + 0 ≡ n = omega arith in
    rw (is, number) (at ∙ ap (λ x. Some (constructor_body n x)) same)
stands_at spec before n methods (d ∷ cs) (suc class) c is there =
    let more : methods + length (bodies_in 0 d) ≡ length (before ++ bodies_in n d) =
    omega (arith, is, length-append before (bodies_in n d), length-map (methods_in d.members) (method_body n), length-map (methods_in d.members) (method_body 0)) in
    let rest = stands_at spec (before ++ bodies_in n d) (suc n) (methods + length (bodies_in 0 d)) cs class c more there in
    let number : n + suc class ≡ suc n + class = omega arith in
    rw number (subst (λ bs. slice_get bs (number_at spec (methods + length (bodies_in 0 d)) cs class) ≡ Some (constructor_body (suc n + class) c)) (append_assoc before (bodies_in n d) (bodies_from (suc n) cs)) rest)

-- the body of a class's constructor
pub constructor_stands : (spec : Spec) (class : ℕ) (c : Class) → slice_get spec.classes class ≡ Some c
    → slice_get (bodies_of spec) (constructor_of (form_of spec) class) ≡ Some (constructor_body class c)
constructor_stands spec class c there =
    let number : 0 + class ≡ class = omega arith in
    stands_at spec [] 0 0 spec.classes class c refl there ∙ ap (λ n. Some (constructor_body n c)) number

pub constructor_found : (spec : Spec) (class : ℕ) (c : Class) → slice_get spec.classes class ≡ Some c
    → slice_get (form_of spec).methods (constructor_of (form_of spec) class) ≡ Some (method_of spec (constructor_body class c))
constructor_found spec class c there =
    slice_get-map (method_of spec) (bodies_of spec) (constructor_of (form_of spec) class) ∙ ap (option_map (method_of spec)) (constructor_stands spec class c there)

pub params_are : (spec : Spec) (c : Class)
    → (constructor_or_implicit c (constructor_in c.members)).params ≡ option_map_or (λ (code : Code). code.params) (constructor_in c.members) []
params_are spec c = by (constructor_in c.members)
  where
    by : (o : Option Code) → (constructor_or_implicit c o).params ≡ option_map_or (λ (code : Code). code.params) o []
    by None = refl
    by (Some code) = refl

-- what it takes
pub taken_is : (spec : Spec) (class : ℕ) (c : Class) → slice_get spec.classes class ≡ Some c
    → taken_by (form_of spec) class ≡ map (λ (p : Param). class_of spec p.sort) (params_of spec class)
taken_is spec class c there =
    let found = constructor_found spec class c there in
    ap (λ (o : Option Method). option_map_or (λ (m : Method). m.params) o []) found
    ∙ ap (map (λ (p : Param). class_of spec p.sort)) (params_are spec c ∙ ap (λ (o : Option Class). option_map_or (λ (code : Code). code.params) (constructor_in (option_map_or (λ (x : Class). x.members) o [])) []) (sym there))

-- a class that is named is there
class_at_name : (t : Class → Bool) (i : ℕ) (cs : List Class) (n : ℕ) → position_from t i cs ≡ Some n
    → (k : ℕ) × (c : Class) × (n ≡ i + k) × (slice_get cs k ≡ Some c)
class_at_name t i [] n e = absurd cc
class_at_name t i (c ∷ cs) n e = by (t c) refl (λ rest. class_at_name t (i + 1) cs n rest)
  where
    by : (b : Bool) → t c ≡ b → (position_from t (i + 1) cs ≡ Some n → (k : ℕ) × (d : Class) × (n ≡ i + 1 + k) × (slice_get cs k ≡ Some d))
        → (k : ℕ) × (d : Class) × (n ≡ i + k) × (slice_get (c ∷ cs) k ≡ Some d)
    by true is later = let here : Some i ≡ Some n = rw is at e in let same : i ≡ n = cc in (0, c, omega arith, refl)
    by false is later = let rest : position_from t (i + 1) cs ≡ Some n = rw is at e in let found = later rest in (suc found.0, found.1, omega (arith, found.2), found.3)

pub class_there : (spec : Spec) (name : List ℕ) (class : ℕ) → class_named spec name ≡ Some class → (c : Class) × (slice_get spec.classes class ≡ Some c)
class_there spec name class e =
    let found = class_at_name (λ c. is_same c.name.name name) 0 spec.classes class e in
    let at : found.0 ≡ class = omega (arith, found.2) in
    (found.1, subst (λ n. slice_get spec.classes n ≡ Some found.1) at found.3)

-- there are as many classes as in the tree
forms_many : (spec : Spec) (methods : ℕ) (cs : List Class) → length (classes_from spec methods cs) ≡ length cs
forms_many spec methods [] = refl
forms_many spec methods (c ∷ cs) = let rest = forms_many spec (methods + length (bodies_in 0 c)) cs in omega (arith, rest)

pub classes_many : (spec : Spec) → length (form_of spec).classes ≡ length spec.classes
classes_many spec = forms_many spec 0 spec.classes

-- where a body of the tree comes from
pub record IsFrom (cs : List Class) (first : ℕ) (b : Body) : Type 0 where
  pub place : ℕ
  pub class : Class
  pub at : slice_get cs place ≡ Some class
  pub number : b.class ≡ first + place
  pub constructor : b.constructor ≡ true → b ≡ constructor_body b.class class

pub at_of_both : {X : Type 0} (xs ys : List X) (n : ℕ) (y : X) → slice_get (xs ++ ys) n ≡ Some y → (slice_get xs n ≡ Some y) ⊎ ((k : ℕ) × (slice_get ys k ≡ Some y))
at_of_both [] ys n y at = inr (n, at)
at_of_both (x ∷ xs) ys zero y at = inl at
at_of_both (x ∷ xs) ys (suc n) y at = at_of_both xs ys n y at

pub map_at : {X Y : Type 0} (f : X → Y) (xs : List X) (n : ℕ) (y : Y) → slice_get (map f xs) n ≡ Some y → (x : X) × (slice_get xs n ≡ Some x) × (f x ≡ y)
map_at f [] n y at = absurd cc
map_at f (x ∷ xs) zero y at = (x, refl, (let e : f x ≡ y = cc in e))
map_at f (x ∷ xs) (suc n) y at = map_at f xs n y at

body_in : (first : ℕ) (c : Class) (cs : List Class) (n : ℕ) (b : Body) → slice_get (bodies_in first c) n ≡ Some b → IsFrom (c ∷ cs) first b
body_in first c cs zero b at =
    let e : constructor_body first c ≡ b = cc in
    subst (IsFrom (c ∷ cs) first) e (record { place = 0; class = c; at = refl; number = omega arith; constructor = λ is. refl })
body_in first c cs (suc n) b at =
    let code = map_at (method_body first) (methods_in c.members) n b at in
    subst (IsFrom (c ∷ cs) first) code.2 (record { place = 0; class = c; at = refl; number = omega arith; constructor = λ is. absurd cc })

pub body_from : (first : ℕ) (cs : List Class) (n : ℕ) (b : Body) → slice_get (bodies_from first cs) n ≡ Some b → IsFrom cs first b
body_from first [] n b at = absurd cc
body_from first (c ∷ cs) n b at =
    elim (at_of_both (bodies_in first c) (bodies_from (suc first) cs) n b at) [
      | inl here ↦ body_in first c cs n b here
      | inr later ↦
          let f = body_from (suc first) cs later.0 b later.1 in
          record { place = suc f.place; class = f.class; at = f.at; number = omega (arith, f.number); constructor = f.constructor }
    ]
