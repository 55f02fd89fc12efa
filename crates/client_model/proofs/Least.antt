-- The fault that is named is the first.
use Rattle.std.proofs.Common.{◌≡◌, ◌⊎◌, ℕ, ◌<◌, Bool, true, false, ◌&&◌, ◌||◌, List, [], ◌∷◌, refl, sym, ap, ◌∙◌, inl, inr, subst, arith}
use Rattle.std.specs.Prelude.{Option, Some, None, if◌then◌else◌, ◌==◌, nat_lt, unwrap_or}
use Rattle.std.specs.List.{AllByRecursion}
use Rattle.std.specs.Option.{option_or}
use Rattle.std.proofs.lemmas.Bool.{and_parts, eq-eqb, eqb-true, lt-ltb, ltb-true, or_cases}
use Rattle.client_model.specs.Faults.{Fault, comes_before, first_of, is_one_place, number_of}
use Rattle.client_model.specs.FirstFault.{FirstIsLeast, IsOneOf, NoneIsWellFormed}
use Rattle.client_model.specs.HeaderFaults.{faults_of_headers}
use Rattle.client_model.specs.Rules.{faults_of_bodies, no_main}
use Rattle.easl_model.specs.Faults.{first_with, stands_before}

-- the order of faults, as numbers

abbrev Before : ℕ → ℕ → ℕ → ℕ → ℕ → ℕ → Type 0
Before l c n m d o = (l < m) ⊎ ((l ≡ m) × ((c < d) ⊎ ((c ≡ d) × (n < o))))

trans : (l c n m d o p e q : ℕ) → Before l c n m d o → Before m d o p e q → Before l c n p e q
trans l c n m d o p e q (inl h) (inl k) = inl (omega arith)
trans l c n m d o p e q (inl h) (inr k) = let same = k.0 in inl (omega arith)
trans l c n m d o p e q (inr h) (inl k) = let same = h.0 in inl (omega arith)
trans l c n m d o p e q (inr (is, inl h)) (inr (as_well, inl k)) = inr (is ∙ as_well, inl (omega arith))
trans l c n m d o p e q (inr (is, inl h)) (inr (as_well, inr k)) = let same = k.0 in inr (is ∙ as_well, inl (omega arith))
trans l c n m d o p e q (inr (is, inr h)) (inr (as_well, inl k)) = let same = h.0 in inr (is ∙ as_well, inl (omega arith))
trans l c n m d o p e q (inr (is, inr h)) (inr (as_well, inr k)) =
    let here = h.1 in
    let there = k.1 in
    inr (is ∙ as_well, inr (h.0 ∙ k.0, omega arith))

abbrev Comes : Fault → Fault → Type 0
Comes f g = Before f.place.line f.place.col (number_of f.rule) g.place.line g.place.col (number_of g.rule)

abbrev places : ℕ → ℕ → ℕ → ℕ → Type 0
places l c m d = (l < m) ⊎ ((l ≡ m) × (c < d))

stands : (l c m d : ℕ) → (nat_lt l m || ((l == m) && nat_lt c d)) ≡ true → places l c m d
stands l c m d h = by (or_cases (nat_lt l m) ((l == m) && nat_lt c d) h)
  where
    by : (nat_lt l m ≡ true) ⊎ (((l == m) && nat_lt c d) ≡ true) → places l c m d
    by (inl is) = inl (ltb-true l m is)
    by (inr is) = let parts = and_parts (l == m) (nat_lt c d) is in inr (eqb-true l m parts.0, ltb-true c d parts.1)

comes : (f g : Fault) → comes_before f g ≡ true → Comes f g
comes f g h = by (or_cases (stands_before f.place g.place) (is_one_place f.place g.place && nat_lt (number_of f.rule) (number_of g.rule)) h)
  where
    first : places f.place.line f.place.col g.place.line g.place.col → Comes f g
    first (inl is) = inl is
    first (inr is) = inr (is.0, inl is.1)

    by : (stands_before f.place g.place ≡ true) ⊎ ((is_one_place f.place g.place && nat_lt (number_of f.rule) (number_of g.rule)) ≡ true) → Comes f g
    by (inl is) = first (stands f.place.line f.place.col g.place.line g.place.col is)
    by (inr is) =
        let parts = and_parts (is_one_place f.place g.place) (nat_lt (number_of f.rule) (number_of g.rule)) is in
        let place = and_parts (f.place.line == g.place.line) (f.place.col == g.place.col) parts.0 in
        inr (eqb-true f.place.line g.place.line place.0, inr (eqb-true f.place.col g.place.col place.1, ltb-true (number_of f.rule) (number_of g.rule) parts.1))

or_left : (x y : Bool) → x ≡ true → (x || y) ≡ true
or_left true y h = refl
or_left false y h = absurd cc

or_right : (x y : Bool) → y ≡ true → (x || y) ≡ true
or_right true y h = refl
or_right false y h = h

both_true : (x y : Bool) → x ≡ true → y ≡ true → (x && y) ≡ true
both_true true y h k = k
both_true false y h k = h

back : (f g : Fault) → Comes f g → comes_before f g ≡ true
back f g (inl h) = or_left (stands_before f.place g.place) _ (or_left (nat_lt f.place.line g.place.line) _ (lt-ltb f.place.line g.place.line h))
back f g (inr (is, inl h)) =
    or_left (stands_before f.place g.place) _ (or_right (nat_lt f.place.line g.place.line) _ (both_true (f.place.line == g.place.line)
    (nat_lt f.place.col g.place.col) (eq-eqb f.place.line g.place.line is) (lt-ltb f.place.col g.place.col h)))
back f g (inr (is, inr h)) =
    or_right (stands_before f.place g.place) _
    (both_true (is_one_place f.place g.place) (nat_lt (number_of f.rule) (number_of g.rule)) (both_true (f.place.line == g.place.line)
    (f.place.col == g.place.col) (eq-eqb f.place.line g.place.line is) (eq-eqb f.place.col g.place.col h.0)) (lt-ltb (number_of f.rule)
    (number_of g.rule) h.1))

decide : (b : Bool) → (b ≡ true → ⊥) → b ≡ false
decide true h = absurd (h refl)
decide false h = refl

itself : (f : Fault) → comes_before f f ≡ false
itself f = decide (comes_before f f) (λ h. by (comes f f h))
  where
    by : Comes f f → ⊥
    by (inl h) = absurd (omega arith)
    by (inr (is, inl h)) = absurd (omega arith)
    by (inr (is, inr h)) = let less = h.1 in absurd (omega arith)

-- what does not come before one does not come before one that comes before that
not_before : (z y x : Fault) → comes_before z y ≡ false → comes_before x y ≡ true → comes_before z x ≡ false
not_before z y x h k = decide (comes_before z x) (λ is. true_false (sym (back z y (trans _ _ _ _ _ _ _ _ _ (comes z x is) (comes x y k))) ∙ h))
  where
    true_false : true ≡ false → ⊥
    true_false e = cc

abbrev Least : Fault → List Fault → Type 0
Least f faults = AllByRecursion (λ g. comes_before g f ≡ false) faults

-- this one was found, and that one is the first of it and more
abbrev Follows : Fault → Fault → Type 0
Follows y f = (y ≡ f) ⊎ (comes_before f y ≡ true)

not_later : (y f : Fault) → Follows y f → comes_before y f ≡ false
not_later y f (inl is) = subst (λ g. comes_before y g ≡ false) is (itself y)
not_later y f (inr h) = not_before y y f (itself y) h

-- of one that was found and more
abbrev Result : Fault → List Fault → Fault → Type 0
Result y faults f = Follows y f × IsOneOf f (y ∷ faults) × Least f faults

sooner : (y x f : Fault) → comes_before x y ≡ true → Follows x f → Follows y f
sooner y x f h (inl is) = inr (subst (λ g. comes_before g y ≡ true) is h)
sooner y x f h (inr k) = inr (back f y (trans _ _ _ _ _ _ _ _ _ (comes f x k) (comes x y h)))

not_sooner : (y x f : Fault) → comes_before x y ≡ false → Follows y f → comes_before x f ≡ false
not_sooner y x f h (inl is) = subst (λ g. comes_before x g ≡ false) is h
not_sooner y x f h (inr k) = not_before x y f h k

step : (y x f : Fault) (xs : List Fault) (b : Bool) → comes_before x y ≡ b → ((z : Fault) → first_with comes_before (Some z) xs ≡ Some f →
    Result z xs f) → first_with comes_before (if b then Some x else Some y) xs ≡ Some f → Result y (x ∷ xs) f
step y x f xs true h rest is =
    let r : Result x xs f = rest x is in
    (sooner y x f h r.0, inr r.1, (not_later x f r.0, r.2))
step y x f xs false h rest is =
    let r : Result y xs f = rest y is in
    (r.0, later r.1, (not_sooner y x f h r.0, r.2))
  where
    later : IsOneOf f (y ∷ xs) → IsOneOf f (y ∷ x ∷ xs)
    later (inl e) = inl e
    later (inr e) = inr (inr e)

found : (y : Fault) (faults : List Fault) (f : Fault) → first_with comes_before (Some y) faults ≡ Some f → Result y faults f
found y [] f is = let same : y ≡ f = ap (λ o. unwrap_or o y) is in (inl same, inl same, tt)
found y (x ∷ xs) f is = step y x f xs (comes_before x y) refl (λ z. found z xs f) is

pub first_is_least : FirstIsLeast
first_is_least [] f is = absurd cc
first_is_least (x ∷ xs) f is = let r : Result x xs f = found x xs f is in record { there = r.1; least = (not_later x f r.0, r.2) }

-- no fault

stays : (f : Fault) (faults : List Fault) → first_with comes_before (Some f) faults ≡ None → ⊥
stays f [] none = absurd cc
stays f (g ∷ faults) none = by (comes_before g f) none (λ h. stays h faults)
  where
    by : (b : Bool) → first_with comes_before (if b then Some g else Some f) faults ≡ None → ((h : Fault) →
        first_with comes_before (Some h) faults ≡ None → ⊥) → ⊥
    by true is more = more g is
    by false is more = more f is

none_found : (faults : List Fault) → first_of faults ≡ None → faults ≡ []
none_found [] none = refl
none_found (f ∷ faults) none = absurd (stays f faults none)

-- the first of two passes
none_of_passes : (first second : Option Fault) → option_or first second ≡ None → (first ≡ None) × (second ≡ None)
none_of_passes None second none = (refl, none)
none_of_passes (Some f) second none = absurd cc

pub none_is_well_formed : NoneIsWellFormed
none_is_well_formed form client none =
    let passes = none_of_passes (first_of (faults_of_headers form client)) (option_or (first_of (faults_of_bodies form client)) (first_of
    (no_main client))) none in
    let more = none_of_passes (first_of (faults_of_bodies form client)) (first_of (no_main client)) passes.1 in
    record {
      headers = none_found (faults_of_headers form client) passes.0;
      bodies = none_found (faults_of_bodies form client) more.0;
      main = none_found (no_main client) more.1;
    }
