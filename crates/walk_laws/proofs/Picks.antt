-- A slot choice that gives the names of a fact, each to the slot at its first place.
use Rattle.std.proofs.Common.{◌≡◌, ℕ, zero, suc, ◌<◌, ◌≤◌, Bool, true, false, ◌&&◌, List, [], ◌∷◌, length, refl, sym, ap, subst, ◌∙◌, arith, eqb-true, eq-eqb}
use Rattle.std.specs.Prelude.{◌==◌, Option, Some, None, if◌then◌else◌, slice_get}
use Rattle.std.specs.Cmp.{first_so, second_so}
use Rattle.std.specs.List.{AllZip}
use Rattle.std.specs.Option.{unwrap_or}
use Rattle.client_facts.specs.Choices.{Choice}

abbrev pub pairs : List ℕ → List ℕ → List (ℕ × ℕ)
pairs [] ys = []
pairs (x ∷ xs) [] = []
pairs (x ∷ xs) (y ∷ ys) = (x, y) ∷ pairs xs ys

abbrev pub is_pair : ℕ × ℕ → ℕ → ℕ → Bool
is_pair x class a = (x.0 == class) && (x.1 == a)

abbrev pub place_of : List (ℕ × ℕ) → ℕ → ℕ → ℕ
place_of [] class a = 0
place_of (x ∷ xs) class a = if is_pair x class a then 0 else suc (place_of xs class a)

abbrev pub pick_at : List (ℕ × ℕ) → (ℕ → Bool) → ℕ → ℕ → Option (ℕ × ℕ) → Option ℕ
pick_at xs may class number None = None
pick_at xs may class number (Some x) = if (x.0 == class) && ((place_of xs class x.1 == number) && may x.1) then Some x.1 else None

abbrev pub pick : List (ℕ × ℕ) → (ℕ → Bool) → Choice
pick xs may class number = pick_at xs may class number (slice_get xs number)

both_true : (a b : Bool) → a ≡ true → b ≡ true → (a && b) ≡ true
both_true a b x y = λ i. x i && y i

inner : {A : Type 0} {x y : A} → Some x ≡ Some y → x ≡ y
inner {x = x} is = ap (λ o. unwrap_or o x) is

is_none : {A : Type 0} {x : A} → None ≡ Some x → ⊥
is_none is = absurd cc

pair_is : (x : ℕ × ℕ) (class a : ℕ) → is_pair x class a ≡ true → x ≡ (class, a)
pair_is x class a is =
    let one : x.0 ≡ class = eqb-true x.0 class (first_so (x.0 == class) (x.1 == a) is) in
    let other : x.1 ≡ a = eqb-true x.1 a (second_so (x.0 == class) (x.1 == a) is) in
    λ i. (one i, other i)

is_pair_same : (x : ℕ × ℕ) (class a : ℕ) → x ≡ (class, a) → is_pair x class a ≡ true
is_pair_same x class a is = both_true (x.0 == class) (x.1 == a) (eq-eqb x.0 class (ap (λ y. y.0) is)) (eq-eqb x.1 a (ap (λ y. y.1) is))

-- a pair stands at its first place
pub place_at : (xs : List (ℕ × ℕ)) (class a number : ℕ) → slice_get xs number ≡ Some (class, a) → slice_get xs (place_of xs class a) ≡ Some (class, a)
place_at [] class a number at = absurd (is_none at)
place_at (x ∷ xs) class a number at = of_test (is_pair x class a) refl number at (λ later l. place_at xs class a later l)
  where
    apart : false ≡ true → ⊥
    apart e = absurd cc

    of_test : (t : Bool) → is_pair x class a ≡ t → (number : ℕ) → slice_get (x ∷ xs) number ≡ Some (class, a) →
        ((later : ℕ) → slice_get xs later ≡ Some (class, a) → slice_get xs (place_of xs class a) ≡ Some (class, a)) →
        slice_get (x ∷ xs) (if t then 0 else suc (place_of xs class a)) ≡ Some (class, a)
    of_test true is number at behind = ap Some (pair_is x class a is)
    of_test false is zero at behind = absurd (apart (sym is ∙ is_pair_same x class a (inner at)))
    of_test false is (suc number) at behind = behind number at

pub within : (xs : List (ℕ × ℕ)) (number : ℕ) (x : ℕ × ℕ) → slice_get xs number ≡ Some x → number < length xs
within [] number x at = absurd (is_none at)
within (y ∷ xs) zero x at = omega arith
within (y ∷ xs) (suc number) x at = let less : number < length xs = within xs number x at in omega arith

pub length_pairs : (xs ys : List ℕ) → length (pairs xs ys) ≤ length xs
length_pairs [] ys = omega arith
length_pairs (x ∷ xs) [] = omega arith
length_pairs (x ∷ xs) (y ∷ ys) = let less : length (pairs xs ys) ≤ length xs = length_pairs xs ys in omega arith

-- what is said of all pairs
pub zip_at : (P : ℕ → ℕ → Type 0) (xs ys : List ℕ) → AllZip P xs ys → (number class a : ℕ) → slice_get (pairs xs ys) number ≡ Some (class, a) → P class a
zip_at P [] ys all number class a at = absurd (is_none at)
zip_at P (x ∷ xs) [] all number class a at = absurd all
zip_at P (x ∷ xs) (y ∷ ys) all zero class a at = subst (λ p. P p.0 p.1) (inner at) all.0
zip_at P (x ∷ xs) (y ∷ ys) all (suc number) class a at = zip_at P xs ys all.1 number class a at

zip_among : (P : ℕ → ℕ → Type 0) (whole : List (ℕ × ℕ)) (xs ys : List ℕ) →
    ((number : ℕ) (x : ℕ × ℕ) → slice_get (pairs xs ys) number ≡ Some x → (place : ℕ) × (slice_get whole place ≡ Some x)) → AllZip P xs ys →
    AllZip (λ class a. (place : ℕ) × (slice_get whole place ≡ Some (class, a))) xs ys
zip_among P whole [] [] f all = tt
zip_among P whole [] (y ∷ ys) f all = absurd all
zip_among P whole (x ∷ xs) [] f all = absurd all
zip_among P whole (x ∷ xs) (y ∷ ys) f all = (f 0 (x, y) refl, zip_among P whole xs ys (λ number z at. f (suc number) z at) all.1)

-- each pair stands somewhere
pub zip_places : (P : ℕ → ℕ → Type 0) (xs ys : List ℕ) → AllZip P xs ys →
    AllZip (λ class a. (place : ℕ) × (slice_get (pairs xs ys) place ≡ Some (class, a))) xs ys
zip_places P xs ys all = zip_among P (pairs xs ys) xs ys (λ number x at. (number, at)) all

pub pick_gives : (xs : List (ℕ × ℕ)) (may : ℕ → Bool) (class a number : ℕ) → slice_get xs number ≡ Some (class, a) → may a ≡ true →
    pick xs may class (place_of xs class a) ≡ Some a
pick_gives xs may class a number at so =
    ap (pick_at xs may class (place_of xs class a)) (place_at xs class a number at)
    ∙ ap (λ t. if t then Some a else None)
    (both_true (class == class) ((place_of xs class a == place_of xs class a) && may a) (eq-eqb class class refl)
    (both_true (place_of xs class a == place_of xs class a) (may a) (eq-eqb (place_of xs class a) (place_of xs class a) refl) so))

pub record IsPicked (xs : List (ℕ × ℕ)) (may : ℕ → Bool) (class number a : ℕ) : Type 0 where
  pub at : slice_get xs number ≡ Some (class, a)
  pub place : place_of xs class a ≡ number
  pub so : may a ≡ true

pub pick_is : (xs : List (ℕ × ℕ)) (may : ℕ → Bool) (class number a : ℕ) → pick xs may class number ≡ Some a → IsPicked xs may class number a
pick_is xs may class number a is = of_pair (slice_get xs number) refl is
  where
    of_test : (x : ℕ × ℕ) → slice_get xs number ≡ Some x → (t : Bool) → ((x.0 == class) && ((place_of xs class x.1 == number) && may x.1)) ≡ t →
        (if t then Some x.1 else None) ≡ Some a → IsPicked xs may class number a
    of_test x at true test is =
        let same : x.1 ≡ a = inner is in
        let class_is : x.0 ≡ class = eqb-true x.0 class (first_so (x.0 == class) ((place_of xs class x.1 == number) && may x.1) test) in
        let rest : ((place_of xs class x.1 == number) && may x.1) ≡ true = second_so (x.0 == class) ((place_of xs class x.1 == number) && may x.1) test in
        let place_is : place_of xs class x.1 ≡ number = eqb-true (place_of xs class x.1) number (first_so (place_of xs class x.1 == number) (may x.1) rest) in
        let so : may x.1 ≡ true = second_so (place_of xs class x.1 == number) (may x.1) rest in
        record {
          at = at ∙ ap Some (λ i. (class_is i, same i));
          place = subst (λ b. place_of xs class b ≡ number) same place_is;
          so = subst (λ b. may b ≡ true) same so;
        }
    of_test x at false test is = absurd (is_none is)

    of_pair : (o : Option (ℕ × ℕ)) → slice_get xs number ≡ o → pick_at xs may class number o ≡ Some a → IsPicked xs may class number a
    of_pair None at is = absurd (is_none is)
    of_pair (Some x) at is = of_test x at ((x.0 == class) && ((place_of xs class x.1 == number) && may x.1)) refl is
