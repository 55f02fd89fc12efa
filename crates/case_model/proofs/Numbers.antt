-- Numbers by where objects are first met.
use Rattle.std.proofs.Common.{◌≡◌, ℕ, zero, suc, ◌+◌, max, Bool, true, false, cond, nat_eq, List, [], ◌∷◌, ◌++◌, length, Some, refl, ap, sym, subst, ◌∙◌, arith, append_assoc, append-nil, length-append, eq-eqb, eqb-true}
use Rattle.std.specs.Prelude.{slice_get}
use Rattle.std.specs.List.{list_any, position_or_len}
use Rattle.case_model.specs.{AreNumbered, meet, numbers}
use Rattle.case_model.proofs.Places.{place-most, place-none, place-found, place-within, place-append, place-push, any-append, any-push}

-- all that are met
abbrev pub all_met : List ℕ → List ℕ → List ℕ
all_met met [] = met
all_met met (o ∷ os) = all_met (meet o met) os

-- an object that is met is listed from then on, at one place
record IsMet (o : ℕ) (met : List ℕ) : Type 0 where
  listed : list_any (nat_eq o) (meet o met) ≡ true
  same : position_or_len (nat_eq o) (meet o met) ≡ position_or_len (nat_eq o) met
  longer : (more : List ℕ) × (meet o met ≡ met ++ more)
  most : max (length met) (position_or_len (nat_eq o) met + 1) ≡ length (meet o met)

is_met : (o : ℕ) (met : List ℕ) → IsMet o met
is_met o met = by (list_any (nat_eq o) met) refl
  where
    itself : nat_eq o o ≡ true
    itself = eq-eqb o o refl

    at : (b : Bool) → list_any (nat_eq o) met ≡ b → meet o met ≡ cond b met (met ++ o ∷ [])
    at b e = ap (λ c. cond c met (met ++ o ∷ [])) e

    by : (b : Bool) → list_any (nat_eq o) met ≡ b → IsMet o met
    by true e = record {
      listed = rw (at true e) e;
      same = rw (at true e) refl;
      longer = ([], at true e ∙ sym (append-nil met));
      most = rw (at true e) (omega (arith, place-within (nat_eq o) met e));
    }
    by false e = record {
      listed = rw (at false e) (any-push (nat_eq o) met o itself);
      same = rw (at false e) (place-push (nat_eq o) met o e itself ∙ sym (place-none (nat_eq o) met e));
      longer = (o ∷ [], at false e);
      most = rw (at false e) (omega (arith, place-none (nat_eq o) met e, length-append met (o ∷ [])));
    }

pub all_met-longer : (met os : List ℕ) → (more : List ℕ) × (all_met met os ≡ met ++ more)
all_met-longer met [] = ([], sym (append-nil met))
all_met-longer met (o ∷ os) =
    let a = all_met-longer (meet o met) os in
    let b = (is_met o met).longer in
    (b.0 ++ a.0, a.1 ∙ ap (λ l. l ++ a.0) b.1 ∙ append_assoc met b.0 a.0)

-- each object's number is its place among all that are met
pub number_at : (met os : List ℕ) (i o : ℕ) → slice_get os i ≡ Some o
    → (slice_get (numbers met os) i ≡ Some (position_or_len (nat_eq o) (all_met met os))) × (list_any (nat_eq o) (all_met met os) ≡ true)
number_at met [] i o at = absurd (cc)
number_at met (x ∷ os) zero o at =
    let same : x ≡ o = cc in
    let m = is_met x met in
    let l = all_met-longer (meet x met) os in
    let there : position_or_len (nat_eq x) (all_met (meet x met) os) ≡ position_or_len (nat_eq x) met =
    ap (position_or_len (nat_eq x)) l.1 ∙ place-append (nat_eq x) (meet x met) l.0 (place-within (nat_eq x) (meet x met) m.listed) ∙ m.same in
    let has : list_any (nat_eq x) (all_met (meet x met) os) ≡ true = ap (list_any (nat_eq x)) l.1 ∙ any-append (nat_eq x) (meet x met) l.0 m.listed in
    subst (λ z. (slice_get (numbers met (x ∷ os)) zero ≡ Some (position_or_len (nat_eq z) (all_met met (x ∷ os)))) × (list_any (nat_eq z) (all_met met (x ∷ os)) ≡ true)) same (ap Some (sym there), has)
number_at met (x ∷ os) (suc i) o at = number_at (meet x met) os i o at

-- one number, one object
pub one_object : (met : List ℕ) (o p : ℕ) → list_any (nat_eq o) met ≡ true → list_any (nat_eq p) met ≡ true
    → position_or_len (nat_eq o) met ≡ position_or_len (nat_eq p) met → o ≡ p
one_object met o p has has' same =
    let a = place-found (nat_eq o) met has in
    let b = place-found (nat_eq p) met has' in
    let e : Some a.0 ≡ Some b.0 = sym a.1 ∙ ap (slice_get met) same ∙ b.1 in
    let f : a.0 ≡ b.0 = cc in
    eqb-true o a.0 a.2 ∙ f ∙ sym (eqb-true p b.0 b.2)

pub are_numbered : (met os : List ℕ) → AreNumbered (length met) (numbers met os)
are_numbered met [] = tt
are_numbered met (o ∷ os) = (place-most (nat_eq o) met, subst (λ n. AreNumbered n (numbers (meet o met) os)) (sym (is_met o met).most) (are_numbered (meet o met) os))

pub length-numbers : (met os : List ℕ) → length (numbers met os) ≡ length os
length-numbers met [] = refl
length-numbers met (o ∷ os) = ap suc (length-numbers (meet o met) os)
