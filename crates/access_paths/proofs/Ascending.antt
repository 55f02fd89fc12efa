-- Literals in order: what the order says of members, and how one is added.
use Rattle.std.proofs.Common.{inl, inr, ◌↔◌, ◌≡◌, ℕ, zero, suc, ◌≤◌, true, false, List, [], ◌∷◌, ◌++◌, length, take, drop, Contains, subst, arith, refl, ap, ap₂, sym, ◌∙◌}
use Rattle.std.proofs.lemmas.Cmp.{tied_itself}
use Rattle.std.specs.List.{insert}
use Rattle.std.specs.Ordering.{is_eq, is_lt, ordering_reverse}
use Rattle.std.specs.declared.cmp.Ordering.{Ordering}
use Rattle.std.specs.declared.cmp.Ordering.TheVariants.{Less, Equal, Greater}
use Rattle.access_paths.proofs.Members.{head_member, no_member, put_from, put_there, tail_member, which_member}
use Rattle.access_paths.proofs.Orders.{literals_total}
use Rattle.access_paths.specs.{Ascend, IsAdded, IsPlace, compare_literals}
use Rattle.access_paths.specs.declared.term.Literal.{Literal}

not_less_itself : (l m : Literal) → l ≡ m → compare_literals l m ≡ Less → ⊥
not_less_itself l m same less = let tied : compare_literals l m ≡ Equal = ap (compare_literals l) (sym same) ∙ tied_itself literals_total l in cc

not_both_less : (l m : Literal) → compare_literals l m ≡ Less → compare_literals m l ≡ Less → ⊥
not_both_less l m less more =
    let turned : compare_literals l m ≡ Greater = literals_total.antisymm l m ∙ ap ordering_reverse more in
    cc

tail_ascends : (l : Literal) (ls : List Literal) → Ascend (l ∷ ls) → Ascend ls
tail_ascends l [] up = tt
tail_ascends l (m ∷ ls) up = up.1

-- the first is less than each of the others
less_than_rest : (l : Literal) (ls : List Literal) → Ascend (l ∷ ls) → (m : Literal) → Contains ls m → compare_literals l m ≡ Less
less_than_rest l [] up m is = absurd (no_member m is)
less_than_rest l (k ∷ ls) up m is =
    elim (which_member k ls m is) [
      | inl same ↦ ap (compare_literals l) (sym same) ∙ up.0
      | inr after ↦ literals_total.trans l k m up.0 (less_than_rest k ls up.1 m after)
    ]

-- the heads of lists with the same members are one
same_heads : (l : Literal) (ls : List Literal) (m : Literal) (ms : List Literal) → Ascend (l ∷ ls) → Ascend (m ∷ ms)
    → Contains (m ∷ ms) l → Contains (l ∷ ls) m → l ≡ m
same_heads l ls m ms up other_up l_there m_there =
    elim (which_member m ms l l_there) [
      | inl same ↦ sym same
      | inr l_after ↦ elim (which_member l ls m m_there) [
        | inl same ↦ same
        | inr m_after ↦ absurd (not_both_less l m (less_than_rest l ls up m m_after) (less_than_rest m ms other_up l l_after))
      ]
    ]

-- a member of the tail is one of the other tail
tails_hold : (l : Literal) (ls : List Literal) (m : Literal) (ms : List Literal) → Ascend (l ∷ ls) → l ≡ m
    → (k : Literal) → Contains ls k → Contains (m ∷ ms) k → Contains ms k
tails_hold l ls m ms up same k is there =
    elim (which_member m ms k there) [
      | inl first ↦ absurd (not_less_itself l k (same ∙ first) (less_than_rest l ls up k is))
      | inr after ↦ after
    ]

-- lists in order with the same members are one
pub same_ascending : (ls ms : List Literal) → Ascend ls → Ascend ms → ((k : Literal) → Contains ls k ↔ Contains ms k) → ls ≡ ms
same_ascending [] [] up other_up same = refl
same_ascending [] (m ∷ ms) up other_up same = absurd (no_member m ((same m).1 (head_member m ms)))
same_ascending (l ∷ ls) [] up other_up same = absurd (no_member l ((same l).0 (head_member l ls)))
same_ascending (l ∷ ls) (m ∷ ms) up other_up same =
    let heads = same_heads l ls m ms up other_up ((same l).0 (head_member l ls)) ((same m).1 (head_member m ms)) in
    ap₂ (λ k ks. k ∷ ks) heads
    (same_ascending ls ms (tail_ascends l ls up) (tail_ascends m ms other_up)
    (λ k. (
      λ is. tails_hold l ls m ms up heads k is ((same k).0 (tail_member l ls k is)),
      λ is. tails_hold m ms l ls other_up (sym heads) k is ((same k).1 (tail_member m ms k is)),
    )))

-- one before the first
cons_ascends : (l m : Literal) (ls : List Literal) (n : ℕ) → Ascend (m ∷ ls) → n ≤ length ls → compare_literals m l ≡ Less
    → Ascend (take n ls ++ l ∷ drop n ls) → Ascend (m ∷ (take n ls ++ l ∷ drop n ls))
cons_ascends l m ls zero up within less rest = (less, rest)
cons_ascends l m [] (suc n) up within less rest = absurd (omega arith)
cons_ascends l m (k ∷ ls) (suc n) up within less rest = (up.0, rest)

tail_place : (l m : Literal) (ls : List Literal) (n : ℕ) → IsPlace l (m ∷ ls) (suc n) → IsPlace l ls n
tail_place l m ls n place = record {
  within = omega (arith, place.within);
  before = λ k d low high. place.before (suc k) d (omega arith) (omega arith);
  after = λ within d. place.after (omega arith) d;
}

put_ascends : (l : Literal) (ls : List Literal) (n : ℕ) → Ascend ls → IsPlace l ls n → Ascend (take n ls ++ l ∷ drop n ls)
put_ascends l [] zero up place = tt
put_ascends l [] (suc n) up place = absurd (omega (arith, place.within))
put_ascends l (m ∷ ls) zero up place = (place.after (omega arith) m, up)
put_ascends l (m ∷ ls) (suc n) up place =
    let rest = tail_place l m ls n place in
    cons_ascends l m ls n up rest.within (place.before 0 m (omega arith) (omega arith)) (put_ascends l ls n (tail_ascends m ls up) rest)

-- a literal put at its place is added
pub put_added : (l : Literal) (ls : List Literal) (n : ℕ) → Ascend ls → IsPlace l ls n → IsAdded l ls (insert ls n l)
put_added l ls n up place = record {
  order = put_ascends l ls n up place;
  literals = λ m. (put_from l ls n m place.within, put_there l ls n m place.within);
}

-- one that is there is added by doing nothing
pub there_added : (l : Literal) (ls : List Literal) → Ascend ls → Contains ls l → IsAdded l ls ls
there_added l ls up there = record {
  order = up;
  literals = λ m. (λ is. inr is, λ one. elim one [ inl same ↦ let P : Literal → Type 0 = Contains ls in subst P same there | inr is ↦ is ]);
}

-- what is not less and not equal is after
pub greater_turned : (l m : Literal) (o : Ordering) → o ≡ compare_literals l m → is_lt o ≡ false → is_eq o ≡ false → compare_literals m l ≡ Less
greater_turned l m Less is lt eq = cc
greater_turned l m Equal is lt eq = cc
greater_turned l m Greater is lt eq = literals_total.antisymm m l ∙ ap ordering_reverse (sym is)

pub less_is : (o : Ordering) → is_lt o ≡ true → o ≡ Less
less_is Less lt = refl
less_is Equal lt = cc
less_is Greater lt = cc

pub equal_is : (o : Ordering) → is_eq o ≡ true → o ≡ Equal
equal_is Less eq = cc
equal_is Equal eq = refl
equal_is Greater eq = cc
