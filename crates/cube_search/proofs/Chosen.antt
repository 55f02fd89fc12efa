-- The choice among what the search keeps is the choice among all widest cubes.
use Rattle.std.proofs.Common.{◌≡◌, ℕ, Bool, true, false, not, cond, List, [], ◌∷◌, ◌++◌, length, get_or, zero, suc, ◌<◌, refl, ap, sym, subst, ◌∙◌, inl, inr, ⊎_elim, arith, append_assoc, append-nil, le_of_eq}
use Rattle.std.specs.Prelude.{◌⊎◌, ◌↔◌}
use Rattle.std.proofs.lemmas.Bool.{cases_Bool, not-true, not-false}
use Rattle.cube_search.specs.Cubes.{IsTail, row_of, covers, Before, Counts, IsEnough, IsSet, IsTrueAt, AreAsLong, IsEmpty}
use Rattle.cube_search.specs.Lists.{Each, IsIn}
use Rattle.cube_search.specs.Rows.{both, either, is_within}
use Rattle.cube_search.specs.Choice.{chosen_of, union}
use Rattle.cube_search.specs.Widest.{AreChosen}
use Rattle.cube_search.specs.Search.{kept_of, all_visited}
use Rattle.cube_search.specs.declared.searching.Candidate.{Candidate}
use Rattle.cube_search.specs.declared.searching.Task.{Task}
use Rattle.cube_search.proofs.Bits.{within_bits, bits_missing, either_bits, bits_either, length-either, length-both}
use Rattle.cube_search.proofs.Lists.{each-from, each-in}
use Rattle.cube_search.proofs.RowLaws.{within_from}
use Rattle.cube_search.proofs.Searched.{covers_order, before-along, before-irreflexive, are_widest}
use Rattle.cube_search.proofs.WidestOnes.{Tells, choose_from, are_chosen}

-- rows as long as one row are as long as one that is as long
as_long : (m n : ℕ) → m ≡ n → (cs : List Candidate) → Each (λ c. length c.row ≡ n) cs → Each (λ c. length c.row ≡ m) cs
as_long m n e [] each = tt
as_long m n e (c ∷ cs) each = (each.0 ∙ sym e, as_long m n e cs each.1)

pub union_push : (row : List ℕ) (cs : List Candidate) (c : Candidate) → union row (cs ++ c ∷ []) ≡ either (union row cs) c.row
union_push row [] c = refl
union_push row (d ∷ cs) c = union_push (either row d.row) cs c

module _ (none : List ℕ) where
  abbrev pub adds : List Candidate → Candidate → Bool
  adds chosen c = not (is_within c.row (union none chosen))

  abbrev pub Fits : Candidate → Type 0
  Fits c = length c.row ≡ length none

  chosen_is : (chosen cs : List Candidate) → choose_from adds chosen cs ≡ chosen ++ chosen_of cs (union none chosen)
  chosen_is chosen [] = sym (append-nil chosen)
  chosen_is chosen (c ∷ cs) = by (is_within c.row (union none chosen)) (chosen_is chosen cs) (chosen_is (chosen ++ c ∷ []) cs)
    where
      by : (b : Bool) → choose_from adds chosen cs ≡ chosen ++ chosen_of cs (union none chosen)
          → choose_from adds (chosen ++ c ∷ []) cs ≡ (chosen ++ c ∷ []) ++ chosen_of cs (union none (chosen ++ c ∷ []))
          → cond (not b) (choose_from adds (chosen ++ c ∷ []) cs) (choose_from adds chosen cs) ≡ chosen ++ cond b (chosen_of cs (union none chosen))
          (c ∷ chosen_of cs (either (union none chosen) c.row))
      by true s r = s
      by false s r =
          r
          ∙ ap (λ r. (chosen ++ c ∷ []) ++ chosen_of cs r) (union_push none chosen c)
          ∙ append_assoc chosen (c ∷ []) (chosen_of cs (either (union none chosen) c.row))

  length-union : (row : List ℕ) (cs : List Candidate) → Each (λ c. length c.row ≡ length row) cs → length (union row cs) ≡ length row
  length-union row [] fits = refl
  length-union row (c ∷ cs) fits =
      let one = length-either row c.row (sym fits.0) in
      length-union (either row c.row) cs (as_long (length (either row c.row)) (length row) one cs fits.1) ∙ one

  -- in the union is what was in the row, and what is in one of these
  union_keeps : (row : List ℕ) (cs : List Candidate) (word bit : ℕ) → Each (λ c. length c.row ≡ length row) cs → IsSet row word bit
      → IsSet (union row cs) word bit
  union_keeps row [] word bit fits s = s
  union_keeps row (c ∷ cs) word bit fits s =
      union_keeps (either row c.row) cs word bit (as_long (length (either row c.row)) (length row) (length-either row c.row (sym fits.0)) cs fits.1) (bits_either row c.row word bit (sym fits.0) (inl s))

  union_none : (row : List ℕ) (cs : List Candidate) (word bit : ℕ) → Each (λ c. length c.row ≡ length row) cs → (IsSet (union row cs) word bit → ⊥)
      → Each (λ d. IsSet d.row word bit → ⊥) cs
  union_none row [] word bit fits n = tt
  union_none row (c ∷ cs) word bit fits n =
      let more = as_long (length (either row c.row)) (length row) (length-either row c.row (sym fits.0)) cs fits.1 in (
        λ s. n (union_keeps (either row c.row) cs word bit more (bits_either row c.row word bit (sym fits.0) (inr s))),
        union_none (either row c.row) cs word
            bit more n,
      )

  union_cases : (row : List ℕ) (cs : List Candidate) (word bit : ℕ) → IsSet (union row cs) word bit
      → IsSet row word bit ⊎ ((d : Candidate) × IsIn d cs × IsSet d.row word bit)
  union_cases row [] word bit s = inl s
  union_cases row (c ∷ cs) word bit s =
      ⊎_elim
      (λ (a : IsSet (either row c.row) word bit).
      ⊎_elim (λ (b : IsSet row word bit). inl b) (λ (b : IsSet c.row word bit). inr (c, inl refl, b)) (either_bits row c.row word bit a))
      (λ (a : (d : Candidate) × IsIn d cs × IsSet d.row word bit). inr (a.0, inr a.1, a.2))
      (union_cases (either row c.row) cs word bit s)

  module _ (empty : IsEmpty none) where
    tells : Tells IsTrueAt adds Fits
    tells = record {
      yes = λ chosen c fits fit add.
          let m = bits_missing c.row (union none chosen) (le_of_eq (fit ∙ sym (length-union none chosen fits)))
          (not-true (is_within c.row (union none chosen)) add) in
          ((m.0, m.1), m.2, union_none none chosen m.0 m.1 fits m.3);
      no = λ chosen c at add s.
          ⊎_elim
          (λ (a : IsSet none at.0 at.1). absurd (empty at.0 at.1 a))
          (λ (a : (d : Candidate) × IsIn d chosen × IsSet d.row at.0 at.1). a)
          (union_cases none chosen at.0 at.1
          (within_bits c.row (union none chosen) at.0 at.1 (within_from c.row (union none chosen) (not-false (is_within c.row (union none chosen)) add))
          s));
    }

    pub are_disjuncts : (task : Task) → Each Fits (kept_of task (all_visited task 5) [])
        → AreChosen IsTrueAt Before covers (Counts task) (chosen_of (kept_of task (all_visited task 5) []) none)
    are_disjuncts task fits =
        subst (AreChosen IsTrueAt Before covers (Counts task)) (chosen_is [] (kept_of task (all_visited task 5) []))
        (are_chosen IsTrueAt adds Fits tells Before (λ c d a b. before-irreflexive c (before-along c d c a b)) before-along covers (Counts task) covers_order
        (λ c d at p q w. within_bits c.row d.row at.0 at.1 (within_from c.row d.row w)) (kept_of task (all_visited task 5) []) fits (are_widest task))

each-get : (P : List ℕ → Type 0) (rows : List (List ℕ)) (n : ℕ) (d : List ℕ) → n < length rows → Each P rows → P (get_or rows n d)
each-get P [] n d h each = absurd (omega arith)
each-get P (r ∷ rows) zero d h each = each.0
each-get P (r ∷ rows) (suc n) d h each = each-get P rows n d (omega arith) each.1

pub length-row_of : (rows : List (List ℕ)) (row : List ℕ) (long from : ℕ) (cube : List ℕ) → Each (λ r. length r ≡ long) rows → length row ≡ long
    → IsTail from (length rows) cube → length (row_of rows row cube) ≡ long
length-row_of rows row long from [] each h tail = h
length-row_of rows row long from (l ∷ ls) each h tail =
    let one = each-get (λ r. length r ≡ long) rows l [] tail.1 each in
    length-row_of rows (both row (get_or rows l [])) long (suc l) ls each (length-both row (get_or rows l []) (h ∙ sym one) ∙ h) tail.2

-- what the search keeps, and so what is chosen, has rows as long as the others
kept_long : (task : Task) (none : List ℕ) → AreAsLong task none → Each (Fits none) (kept_of task (all_visited task 5) [])
kept_long task none long =
    each-from (Fits none) (kept_of task (all_visited task 5) [])
    (λ k has.
    let c = (are_widest task).count k has in
    ap length c.0.row ∙ length-row_of task.rows.items task.all (length none) 0 k.cube long.rows long.all c.0.tail)

-- what is kept, and then what is chosen among it
pub disjuncts_chosen : (task : Task) (none : List ℕ) (kept chosen : List Candidate) → IsEmpty none → AreAsLong task none
    → kept ≡ kept_of task (all_visited task 5) [] → chosen ≡ chosen_of kept none → AreChosen IsTrueAt Before covers (Counts task) chosen
disjuncts_chosen task none kept chosen empty long is is_chosen =
    subst (AreChosen IsTrueAt Before covers (Counts task)) (sym (is_chosen ∙ ap (λ l. chosen_of l none) is))
    (are_disjuncts none empty task (kept_long task none long))

chosen_long : (task : Task) (none : List ℕ) (chosen : List Candidate) → AreAsLong task none → AreChosen IsTrueAt Before covers (Counts task) chosen → Each (Fits none) chosen
chosen_long task none chosen long are =
    each-from (Fits none) chosen
    (λ c has.
    let counts = (are.widest c has).0.counts in
    ap length counts.0.row ∙ length-row_of task.rows.items task.all (length none) 0 c.cube long.rows long.all counts.0.tail)

-- they are enough exactly where the row is within where some of them is true
pub enough_within : (task : Task) (none : List ℕ) (chosen : List Candidate) → IsEmpty none → AreAsLong task none
    → AreChosen IsTrueAt Before covers (Counts task) chosen → (covered : List ℕ) → covered ≡ union none chosen
    → (b : Bool) → b ≡ is_within task.wanted covered → b ≡ true ↔ IsEnough task.wanted chosen
enough_within task none chosen empty long are covered is b tells = (λ t. enough (sym so ∙ t), λ each. so ∙ within each)
  where
    so : b ≡ is_within task.wanted (union none chosen)
    so = tells ∙ ap (is_within task.wanted) is

    fits : Each (Fits none) chosen
    fits = chosen_long task none chosen long are

    enough : is_within task.wanted (union none chosen) ≡ true → IsEnough task.wanted chosen
    enough inside at set =
        ⊎_elim
        (λ (a : IsSet none at.0 at.1). absurd (empty at.0 at.1 a))
        (λ (a : (d : Candidate) × IsIn d chosen × IsSet d.row at.0 at.1). a)
        (union_cases none none chosen at.0 at.1 (within_bits task.wanted (union none chosen) at.0 at.1 (within_from task.wanted (union none chosen) inside) set))

    missing : is_within task.wanted (union none chosen) ≡ false → IsEnough task.wanted chosen → ⊥
    missing outside each =
        let m = bits_missing task.wanted (union none chosen) (le_of_eq (long.wanted ∙ sym (length-union none none chosen fits))) outside in
        let c = each (m.0, m.1) m.2 in
        each-in (λ d. IsSet d.row m.0 m.1 → ⊥) chosen c.0 (union_none none none chosen m.0 m.1 fits m.3) c.1 c.2

    within : IsEnough task.wanted chosen → is_within task.wanted (union none chosen) ≡ true
    within each =
        ⊎_elim
        (λ (h : is_within task.wanted (union none chosen) ≡ true). h)
        (λ (h : is_within task.wanted (union none chosen) ≡ false). absurd (missing h each))
        (cases_Bool (is_within task.wanted (union none chosen)))

-- what is left gives what the whole gives, and what is covered is where some of the chosen ones is true
pub record IsAlong (none covered : List ℕ) (chosen rest all : List Candidate) : Type 0 where
  pub gives : chosen ++ chosen_of rest covered ≡ chosen_of all none
  pub covers : covered ≡ union none chosen

-- one more is chosen
pub along_next : (none covered new : List ℕ) (chosen more old rest all : List Candidate) (c : Candidate) → IsAlong none covered chosen old all
    → old ≡ c ∷ rest → is_within c.row covered ≡ false → new ≡ either covered c.row → more ≡ chosen ++ c ∷ [] → IsAlong none new more rest all
along_next none covered new chosen more old rest all c along first adds is grown = record {
  gives =
      ap (λ xs. xs ++ chosen_of rest new) grown
      ∙ append_assoc chosen (c ∷ []) (chosen_of rest new)
      ∙ ap (λ r. chosen ++ c ∷ chosen_of rest r) is
      ∙ ap (λ b. chosen ++ cond b (chosen_of rest covered) (c ∷ chosen_of rest (either covered c.row))) (sym adds)
      ∙ ap (λ xs. chosen ++ chosen_of xs covered) (sym first)
      ∙ along.gives;
  covers = is ∙ ap (λ r. either r c.row) along.covers ∙ sym (union_push none chosen c) ∙ ap (union none) (sym grown);
}
