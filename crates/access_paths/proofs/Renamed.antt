-- A renaming keeps truth.
use Rattle.std.proofs.Common.{inl, inr, ◌≡◌, ℕ, zero, suc, ◌<◌, ◌==◌, ◌&&◌, Bool, true, false, not, if◌then◌else◌, List, [], ◌∷◌, length, fold, slice_index, slice_index_or, Contains, arith, refl, ap, ap₂, sym, ◌∙◌}
use Rattle.std.specs.Cmp.{first_so, nat_eq_equiv, second_so}
use Rattle.std.specs.List.{list_all}
use Rattle.std.specs.Ordering.{is_gt}
use Rattle.easl_heap.specs.{Object, get}
use Rattle.access_paths.proofs.Members.{in_map, of_map}
use Rattle.access_paths.specs.{HasVariable, IsRenamed, RenamingKeepsTruth, by_objects, compare_terms, cube_holds, literal_holds, object_of, renamed}
use Rattle.access_paths.specs.{renamed_term}
use Rattle.access_paths.specs.declared.term.Cube.{Cube}
use Rattle.access_paths.specs.declared.term.Literal.{Literal}
use Rattle.access_paths.specs.declared.term.Term.{Term}

all_pass : {X : Type 0} (test : X → Bool) (xs : List X) → list_all test xs ≡ true → (x : X) (k : ℕ) → k < length xs → slice_index_or xs k x ≡ x → test x ≡ true
all_pass test [] all x k within at = absurd (omega arith)
all_pass test (y ∷ xs) all x zero within at = ap test (sym at) ∙ first_so (test y) (list_all test xs) all
all_pass test (y ∷ xs) all x (suc k) within at = all_pass test xs (second_so (test y) (list_all test xs) all) x k (omega arith) at

pass_all : {X : Type 0} (test : X → Bool) (xs : List X) → ((x : X) → Contains xs x → test x ≡ true) → list_all test xs ≡ true
pass_all test [] each = refl
pass_all test (y ∷ xs) each =
    ap₂ (λ a b. a && b) (each y (0, omega arith, refl)) (pass_all test xs (λ x in_it. each x (suc in_it.0, omega (arith, in_it.1), in_it.2)))

both_ways : (a b : Bool) → (a ≡ true → b ≡ true) → (b ≡ true → a ≡ true) → a ≡ b
both_ways true b there back = sym (there refl)
both_ways false true there back = back refl
both_ways false false there back = refl

module _ (heap : List Object) (objects others : List ℕ) (other : ℕ → ℕ) where
  abbrev Same : ℕ → Type 0
  Same v = slice_index objects (other v) ≡ slice_index others v

  term_same : (t : Term) → Same t.var.0 → object_of heap objects (renamed_term other t) ≡ object_of heap others t
  term_same t same = ap (λ n. fold (get heap) n t.fields) same

  turned : (t u : Term) → by_objects heap objects u t ≡ by_objects heap objects t u
  turned t u = nat_eq_equiv.symm (object_of heap objects u) (object_of heap objects t)

  ordered : (same : Bool) (t u : Term) (b : Bool)
      → literal_holds (by_objects heap objects) (if b then record { same = same; less = u; more = t } else record { same = same; less = t; more = u }) ≡ (if same then by_objects heap objects t u else not (by_objects heap objects t u))
  ordered same t u true = ap (λ one. if same then one else not one) (turned t u)
  ordered same t u false = refl

  literal_same : (l : Literal) → Same l.less.var.0 → Same l.more.var.0
      → literal_holds (by_objects heap objects) (renamed other l) ≡ literal_holds (by_objects heap others) l
  literal_same l less more =
      ordered l.same (renamed_term other l.less) (renamed_term other l.more) (is_gt (compare_terms (renamed_term other l.less) (renamed_term other l.more)))
      ∙ ap₂ (λ m n. if l.same then m == n else not (m == n)) (term_same l.less less) (term_same l.more more)

  module _ (c d : Cube) (is : IsRenamed other c d) (same : (v : ℕ) → HasVariable c v → Same v) where
    one_same : (l : Literal) → Contains c.literals l → literal_holds (by_objects heap objects) (renamed other l) ≡ literal_holds (by_objects heap others) l
    one_same l there =
        literal_same l
        (same l.less.var.0 (there.0, l, there.1, there.2, inl refl))
        (same l.more.var.0 (there.0, l, there.1, there.2, inr refl))

    forth : cube_holds (by_objects heap objects) d.literals ≡ true → cube_holds (by_objects heap others) c.literals ≡ true
    forth all =
        pass_all (literal_holds (by_objects heap others)) c.literals
        (λ l there.
        let k = (is.literals (renamed other l)).1 (in_map (renamed other) c.literals l there) in
        sym (one_same l there) ∙ all_pass (literal_holds (by_objects heap objects)) d.literals all (renamed other l) k.0 k.1 k.2)

    back : cube_holds (by_objects heap others) c.literals ≡ true → cube_holds (by_objects heap objects) d.literals ≡ true
    back all =
        pass_all (literal_holds (by_objects heap objects)) d.literals
        (λ k there.
        let m = (is.literals k).0 there in
        let l = of_map (renamed other) c.literals k m in
        ap (literal_holds (by_objects heap objects)) (sym l.2) ∙ one_same l.0 l.1 ∙ all_pass (literal_holds (by_objects heap others)) c.literals all l.0 l.1.0 l.1.1 l.1.2)

pub keeps_truth : RenamingKeepsTruth
keeps_truth heap objects others other c d is same =
    both_ways (cube_holds (by_objects heap objects) d.literals) (cube_holds (by_objects heap others) c.literals) (forth heap objects others other c d is same) (back heap objects others other c d is same)
