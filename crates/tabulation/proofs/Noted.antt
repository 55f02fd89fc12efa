-- Which edges leave and call procedures.
use Rattle.std.proofs.Common.{◌≡◌, ℕ, zero, suc, ◌+◌, ◌<◌, ◌⊎◌, inl, inr, ⊎_elim, List, length, take, get_or, Contains, Some, slice_get, arith, refl, sym, ap, subst, ◌∙◌}
use Rattle.std.proofs.lemmas.Option.{get_or_from_slice_get}
use Rattle.client_facts.specs.Over.{IsEnteredFrom}
use Rattle.client_facts.specs.Setting.{Setting, exit_of}
use Rattle.client_facts.specs.declared.fact.Fact.{Fact}
use Rattle.client_walks.specs.declared.edge.Edge.{Edge}
use Rattle.tabulation.proofs.Contained.{among_cases, among_none}
use Rattle.tabulation.proofs.Ways.{one_call}
use Rattle.tabulation.specs.Indexed.{AreNoted, IsCallerOf, IsExitOf, IsNoted, IsOfFacts, context}
use Rattle.tabulation.specs.Successors.{IsCallTo}
use Rattle.tabulation.specs.Tables.{HasNone, IsPlaced, IsWithPlace, PlaceLists}
use Rattle.tabulation.specs.declared.table.Context.{Context}

-- nothing is noted
nothing : (P : Context → Type 0) (at : ℕ) (t : PlaceLists) → ((c : Context) → P c → ⊥) → IsNoted P at t t
nothing P at t never = record { kept = λ c j is. is; added = λ c is. absurd (never c is); only = λ j has. inl has }

pub facts_none : (callee : ℕ) (facts : List Fact) (at : ℕ) (t : PlaceLists) → IsNoted (IsOfFacts callee (take 0 facts)) at t t
facts_none callee facts at t = nothing (IsOfFacts callee (take 0 facts)) at t (λ c of. among_none facts of.fact of.among)

pub facts_more : (callee : ℕ) (facts : List Fact) (i : ℕ) (f : Fact) (at : ℕ) (a b d : PlaceLists) → i < length facts → f ≡ get_or facts i f →
    IsNoted (IsOfFacts callee (take i facts)) at a b → IsWithPlace b (context callee f) at d → IsNoted (IsOfFacts callee (take (i + 1) facts)) at a d
facts_more callee facts i f at a b d h is before last = record {
  kept = λ c j placed. last.kept c j (before.kept c j placed);
  added = λ c of. ⊎_elim
      (λ old. last.kept c at (before.added c (record { fact = of.fact; among = old; is = of.is })))
      (λ same. subst (λ x. IsPlaced d x at) (sym (of.is ∙ ap (context callee) same)) last.added)
      (among_cases facts i f h is of.fact of.among);
  only = λ j has. ⊎_elim (λ old. before.only j old) (λ same. inr same) (last.only j has);
}

pub exit_there : (g : Setting) (x : Edge) (at : ℕ) (a b : PlaceLists) → IsWithPlace a (context x.procedure x.entry) at b → IsNoted (IsExitOf g x) at a b
exit_there g x at a b with_it = record {
  kept = with_it.kept;
  added = λ c of. subst (λ d. IsPlaced b d at) (sym of.is) with_it.added;
  only = with_it.only;
}

pub no_exit : (g : Setting) (x : Edge) (at : ℕ) (a : PlaceLists) → (x.point ≡ exit_of g x.procedure → ⊥) → IsNoted (IsExitOf g x) at a a
no_exit g x at a never = nothing (IsExitOf g x) at a (λ c of. never of.point)

pub caller_there : (g : Setting) (x : Edge) (callee m : ℕ) (facts : List Fact) (at : ℕ) (a b : PlaceLists) → IsCallTo g x.procedure x.point callee m →
    ((f : Fact) → (Contains facts f → IsEnteredFrom g x.procedure x.point x.fact f) × (IsEnteredFrom g x.procedure x.point x.fact f → Contains facts f)) →
    IsNoted (IsOfFacts callee facts) at a b → IsNoted (IsCallerOf g x) at a b
caller_there g x callee m facts at a b k from_here noted = record {
  kept = noted.kept;
  added = λ c of. noted.added c (record {
    fact = of.fact;
    among = (from_here of.fact).1 (of.call, of.behind, of.there, of.enters);
    is = of.is ∙ ap (λ n. context n of.fact) (ap (λ l. l.callee) (one_call g x.procedure x.point of.call k.call of.behind m of.there k.there) ∙ k.callee);
  });
  only = noted.only;
}

pub no_caller : (g : Setting) (x : Edge) (at : ℕ) (a : PlaceLists) → ((c m : ℕ) → IsCallTo g x.procedure x.point c m → ⊥) → IsNoted (IsCallerOf g x) at a a
no_caller g x at a never =
    nothing (IsCallerOf g x) at a (λ c of. never of.call.callee of.behind (record { call = of.call; there = of.there; callee = refl }))

-- one edge more
more : (R : Edge → Context → Type 0) (edges : List Edge) (at : ℕ) (x : Edge) (a b : PlaceLists) → at < length edges → x ≡ get_or edges at x →
    AreNoted R edges at a → IsNoted (R x) at a b → AreNoted R edges (at + 1) b
more R edges at x a b h is before last = record {
  all = λ j y c below there r. by j y c there r (split j at below);
  below = λ j has. ⊎_elim (λ old. omega (arith, before.below j old)) (λ same. omega (arith, same)) (last.only j has);
}
  where
    split : (j n : ℕ) → j < n + 1 → (j < n) ⊎ (j ≡ n)
    split zero zero below = inr refl
    split zero (suc n) below = inl (omega arith)
    split (suc j) zero below = absurd (omega arith)
    split (suc j) (suc n) below = ⊎_elim (λ l. inl (omega (arith, l))) (λ e. inr (ap suc e)) (split j n (omega arith))

    by : (j : ℕ) (y : Edge) (c : Context) → slice_get edges j ≡ Some y → R y c → (j < at) ⊎ (j ≡ at) → IsPlaced b c j
    by j y c there r (inl early) = last.kept c j (before.all j y c early there r)
    by j y c there r (inr same) =
        let same_edge : y ≡ x =
        sym (get_or_from_slice_get edges j y x there) ∙ ap (λ n. get_or edges n x) same ∙ sym is
        in
        subst (IsPlaced b c) (sym same) (last.added c (subst (λ z. R z c) same_edge r))

pub exit_more : (g : Setting) (edges : List Edge) (at : ℕ) (x : Edge) (a b : PlaceLists) → at < length edges → x ≡ get_or edges at x →
    AreNoted (IsExitOf g) edges at a → IsNoted (IsExitOf g x) at a b → AreNoted (IsExitOf g) edges (at + 1) b
exit_more g edges at x a b h is before last = more (IsExitOf g) edges at x a b h is before last

pub caller_more : (g : Setting) (edges : List Edge) (at : ℕ) (x : Edge) (a b : PlaceLists) → at < length edges → x ≡ get_or edges at x →
    AreNoted (IsCallerOf g) edges at a → IsNoted (IsCallerOf g x) at a b → AreNoted (IsCallerOf g) edges (at + 1) b
caller_more g edges at x a b h is before last = more (IsCallerOf g) edges at x a b h is before last

-- what is noted stays so where edges are put behind
pub noted_grown : (R : Edge → Context → Type 0) (edges new : List Edge) (n : ℕ) (t : PlaceLists) →
    ((j : ℕ) (x : Edge) → j < n → slice_get new j ≡ Some x → slice_get edges j ≡ Some x) → AreNoted R edges n t → AreNoted R new n t
noted_grown R edges new n t early noted = record {
  all = λ j x c below there r. noted.all j x c below (early j x below there) r;
  below = noted.below;
}

pub none_noted : (R : Edge → Context → Type 0) (edges : List Edge) (t : PlaceLists) → HasNone t → AreNoted R edges 0 t
none_noted R edges t none = record { all = λ j x c below there r. absurd (omega (arith, below)); below = λ j has. absurd (none j has) }
