-- Returns between an edge and those at noted places.
use Rattle.std.proofs.Common.{◌≡◌, ℕ, ◌+◌, ◌<◌, inl, inr, ⊎_elim, List, [], length, take, get_or, Contains, Some, slice_get, arith, refl, sym, ap, subst, ◌∙◌, get_or-take, length-take-le}
use Rattle.std.proofs.lemmas.List.Elements.{Contains-get_or}
use Rattle.std.proofs.lemmas.Option.{get_or_from_slice_get, slice_get-get_or}
use Rattle.client_facts.specs.Facts.{IsFact}
use Rattle.client_facts.specs.Over.{IsEnteredFrom}
use Rattle.client_facts.specs.Setting.{Setting, exit_of}
use Rattle.client_facts.specs.declared.fact.Fact.{Fact}
use Rattle.client_walks.specs.Edges.{IsEdge}
use Rattle.client_walks.specs.declared.edge.Edge.{Edge}
use Rattle.tabulation.proofs.Answered.{are_all}
use Rattle.tabulation.proofs.Contained.{among_cases, among_none}
use Rattle.tabulation.proofs.Extended as extended
use Rattle.tabulation.proofs.Gives.{entry_of}
use Rattle.tabulation.proofs.Ways.{one_call}
use Rattle.tabulation.specs.Extended.{IsExtended, IsOfOne}
use Rattle.tabulation.specs.Indexed.{AreNoted, IsCallerOf, IsExitOf, context}
use Rattle.tabulation.specs.Reached.{IsFromPlace, IsMet, IsMetAt, IsMetCaller, IsMetExit, IsReached}
use Rattle.tabulation.specs.Successors.{AreSuccessors, IsCallTo, IsEntered, IsReturned, IsReturnedBy, IsStepped}
use Rattle.tabulation.specs.Tables.{HasPlace, IsPlaced, PlaceLists}

pub from_place : (R : Edge → Edge → Type 0) (edges : List Edge) (places : List ℕ) (i p : ℕ) (z : Edge) (a b c : List Edge) → i < length places →
    p ≡ get_or places i p → p < length edges → z ≡ get_or edges p z → IsExtended (IsOfOne (IsFromPlace R edges) (take i places)) a b →
    IsExtended (R z) b c → IsExtended (IsOfOne (IsFromPlace R edges) (take (i + 1) places)) a c
from_place R edges places i p z a b c h is within at first second =
    extended.more (IsFromPlace R edges) places i p a b c h is first (extended.same (R z) (IsFromPlace R edges p) b c second to from)
  where
    there : slice_get edges p ≡ Some z
    there = slice_get-get_or edges p z within ∙ ap Some (sym at)

    to : (y : Edge) → R z y → IsFromPlace R edges p y
    to y r = record { other = z; there = there; has = r }

    from : (y : Edge) → IsFromPlace R edges p y → R z y
    from y f =
        let some : Some f.other ≡ Some z = sym f.there ∙ there in
        let one : f.other ≡ z = cc in
        subst (λ w. R w y) one f.has

pub each_within : (t : PlaceLists) (places : List ℕ) (n : ℕ) → ((p : ℕ) → Contains places p → HasPlace t p) → ((j : ℕ) → HasPlace t j → j < n) →
    (k : ℕ) → k < length places → get_or places k 0 < n
each_within t places n only within k h = within (get_or places k 0) (only (get_or places k 0) (Contains-get_or places k 0 h))

module _ (g : Setting) (x : Edge) (t : PlaceLists) (edges : List Edge) where
  pub facts_none : (callee : ℕ) (facts : List Fact) (a : List Edge) →
      IsReached (IsOfOne (IsMetAt g x t edges callee) (take 0 facts)) (IsMet (IsReturned g x) t edges) a a
  facts_none callee facts a = record {
    kept = λ y has. has;
    added = λ y of. absurd (among_none facts of.item of.among);
    only = λ y has. inl has;
  }

  pub facts_more : (callee : ℕ) (facts : List Fact) (i : ℕ) (f : Fact) (a b c : List Edge) → i < length facts → f ≡ get_or facts i f →
      IsReached (IsOfOne (IsMetAt g x t edges callee) (take i facts)) (IsMet (IsReturned g x) t edges) a b →
      IsReached (IsMetAt g x t edges callee f) (IsMet (IsReturned g x) t edges) b c →
      IsReached (IsOfOne (IsMetAt g x t edges callee) (take (i + 1) facts)) (IsMet (IsReturned g x) t edges) a c
  facts_more callee facts i f a b c h is first second = record {
    kept = λ y has. second.kept y (first.kept y has);
    added = λ y of. ⊎_elim
        (λ old. second.kept y (first.added y (record { item = of.item; among = old; has = of.has })))
        (λ last. second.added y (subst (λ d. IsMetAt g x t edges callee d y) last of.has))
        (among_cases facts i f h is of.item of.among);
    only = λ y has. ⊎_elim (λ mid. first.only y mid) (λ new. inr new) (second.only y has);
  }

  pub fact_all : (callee : ℕ) (f : Fact) (places : List ℕ) (a b : List Edge) → ((p : ℕ) → IsPlaced t (context callee f) p → Contains places p) →
      ((p : ℕ) → Contains places p → HasPlace t p) → IsExtended (IsOfOne (IsFromPlace (IsReturned g x) edges) places) a b →
      IsReached (IsMetAt g x t edges callee f) (IsMet (IsReturned g x) t edges) a b
  fact_all callee f places a b all only e = record {
    kept = e.kept;
    added = λ y m. e.added y (record {
      item = m.place;
      among = all m.place m.placed;
      has = record { other = m.other; there = m.there; has = m.has };
    });
    only = λ y has. ⊎_elim (λ old. inl old) (λ new. inr (record { place = new.item; listed = only new.item new.among; from = new.has })) (e.only y has);
  }

  pub callers_all : (places : List ℕ) (a b : List Edge) → ((p : ℕ) → IsPlaced t (context x.procedure x.entry) p → Contains places p) →
      ((p : ℕ) → Contains places p → HasPlace t p) → IsExtended (IsOfOne (IsFromPlace (λ z. IsReturned g z x) edges) places) a b →
      IsReached (IsMetCaller g x t edges) (IsMet (λ z. IsReturned g z x) t edges) a b
  callers_all places a b all only e = record {
    kept = e.kept;
    added = λ y m. e.added y (record {
      item = m.place;
      among = all m.place m.placed;
      has = record { other = m.other; there = m.there; has = m.has };
    });
    only = λ y has. ⊎_elim (λ old. inl old) (λ new. inr (record { place = new.item; listed = only new.item new.among; from = new.has })) (e.only y has);
  }

  pub exits_all : (c m : ℕ) (facts : List Fact) (a b : List Edge) → IsCallTo g x.procedure x.point c m →
      ((f : Fact) → (Contains facts f → IsEnteredFrom g x.procedure x.point x.fact f) × (IsEnteredFrom g x.procedure x.point x.fact f → Contains facts f)) →
      IsReached (IsOfOne (IsMetAt g x t edges c) facts) (IsMet (IsReturned g x) t edges) a b →
      IsReached (IsMetExit g x t edges) (IsMet (IsReturned g x) t edges) a b
  exits_all c m facts a b k from_here e = record { kept = e.kept; added = λ y met. e.added y (one y met); only = e.only }
    where
      one : (y : Edge) → IsMetExit g x t edges y → IsOfOne (IsMetAt g x t edges c) facts y
      one y met =
          let r = met.has in
          let callee : r.call.callee ≡ c = ap (λ l. l.callee) (one_call g x.procedure x.point r.call k.call r.behind m r.there k.there) ∙ k.callee in
          let fact : IsFact g r.call.callee 0 met.other.entry = subst (λ n. IsFact g n 0 met.other.entry) r.callee met.fact in
          record {
            item = met.other.entry;
            among = (from_here met.other.entry).1 (
              r.call,
              r.behind,
              r.there,
              record {
                choice = r.returns.choice;
                is_choice = r.returns.is_choice;
                enters = r.returns.enters;
                fact = fact;
              },
            );
            has = record {
              place = met.place;
              other = met.other;
              there = met.there;
              placed = subst (λ n. IsPlaced t (context n met.other.entry) met.place) (r.callee ∙ callee) met.placed;
              entry = refl;
              has = met.has;
            };
          }

  pub exits_none : (a : List Edge) → ((c m : ℕ) → IsCallTo g x.procedure x.point c m → ⊥) →
      IsReached (IsMetExit g x t edges) (IsMet (IsReturned g x) t edges) a a
  exits_none a never = record {
    kept = λ y has. has;
    added = λ y met. absurd (never met.has.call.callee met.has.behind (record { call = met.has.call; there = met.has.there; callee = refl }));
    only = λ y has. inl has;
  }

-- what is noted is enough
module _ (g : Setting) (edges : List Edge) (at : ℕ) (x : Edge) (sound : (z : Edge) → Contains edges z → IsEdge g z) (h : at < length edges)
    (is : x ≡ get_or edges at x) (exits callers : PlaceLists) (left : AreNoted (IsExitOf g) edges (at + 1) exits)
    (called : AreNoted (IsCallerOf g) edges (at + 1) callers) where
  here : IsFact g x.procedure 0 x.entry
  here = entry_of g x (sound x (at, h, sym is))

  known : (j : ℕ) (z : Edge) → j < at + 1 → slice_get edges j ≡ Some z → Contains (take (at + 1) edges) z
  known j z below there =
      (j, omega (arith, below, h, length-take-le (at + 1) edges), get_or-take (at + 1) edges j z below ∙ get_or_from_slice_get edges j z z there)

  pub returns_all : (a b c : List Edge) → IsReached (IsMetExit g x exits edges) (IsMet (IsReturned g x) exits edges) a b →
      IsReached (IsMetCaller g x callers edges) (IsMet (λ z. IsReturned g z x) callers edges) b c →
      IsExtended (IsOfOne (IsReturnedBy g x) (take (at + 1) edges)) a c
  returns_all a b c first second = record {
    kept = λ y has. second.kept y (first.kept y has);
    added = added;
    only = λ y has. ⊎_elim
        (λ mid. ⊎_elim (λ old. inl old)
        (λ met. inr (record { item = met.from.other; among = known met.place met.from.other (left.below met.place met.listed) met.from.there; has = inl met.from.has }))
        (first.only y mid))
        (λ met. inr (record { item = met.from.other; among = known met.place met.from.other (called.below met.place met.listed) met.from.there; has = inr met.from.has }))
        (second.only y has);
  }
    where
      added : (y : Edge) → IsOfOne (IsReturnedBy g x) (take (at + 1) edges) y → Contains c y
      added y of = by of.has
        where
          there : slice_get edges of.among.0 ≡ Some of.item
          there =
              slice_get-get_or edges of.among.0 of.item (omega (arith, of.among.1, length-take-le (at + 1) edges, h))
              ∙ ap Some (sym (get_or-take (at + 1) edges of.among.0 of.item (omega (arith, of.among.1, length-take-le (at + 1) edges, h))) ∙ of.among.2)

          first_at : of.among.0 < at + 1
          first_at = omega (arith, of.among.1, length-take-le (at + 1) edges, h)

          by : IsReturnedBy g x of.item y → Contains c y
          by (inl r) = second.kept y (first.added y (record {
            place = of.among.0;
            other = of.item;
            there = there;
            placed = left.all of.among.0 of.item (context of.item.procedure of.item.entry) first_at there
                (record { point = r.exit ∙ ap (exit_of g) (sym r.callee); is = refl });
            fact = entry_of g of.item (sound of.item (of.among.0, omega (arith, first_at, h), get_or_from_slice_get edges of.among.0 of.item of.item there));
            has = r;
          }))
          by (inr r) = second.added y (record {
            place = of.among.0;
            other = of.item;
            there = there;
            placed = called.all of.among.0 of.item (context x.procedure x.entry) first_at there (record {
              call = r.call;
              behind = r.behind;
              there = r.there;
              fact = x.entry;
              enters = record {
                choice = r.returns.choice;
                is_choice = r.returns.is_choice;
                enters = r.returns.enters;
                fact = subst (λ n. IsFact g n 0 x.entry) r.callee here;
              };
              is = ap (λ n. context n x.entry) r.callee;
            });
            has = r;
          })

  pub are_found : (a b c d e : List Edge) → a ≡ [] → IsExtended (IsStepped g x) a b → IsExtended (IsEntered g x) b c →
      IsReached (IsMetExit g x exits edges) (IsMet (IsReturned g x) exits edges) c d →
      IsReached (IsMetCaller g x callers edges) (IsMet (λ z. IsReturned g z x) callers edges) d e → AreSuccessors g edges at e
  are_found a b c d e start steps entries first second = are_all g edges at x h is a b c e start steps entries (returns_all c d e first second)
