-- How far the edges are found.
use Rattle.std.proofs.Common.{◌≡◌, ◌≢◌, ℕ, zero, suc, ◌+◌, ◌-◌, ◌<◌, ◌≤◌, ◌⊎◌, ◌↔◌, inl, inr, ⊎_elim, List, [], ◌∷◌, ◌++◌, length, take, get_or, All, AllPairs, Contains, Some, slice_get, arith, refl, sym, ap, subst, ◌∙◌, length-append, take_all, get_or-append-add}
use Rattle.std.proofs.Math.ListN.{get_or-append}
use Rattle.std.proofs.lemmas.List.{take-append-le}
use Rattle.std.proofs.lemmas.List.Elements.{Contains-append_left}
use Rattle.std.proofs.lemmas.Option.{get_or_from_slice_get, slice_get-get_or, slice_get_within}
use Rattle.client_facts.proofs.Inserted.{single}
use Rattle.client_facts.specs.Setting.{Setting}
use Rattle.client_walks.specs.Edges as rules
use Rattle.client_walks.specs.Edges.{IsClosedList, IsEdge, IsGivenBy, IsLeastList, first_edge}
use Rattle.client_walks.specs.Same.{same_edge}
use Rattle.client_walks.specs.declared.edge.Edge.{Edge}
use Rattle.cv_fix.proofs.Inserted.{Contains-insert_all, cases-insert_all, news}
use Rattle.indexmap.specs.IndexSet.{insert_all}
use Rattle.tabulation.proofs.Contained.{among_all, among_more, among_none}
use Rattle.tabulation.proofs.Gives.{edge_given, given_more, has_edge, none_given}
use Rattle.tabulation.proofs.Inserted.{equals, itself}
use Rattle.tabulation.proofs.Noted.{noted_grown}
use Rattle.tabulation.specs.Indexed.{AreNoted}
use Rattle.tabulation.specs.Tables.{PlaceLists}
use Rattle.tabulation.specs.declared.table.Context.{Context}
use Rattle.tabulation.specs.Orders.{IsInOrder}
use Rattle.tabulation.specs.SoFar.{IsSoFar}
use Rattle.tabulation.specs.Successors.{AreSuccessors}

split : (j n : ℕ) → (j < n) ⊎ (n ≤ j)
split zero zero = inr (omega arith)
split zero (suc n) = inl (omega arith)
split (suc j) zero = inr (omega arith)
split (suc j) (suc n) = ⊎_elim (λ a. inl (omega (arith, a))) (λ b. inr (omega (arith, b))) (split j n)

-- one edge is different from all others of its list
pub alone : (x : Edge) → AllPairs (λ y z. y ≢ z) (x ∷ [])
alone x i j d below within = absurd (omega (arith, below, within))

at_start : (g : Setting) → IsSoFar g (first_edge ∷ []) 0
at_start g = record {
  within = omega arith;
  sound = λ x has. subst (IsEdge g) (sym (single first_edge x has)) rules.first;
  order = record {
    first = refl;
    later = λ j x h is. let below : j < 1 = slice_get_within (first_edge ∷ []) j x is in absurd (omega (arith, h, below));
  };
  closed = λ x given. absurd (none_given g (Contains (take 0 (first_edge ∷ []))) (among_none (first_edge ∷ [])) x given);
}

pub begun : (g : Setting) (edges : List Edge) → edges ≡ first_edge ∷ [] → IsSoFar g edges 0
begun g edges is = subst (λ l. IsSoFar g l 0) (sym is) (at_start g)

module _ (g : Setting) (edges found : List Edge) (at : ℕ) (h : at < length edges) (so : IsSoFar g edges at) (answer : AreSuccessors g edges at found) where
  module _ (more new : List Edge) (is : new ≡ edges ++ more) (given : All (Contains found) more) where
    longer : length edges ≤ length new
    longer = omega (arith, ap length is, length-append edges more)

    front : (n : ℕ) → n ≤ length edges → take n new ≡ take n edges
    front n within = ap (take n) is ∙ take-append-le n edges more within

    -- an element before the end of the old ones
    early : (j : ℕ) (x : Edge) → j < length edges → slice_get new j ≡ Some x → slice_get edges j ≡ Some x
    early j x below there =
        slice_get-get_or edges j x below
        ∙ ap Some (sym (get_or-append edges more x j below) ∙ ap (λ l. get_or l j x) (sym is) ∙ get_or_from_slice_get new j x x there)

    -- a later one was found
    late : (j : ℕ) (x : Edge) → length edges ≤ j → slice_get new j ≡ Some x → Contains found x
    late j x above there =
        let k : ℕ = j - length edges in
        let within : j < length new = slice_get_within new j x there in
        let sum : length edges + k ≡ j = omega (arith, above) in
        let below : k < length more = omega (arith, within, sum, ap length is, length-append edges more) in
        let last : get_or more k x ≡ x =
        sym (get_or-append-add edges more k x) ∙ ap (get_or (edges ++ more) (length edges + k)) refl ∙ ap (λ n. get_or (edges ++ more) n x) sum
        ∙ ap (λ l. get_or l j x) (sym is) ∙ get_or_from_slice_get new j x x there
        in
        subst (Contains found) last (given k x below)

    later : (j : ℕ) (x : Edge) → 0 < j → slice_get new j ≡ Some x → IsGivenBy g (Contains (take j new)) x
    later j x behind there = ⊎_elim before after (split j (length edges))
      where
        before : j < length edges → IsGivenBy g (Contains (take j new)) x
        before below =
            subst (λ l. IsGivenBy g (Contains l) x) (sym (front j (omega (arith, below)))) (so.order.later j x behind (early j x below there))

        after : length edges ≤ j → IsGivenBy g (Contains (take j new)) x
        after above =
            let within : j < length new = slice_get_within new j x there in
            given_more g (Contains (take (at + 1) edges)) (Contains (take j new))
            (λ z has. among_more new (at + 1) j z (omega (arith, h, above)) (omega (arith, within))
            (subst (λ l. Contains l z) (sym (front (at + 1) (omega (arith, h)))) has))
            x (answer.sound x (late j x above there))

    order : IsInOrder g new
    order = record {
      first =
          let below : 0 < length edges = omega (arith, h) in
          slice_get-get_or new 0 first_edge (omega (arith, longer, below))
          ∙ ap Some (ap (λ l. get_or l 0 first_edge) is ∙ get_or-append edges more first_edge 0 below ∙ get_or_from_slice_get edges 0 first_edge first_edge so.order.first);
      later = later;
    }

  grown : (new : List Edge) → new ≡ insert_all equals edges found → length edges ≤ length new
  grown new is = let w = news equals itself edges found in longer w.more new (is ∙ w.whole) w.given

  pub so_far : (new : List Edge) → new ≡ insert_all equals edges found → IsSoFar g new (at + 1)
  so_far new is =
      let w = news equals itself edges found in
      let whole : new ≡ edges ++ w.more = is ∙ w.whole in
      record {
        within = omega (arith, h, longer w.more new whole w.given);
        sound = λ x has. ⊎_elim (λ old. so.sound x old) (λ fresh. edge x fresh)
            (cases-insert_all equals itself same_edge edges found x (subst (λ l. Contains l x) is has));
        order = order w.more new whole w.given;
        closed = λ x given. ⊎_elim (λ old. kept w.more whole x (so.closed x old)) (λ fresh. put x fresh)
            (answer.complete x (subst (λ l. IsGivenBy g (Contains l) x) (front w.more new whole w.given (at + 1) (omega (arith, h))) given));
      }
    where
      edge : (x : Edge) → Contains found x → IsEdge g x
      edge x fresh =
          edge_given g (Contains (take (at + 1) edges)) (λ z has. so.sound z (among_all edges (at + 1) z has)) x (answer.sound x fresh)

      kept : (more : List Edge) → new ≡ edges ++ more → (x : Edge) → Contains edges x → Contains new x
      kept more whole x has = subst (λ l. Contains l x) (sym whole) (Contains-append_left edges more x has)

      put : (x : Edge) → Contains found x → Contains new x
      put x fresh = subst (λ l. Contains l x) (sym is) (Contains-insert_all equals itself same_edge edges found x fresh)

  pub as_many : (new : List Edge) → new ≡ insert_all equals edges found → length edges ≤ length new
  as_many new is = grown new is

  pub noted : (R : Edge → Context → Type 0) (new : List Edge) → new ≡ insert_all equals edges found → (t : PlaceLists) → AreNoted R edges (at + 1) t →
      AreNoted R new (at + 1) t
  noted R new is t a =
      let w = news equals itself edges found in
      noted_grown R edges new (at + 1) t (λ j x below there. early w.more new (is ∙ w.whole) w.given j x (omega (arith, below, h)) there) a

-- where all edges were asked
module _ (g : Setting) (edges : List Edge) (at : ℕ) (so : IsSoFar g edges at) (all : length edges ≤ at) where
  closed : IsClosedList g edges
  closed = record {
    holds_first = (0, slice_get_within edges 0 first_edge so.order.first, get_or_from_slice_get edges 0 first_edge first_edge so.order.first);
    closed = λ x given. so.closed x (subst (λ l. IsGivenBy g (Contains l) x) (sym (take_all at edges all)) given);
  }

  pub exact : (x : Edge) → Contains edges x ↔ IsEdge g x
  exact x = (so.sound x, has_edge g edges closed x)

  pub is_least : IsLeastList g edges
  is_least = record { closed = closed; least = λ other c x has. has_edge g other c x (so.sound x has) }
