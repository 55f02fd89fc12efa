-- What an edge gives with those before it.
use Rattle.std.proofs.Common.{◌≡◌, ℕ, ◌+◌, ◌<◌, ◌⊎◌, inl, inr, ⊎_elim, List, [], length, take, get_or, Contains, arith, refl, sym, subst}
use Rattle.client_facts.specs.Facts.{IsFact}
use Rattle.client_facts.specs.Setting.{Setting, exit_of}
use Rattle.client_facts.specs.declared.fact.Fact.TheVariants.{Always}
use Rattle.client_walks.specs.Edges as rules
use Rattle.client_walks.specs.Edges.{IsEdge, IsGivenBy, edge}
use Rattle.client_walks.specs.declared.edge.Edge.{Edge}
use Rattle.tabulation.proofs.Contained.{among_cases, among_last}
use Rattle.tabulation.proofs.Gives.{fact_of, gives_entry, gives_return, gives_step}
use Rattle.tabulation.specs.Extended.{IsExtended, IsOfOne}
use Rattle.tabulation.specs.Successors.{AreSuccessors, IsEntered, IsReturned, IsReturnedBy, IsStepped}

pub fact_there : (g : Setting) (edges : List Edge) (at : ℕ) (x : Edge) → ((z : Edge) → Contains edges z → IsEdge g z) → at < length edges →
    x ≡ get_or edges at x → IsFact g x.procedure x.point x.fact
fact_there g edges at x sound h is = fact_of g x (sound x (at, h, sym is))

module _ (g : Setting) (edges : List Edge) (at : ℕ) (x : Edge) (h : at < length edges) (is : x ≡ get_or edges at x) (a b c d : List Edge) (start : a ≡ [])
    (steps : IsExtended (IsStepped g x) a b) (entries : IsExtended (IsEntered g x) b c)
    (returns : IsExtended (IsOfOne (IsReturnedBy g x) (take (at + 1) edges)) c d) where
  abbrev known : Edge → Type 0
  known = Contains (take (at + 1) edges)

  here : known x
  here = among_last edges at x h is

  sound : (y : Edge) → Contains d y → IsGivenBy g known y
  sound y has = ⊎_elim (λ in_c. ⊎_elim (λ in_b. ⊎_elim (λ in_a. none in_a) (λ s. gives_step g known x y here s) (steps.only y in_b)) (λ e. gives_entry g known x y here e) (entries.only y in_c)) back (returns.only y has)
    where
      none : Contains a y → IsGivenBy g known y
      none has_none = let in_none : Contains [] y = subst (λ l. Contains l y) start has_none in absurd (omega (arith, in_none.1))

      back : IsOfOne (IsReturnedBy g x) (take (at + 1) edges) y → IsGivenBy g known y
      back of =
          ⊎_elim (λ r. gives_return g known x of.item y here of.among r) (λ r. gives_return g known of.item x y of.among here r) of.has

  in_steps : (y : Edge) → IsStepped g x y → Contains d y
  in_steps y s = returns.kept y (entries.kept y (steps.added y s))

  in_entries : (y : Edge) → IsEntered g x y → Contains d y
  in_entries y e = returns.kept y (entries.added y e)

  in_returns : (z y : Edge) → known z → IsReturnedBy g x z y → Contains d y
  in_returns z y there r = returns.added y (record { item = z; among = there; has = r })

  cases : (z : Edge) → known z → Contains (take at edges) z ⊎ (z ≡ x)
  cases = among_cases edges at x h is

  complete : (y : Edge) → IsGivenBy g known y → IsGivenBy g (Contains (take at edges)) y ⊎ Contains d y
  complete y (rules.steps p n m b' d' e f before step follows fact) =
      ⊎_elim (λ old. inl (rules.steps p n m b' d' e f old step follows fact)) (λ this. inr (in_steps (edge p d' m f) (subst (λ z. IsStepped g z (edge p d' m f)) this stepped)))
      (cases (edge p d' n e) before)
    where
      stepped : IsStepped g (edge p d' n e) (edge p d' m f)
      stepped = record { outcome = b'; next = record { point = m; step = step; fact = f; follows = follows; to = record { fact = fact; is = refl } } }
  complete y (rules.calls p n m k d' e before there) =
      ⊎_elim (λ old. inl (rules.calls p n m k d' e old there))
      (λ this. inr (in_entries (edge k.callee Always 0 Always) (subst (λ z. IsEntered g z (edge k.callee Always 0 Always)) this entered)))
      (cases (edge p d' n e) before)
    where
      entered : IsEntered g (edge p d' n e) (edge k.callee Always 0 Always)
      entered = record { call = k; behind = m; there = there; fact = Always; enters = inl refl; is = refl }
  complete y (rules.enters p n m k d' e f before there enters) =
      ⊎_elim (λ old. inl (rules.enters p n m k d' e f old there enters))
      (λ this. inr (in_entries (edge k.callee f 0 f) (subst (λ z. IsEntered g z (edge k.callee f 0 f)) this entered)))
      (cases (edge p d' n e) before)
    where
      entered : IsEntered g (edge p d' n e) (edge k.callee f 0 f)
      entered = record { call = k; behind = m; there = there; fact = f; enters = inr enters; is = refl }
  complete y (rules.returns p n m k d' e f o r before there exit returns_at fact) =
      ⊎_elim (λ old. ⊎_elim (λ early. inl (rules.returns p n m k d' e f o r old there early returns_at fact)) (λ this. inr (from_exit this)) (cases (edge k.callee f (exit_of g k.callee) o) exit))
      (λ this. inr (from_call this))
      (cases (edge p d' n e) before)
    where
      returned : IsReturned g (edge p d' n e) (edge k.callee f (exit_of g k.callee) o) (edge p d' m r)
      returned = record { call = k; behind = m; there = there; callee = refl; exit = refl; fact = r; returns = returns_at; to = record { fact = fact; is = refl } }

      from_exit : edge k.callee f (exit_of g k.callee) o ≡ x → Contains d (edge p d' m r)
      from_exit this = in_returns (edge p d' n e) (edge p d' m r) before (inr (subst (λ z. IsReturned g (edge p d' n e) z (edge p d' m r)) this returned))

      from_call : edge p d' n e ≡ x → Contains d (edge p d' m r)
      from_call this =
          in_returns (edge k.callee f (exit_of g k.callee) o) (edge p d' m r) exit
          (inl (subst (λ z. IsReturned g z (edge k.callee f (exit_of g k.callee) o) (edge p d' m r)) this returned))

  pub are_all : AreSuccessors g edges at d
  are_all = record { sound = sound; complete = complete }
