-- What follows from one edge, and from a call and an exit.
use Rattle.std.proofs.Common.{◌≡◌, ℕ, Bool, true, false, ◌⊎◌, inl, inr, List, [], ◌∷◌, ◌++◌, Contains, refl, sym, subst, ap, ◌∙◌}
use Rattle.client_facts.specs.Facts.{IsFact}
use Rattle.client_facts.specs.Over.{EntersAt, IsAfter, IsEnteredFrom, IsReturnedFrom, ReturnsAt}
use Rattle.client_facts.specs.Setting.{IsStep, Setting, exit_of}
use Rattle.client_facts.specs.declared.fact.Fact.{Fact}
use Rattle.client_facts.specs.declared.fact.Fact.TheVariants.{Always}
use Rattle.client_walks.specs.Edges.{edge}
use Rattle.client_walks.specs.declared.edge.Edge.{Edge}
use Rattle.tabulation.proofs.Extended.{both, nothing, pushed, same}
use Rattle.tabulation.proofs.Ways.{one_behind, one_call, one_step}
use Rattle.tabulation.specs.Extended.{IsExtended, IsOfOne}
use Rattle.tabulation.specs.Successors.{IsCallTo, IsEntered, IsEntry, IsNext, IsReturned, IsStepped, IsTo}

-- the edge with one fact
pub to_one : (g : Setting) (x : Edge) (m : ℕ) (f : Fact) (a c : List Edge) → IsFact g x.procedure m f → c ≡ a ++ edge x.procedure x.entry m f ∷ [] →
    IsExtended (IsTo g x m f) a c
to_one g x m f a c fact is =
    same (λ y. y ≡ edge x.procedure x.entry m f) (IsTo g x m f) a c (pushed a c (edge x.procedure x.entry m f) is)
    (λ y e. record { fact = fact; is = e }) (λ y t. t.is)

pub to_none : (g : Setting) (x : Edge) (m : ℕ) (f : Fact) (a : List Edge) (r : Bool) → (IsFact g x.procedure m f → r ≡ true) → r ≡ false →
    IsExtended (IsTo g x m f) a a
to_none g x m f a r only not = nothing (IsTo g x m f) a (λ y t. let clash : true ≡ false = sym (only t.fact) ∙ not in cc)

-- the edge of an entry fact
pub entry_one : (c : ℕ) (f : Fact) (a b : List Edge) → b ≡ a ++ edge c f 0 f ∷ [] → IsExtended (IsEntry c f) a b
entry_one c f a b is = pushed a b (edge c f 0 f) is

-- over a step with an outcome
pub next : (g : Setting) (x : Edge) (b : Bool) (m : ℕ) (facts : List Fact) (a c : List Edge) → ((f : Fact) →
    (Contains facts f → IsAfter g x.procedure x.point x.fact f) × (IsAfter g x.procedure x.point x.fact f → Contains facts f)) →
    IsStep g x.procedure x.point b m → IsExtended (IsOfOne (IsTo g x m) facts) a c → IsExtended (IsNext g x b) a c
next g x b m facts a c after step e = same (IsOfOne (IsTo g x m) facts) (IsNext g x b) a c e to from
  where
    to : (y : Edge) → IsOfOne (IsTo g x m) facts y → IsNext g x b y
    to y of = record { point = m; step = step; fact = of.item; follows = ((after of.item).0 of.among).3; to = of.has }

    from : (y : Edge) → IsNext g x b y → IsOfOne (IsTo g x m) facts y
    from y n = record {
      item = n.fact;
      among = (after n.fact).1 (b, n.point, n.step, n.follows, n.to.fact);
      has = subst (λ k. IsTo g x k n.fact y) (one_step g x.procedure x.point b n.point m n.step step) n.to;
    }

pub no_next : (g : Setting) (x : Edge) (b : Bool) (a : List Edge) → ((m : ℕ) → IsStep g x.procedure x.point b m → ⊥) → IsExtended (IsNext g x b) a a
no_next g x b a never = nothing (IsNext g x b) a (λ y n. never n.point n.step)

-- over both outcomes
pub stepped : (g : Setting) (x : Edge) (a b c : List Edge) → IsExtended (IsNext g x true) a b → IsExtended (IsNext g x false) b c →
    IsExtended (IsStepped g x) a c
stepped g x a b c first never = same (λ y. IsNext g x true y ⊎ IsNext g x false y) (IsStepped g x) a c
    (both (IsNext g x true) (IsNext g x false) a b c first never) to from
  where
    to : (y : Edge) → IsNext g x true y ⊎ IsNext g x false y → IsStepped g x y
    to y (inl n) = record { outcome = true; next = n }
    to y (inr n) = record { outcome = false; next = n }

    by : (y : Edge) (outcome : Bool) → IsNext g x outcome y → IsNext g x true y ⊎ IsNext g x false y
    by y true n = inl n
    by y false n = inr n

    from : (y : Edge) → IsStepped g x y → IsNext g x true y ⊎ IsNext g x false y
    from y s = by y s.outcome s.next

-- at the entry of what is called
pub entered : (g : Setting) (x : Edge) (c m : ℕ) (facts : List Fact) (a b d : List Edge) → IsCallTo g x.procedure x.point c m → ((f : Fact) →
    (Contains facts f → IsEnteredFrom g x.procedure x.point x.fact f) × (IsEnteredFrom g x.procedure x.point x.fact f → Contains facts f)) →
    IsExtended (IsEntry c Always) a b → IsExtended (IsOfOne (IsEntry c) facts) b d → IsExtended (IsEntered g x) a d
entered g x c m facts a b d k from_here always others =
    same (λ y. IsEntry c Always y ⊎ IsOfOne (IsEntry c) facts y) (IsEntered g x) a d
    (both (IsEntry c Always) (IsOfOne (IsEntry c) facts) a b d always others) to from
  where
    to : (y : Edge) → IsEntry c Always y ⊎ IsOfOne (IsEntry c) facts y → IsEntered g x y
    to y (inl is) = record {
      call = k.call;
      behind = m;
      there = k.there;
      fact = Always;
      enters = inl refl;
      is = subst (λ n. IsEntry n Always y) (sym k.callee) is;
    }
    to y (inr of) =
        let e = (from_here of.item).0 of.among in
        record {
          call = k.call;
          behind = m;
          there = k.there;
          fact = of.item;
          enters = inr (subst (λ l. EntersAt g x.procedure x.point l x.fact of.item) (one_call g x.procedure x.point e.0 k.call e.1 m e.2 k.there) e.3);
          is = subst (λ n. IsEntry n of.item y) (sym k.callee) of.has;
        }

    from : (y : Edge) → IsEntered g x y → IsEntry c Always y ⊎ IsOfOne (IsEntry c) facts y
    from y e = by e.enters
      where
        callee : e.call.callee ≡ c
        callee = ap (λ l. l.callee) (one_call g x.procedure x.point e.call k.call e.behind m e.there k.there) ∙ k.callee

        is : IsEntry c e.fact y
        is = subst (λ n. IsEntry n e.fact y) callee e.is

        by : (e.fact ≡ Always) ⊎ EntersAt g x.procedure x.point e.call x.fact e.fact → IsEntry c Always y ⊎ IsOfOne (IsEntry c) facts y
        by (inl same_fact) = inl (subst (λ f. IsEntry c f y) same_fact is)
        by (inr enters) = inr (record { item = e.fact; among = (from_here e.fact).1 (e.call, e.behind, e.there, enters); has = is })

pub not_entered : (g : Setting) (x : Edge) (a : List Edge) → ((c m : ℕ) → IsCallTo g x.procedure x.point c m → ⊥) → IsExtended (IsEntered g x) a a
not_entered g x a never =
    nothing (IsEntered g x) a (λ y e. never e.call.callee e.behind (record { call = e.call; there = e.there; callee = refl }))

-- behind the call
pub behind : (g : Setting) (x z : Edge) (m : ℕ) (facts : List Fact) (a b : List Edge) → IsCallTo g x.procedure x.point z.procedure m →
    z.point ≡ exit_of g z.procedure → ((f : Fact) →
    (Contains facts f → IsReturnedFrom g x.procedure x.point x.fact z.entry z.fact f)
    × (IsReturnedFrom g x.procedure x.point x.fact z.entry z.fact f → Contains facts f)) →
    IsExtended (IsOfOne (IsTo g x m) facts) a b → IsExtended (IsReturned g x z) a b
behind g x z m facts a b k exit back e = same (IsOfOne (IsTo g x m) facts) (IsReturned g x z) a b e to from
  where
    to : (y : Edge) → IsOfOne (IsTo g x m) facts y → IsReturned g x z y
    to y of =
        let r = (back of.item).0 of.among in
        record {
          call = k.call;
          behind = m;
          there = k.there;
          callee = sym k.callee;
          exit = exit ∙ ap (exit_of g) (sym k.callee);
          fact = of.item;
          returns =
              subst (λ l. ReturnsAt g x.procedure x.point l x.fact z.entry z.fact of.item)
              (one_call g x.procedure x.point r.0 k.call r.1 m r.2 k.there) r.3;
          to = of.has;
        }

    from : (y : Edge) → IsReturned g x z y → IsOfOne (IsTo g x m) facts y
    from y r = record {
      item = r.fact;
      among = (back r.fact).1 (r.call, r.behind, r.there, r.returns, r.to.fact);
      has = subst (λ n. IsTo g x n r.fact y) (one_behind g x.procedure x.point r.call k.call r.behind m r.there k.there) r.to;
    }

pub not_called : (g : Setting) (x z : Edge) (a : List Edge) → ((c m : ℕ) → IsCallTo g x.procedure x.point c m → ⊥) → IsExtended (IsReturned g x z) a a
not_called g x z a never =
    nothing (IsReturned g x z) a (λ y r. never r.call.callee r.behind (record { call = r.call; there = r.there; callee = refl }))

module _ (g : Setting) (x z : Edge) (c m : ℕ) (k : IsCallTo g x.procedure x.point c m) where
  callee_of : (y : Edge) → (r : IsReturned g x z y) → r.call.callee ≡ c
  callee_of y r = ap (λ l. l.callee) (one_call g x.procedure x.point r.call k.call r.behind m r.there k.there) ∙ k.callee

  -- from another procedure
  pub other_procedure : (a : List Edge) → (z.procedure ≡ c → ⊥) → IsExtended (IsReturned g x z) a a
  other_procedure a never = nothing (IsReturned g x z) a (λ y r. never (r.callee ∙ callee_of y r))

  -- from a point that is not the exit
  pub other_point : (a : List Edge) → (z.point ≡ exit_of g c → ⊥) → IsExtended (IsReturned g x z) a a
  other_point a never = nothing (IsReturned g x z) a (λ y r. never (r.exit ∙ ap (exit_of g) (callee_of y r)))
