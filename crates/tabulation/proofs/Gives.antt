-- What rules give from edges.
use Rattle.std.proofs.Common.{◌≡◌, ◌⊎◌, inl, inr, List, Contains, sym, subst, ap, ◌∙◌}
use Rattle.client_facts.specs.Facts.{IsFact}
use Rattle.client_facts.specs.Over.{EntersAt}
use Rattle.client_facts.specs.Setting.{Setting, exit_of}
use Rattle.client_facts.specs.declared.fact.Fact.TheVariants.{Always}
use Rattle.client_walks.specs.Edges as rules
use Rattle.client_walks.specs.Edges.{IsClosedList, IsEdge, IsGivenBy, edge}
use Rattle.client_walks.specs.declared.edge.Edge.{Edge}
use Rattle.tabulation.specs.Successors.{IsEntered, IsReturned, IsStepped}

-- the fact of an edge is one of its point
pub fact_of : (g : Setting) (x : Edge) → IsEdge g x → IsFact g x.procedure x.point x.fact
fact_of g x rules.first = tt
fact_of g x (rules.by_step p n m b d e f before is follows fact) = fact
fact_of g x (rules.by_call p n m k d e before is) = tt
fact_of g x (rules.by_entry p n m k d e f before is enters) = enters.fact
fact_of g x (rules.by_return p n m k d e f o h before is exit returns fact) = fact

-- and its entry fact is one of the entry
pub entry_of : (g : Setting) (x : Edge) → IsEdge g x → IsFact g x.procedure 0 x.entry
entry_of g x rules.first = tt
entry_of g x (rules.by_step p n m b d e f before is follows fact) = entry_of g (edge p d n e) before
entry_of g x (rules.by_call p n m k d e before is) = tt
entry_of g x (rules.by_entry p n m k d e f before is enters) = enters.fact
entry_of g x (rules.by_return p n m k d e f o h before is exit returns fact) = entry_of g (edge p d n e) before

-- edges give edges
pub edge_given : (g : Setting) (S : Edge → Type 0) → ((z : Edge) → S z → IsEdge g z) → (x : Edge) → IsGivenBy g S x → IsEdge g x
edge_given g S all x (rules.steps p n m b d e f before is follows fact) = rules.by_step p n m b d e f (all (edge p d n e) before) is follows fact
edge_given g S all x (rules.calls p n m k d e before is) = rules.by_call p n m k d e (all (edge p d n e) before) is
edge_given g S all x (rules.enters p n m k d e f before is enters) = rules.by_entry p n m k d e f (all (edge p d n e) before) is enters
edge_given g S all x (rules.returns p n m k d e f o h before is exit returns fact) =
    rules.by_return p n m k d e f o h (all (edge p d n e) before) is (all (edge k.callee f (exit_of g k.callee) o) exit) returns fact

-- more edges give more
pub given_more : (g : Setting) (S T : Edge → Type 0) → ((z : Edge) → S z → T z) → (x : Edge) → IsGivenBy g S x → IsGivenBy g T x
given_more g S T all x (rules.steps p n m b d e f before is follows fact) = rules.steps p n m b d e f (all (edge p d n e) before) is follows fact
given_more g S T all x (rules.calls p n m k d e before is) = rules.calls p n m k d e (all (edge p d n e) before) is
given_more g S T all x (rules.enters p n m k d e f before is enters) = rules.enters p n m k d e f (all (edge p d n e) before) is enters
given_more g S T all x (rules.returns p n m k d e f o h before is exit returns fact) =
    rules.returns p n m k d e f o h (all (edge p d n e) before) is (all (edge k.callee f (exit_of g k.callee) o) exit) returns fact

-- no edges give nothing
pub none_given : (g : Setting) (S : Edge → Type 0) → ((z : Edge) → S z → ⊥) → (x : Edge) → IsGivenBy g S x → ⊥
none_given g S never x (rules.steps p n m b d e f before is follows fact) = never (edge p d n e) before
none_given g S never x (rules.calls p n m k d e before is) = never (edge p d n e) before
none_given g S never x (rules.enters p n m k d e f before is enters) = never (edge p d n e) before
none_given g S never x (rules.returns p n m k d e f o h before is exit returns fact) = never (edge p d n e) before

-- a closed list has each edge
pub has_edge : (g : Setting) (edges : List Edge) → IsClosedList g edges → (x : Edge) → IsEdge g x → Contains edges x
has_edge g edges c x rules.first = c.holds_first
has_edge g edges c x (rules.by_step p n m b d e f before is follows fact) =
    c.closed (edge p d m f) (rules.steps p n m b d e f (has_edge g edges c (edge p d n e) before) is follows fact)
has_edge g edges c x (rules.by_call p n m k d e before is) =
    c.closed (edge k.callee Always 0 Always) (rules.calls p n m k d e (has_edge g edges c (edge p d n e) before) is)
has_edge g edges c x (rules.by_entry p n m k d e f before is enters) =
    c.closed (edge k.callee f 0 f) (rules.enters p n m k d e f (has_edge g edges c (edge p d n e) before) is enters)
has_edge g edges c x (rules.by_return p n m k d e f o h before is exit returns fact) =
    c.closed (edge p d m h)
    (rules.returns p n m k d e f o h (has_edge g edges c (edge p d n e) before) is
    (has_edge g edges c (edge k.callee f (exit_of g k.callee) o) exit) returns fact)

module _ (g : Setting) (S : Edge → Type 0) where
  pub gives_step : (x y : Edge) → S x → IsStepped g x y → IsGivenBy g S y
  gives_step x y here s =
      let n = s.next in
      subst (IsGivenBy g S) (sym n.to.is) (rules.steps x.procedure x.point n.point s.outcome x.entry x.fact n.fact here n.step n.follows n.to.fact)

  pub gives_entry : (x y : Edge) → S x → IsEntered g x y → IsGivenBy g S y
  gives_entry x y here e = by e.enters
    where
      by : (e.fact ≡ Always) ⊎ EntersAt g x.procedure x.point e.call x.fact e.fact → IsGivenBy g S y
      by (inl always) =
          subst (IsGivenBy g S) (sym (e.is ∙ ap (λ f. edge e.call.callee f 0 f) always))
          (rules.calls x.procedure x.point e.behind e.call x.entry x.fact here e.there)
      by (inr enters) =
          subst (IsGivenBy g S) (sym e.is) (rules.enters x.procedure x.point e.behind e.call x.entry x.fact e.fact here e.there enters)

  pub gives_return : (x z y : Edge) → S x → S z → IsReturned g x z y → IsGivenBy g S y
  gives_return x z y here there r =
      let exit : z ≡ edge r.call.callee z.entry (exit_of g r.call.callee) z.fact =
      λ i. record { procedure = r.callee i; entry = z.entry; point = r.exit i; fact = z.fact }
      in
      subst (IsGivenBy g S) (sym r.to.is)
      (rules.returns x.procedure x.point r.behind r.call x.entry x.fact z.entry z.fact r.fact here r.there (subst S exit there) r.returns r.to.fact)
