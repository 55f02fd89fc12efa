-- Edges stand for walks.
use Rattle.std.proofs.Common.{◌≡◌, ℕ, inl, inr, ⊎_elim, refl, subst, sym}
use Rattle.client_facts.specs.Setting.{Setting, exit_of}
use Rattle.client_facts.specs.declared.fact.Fact.{Fact}
use Rattle.client_facts.specs.declared.fact.Fact.TheVariants.{Always}
use Rattle.client_walks.specs.Edges.{IsEdge, by_call, by_entry, by_return, by_step, edge, first}
use Rattle.client_walks.specs.Paths.{Entry, IsEntered, IsTrueAtEntry, inside, start}
use Rattle.client_walks.specs.Walks.{Follows, Walk, begin, call, step}
use Rattle.client_walks.specs.declared.edge.Edge.{Edge}
use Rattle.edge_laws.proofs.Walking.{always_along, none_given, none_is_choice, starts_fact}
use Rattle.edge_laws.specs.Laws.{EdgesAreWalks, FlagsAreEdges, StandsFor}

always_entered : (g : Setting) (p : ℕ) (into : Entry g p) → IsTrueAtEntry g p into Always
always_entered g p start = refl
always_entered g p (inside q n m k into w is) = (
  Always,
  Always,
  always_entered g q into,
  always_along g q n w,
  record { choice = none_given; is_choice = none_is_choice g q n; enters = tt; fact = tt },
)

-- how the procedure is entered with the fact
way_in : (g : Setting) (p : ℕ) (d : Fact) → IsEntered g p d → (into : Entry g p) × IsTrueAtEntry g p into d
way_in g p d entered =
    ⊎_elim
    (λ (a : (d ≡ Always) × Entry g p). (a.1, subst (IsTrueAtEntry g p a.1) (sym a.0) (always_entered g p a.1)))
    (λ (t : (into : Entry g p) × IsTrueAtEntry g p into d). t)
    entered

abbrev Stands : Setting → Edge → Type 0
Stands g x = StandsFor g x.procedure x.point x.entry x.fact

stands : (g : Setting) (x : Edge) → IsEdge g x → Stands g x
stands g x first = record { entered = inl (refl, start); walk = begin 0; follows = (refl, tt) }
stands g x (by_step p n m b d e f before is follows fact) =
    let s = stands g (edge p d n e) before in
    record { entered = s.entered; walk = step p n m b s.walk is; follows = (e, s.follows, follows, fact) }
stands g x (by_call p n m k d e before is) =
    let s = stands g (edge p d n e) before in
    record { entered = inl (refl, inside p n m k (way_in g p d s.entered).0 s.walk is); walk = begin k.callee; follows = (refl, tt) }
stands g x (by_entry p n m k d e f before is enters) =
    let s = stands g (edge p d n e) before in
    let way = way_in g p d s.entered in
    record {
      entered = inr (inside p n m k way.0 s.walk is, (d, e, way.1, s.follows, enters));
      walk = begin k.callee;
      follows = (refl, enters.fact);
    }
stands g x (by_return p n m k d e f o h before is other returns fact) =
    let s = stands g (edge p d n e) before in
    let t = stands g (edge k.callee f (exit_of g k.callee) o) other in
    record {
      entered = s.entered;
      walk = call p n m k s.walk is t.walk;
      follows = (
        e,
        s.follows,
        record {
          choice = returns.choice;
          is_choice = returns.is_choice;
          entry = f;
          exit = o;
          enters = returns.enters;
          follows = t.follows;
          returns = returns.returns;
        },
        fact,
      );
    }

-- what follows along a walk from the entry has an edge
along : (g : Setting) (p n : ℕ) (w : Walk g p n) (d e : Fact) → IsEdge g (edge p d 0 d) → Follows g p n w d e → IsEdge g (edge p d n e)
along g p n (begin q) d e has f = subst (λ e. IsEdge g (edge q d 0 e)) f.0 has
along g p n (step q l m b w is) d e has f = by_step q l m b d f.0 e (along g q l w d f.0 has f.1) is f.2 f.3
along g p n (call q l m k w is inner) d e has f =
    let over = f.2 in
    let before : IsEdge g (edge q d l f.0) = along g q l w d f.0 has f.1 in
    let fact = starts_fact g k.callee (exit_of g k.callee) inner over.entry over.exit over.follows in
    let entry : IsEdge g (edge k.callee over.entry 0 over.entry) =
    by_entry q l m k d f.0 over.entry before is (record { choice = over.choice; is_choice = over.is_choice; enters = over.enters; fact = fact }) in
    let exit : IsEdge g (edge k.callee over.entry (exit_of g k.callee) over.exit) =
    along g k.callee (exit_of g k.callee) inner over.entry over.exit entry over.follows in
    by_return q l m k d f.0 over.entry over.exit e before is exit
    (record { choice = over.choice; is_choice = over.is_choice; enters = over.enters; returns = over.returns }) f.3

entry_edge : (g : Setting) (p : ℕ) (into : Entry g p) (d : Fact) → IsTrueAtEntry g p into d → IsEdge g (edge p d 0 d)
entry_edge g p start d is = subst (λ d. IsEdge g (edge 0 d 0 d)) (sym is) first
entry_edge g p (inside q n m k into w is) d t = by_entry q n m k t.0 t.1 d (along g q n w t.0 t.1 (entry_edge g q into t.0 t.2) t.3) is t.4

pub edges_are_walks : EdgesAreWalks
edges_are_walks g p n d e = (
  λ is. stands g (edge p d n e) is,
  λ s. let way = way_in g p d s.entered in along g p n s.walk d e (entry_edge g p way.0 d way.1) s.follows,
)

pub flags_are_edges : FlagsAreEdges
flags_are_edges g number clause = (
  λ t. let follows = t.true_along in record {
    procedure = t.procedure;
    point = t.point;
    at = t.at;
    entry = follows.0;
    fact = t.fact;
    is_edge = along g t.procedure t.point t.path.walk follows.0 t.fact (entry_edge g t.procedure t.path.entry follows.0 follows.1) follows.2;
    of_clause = t.of_clause;
  },
  λ h. let s = stands g (edge h.procedure h.entry h.point h.fact) h.is_edge in
      let way = way_in g h.procedure h.entry s.entered in record {
        procedure = h.procedure;
        point = h.point;
        at = h.at;
        path = record { entry = way.0; walk = s.walk };
        fact = h.fact;
        of_clause = h.of_clause;
        true_along = (h.entry, way.1, s.follows);
      },
)
