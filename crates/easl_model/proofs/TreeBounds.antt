-- What a tree within the limits keeps of them.
use Rattle.std.proofs.Common.{inl, inr, ◌≡◌, ℕ, zero, suc, ◌*◌, ◌≤◌, List, [], ◌∷◌, ◌++◌, drop, length, map, arith, refl, ap, subst, length-append}
use Rattle.std.specs.List.{flat_map}
use Rattle.std.specs.Prelude.{Option, Some, None, option_to_list, slice_get}
use Rattle.std.proofs.lemmas.List.{length-drop, length-map}
use Rattle.easl_model.specs.{Body, beyond, block_of, bodies_from, bodies_in, codes_in, conditionals_in, constructor_body, constructor_in}
use Rattle.easl_model.specs.{constructor_or_implicit, excess_in, excess_of_class, excess_of_clause, excess_of_code, excess_of_value, fields_in, method_body}
use Rattle.easl_model.specs.{methods_in, statements_in}
use Rattle.easl_model.specs.declared.fault.Excess.{Excess}
use Rattle.easl_model.specs.declared.fault.Which.{Which}
use Rattle.easl_model.specs.declared.fault.Which.TheVariants as which
use Rattle.easl_model.specs.declared.place.Place.{Place}
use Rattle.easl_model.specs.declared.tree.Class.{Class}
use Rattle.easl_model.specs.declared.tree.Code.{Code}
use Rattle.easl_model.specs.declared.tree.Member.{Member}
use Rattle.easl_model.specs.declared.tree.Member.TheVariants as member
use Rattle.easl_model.specs.declared.tree.Return.{Return}
use Rattle.easl_model.proofs.Constructors.{at_of_both, map_at}
use Rattle.easl_model.proofs.None.{none_at, none_of_both, none_of_three}

-- where nothing is beyond the limit, there are no more than it
pub none_beyond : (limit : ℕ) (w : Which) (places : List Place) → beyond limit w places ≡ [] → length places ≤ limit
none_beyond limit w places none =
    omega (arith, length-drop limit places, length-map (drop limit places) (λ (p : Place). let x : Excess = record { which = w; place = p } in x), ap length none)

-- the limits of a body that later laws need
pub record KeepsLimits (code : Code) : Type 0 where
  pub params : length code.params ≤ 4
  pub clauses : length code.clauses ≤ 16
  pub statements : length (statements_in (block_of code.body)) ≤ 64

pub code_bounds : (code : Code) → excess_of_code code ≡ [] → KeepsLimits code
code_bounds code none =
    let body = block_of code.body in
    let returns = option_to_list code.value in
    let params = beyond 4 which.Parameters (map (λ p. p.place) code.params) in
    let clauses = beyond 16 which.Clauses (map (λ c. c.place) code.clauses) in
    let inside = flat_map excess_of_clause code.clauses in
    let written = beyond 64 which.Statements (statements_in body ++ map (λ r. r.place) returns) in
    let asked = beyond 8 which.Conditionals (conditionals_in body) in
    let paths = excess_in body in
    let last = flat_map (λ (r : Return). excess_of_value r.value) returns in
    let a = none_of_both (params ++ clauses ++ inside ++ written ++ asked ++ paths) last none in
    let b = none_of_both (params ++ clauses ++ inside ++ written ++ asked) paths a.0 in
    let c = none_of_both (params ++ clauses ++ inside ++ written) asked b.0 in
    let d = none_of_both (params ++ clauses ++ inside) written c.0 in
    let e = none_of_three params clauses inside d.0 in
    record {
      params = omega (arith, none_beyond 4 which.Parameters (map (λ p. p.place) code.params) e.0, length-map code.params (λ p. p.place));
      clauses = omega (arith, none_beyond 16 which.Clauses (map (λ c. c.place) code.clauses) e.1, length-map code.clauses (λ c. c.place));
      statements = omega (arith, none_beyond 64 which.Statements (statements_in body ++ map (λ r. r.place) returns) d.1, length-append (statements_in body) (map (λ r. r.place) returns));
    }

-- the limits of a class
pub record ClassBounds (c : Class) : Type 0 where
  pub fields : length (fields_in c.members) ≤ 16
  pub methods : length (methods_in c.members) ≤ 64
  pub bodies : flat_map excess_of_code (codes_in c.members) ≡ []

pub class_bounds : (c : Class) → excess_of_class c ≡ [] → ClassBounds c
class_bounds c none =
    let fields = map (λ f. f.class.place) (fields_in c.members) in
    let methods = map (λ code. code.place) (methods_in c.members) in
    let parts = none_of_three (beyond 16 which.Fields fields) (beyond 64 which.Methods methods) (flat_map excess_of_code (codes_in c.members)) none in
    record {
      fields = omega (arith, none_beyond 16 which.Fields fields parts.0, length-map (fields_in c.members) (λ f. f.class.place));
      methods = omega (arith, none_beyond 64 which.Methods methods parts.1, length-map (methods_in c.members) (λ code. code.place));
      bodies = parts.2;
    }

-- the constructor and the methods are among the bodies that are written
constructor_written : (ms : List Member) (code : Code) → constructor_in ms ≡ Some code → (k : ℕ) × (slice_get (codes_in ms) k ≡ Some code)
constructor_written [] code e = absurd cc
constructor_written (member.Field f ∷ ms) code e = constructor_written ms code e
constructor_written (member.Constructor other ∷ ms) code e = (0, e)
constructor_written (member.Method other ∷ ms) code e = let rest = constructor_written ms code e in (suc rest.0, rest.1)

method_written : (ms : List Member) (n : ℕ) (code : Code) → slice_get (methods_in ms) n ≡ Some code → (k : ℕ) × (slice_get (codes_in ms) k ≡ Some code)
method_written [] n code e = absurd cc
method_written (member.Field f ∷ ms) n code e = method_written ms n code e
method_written (member.Constructor other ∷ ms) n code e = let rest = method_written ms n code e in (suc rest.0, rest.1)
method_written (member.Method other ∷ ms) zero code e = (0, e)
method_written (member.Method other ∷ ms) (suc n) code e = let rest = method_written ms n code e in (suc rest.0, rest.1)

-- the constructor of a class, also an implicit one
pub constructor_bounds : (c : Class) → ClassBounds c → KeepsLimits (constructor_or_implicit c (constructor_in c.members))
constructor_bounds c bounds = by (constructor_in c.members) refl
  where
    by : (o : Option Code) → constructor_in c.members ≡ o → KeepsLimits (constructor_or_implicit c o)
    by None e = record { params = omega arith; clauses = omega arith; statements = omega arith }
    by (Some code) e =
        let at = constructor_written c.members code e in
        code_bounds code (none_at excess_of_code (codes_in c.members) at.0 code bounds.bodies at.1)

bounds_in : (first : ℕ) (c : Class) (k : ℕ) (b : Body) → ClassBounds c → slice_get (bodies_in first c) k ≡ Some b → KeepsLimits b.code
bounds_in first c zero b bounds at =
    let same : constructor_body first c ≡ b = cc in subst (λ (x : Body). KeepsLimits x.code) same (constructor_bounds c bounds)
bounds_in first c (suc k) b bounds at =
    let code = map_at (method_body first) (methods_in c.members) k b at in
    let written = method_written c.members k code.0 code.1 in
    subst (λ (x : Body). KeepsLimits x.code) code.2
    (code_bounds code.0 (none_at excess_of_code (codes_in c.members) written.0 code.0 bounds.bodies written.1))

-- the bodies of classes within the limits keep them, and are few
pub record BodiesBounds (first : ℕ) (cs : List Class) : Type 0 where
  pub each : (k : ℕ) (b : Body) → slice_get (bodies_from first cs) k ≡ Some b → KeepsLimits b.code
  pub few : length (bodies_from first cs) ≤ 65 * length cs

pub bodies_bounds : (first : ℕ) (cs : List Class) → flat_map excess_of_class cs ≡ [] → BodiesBounds first cs
bodies_bounds first [] none = record { each = λ k b at. absurd cc; few = omega arith }
bodies_bounds first (c ∷ cs) none =
    let parts = none_of_both (excess_of_class c) (flat_map excess_of_class cs) none in
    let bounds = class_bounds c parts.0 in
    let rest = bodies_bounds (suc first) cs parts.1 in
    record {
      each = λ k b at. elim (at_of_both (bodies_in first c) (bodies_from (suc first) cs) k b at) [
        | inl here ↦ bounds_in first c k b bounds here
        | inr later ↦ rest.each later.0 b later.1
      ];
      few = omega (arith, rest.few, bounds.methods, length-append (bodies_in first c) (bodies_from (suc first) cs), length-map (methods_in c.members) (method_body first));
    }
