-- Edges that `==` calls equal are one.
use Rattle.std.specs.Prelude.{◌≡◌, ◌&&◌, true, nat_eq}
use Rattle.std.specs.Cmp.{first_so, second_so}
use Rattle.client_facts.specs.contracts.fact.FactPartialEq.TheImpl as facts
use Rattle.client_facts.specs.Same.{same_fact}
use Rattle.client_walks.specs.contracts.edge.EdgePartialEq.TheImpl as edges
use Rattle.client_walks.specs.declared.edge.Edge.{Edge}
use Rattle.cv_fix.specs.Same.{same_number}

pub same_edge : (x y : Edge) → (edges.ghosts).eq x y ≡ true → x ≡ y
same_edge x y h =
    let entries = (facts.ghosts).eq x.entry y.entry in
    let ends = (facts.ghosts).eq x.fact y.fact in
    let points = nat_eq x.point y.point in
    let behind = second_so (nat_eq x.procedure y.procedure) (entries && (points && ends)) h in
    let last = second_so entries (points && ends) behind in
    let procedure = same_number x.procedure y.procedure (first_so (nat_eq x.procedure y.procedure) (entries && (points && ends)) h) in
    let entry = same_fact x.entry y.entry (first_so entries (points && ends) behind) in
    let point = same_number x.point y.point (first_so points ends last) in
    let fact = same_fact x.fact y.fact (second_so points ends last) in
    λ i. record { procedure = procedure i; entry = entry i; point = point i; fact = fact i }
