use Rattle.std.proofs.Common.{length, subst, sym}
use Rattle.client_facts.specs.Held.{setting}
use Rattle.tabulation.proofs.Reached.{each_within, fact_all}
use Rattle.tabulation.specs.Indexed.{context}
use Rattle.tabulation.specs.Tables.{IsPlaced}
use Rattle.tabulation.proofs.returning.add_from_fact.Goals as goal

pub add_exits-requires : goal.add_exits-requires
add_exits-requires c =
    each_within c.args.exits.now c.places-places.result.now (length c.args.edges.now) c.places-places.ensures.only c.requires

pub returns : goal.returns
returns c =
    fact_all (setting c.args.boolean.now) c.args.edge.now c.args.exits.now c.args.edges.now c.args.callee c.args.fact.now c.places-places.result.now
    c.args.found.now.items c.add_exits.new.found.items
    (λ p placed. c.places-places.ensures.all p
    (subst (λ d. IsPlaced c.args.exits.now (context c.args.callee d) p) (sym c.in_ok-entry.ensures) placed))
    c.places-places.ensures.only c.in_ok-add_exits.ensures
