use Rattle.std.proofs.Common.{length, subst, sym}
use Rattle.client_facts.specs.Held.{setting}
use Rattle.tabulation.proofs.Reached.{callers_all, each_within}
use Rattle.tabulation.specs.Indexed.{context}
use Rattle.tabulation.specs.Tables.{IsPlaced}
use Rattle.tabulation.proofs.returning.add_to_callers.Goals as goal

pub add_calls-requires : goal.add_calls-requires
add_calls-requires c =
    each_within c.args.callers.now c.places-places.result.now (length c.args.edges.now) c.places-places.ensures.only c.requires

pub returns : goal.returns
returns c =
    callers_all (setting c.args.boolean.now) c.args.edge.now c.args.callers.now c.args.edges.now c.places-places.result.now c.args.found.now.items
    c.add_calls.new.found.items
    (λ p placed. c.places-places.ensures.all p
    (subst (λ d. IsPlaced c.args.callers.now (context c.args.edge.now.procedure d) p) (sym c.in_ok-entry.ensures) placed))
    c.places-places.ensures.only c.in_ok-add_calls.ensures
