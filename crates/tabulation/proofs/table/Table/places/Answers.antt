use Rattle.std.proofs.Common.{ap, sym, subst, ◌∙◌}
use Rattle.client_facts.specs.NameLists.{at_class, lists_in}
use Rattle.tabulation.specs.Tables.{IsPlaced, PlaceLists}
use Rattle.tabulation.proofs.Tabled.{all_found, none_found}
use Rattle.tabulation.proofs.table.Table.places.Goals as goal

pub returns-in-Some-clause-all : goal.returns-in-Some-clause-all
returns-in-Some-clause-all c p placed =
    let t : PlaceLists = record { contexts = c.self.inside.contexts.keys; lists = lists_in c.self.inside.lists.items } in
    all_found t c.args.context.now c.self.invariant c.in-Some.number c.list_at.result.now (sym c.in-Some.ensures.index)
    (c.list_at.ensures ∙ ap (λ l. at_class (lists_in l) c.in-Some.number) c.as_slice.ensures.value) p
    (subst (λ o. IsPlaced o c.args.context.now p) (sym c.self.view_is) placed)

pub returns-in-None-clause-all : goal.returns-in-None-clause-all
returns-in-None-clause-all c p placed =
    let t : PlaceLists = record { contexts = c.self.inside.contexts.keys; lists = lists_in c.self.inside.lists.items } in
    absurd (none_found t c.args.context.now c.self.invariant (sym c.in-None.ensures.found) p
    (subst (λ o. IsPlaced o c.args.context.now p) (sym c.self.view_is) placed))
