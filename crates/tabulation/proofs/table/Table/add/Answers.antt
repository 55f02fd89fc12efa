use Rattle.std.proofs.Common.{◌++◌, Some, ap, sym, subst, slice_get, ◌≡◌, ◌∙◌, [], ◌∷◌, if◌then◌else◌}
use Rattle.client_facts.specs.Counts.{is_of}
use Rattle.client_facts.specs.NameLists.{lists_in}
use Rattle.tabulation.specs.Tables.{IsWithPlace, PlaceLists}
use Rattle.tabulation.proofs.Tabled.{same_context, with_place}
use Rattle.tabulation.proofs.table.Table.add.Goals as goal

pub returns : goal.returns
returns c =
    let old : PlaceLists = record { contexts = c.self.inside.contexts.keys; lists = lists_in c.self.inside.lists.items } in
    let new : PlaceLists = record { contexts = c.insert_full.new.self.keys; lists = lists_in c.put.new.lists.items } in
    let stored = c.in-Ok.ensures.stored in
    let there : slice_get new.contexts c.in-Ok.number ≡ Some c.args.context =
    stored.1 ∙ ap Some (sym (same_context c.args.context stored.0 stored.2))
    in
    subst (λ o. IsWithPlace o c.args.context c.args.place new) c.self.view_is
    (with_place old new c.args.context c.args.place c.in-Ok.number c.in-Ok.ensures.keys there
    (λ class. c.in_ok-put.ensures class
    ∙ ap (λ l. l ++ (if is_of class (Some c.in-Ok.number) then c.args.place ∷ [] else [])) (c.in_ok-reach.ensures.same class)))
