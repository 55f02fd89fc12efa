use Rattle.std.proofs.Common.{◌≡◌, ◌∷◌, ◌++◌, ap, subst, sym, ◌∙◌}
use Rattle.access_paths.specs.{tree_of}
use Rattle.case_model.specs.{terms_of_tree}
use Rattle.alias_cases.specs.{Gathers}
use Rattle.alias_cases.proofs.Plain.{plain_ask}
use Rattle.alias_cases.proofs.Gathered.{gathers-asked}
use Rattle.alias_cases.proofs.gathering.+gather_tree.Goals as goal

pub returns-in_ok-gather_tree-in-Ask-2 : goal.returns-in_ok-gather_tree-in-Ask-2
returns-in_ok-gather_tree-in-Ask-2 t c =
    let asked : terms_of_tree (tree_of c.args.tree.now) ≡ c.in-Ask.first ∷ c.in-Ask.second ∷ terms_of_tree (tree_of c.in-Ask.one) ++ terms_of_tree (tree_of c.in-Ask.other) = ap terms_of_tree (ap tree_of c.in-Ask.is ∙ plain_ask c.in-Ask.first c.in-Ask.second c.in-Ask.one c.in-Ask.other) in
    subst (λ l. Gathers l c.args.list.now.items c.gather_tree-in-Ask.new.list.items) (sym asked)
    (gathers-asked c.in-Ask.first c.in-Ask.second (terms_of_tree (tree_of c.in-Ask.one)) (terms_of_tree (tree_of c.in-Ask.other))
    c.args.list.now.items c.gather.new.list.items c.gather-in-Ask.new.list.items c.gather_tree.new.list.items c.gather_tree-in-Ask.new.list.items
    c.in_ok-gather-in-Ask.ensures c.in_ok-gather-in-Ask-2.ensures
    (rw c.get.ensures at c.in_ok-gather_tree-in-Ask.ensures)
    (rw c.get-in-Ask.ensures at c.in_ok-gather_tree-in-Ask-2.ensures))
