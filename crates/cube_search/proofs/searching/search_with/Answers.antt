use Rattle.std.proofs.Common.{[], ◌∷◌, ◌++◌, ◌∙◌, sym, ap}
use Rattle.cube_search.specs.Rows.{both}
use Rattle.cube_search.specs.Search.{is_few}
use Rattle.cube_search.proofs.Searched.{many}
use Rattle.cube_search.proofs.searching.search_with.Goals as goal

pub returns-then-not-is_few_with : goal.returns-then-not-is_few_with
returns-then-not-is_few_with c =
    sym (many c.args.task.now 1 c.args.from (both c.args.row.now c.args.other.now) (c.args.cube.now ++ c.args.literal ∷ []) c.args.kept.now.items
    (ap (λ vs. is_few vs (c.args.cube.now ++ c.args.literal ∷ [])) (sym c.deref.ensures.value)
    ∙ sym c.is_few_with.ensures ∙ c.if-not-is_few_with.true))
