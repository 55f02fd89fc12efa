-- Disjuncts that tell what the tree tells in each configuration that counts are exact.
use Rattle.std.proofs.Common.{◌≡◌, ℕ, suc, ◌||◌, is_none, List, [], ◌∷◌, None, All, refl, ap, sym, ◌∙◌, arith}
use Rattle.std.specs.List.{AllZip, list_any}
use Rattle.std.specs.Option.{option_map_or}
use Rattle.easl_heap.specs.{Object, body, called, first_failing, outcome}
use Rattle.access_paths.specs.{arguments_in, before_call, by_objects, cube_holds, no_family, put, variables_of}
use Rattle.access_paths.specs.declared.term.Cube.{Cube}
use Rattle.access_paths.specs.declared.term.Family.{Family}
use Rattle.access_paths.specs.declared.term.Term.{Term}
use Rattle.case_model.specs.{HasCase, HasTerms, by_blocks, case_of, terms_of_cube}
use Rattle.case_model.proofs.Cases.{heaps_have_cases}
use Rattle.method_abstraction.specs.{ClausesAreExact, SaysSame, UpdatesAreExact, disjunct_holds, one_holds}
use Rattle.method_abstraction.specs.declared.entry.Disjunct.{Disjunct}

-- one of the cubes is true in the heap's configuration where one of the disjuncts is in the heap
one_disjunct : (families : List Family) (ts : List Term) (classes : List ℕ) (heap : List Object) (objects : List ℕ) → HasCase ts classes heap objects
    → (cubes : List Cube) (ds : List Disjunct) → All (λ c. HasTerms ts (terms_of_cube c.literals)) cubes → AllZip (SaysSame families) cubes ds
    → one_holds (by_blocks ts (case_of heap objects ts)) cubes ≡ list_any (disjunct_holds families heap objects) ds
one_disjunct families ts classes heap objects here [] [] over same = refl
one_disjunct families ts classes heap objects here [] (d ∷ ds) over same = absurd same
one_disjunct families ts classes heap objects here (c ∷ cubes) [] over same = absurd same
one_disjunct families ts classes heap objects here (c ∷ cubes) (d ∷ ds) over same =
    let first = here.cubes c.literals (over 0 c (omega arith)) ∙ sym (same.0 heap objects) in
    let rest = one_disjunct families ts classes heap objects here cubes ds (λ n e within. over (suc n) e (omega arith)) same.1 in
    λ i. first i || rest i

pub updates_are_exact : UpdatesAreExact
updates_are_exact form families n m results family ts classes tree cubes ds found known clauses tells decides heap objects full given none =
    let args = arguments_in m objects in
    let bs = case_of heap objects ts in
    let here = heaps_have_cases form (variables_of m (before_call family results)) ts classes heap objects
    (record { full = full; given = given; typed = known.typed }) in
    let fails : first_failing m heap args ≡ None = sym (ap (λ o. option_map_or (λ x. first_failing x heap args) o None) found) ∙ none in
    let after : body form n args heap ≡ called form m args heap = ap (λ o. option_map_or (λ x. called form x args heap) o (outcome heap 0 0)) found in
    ap (λ left. cube_holds (by_objects left.heap (put results left.result objects)) family.cube.literals) after
    ∙ sym (tells heap objects full given)
    ∙ sym (here.trees tree known.asked)
    ∙ decides bs here.is (here.clauses m clauses ∙ ap is_none fails)
    ∙ one_disjunct families ts classes heap objects here cubes ds known.over known.same

pub clauses_are_exact : ClausesAreExact
clauses_are_exact form families m clause ts classes tree cubes ds known tells decides heap objects full given =
    let here = heaps_have_cases form (variables_of m no_family) ts classes heap objects
    (record { full = full; given = given; typed = known.typed }) in
    sym (tells heap objects full given)
    ∙ sym (here.trees tree known.asked)
    ∙ decides (case_of heap objects ts) here.is
    ∙ one_disjunct families ts classes heap objects here cubes ds known.over known.same
