use Rattle.std.proofs.Common.{◌≡◌, ◌∙◌, arith, rules}
use Rattle.access_paths.proofs.Variables.{placed_instance, places_keep_apart, table_length}
use Rattle.access_paths.proofs.family.instance.Goals as goal

pub substitute-requires-clause-entries : goal.substitute-requires-clause-entries
substitute-requires-clause-entries c v has =
    let known = c.requires.known v has in
    omega (arith, table_length c.args.args.now c.as_slice.result.now (c.as_slice.ensures.value ∙ c.in_ok-places.ensures))

pub substitute-requires-clause-apart : goal.substitute-requires-clause-apart
substitute-requires-clause-apart c =
    places_keep_apart c.args.cube.now c.args.args.now c.as_slice.result.now c.requires.cube c.requires.known c.requires.arguments
    (c.as_slice.ensures.value ∙ c.in_ok-places.ensures)

pub returns-clause-instance : goal.returns-clause-instance
returns-clause-instance c =
    let same : c.from_vec-2.result ≡ c.args.args.now = search rules in
    placed_instance c.args.cube.now c.in_ok-cube.cube c.args.classes.now c.args.args.now c.as_slice.result.now _ _ c.requires.known c.requires.arguments
    (c.as_slice.ensures.value ∙ c.in_ok-places.ensures) c.in_ok-cube.ensures (c.from_vec.ensures ∙ c.in_ok-classes.ensures) same
