use Rattle.std.specs.Vec.Iter.{into_iter_items}
use Rattle.cube_search.proofs.Chosen.{IsAlong}
use Rattle.cube_search.proofs.choosing.choose.Given as goal

abbrev pub invariant-each : goal.invariant-each
invariant-each l = IsAlong l.fn.none l.covered l.chosen.items (into_iter_items l.candidate-iterator) l.fn.kept.items
