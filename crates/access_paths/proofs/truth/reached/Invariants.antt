use Rattle.std.proofs.Common.{◌≡◌, drop}
use Rattle.std.specs.List.{fold}
use Rattle.easl_heap.specs.{get}
use Rattle.access_paths.specs.{object_of}
use Rattle.access_paths.proofs.truth.reached.Given as goal

abbrev pub invariant-each : goal.invariant-each
invariant-each l = fold (get l.heap) l.object (drop l.field-index l.term.fields) ≡ object_of l.heap l.objects l.term
