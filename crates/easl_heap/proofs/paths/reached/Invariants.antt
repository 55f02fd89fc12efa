use Rattle.std.proofs.Common.{◌≡◌, drop}
use Rattle.std.specs.List.{fold}
use Rattle.easl_heap.specs.{get, reached}
use Rattle.easl_heap.proofs.paths.reached.Given as goal

abbrev pub invariant-each : goal.invariant-each
invariant-each l = fold (get l.objects) l.object (drop l.field-index l.path.fields) ≡ reached l.objects l.slots l.path
