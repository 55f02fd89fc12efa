use Rattle.std.proofs.Common.{◌≡◌, ◌≤◌, length, map, take}
use Rattle.easl_heap.specs.{argument}
use Rattle.easl_heap.proofs.body.arguments.Given as goal

abbrev pub invariant-each : goal.invariant-each
invariant-each l =
    length l.args ≤ 4 → l.found.items ≡ map (argument l.objects l.slots) (take l.arg-index l.args)
