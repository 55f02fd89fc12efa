use Rattle.std.proofs.Common.{◌≤◌, ◌+◌, ◌-◌, vec_len}
use Rattle.std.specs.Io.KnownBytes.{Consumes}
use Rattle.canvas_cli.proofs.disk_shelf.read_most.Given as goal

abbrev pub invariant-each : goal.invariant-each
invariant-each g l = record {
  few : vec_len l.bytes ≤ l.max + 1;
  read : Consumes (g.F.Read.remaining l.fn.file) (g.F.Read.remaining l.file) l.bytes.items;
}

abbrev pub decreases-each : goal.decreases-each
decreases-each g l = l.max + 1 - vec_len l.bytes
