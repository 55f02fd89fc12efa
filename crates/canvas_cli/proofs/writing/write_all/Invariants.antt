use Rattle.std.proofs.Common.{◌≤◌, ◌-◌, length, take}
use Rattle.cv_base.specs.Causes.{Appends}
use Rattle.canvas_cli.proofs.writing.write_all.Given as goal

abbrev pub invariant-each : goal.invariant-each
invariant-each g l = record {
  within : l.done ≤ length l.text;
  taken : Appends (g.W.Sink.taken l.fn.out) (g.W.Sink.taken l.out) (take l.done l.text);
  later : g.W.Sink.faults l.fn.out ≤ g.W.Sink.faults l.out;
}

abbrev pub decreases-each : goal.decreases-each
decreases-each g l = length l.text - l.done
