use Rattle.std.proofs.Common.{take, drop, length-drop, arith, take-add}
use Rattle.canvas_cli.proofs.Written.{appended}
use Rattle.canvas_cli.proofs.writing.write_all.Goals as goal

pub each-preserved : goal.each-preserved
each-preserved g c =
    let taken = g.W.Sink.taken in
    let text = c.args.text.now in
    let done = c.each.done in
    let count = c.in_ok-count.count in
    record {
      within = let most = c.in_ok-count.ensures.some.1 in omega (arith, (rw c.after.ensures at most), length-drop done text);
      taken = rw take-add
          (appended (taken c.args.out.now) (taken c.each.out) (taken c.write.new.self) (take done text) (take count (drop done text))
          c.each.invariant.taken (rw c.after.ensures at c.in_ok-count.ensures.took));
      later = omega (arith, c.each.invariant.later, c.in_ok-count.ensures.later);
    }
