use Rattle.std.proofs.Common.{length}
use Rattle.access_paths.proofs.fitting.+class_behind.Given as goal

abbrev pub decreases-class_behind : goal.decreases-class_behind
decreases-class_behind l = length l.fields.now
