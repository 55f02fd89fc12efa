use Rattle.std.proofs.Common.{◌≡◌, ◌++◌, drop, map}
use Rattle.client_model.specs.Contexts.{Context}
use Rattle.client_model.specs.Points.{argument_of}
use Rattle.client_values.specs.Knowing.{Knows}
use Rattle.client_points.proofs.words.add_arguments.Given as goal

abbrev pub invariant-each : goal.invariant-each
invariant-each l = (c : Context) → Knows c l.context
    → l.args ++ map (argument_of l.setting c) (drop l.word-index l.words) ≡ l.fn.args ++ map (argument_of l.setting c) l.words
