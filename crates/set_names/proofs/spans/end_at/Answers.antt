use Rattle.std.proofs.Common.{ap, arith, ◌∙◌}
use Rattle.std.specs.Prelude.{None, is_some}
use Rattle.set_names.proofs.Standing.{holds_now}
use Rattle.set_names.proofs.spans.end_at.Goals as goal

pub returns-in_default-clause-now : goal.returns-in_default-clause-now
returns-in_default-clause-now c = holds_now c.args.point c.args.spans.now c.requires ∙ ap is_some c.in_default.is

pub returns-clause-now : goal.returns-clause-now
returns-clause-now c =
    holds_now c.args.point (record { ended = c.close.new.ended; since = None })
    (record { order = c.close.ensures.order; ended = c.close.ensures.end; since = omega arith })
