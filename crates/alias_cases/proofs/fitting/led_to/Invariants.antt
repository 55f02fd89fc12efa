use Rattle.std.proofs.Common.{◌≡◌, drop, length}
use Rattle.alias_cases.specs.{led_to}
use Rattle.alias_cases.proofs.fitting.led_to.Given as goal

-- no step passed so far leads anywhere
abbrev pub invariant-each : goal.invariant-each
invariant-each l = led_to l.blocks l.own (drop (length l.yielded) l.steps) (drop (length l.yielded) l.blocks) ≡ led_to l.blocks l.own l.steps l.blocks
