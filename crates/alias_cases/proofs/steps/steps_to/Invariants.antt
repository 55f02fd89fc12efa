use Rattle.std.proofs.Common.{take}
use Rattle.std.specs.List.{AllZip}
use Rattle.alias_cases.specs.{IsStepTo}
use Rattle.alias_cases.proofs.steps.steps_to.Given as goal

abbrev pub invariant-each : goal.invariant-each
invariant-each l = AllZip (IsStepTo l.terms) (take l.term-index l.terms) l.steps.items
