use Rattle.std.proofs.Common.{◌≡◌, map, take}
use Rattle.client_steps.specs.States.{object_of}
use Rattle.client_run.proofs.state.State.arguments.Given as goal

abbrev pub invariant-each : goal.invariant-each
invariant-each l = l.found.items ≡ map (object_of l.self.state) (take l.name-index l.names)
