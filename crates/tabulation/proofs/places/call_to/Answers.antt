use Rattle.std.proofs.Common.{refl, sym}
use Rattle.client_facts.specs.Held.{setting}
use Rattle.tabulation.proofs.Ways.{call_there}
use Rattle.tabulation.proofs.places.call_to.Goals as goal

pub returns : goal.returns
returns c =
    call_there (setting c.args.setting.now) c.args.procedure c.args.point c.in_ok-here.here.now c.in_ok-callee.callee c.in_ok-behind.behind
    (c.in_ok-behind.behind, c.in_ok-behind.field-0-1) (sym c.in_ok-here.ensures) (sym c.in_ok-callee.ensures) (sym c.in_ok-behind.ensures) refl
