use Rattle.std.proofs.Common.{◌≡◌, ap, arith, get_or, length, ◌∙◌}
use Rattle.set_names.proofs.Numbers.{none_now, set_now}
use Rattle.set_names.proofs.set_so_far.SetSoFar.is_set.Goals as goal

pub returns-in-Some : goal.returns-in-Some
returns-in-Some c =
    let xs = c.self.inside.variables.items in
    let s = c.in-Some.spans.now in
    let found = c.in-Some.ensures.lookup in
    let long = ap length c.deref.ensures.value in
    let within = found.3.0 in
    let item : s ≡ get_or xs c.args.variable s = found.1 ∙ ap (λ ys. get_or ys c.args.variable s) c.deref.ensures.value in
    rw (← c.self.view_is) (c.is_some.ensures ∙ set_now xs c.self.inside.points c.args.variable s c.self.invariant (omega arith) item)

pub returns-in-None : goal.returns-in-None
returns-in-None c =
    let xs = c.self.inside.variables.items in
    let found = c.in-None.ensures.lookup in
    let long = ap length c.deref.ensures.value in
    let past = found.3 in
    rw (← c.self.view_is) (none_now xs c.self.inside.points c.args.variable (omega arith))
