use Rattle.std.proofs.Common.{◌≡◌, ap, arith, length}
use Rattle.set_names.proofs.Numbers.{set_members, set_one}
use Rattle.set_names.proofs.set_so_far.SetSoFar.set.Goals as goal

pub returns-clause-set : goal.returns-clause-set
returns-clause-set c =
    let xs = c.self.inside.variables.items in
    let long : length xs ≡ c.args.self.now.variables = ap (λ s. s.variables) c.self.view_is in
    rw (← c.self.view_is)
    (set_one xs c.args.variable c.self.inside.points c.index_mut-spans.result.now c.begin_at.new.spans (omega arith)
    c.index_mut-spans.ensures.value c.begin_at.ensures.before c.begin_at.ensures.now)

pub returns-clause-members : goal.returns-clause-members
returns-clause-members c k =
    let xs = c.self.inside.variables.items in
    let long : length xs ≡ c.args.self.now.variables = ap (λ s. s.variables) c.self.view_is in
    rw (← c.self.view_is) (set_members xs c.args.variable c.self.inside.points c.begin_at.new.spans (omega arith) c.begin_at.ensures.now k)
