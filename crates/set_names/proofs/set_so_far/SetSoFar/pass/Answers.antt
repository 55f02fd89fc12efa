use Rattle.std.proofs.Common.{rules, ◌≡◌, ◌+◌, ap, ◌∙◌}
use Rattle.set_names.proofs.Numbers.{by_number, passed}
use Rattle.set_names.proofs.set_so_far.SetSoFar.pass.Goals as goal
use Rattle.set_names.specs.SoFar.{sets_behind}

pub returns-clause-passed : goal.returns-clause-passed
returns-clause-passed c =
    let xs = c.self.inside.variables.items in
    let next : c.in-Some.points ≡ c.self.inside.points + 1 = search rules in
    rw (← c.self.view_is) (ap (λ n. sets_behind n xs) next ∙ passed xs c.self.inside.points c.self.invariant)

pub returns-clause-by_number : goal.returns-clause-by_number
returns-clause-by_number c = rw (← c.self.view_is) (by_number c.self.inside.variables.items c.self.inside.points)

pub returns-in_default-clause-by_number : goal.returns-in_default-clause-by_number
returns-in_default-clause-by_number c = rw (← c.self.view_is) (by_number c.self.inside.variables.items c.self.inside.points)
