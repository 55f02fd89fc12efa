use Rattle.std.proofs.Common.{◌/◌, ◌%◌, arith, ◌∙◌}
use Rattle.set_names.proofs.Codes.{none_named, static_named, variable_named}
use Rattle.set_names.proofs.names_so_far.NamesSoFar.has.Goals as goal

pub returns-in-0 : goal.returns-in-0
returns-in-0 c =
    let n = c.self.inside in
    rw (← c.self.view_is) (static_named n.statics n.trail c.args.code (c.args.code / 4) (omega arith))

pub returns-in-1 : goal.returns-in-1
returns-in-1 c =
    let n = c.self.inside in
    rw (← c.self.view_is)
    (c.is_set.ensures ∙ c.self.invariant.now (c.args.code / 4) ∙ variable_named n.statics n.trail c.args.code (c.args.code / 4) (omega arith))

pub returns-in_default : goal.returns-in_default
returns-in_default c =
    let n = c.self.inside in
    rw (← c.self.view_is) (none_named n.statics n.trail c.args.code (c.args.code / 4) (c.args.code % 4) (omega arith) (omega arith) (omega arith))
