use Rattle.std.proofs.Common.{◌/◌, ◌%◌, ◌<◌, ap, arith, length, subst, sym, ◌∙◌}
use Rattle.set_names.proofs.Codes.{none_there, static_there, variable_there}
use Rattle.set_names.proofs.set_names.SetNames.is_set.Goals as goal
use Rattle.set_names.specs.Sets.{is_set_at}
use Rattle.std.specs.Prelude.{nat_lt}

pub returns-in-0 : goal.returns-in-0
returns-in-0 c =
    let s = c.self.inside in
    let inside = subst (λ sets. c.args.point < length sets) (sym c.self.view_is) c.requires in
    rw (← c.self.view_is)
    (ap (nat_lt (c.args.name / 4)) c.static_count.ensures
    ∙ static_there s.is_start s.statics s.points s.variables.items c.args.point c.args.name (c.args.name / 4) (omega arith) inside)

pub returns-in-1 : goal.returns-in-1
returns-in-1 c =
    let s = c.self.inside in
    let inside = subst (λ sets. c.args.point < length sets) (sym c.self.view_is) c.requires in
    rw (← c.self.view_is)
    (c.is_variable_set.ensures ∙ ap (λ xs. is_set_at xs c.args.point (c.args.name / 4)) c.as_slice.ensures.value
    ∙ variable_there s.is_start s.statics s.points s.variables.items c.args.point c.args.name (c.args.name / 4) (omega arith) inside)

pub returns-in_default : goal.returns-in_default
returns-in_default c =
    let s = c.self.inside in
    let inside = subst (λ sets. c.args.point < length sets) (sym c.self.view_is) c.requires in
    rw (← c.self.view_is)
    (none_there s.is_start s.statics s.points s.variables.items c.args.point c.args.name (c.args.name / 4) (c.args.name % 4) (omega arith) (omega arith) (omega arith) inside)
