use Rattle.std.proofs.Common.{◌≡◌, ap, arith, inr, subst, sym, ◌∙◌}
use Rattle.std.specs.Prelude.{Some}
use Rattle.client_bodies.proofs.Passing.{notes_then}
use Rattle.client_values.specs.Knowing.{Knows}
use Rattle.client_model.specs.Codes.{variable_code}
use Rattle.client_model.specs.Contexts.{declared, evaluated, with_code}
use Rattle.client_bodies.proofs.behind.behind_initialised.Goals as goal

pub returns-clause-behind : goal.returns-clause-behind
returns-clause-behind c d knows =
    let e = evaluated (Some c.args.value.now) d in
    let f = declared c.args.setting.now c.args.sort.now c.args.name.now e in
    let named : c.in_ok-code.code ≡ variable_code d.variables = c.in_ok-code.ensures ∙ sym (ap variable_code knows.variables) in
    subst (λ n. Knows (record f { assigned = with_code n f.assigned }) c.mark.new.context) named
    (c.in_ok-mark.ensures.behind f (c.in_ok-declare.ensures.behind e (c.in_ok-evaluate.ensures.behind d knows (Some c.args.value.now) (sym c.call_count.ensures)))
    (inr (d.variables, named, omega arith)))

pub returns-clause-notes : goal.returns-clause-notes
returns-clause-notes c =
    notes_then c.args.context.now c.declare.new.context c.mark.new.context
    (notes_then c.args.context.now c.evaluate.new.context c.declare.new.context c.in_ok-evaluate.ensures.notes c.in_ok-declare.ensures.keeps)
    c.in_ok-mark.ensures.keeps
