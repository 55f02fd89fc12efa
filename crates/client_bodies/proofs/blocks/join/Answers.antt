use Rattle.std.proofs.Common.{rules, ◌≡◌, ℕ, ap, subst, sym, ◌∙◌}
use Rattle.std.specs.Prelude.{◌&&◌, ◌||◌}
use Rattle.client_bodies.proofs.Left.{both_assign, within_filter}
use Rattle.client_bodies.specs.Walking.{AreWithin, is_among, is_one_of, is_own}
use Rattle.client_model.specs.Codes.{variable_code}
use Rattle.set_names.specs.Names.{Names, is_assigned}
use Rattle.client_bodies.proofs.blocks.join.Goals as goal

pub returns-clause-assigned : goal.returns-clause-assigned
returns-clause-assigned c first second made n =
    let old = c.args.context.now.assigned in
    let test = λ (k : ℕ). is_among old (variable_code k) || is_own c.args.other.now.own (variable_code k) in
    let within : AreWithin old.names.variables c.args.other.now.both =
    subst (AreWithin old.names.variables) (sym made) (within_filter old.names.variables test c.args.one.now.own.numbers first) in
    let middle = c.set_all.new.names in
    let same : middle.variables ≡ old.names.variables = ap (λ (m : Names). m.variables) c.in_ok-set_all.ensures.others in
    let both = c.args.other.now.both in
    let others : AreWithin middle.variables c.args.other.now.own.numbers = subst (λ v. AreWithin v c.args.other.now.own.numbers) (sym same) second in
    let e : c.if-one.context ≡ (c.args.one.now.own.everything && c.args.other.now.own.everything) = search rules in
    both_assign old (record { names = c.set_if.new.names; everything = c.if-one.context }) middle c.args.one.now.own c.args.other.now.own both
    (λ x.
    c.in_ok-set_all.ensures.assigned (subst (AreWithin old.names.variables) (sym c.as_slice.ensures) within) x
    ∙ ap (λ ks. is_assigned old.names x || is_one_of ks x) c.as_slice.ensures)
    (λ x.
    c.in_ok-set_if.ensures.assigned (subst (AreWithin middle.variables) (sym c.as_slice-2.ensures) others) x
    ∙ ap (λ ks. is_assigned middle x || (c.args.one.now.own.everything && is_one_of ks x)) c.as_slice-2.ensures)
    made e n
