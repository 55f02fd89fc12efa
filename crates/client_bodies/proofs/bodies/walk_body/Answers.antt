use Rattle.std.proofs.Common.{ap, refl, subst, sym, true, ◌∙◌}
use Rattle.std.specs.List.{flat_map}
use Rattle.client_values.specs.Knowing.{Knows}
use Rattle.client_bodies.proofs.Exits.{same_end, same_trees, sets_are, walks_inside}
use Rattle.client_bodies.proofs.Walked.{then}
use Rattle.client_bodies.specs.Walking.{Passed, Walks, block}
use Rattle.client_model.proofs.SetNumbers.{statics_at_entry}
use Rattle.client_model.specs.Bodies.{all_in, at_entry, body_of}
use Rattle.client_model.specs.BodyFaults.{faults_at, no_return}
use Rattle.client_model.specs.Contexts.{Context, block_goes_on}
use Rattle.client_model.specs.SetNumbers.{AllThese}
use Rattle.client_model.specs.Trees.{procedure_of}
use Rattle.client_points.specs.Writing.{written_with}
use Rattle.client_values.specs.ToldFaults.{Finds}
use Rattle.client_bodies.proofs.bodies.walk_body.Goals as goal

pub returns-clause-sets : goal.returns-clause-sets
returns-clause-sets c =
    let s = c.args.setting.now in
    let p = procedure_of c.args.procedure.now in
    let b = body_of s c.args.number c.args.calls p in
    let w = c.inside-within.result in
    let start = c.in_ok-context.context in
    let last = c.faults_of_statements.new.context in
    let entry = subst (λ ps. Walks s (at_entry s c.args.calls ps) start) c.as_slice.ensures c.in_ok-context.ensures.entry in
    let walks = walks_inside s w c.args.number p b.start start c.inside-within.ensures entry in
    let same = same_trees b.setting w b.start (block c.as_slice-2.result.now) b.statements c.inside-within.ensures (ap block c.as_slice-2.ensures) in
    let ends = same_end b.setting w b.start (block c.as_slice-2.result.now) b.statements c.inside-within.ensures (ap block c.as_slice-2.ensures) in
    sets_are b start last c.all_go_on-goes_on.result c.in_ok-sets.sets c.requires (record { start = refl; free = refl }) tt (statics_at_entry s c.args.calls p.params)
    (subst (λ (d : Context). Knows d last) ends (c.in_ok-found.ensures.behind b.start walks).knows)
    (c.all_go_on-goes_on.ensures ∙ ap (λ xs. block_goes_on true (block xs)) c.as_slice-3.ensures)
    c.in_ok-context.ensures.before c.in_ok-context.ensures.left
    (c.in_ok-found.ensures.grows.statics ∙ c.in_ok-context.ensures.statics)
    (subst (λ zs. AllThese zs → Passed zs start.assigned.names last.assigned.names) same (c.in_ok-found.ensures.passed b.start walks))
    c.in_ok-sets.ensures

pub returns-clause-found : goal.returns-clause-found
returns-clause-found c =
    let s = c.args.setting.now in
    let p = procedure_of c.args.procedure.now in
    let b = body_of s c.args.number c.args.calls p in
    let w = c.inside-within.result in
    let start = c.in_ok-context.context in
    let entry = subst (λ ps. Walks s (at_entry s c.args.calls ps) start) c.as_slice.ensures c.in_ok-context.ensures.entry in
    let walks = walks_inside s w c.args.number p b.start start c.inside-within.ensures entry in
    let same = same_trees b.setting w b.start (block c.as_slice-2.result.now) b.statements c.inside-within.ensures (ap block c.as_slice-2.ensures) in
    then c.args.found c.in_ok-found.found c.no_return.result (flat_map faults_at (all_in b)) (no_return p)
    (subst (λ zs. Finds c.args.found c.in_ok-found.found (flat_map faults_at zs)) same (c.in_ok-found.ensures.found b.start walks)) c.no_return.ensures

pub returns-clause-calls : goal.returns-clause-calls
returns-clause-calls c =
    let s = c.args.setting.now in
    let p = procedure_of c.args.procedure.now in
    let b = body_of s c.args.number c.args.calls p in
    let w = c.inside-within.result in
    let start = c.in_ok-context.context in
    let entry = subst (λ ps. Walks s (at_entry s c.args.calls ps) start) c.as_slice.ensures c.in_ok-context.ensures.entry in
    let walks = walks_inside s w c.args.number p b.start start c.inside-within.ensures entry in
    let ends = same_end b.setting w b.start (block c.as_slice-2.result.now) b.statements c.inside-within.ensures (ap block c.as_slice-2.ensures) in
    sym (c.in_ok-found.ensures.behind b.start walks).knows.calls ∙ ap (λ (d : Context). d.calls) ends

pub returns-clause-written : goal.returns-clause-written
returns-clause-written c =
    let s = c.args.setting.now in
    let p = procedure_of c.args.procedure.now in
    let b = body_of s c.args.number c.args.calls p in
    let w = c.inside-within.result in
    let start = c.in_ok-context.context in
    let entry = subst (λ ps. Walks s (at_entry s c.args.calls ps) start) c.as_slice.ensures c.in_ok-context.ensures.entry in
    let walks = walks_inside s w c.args.number p b.start start c.inside-within.ensures entry in
    let same = same_trees b.setting w b.start (block c.as_slice-2.result.now) b.statements c.inside-within.ensures (ap block c.as_slice-2.ensures) in
    c.in_ok-found.ensures.written b.start walks ∙ ap (λ zs. written_with zs c.args.written.now) same
