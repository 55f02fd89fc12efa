use Rattle.std.proofs.Common.{◌≡◌, ◌++◌, ap, map, refl, subst, ◌∙◌}
use Rattle.std.specs.Prelude.{filter_map}
use Rattle.client_points.specs.declared.written.Written.{Written}
use Rattle.client_model.specs.Bodies.{all_in, body_of}
use Rattle.client_points.specs.Wholes.{unset_seen, without_set}
use Rattle.client_model.specs.CheckedForm.{classes_of, procedure_form}
use Rattle.client_model.specs.Points.{declared_at, point_of}
use Rattle.client_model.specs.Trees.{procedure_of}
use Rattle.client_bodies.proofs.bodies.pass_body.Goals as goal

pub returns-clause-form : goal.returns-clause-form
returns-clause-form c =
    let p = procedure_of c.args.procedure.now in
    let b = body_of c.args.setting.now c.args.number c.args.count p in
    let written = c.in_ok-walked.ensures.written in
    subst (λ form. unset_seen c.in_ok-form.form ≡ without_set (procedure_form form b p)) (ap (λ s. s.form) c.setting.view_is)
    (c.in_ok-form.ensures.form b refl
    (ap (λ (w : Written). w.points) written ∙ ap (λ ps. ps ++ map point_of (all_in b)) c.new.ensures)
    (ap (λ (w : Written). w.variables) written
    ∙ ap (λ vs. vs ++ filter_map declared_at (all_in b)) (c.in_ok-classes_of.ensures ∙ ap (classes_of c.setting.inside.spec.now) c.as_slice.ensures)))

pub returns-clause-sets : goal.returns-clause-sets
returns-clause-sets c =
    let b = body_of c.args.setting.now c.args.number c.args.count (procedure_of c.args.procedure.now) in
    λ none. c.in_ok-form.ensures.set ∙ c.in_ok-walked.ensures.sets none
