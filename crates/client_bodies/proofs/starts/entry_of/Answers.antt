use Rattle.std.proofs.Common.{◌≡◌, ap, length, refl, ◌∙◌}
use Rattle.client_bodies.proofs.Started.{entered, fresh}
use Rattle.client_model.specs.Bodies.{params_from}
use Rattle.set_names.specs.Names.{Names}
use Rattle.client_bodies.proofs.starts.entry_of.Goals as goal

pub returns-clause-entry : goal.returns-clause-entry
returns-clause-entry c =
    let s = c.args.setting.now in
    let many = c.in_ok-variables.ensures ∙ ap length c.as_slice.ensures in
    let statics : c.in_ok-statics.statics ≡ length s.statics = c.in_ok-statics.ensures ∙ ap length c.as_slice-2.ensures ∙ ap (λ t. length t.statics) c.setting.view_is in
    entered s c.args.calls c.args.params.now _ c.requires
    (c.in_ok-scope.ensures ∙ ap (λ t. params_from t.form 0 c.args.params.now) c.setting.view_is)
    (c.in_ok-names.ensures ∙ ap (λ k. fresh k c.in_ok-variables.variables) statics ∙ ap (fresh (length s.statics)) many)
    refl refl refl many refl refl

pub returns-clause-statics : goal.returns-clause-statics
returns-clause-statics c =
    ap (λ (m : Names). m.statics) c.in_ok-names.ensures ∙ c.in_ok-statics.ensures ∙ ap length c.as_slice-2.ensures ∙ ap (λ t. length t.statics) c.setting.view_is
