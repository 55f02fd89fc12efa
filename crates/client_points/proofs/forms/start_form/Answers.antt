use Rattle.std.proofs.Common.{◌≡◌, ◌+◌, rules, ap, chars, codes, sym, ◌∙◌, ◌++◌, ◌∷◌, [], length}
use Rattle.std.proofs.lemmas.Str.{chars-IsAscii}
use Rattle.client_points.proofs.StartForm.{start_same}
use Rattle.client_points.proofs.forms.start_form.Goals as goal

pub returns : goal.returns
returns c form client all initial =
    let more : c.in_ok-count.count ≡ c.in_ok-statics.statics + 1 = search rules in
    start_same form client c.args.procedures.now c.args.initial _ _ _ _ _ _ c.in_ok-statics.statics c.in_ok-count.count
    (ap chars c.in_ok-from_str.ensures.ok ∙ chars-IsAscii (codes "start") (search rules))
    c.new.ensures c.new-2.ensures
    (c.points-2.view_is ∙ c.in_ok-push.ensures.ok ∙ ap (λ p. c.args.initial ++ p ∷ []) c.in_ok-call_of_main.ensures)
    (c.in_ok-statics.ensures ∙ ap length c.as_slice.ensures) more c.in_ok-steps.ensures c.of_start.ensures
    all initial
