use Rattle.std.proofs.Common.{◌≡◌, ◌++◌, ◌∷◌, [], ◌||◌, true, ap, cond, not, ◌∙◌}
use Rattle.std.specs.List.{list_any}
use Rattle.std.specs.Prelude.{is_ok}
use Rattle.set_names.proofs.Numbers.{declared}
use Rattle.set_names.proofs.set_so_far.SetSoFar.declare.Goals as goal
use Rattle.set_names.specs.Sets.{holds_since, within}
use Rattle.set_names.specs.SoFar.{sets_behind}

pub returns-clause-declared : goal.returns-clause-declared
returns-clause-declared c =
    let xs = c.self.inside.variables.items in
    let spans = c.no_spans-spans.result in
    let ok : is_ok c.push.result ≡ true = c.is_err.ensures.negation ∙ ap not c.if-is_err.false in
    let items : c.push.new.self.items ≡ xs ++ spans ∷ [] = c.push.ensures.items ∙ ap (λ b. cond b (xs ++ spans ∷ []) xs) ok in
    rw (← c.self.view_is)
    (ap (sets_behind c.self.inside.points) items
    ∙ declared xs spans c.self.inside.points
    (λ p. ap (λ ys. list_any (within p) ys || holds_since p spans.since) c.no_spans-spans.ensures.ended ∙ ap (holds_since p) c.no_spans-spans.ensures.since))
