use Rattle.std.proofs.Common.{◌≡◌, ◌++◌, arith, ◌∷◌, [], ap, filter, map, ◌∙◌}
use Rattle.std.specs.List.{range_with_len}
use Rattle.set_names.proofs.Trails.{filter_within}
use Rattle.set_names.specs.Names.{is_in, is_left}
use Rattle.set_names.specs.Sets.{codes_of}
use Rattle.set_names.proofs.names_so_far.NamesSoFar.finish.Goals as goal

pub returns : goal.returns
returns c =
    let n = c.self.inside in
    let s = c.bring.new.sets in
    let many : s.variables ≡ n.variables = c.in_ok-bring.ensures.many ∙ c.self.invariant.many in
    rw (← c.self.view_is)
    (c.finish.ensures.set
    ∙ ap (λ ks. map (codes_of n.statics) (s.before ++ ks ∷ []))
    (c.finish.ensures.by_number
    ∙ ap (λ m. filter (is_in s.now) (range_with_len 0 m)) many
    ∙ filter_within (is_in s.now) (is_left n.left) 0 n.variables (λ k inside. c.in_ok-bring.ensures.now k (omega (arith, inside))))
    ∙ ap (λ ks. map (codes_of n.statics) (ks ++ filter (is_left n.left) (range_with_len 0 n.variables) ∷ [])) c.in_ok-bring.ensures.before)
