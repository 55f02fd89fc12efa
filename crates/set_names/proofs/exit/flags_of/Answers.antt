use Rattle.std.proofs.Common.{◌≡◌, ◌++◌, ◌∷◌, [], ap, arith, false, get_or, map, sym, ◌∙◌}
use Rattle.std.proofs.lemmas.List.FromFn.{map-range_with_len_more}
use Rattle.std.specs.List.{range_with_len}
use Rattle.set_names.proofs.Trails.{flag_at}
use Rattle.set_names.specs.Names.{is_in}
use Rattle.set_names.proofs.exit.flags_of.Goals as goal

pub each-preserved : goal.each-preserved
each-preserved c =
    let p = is_in c.args.sets.now.now in
    c.in_ok-push.ensures.ok
    ∙ ap (λ flags. flags ++ c.is_set.result ∷ []) c.each.invariant
    ∙ ap (λ b. map p (range_with_len 0 c.each.variable) ++ b ∷ []) c.is_set.ensures
    ∙ sym (map-range_with_len_more p 0 c.each.variable c.each.variable (omega arith))

pub returns : goal.returns
returns c k =
    let all : c.each.variable ≡ c.args.variables = omega (arith, c.each-test.false, c.each.auto.variable-end) in
    ap (λ flags. get_or flags k false) (c.each.invariant ∙ ap (λ n. map (is_in c.args.sets.now.now) (range_with_len 0 n)) all)
    ∙ flag_at (is_in c.args.sets.now.now) c.args.variables k
