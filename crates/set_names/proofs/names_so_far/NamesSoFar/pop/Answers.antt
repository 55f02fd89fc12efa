use Rattle.std.proofs.Common.{◌≡◌, ◌<◌, ◌-◌, ◌++◌, ◌∷◌, [], arith, ap, get_or, length, subst, sym, ◌∙◌}
use Rattle.std.specs.Prelude.{◌==◌, ◌&&◌, OnOk, Result, Ok, Err, not}
use Rattle.set_names.proofs.Trails.{kept_gone, kept_popped, last_inside, on_error, on_success, popped}
use Rattle.set_names.specs.Names.{AreKept, is_in}
use Rattle.set_names.specs.SoFar.{Sets}
use Rattle.set_names.proofs.names_so_far.NamesSoFar.pop.Goals as goal

weaker : {T E : Type 0} {P Q : Type 0} (r : Result T E) → (P → Q) → OnOk r P → OnOk r Q
weaker (Ok x) f h = f h
weaker (Err e) f h = tt

pub unset-requires : goal.unset-requires
unset-requires c =
    let n = c.self.inside in
    let many : 0 < length n.trail = omega (arith, c.len-count.ensures, c.if-count-eq0.false) in
    let here = last_inside n.variables n.sets n.trail n.gone n.left c.self.invariant many in
    rw (c.as_slice.ensures, c.len-count.ensures) here

pub invariant_of-self-then-is_err : goal.invariant_of-self-then-is_err
invariant_of-self-then-is_err c =
    let n = c.self.inside in
    subst (λ gone. AreKept n.variables c.unset.new.self n.trail gone n.left) (sym c.in_ok-push.ensures.ok)
    (kept_gone n.variables n.sets c.unset.new.self n.trail n.gone n.left _ c.self.invariant
    (on_error c.unset.result (c.unset.new.self ≡ n.sets) (sym c.is_err.ensures.value ∙ c.if-is_err.true) c.unset.ensures.unchanged))

pub invariant_of-self-2 : goal.invariant_of-self-2
invariant_of-self-2 c =
    let n = c.self.inside in
    let many : 0 < length n.trail = omega (arith, c.len-count.ensures, c.if-count-eq0.false) in
    let last = popped c.pop.result n.trail c.pop.new.self c.pop.ensures many in
    let same : get_or c.as_slice.result.now (c.len-count.result - 1) 0 ≡ get_or n.trail (length n.trail - 1) 0 =
    ap (λ xs. get_or xs (c.len-count.result - 1) 0) c.as_slice.ensures ∙ ap (λ k. get_or n.trail (k - 1) 0) c.len-count.ensures in
    let done = sym c.is_err.ensures.value ∙ c.if-is_err.false in
    kept_popped n.variables n.sets c.unset.new.self c.pop.new.self n.trail n.gone c.push.new.self n.left (get_or n.trail (length n.trail - 1) 0) c.self.invariant
    last.0 (c.in_ok-push.ensures.ok ∙ ap (λ k. n.gone ++ k ∷ []) same)
    (on_success c.unset.result (c.unset.new.self.variables ≡ n.sets.variables) done
    (weaker c.unset.result (λ is. ap (λ (s : Sets). s.variables) is) c.unset.ensures.unset))
    (λ j. on_success c.unset.result _ done c.unset.ensures.members j ∙ ap (λ k. not (j == k) && is_in n.sets.now j) same)
