use Rattle.std.proofs.Common.{◌==◌, sym, arith}
use Rattle.std.proofs.lemmas.Bool.{eq-eqb}
use Rattle.std.proofs.lemmas.List.Sums.{position_or_len_is}
use Rattle.access_paths.specs.{var}
use Rattle.access_paths.specs.declared.term.Var.{Var}
use Rattle.access_paths.proofs.family.place.Goals as goal

pub returns-then-arg-number : goal.returns-then-arg-number
returns-then-arg-number c =
    sym (position_or_len_is (λ (a : Var). a.0 == c.args.number) c.args.args.now c.each.before (var 0) c.each.auto.before-end
    (λ k less. c.each.invariant k (var 0) (omega arith) less)
    (λ within. eq-eqb _ _ c.if-arg-number.true))

pub returns : goal.returns
returns c =
    sym (position_or_len_is (λ (a : Var). a.0 == c.args.number) c.args.args.now _ (var 0) (omega arith)
    (λ k less. c.each.invariant k (var 0) (omega arith) (omega arith))
    (λ within. absurd (omega arith)))
