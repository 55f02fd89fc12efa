use Rattle.std.proofs.Common.{◌≡◌, ap, arith, length}
use Rattle.std.specs.Prelude.{OnErr, Result, Ok, Err}
use Rattle.set_names.proofs.Numbers.{same_one, unset_members, unset_one}
use Rattle.set_names.proofs.set_so_far.SetSoFar.unset.Goals as goal

pub returns-clause-unset : goal.returns-clause-unset
returns-clause-unset c =
    let xs = c.self.inside.variables.items in
    let long : length xs ≡ c.args.self.now.variables = ap (λ s. s.variables) c.self.view_is in
    rw (← c.self.view_is)
    (unset_one xs c.args.variable c.self.inside.points c.index_mut-spans.result.now c.end_at.new.spans (omega arith)
    c.index_mut-spans.ensures.value c.end_at.ensures.before c.in_ok-end_at.ensures.now)

on_err : {T E : Type 0} (r : Result T E) (P : Type 0) → P → OnErr r P
on_err (Ok x) P holds = tt
on_err (Err e) P holds = holds

pub returns-in_err-end_at-clause-unchanged : goal.returns-in_err-end_at-clause-unchanged
returns-in_err-end_at-clause-unchanged c =
    let xs = c.self.inside.variables.items in
    let long : length xs ≡ c.args.self.now.variables = ap (λ s. s.variables) c.self.view_is in
    on_err c.from_residual.result _ (rw (← c.self.view_is)
    (same_one xs c.args.variable c.self.inside.points c.index_mut-spans.result.now c.end_at.new.spans (omega arith)
    c.index_mut-spans.ensures.value c.end_at.ensures.before c.in_err-end_at.ensures.unchanged))

pub returns-clause-members : goal.returns-clause-members
returns-clause-members c k =
    let xs = c.self.inside.variables.items in
    let long : length xs ≡ c.args.self.now.variables = ap (λ s. s.variables) c.self.view_is in
    rw (← c.self.view_is) (unset_members xs c.args.variable c.self.inside.points c.end_at.new.spans (omega arith) c.in_ok-end_at.ensures.now k)
