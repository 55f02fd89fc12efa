use Rattle.std.proofs.Common.{sym, subst}
use Rattle.std.specs.Prelude.{Err, Ok, OnOk, Result}
use Rattle.client_model.specs.Contexts.{after}
use Rattle.client_model.specs.Statements.{Declare}
use Rattle.client_values.specs.Knowing.{Knows}
use Rattle.client_bodies.proofs.behind.behind_declaration.Goals as goal

on_ok : {T E : Type 0} {P Q : Type 0} (r : Result T E) → (P → Q) → OnOk r P → OnOk r Q
on_ok (Ok x) f h = f h
on_ok (Err e) f h = tt

pub returns-in-None-clause-behind : goal.returns-in-None-clause-behind
returns-in-None-clause-behind c =
    on_ok c.behind_declared.result
    (λ behind d place knows.
    subst (λ v. Knows (after c.args.setting.now d (Declare place c.args.sort.now c.args.name.now v)) c.behind_declared.new.context) (sym c.in-None.is) (behind d knows))
    c.behind_declared.ensures.behind

pub returns-in-Some-clause-behind : goal.returns-in-Some-clause-behind
returns-in-Some-clause-behind c =
    on_ok c.behind_initialised.result
    (λ behind d place knows.
    subst (λ v. Knows (after c.args.setting.now d (Declare place c.args.sort.now c.args.name.now v)) c.behind_initialised.new.context) (sym c.in-Some.is) (behind d knows))
    c.behind_initialised.ensures.behind
