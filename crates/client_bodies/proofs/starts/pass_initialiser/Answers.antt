use Rattle.std.proofs.Common.{arith, ap, length, sym, ◌∙◌}
use Rattle.std.specs.Prelude.{Some}
use Rattle.client_bodies.proofs.Started.{fresh, marked, unmarked}
use Rattle.client_model.specs.Bodies.{before_initialiser}
use Rattle.client_bodies.proofs.starts.pass_initialiser.Goals as goal

pub returns-then-number-len : goal.returns-then-number-len
returns-then-number-len c number calls knows =
    let s = c.args.setting.now in
    let long = ap (λ t. length t.statics) c.setting.view_is in
    let behind = c.in_ok-evaluate.ensures.behind (before_initialiser s number calls) knows (Some c.args.value.now) (sym c.call_count.ensures) in
    marked s number calls c.args.value.now c.evaluate.new.context c.new.result c.requires (omega (arith, c.if-number-len.true, c.len.ensures, long, knows.points))
    (c.new.ensures ∙ ap (λ k. fresh k 0) (sym behind.points)) behind (c.in_ok-evaluate.ensures.same.everything ∙ sym knows.everything)

pub returns-else-number-len : goal.returns-else-number-len
returns-else-number-len c number calls knows =
    let s = c.args.setting.now in
    let long = ap (λ t. length t.statics) c.setting.view_is in
    let behind = c.in_ok-evaluate.ensures.behind (before_initialiser s number calls) knows (Some c.args.value.now) (sym c.call_count.ensures) in
    unmarked s number calls c.args.value.now c.evaluate.new.context (omega (arith, c.if-number-len.false, c.len.ensures, long, knows.points)) behind
