use Rattle.std.proofs.Common.{◌≡◌, ◌+◌, ◌<◌, [], None, length, arith, take, ◌∙◌, ap, sym, add-one, refl}
use Rattle.std.proofs.lemmas.Result.{err_from_is_err_and}
use Rattle.indexmap.specs.IndexSet.{insert_all}
use Rattle.cv_fix.specs.Closure.{IsAsked, IsClosure}
use Rattle.cv_fix.specs.Known.{filled}
use Rattle.cv_fix.proofs.Causes.{HaveCauses-starts, HaveCauses-more}
use Rattle.cv_fix.proofs.Ends.{IsEnd, IsEnd-here}
use Rattle.cv_fix.proofs.Holds.{once-closure, All-starts, IsClosed-closure}
use Rattle.cv_fix.proofs.OneEnd.{one_closure, closure-Refuses, closure-Exceeds, fault-closes, fault-stops, fault-exceeds}
use Rattle.cv_fix.proofs.Inserted.{length-insert_all, take-insert_all}
use Rattle.cv_fix.proofs.SoFar.{IsSoFar-starts, IsSoFar-more, IsClosure-end}
use Rattle.cv_fix.proofs.closure.close.Goals as goal

pub each-init : goal.each-init
each-init g c =
    let f = g.R.Rules.follows c.args.rules.now in
    let eq = g.R.Item.PartialEq.eq in
    let starts = c.args.starts.items in
    let keys = c.add_all.new.self.items.keys in
    let same = g.met.R.Item.Eq.laws.refl in
    let exact = g.met.R.Item.Twin.exact in
    let a = c.in-Ok.ensures in
    let is : keys ≡ insert_all eq [] starts = a.items ∙ ap (λ l. insert_all eq l starts) c.new-known.ensures.items in
    let fill = a.causes ∙ ap (filled None (length keys)) c.new-known.ensures.causes in
    record {
      so_far = IsSoFar-starts f eq starts keys is;
      causes = HaveCauses-starts f eq same exact starts keys c.add_all.new.self.causes.items is fill;
      within = omega arith;
      room = rw is c.requires.room;
      ready = c.requires.ready;
      follows = λ xs. refl;
      most = refl;
      steps = omega arith;
    }

-- how the search ends where `ask` does not go on
end : (g : _) (c : goal.After-drop-known-in_err-ask-5 g) → IsEnd (g.R.Rules.follows c.args.rules.now) g.R.Item.PartialEq.eq c.args.starts.items (g.R.Rules.most c.args.rules.now) c.args.steps.now c.ask.new.steps c.in_err-ask.field-0.0
end g c =
    let r = c.args.rules.now in
    let keys = c.each.known.items.keys in
    let i = c.each.invariant in
    let asked : IsAsked (g.R.Rules.follows r) g.R.Item.PartialEq.eq c.args.starts.items (g.R.Rules.most r) keys c.each.at = record { so_far = i.so_far; next = omega (arith, c.len.ensures.len); room = i.room } in
    IsEnd-here (g.R.Rules.follows r) g.R.Item.PartialEq.eq c.args.starts.items (g.R.Rules.most r) keys c.each.at asked (g.R.Rules.follows c.each.rules) i.follows (g.R.Rules.most c.each.rules) i.most c.args.steps.now c.each.steps c.ask.new.steps i.steps c.in_err-ask.field-0.0 c.in_err-ask.ensures.stop c.in_err-ask.ensures.over

pub returns-in_err-ask-clause-stop : goal.returns-in_err-ask-clause-stop
returns-in_err-ask-clause-stop g c =
    let p = err_from_is_err_and c.from_residual.result c.from_residual.ensures.1 in
    rw (p.1, p.2) (end g c).stop

pub returns-in_err-ask-clause-over : goal.returns-in_err-ask-clause-over
returns-in_err-ask-clause-over g c =
    let p = err_from_is_err_and c.from_residual.result c.from_residual.ensures.1 in
    rw (p.1, p.2) (end g c).over

pub returns-in_err-ask-clause-closes : goal.returns-in_err-ask-clause-closes
returns-in_err-ask-clause-closes g c =
    let p = err_from_is_err_and c.from_residual.result c.from_residual.ensures.1 in
    rw (p.1, p.2) (fault-closes _ _ g.met.R.Item.Eq.laws.refl _ _ _ _ _ (end g c))

pub returns-in_err-ask-clause-stops : goal.returns-in_err-ask-clause-stops
returns-in_err-ask-clause-stops g c =
    let p = err_from_is_err_and c.from_residual.result c.from_residual.ensures.1 in
    rw (p.1, p.2) (fault-stops _ _ g.met.R.Item.Eq.laws.refl _ _ _ _ _ (end g c))

pub returns-in_err-ask-clause-exceeds : goal.returns-in_err-ask-clause-exceeds
returns-in_err-ask-clause-exceeds g c =
    let p = err_from_is_err_and c.from_residual.result c.from_residual.ensures.1 in
    rw (p.1, p.2) (fault-exceeds _ _ g.met.R.Item.Eq.laws.refl _ _ _ _ _ (end g c))

pub each-preserved : goal.each-preserved
each-preserved g c =
    let r = c.args.rules.now in
    let f = g.R.Rules.follows r in
    let eq = g.R.Item.PartialEq.eq in
    let starts = c.args.starts.items in
    let at = c.each.at in
    let keys = c.each.known.items.keys in
    let new = c.ask.new.known.items.keys in
    let same = g.met.R.Item.Eq.laws.refl in
    let exact = g.met.R.Item.Twin.exact in
    let i = c.each.invariant in
    let a = c.in_ok-ask.ensures in
    let xs = a.added.0 in
    let is : new ≡ insert_all eq keys xs = a.added.2 in
    let next : at < length keys = omega (arith, c.len.ensures.len) in
    let gives = rw add-one at (sym (i.follows (take (at + 1) keys)) ∙ a.added.1) in
    record {
      so_far = rw add-one (IsSoFar-more f eq starts same keys new xs at i.so_far next gives is);
      causes = HaveCauses-more f eq same exact starts keys new xs c.each.known.causes.items c.ask.new.known.causes.items at i.so_far next gives is i.causes a.causes;
      within = omega (arith, next, ap length is, length-insert_all eq keys xs);
      room = rw (sym i.most) a.room;
      ready = rw (is, take-insert_all eq same keys xs (at + 1) (omega (arith, next))) a.ready;
      follows = λ xs. a.follows xs ∙ i.follows xs;
      most = a.most ∙ i.most;
      steps = omega (arith, a.steps, i.steps);
    }

-- the closure, where every item was asked
whole : (g : _) (c : goal.In-Ok-into_closed g) → IsClosure (g.R.Rules.follows c.args.rules.now) g.R.Item.PartialEq.eq c.args.starts.items c.in-Ok-into_closed.closed.items.items
whole g c =
    let i = c.each.invariant in
    rw (c.in-Ok-into_closed.ensures.items) (IsClosure-end (g.R.Rules.follows c.args.rules.now) g.R.Item.PartialEq.eq c.args.starts.items c.each.known.items.keys c.each.at i.so_far (omega (arith, i.within, c.len.ensures.len)))

pub returns-in-Ok-into_closed-clause-once : goal.returns-in-Ok-into_closed-clause-once
returns-in-Ok-into_closed-clause-once g c = once-closure _ _ g.met.R.Item.Eq.laws.refl g.met.R.Item.Twin.exact _ _ (whole g c)

pub returns-in-Ok-into_closed-clause-starts : goal.returns-in-Ok-into_closed-clause-starts
returns-in-Ok-into_closed-clause-starts g c = All-starts _ _ g.met.R.Item.Eq.laws.refl g.met.R.Item.Twin.exact _ _ (whole g c)

pub returns-in-Ok-into_closed-clause-closed : goal.returns-in-Ok-into_closed-clause-closed
returns-in-Ok-into_closed-clause-closed g c = IsClosed-closure _ _ g.met.R.Item.Eq.laws.refl g.met.R.Item.Twin.exact _ _ (whole g c)

pub returns-in-Ok-into_closed-clause-closes : goal.returns-in-Ok-into_closed-clause-closes
returns-in-Ok-into_closed-clause-closes g c = λ items so room. one_closure _ _ g.met.R.Item.Eq.laws.refl _ _ items (whole g c) so

pub returns-in-Ok-into_closed-clause-stops : goal.returns-in-Ok-into_closed-clause-stops
returns-in-Ok-into_closed-clause-stops g c = λ n stop r. absurd (closure-Refuses _ _ g.met.R.Item.Eq.laws.refl _ _ _ n stop (whole g c) r)

pub returns-in-Ok-into_closed-clause-exceeds : goal.returns-in-Ok-into_closed-clause-exceeds
returns-in-Ok-into_closed-clause-exceeds g c = λ n x. absurd (closure-Exceeds _ _ g.met.R.Item.Eq.laws.refl _ _ _ n (whole g c) (rw c.in-Ok-into_closed.ensures.items c.each.invariant.room) x)
