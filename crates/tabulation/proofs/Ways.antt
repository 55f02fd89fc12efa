-- Steps and calls at points.
use Rattle.std.proofs.Common.{◌≡◌, ℕ, Bool, true, false, Option, Some, None, option_map, option_and_then, sym, ap, subst, ◌∙◌}
use Rattle.client_facts.specs.Setting.{GoesOn, IsCall, IsOutcome, IsStep, Setting, way, ways_of}
use Rattle.client_model.specs.declared.form.Point.{Point}
use Rattle.client_steps.specs.States.{Call, call_at, call_in, point_at}
use Rattle.tabulation.specs.Successors.{IsCallTo}

-- a step with an outcome goes to one point
pub one_step : (g : Setting) (p n : ℕ) (b : Bool) (m k : ℕ) → IsStep g p n b m → IsStep g p n b k → m ≡ k
one_step g p n b m k one other = let same : Some m ≡ Some k = sym one.goes ∙ other.goes in cc

-- one call stands at a point, and one point behind it
pub one_call : (g : Setting) (p n : ℕ) (k l : Call) (m o : ℕ) → IsCall g p n k m → IsCall g p n l o → k ≡ l
one_call g p n k l m o one other = let same : Some k ≡ Some l = sym one.call ∙ other.call in cc

pub one_behind : (g : Setting) (p n : ℕ) (k l : Call) (m o : ℕ) → IsCall g p n k m → IsCall g p n l o → m ≡ o
one_behind g p n k l m o one other = let same : Some m ≡ Some o = sym one.goes ∙ other.goes in cc

module _ (g : Setting) (p n : ℕ) where
  pub step_there : (b : Bool) (here : Point) (ways : ℕ × ℕ) → point_at g.client p n ≡ Some here → call_in here ≡ None → IsOutcome here b →
      ways_of g p n ≡ Some ways → IsStep g p n b (way b ways)
  step_there b here ways is plain outcome goes = record { here = here; is = is; plain = plain; outcome = outcome; goes = ap (option_map (way b)) goes }

  -- where no point stands
  pub no_point : (b : Bool) (m : ℕ) → point_at g.client p n ≡ None → IsStep g p n b m → ⊥
  no_point b m none s = let clash : Some s.here ≡ None = sym s.is ∙ none in cc

  -- where what stands there has no such outcome
  pub no_outcome : (b : Bool) (here : Point) (r : Bool) (m : ℕ) → point_at g.client p n ≡ Some here →
      (call_in here ≡ None → IsOutcome here b → r ≡ true) → r ≡ false → IsStep g p n b m → ⊥
  no_outcome b here r m is only not s =
      let one : Some s.here ≡ Some here = sym s.is ∙ is in
      let same : s.here ≡ here = cc in
      let has : r ≡ true = only (subst (λ x. call_in x ≡ None) same s.plain) (subst (λ x. IsOutcome x b) same s.outcome) in
      let clash : true ≡ false = sym has ∙ not in cc

  -- where it goes nowhere
  pub no_way : (b : Bool) (m : ℕ) → ways_of g p n ≡ None → GoesOn g p n b m → ⊥
  no_way b m none goes = let clash : None ≡ Some m = sym (ap (option_map (way b)) none) ∙ goes in cc

  pub call_there : (here : Point) (c m : ℕ) (ways : ℕ × ℕ) → point_at g.client p n ≡ Some here → option_map (λ k. k.callee) (call_in here) ≡ Some c →
      ways_of g p n ≡ Some ways → m ≡ ways.0 → IsCallTo g p n c m
  call_there here c m ways is callee goes first = by (call_in here) refl_in callee
    where
      at_call : call_at g.client p n ≡ call_in here
      at_call = ap (λ x. option_and_then call_in x) is

      refl_in : call_in here ≡ call_in here
      refl_in = λ i. call_in here

      by : (o : Option Call) → call_in here ≡ o → option_map (λ k. k.callee) o ≡ Some c → IsCallTo g p n c m
      by None e h = let clash : None ≡ Some c = h in cc
      by (Some k) e h = record {
        call = k;
        there = record { call = at_call ∙ e; goes = ap (option_map (way true)) goes ∙ ap Some (sym first) };
        callee = let same : Some k.callee ≡ Some c = h in cc;
      }

  -- where no point stands, or one that is no call
  pub no_call_point : (c m : ℕ) → point_at g.client p n ≡ None → IsCallTo g p n c m → ⊥
  no_call_point c m none k = let clash : None ≡ Some k.call = sym (ap (λ x. option_and_then call_in x) none) ∙ k.there.call in cc

  pub no_call : (here : Point) (c m : ℕ) → point_at g.client p n ≡ Some here → option_map (λ k. k.callee) (call_in here) ≡ None → IsCallTo g p n c m → ⊥
  no_call here c m is none k =
      let at : call_in here ≡ Some k.call = sym (ap (λ x. option_and_then call_in x) is) ∙ k.there.call in
      let clash : None ≡ Some k.call.callee = sym none ∙ ap (option_map (λ l. l.callee)) at in cc
