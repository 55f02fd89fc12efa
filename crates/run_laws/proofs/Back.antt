-- A run from point to point that fails goes along a path: where it stands, the walks so far lead there, those of the callers among them.
use Rattle.std.proofs.Common.{◌≡◌, ℕ, zero, suc, ◌-◌, ◌≤◌, Bool, true, false, List, [], ◌∷◌, ◌++◌}
use Rattle.std.proofs.Common.{length, refl, sym, ap, subst, ◌∙◌, arith, append_assoc, append-nil}
use Rattle.std.specs.Prelude.{Option, Some, None, if◌then◌else◌, nat_le, option_and_then, option_map}
use Rattle.client_facts.specs.Setting.{IsCall, IsOutcome, IsStep, Setting, exit_of, way, ways_of}
use Rattle.client_model.specs.declared.form.Point.{Point}
use Rattle.client_model.specs.declared.form.Point.TheVariants as point
use Rattle.client_run.specs.Graph.{AreAgreed, is_test}
use Rattle.client_run.specs.Places.{Comes, Ended, Goes, Place, Turn, Waiting, branching, ended, entering, goes}
use Rattle.client_run.specs.Places.{left, onward, resumed, turn_at, turn_by, turn_of, waiting}
use Rattle.client_steps.specs.Deeds.{Broke, Deed, Did, done_at}
use Rattle.client_steps.specs.Runs.{Cut, Ends, Fails, Moment, On, Outcome, Short, Stops, begun, behind_unit, called_from, charged, chosen, unit_of}
use Rattle.client_steps.specs.States.{Call, State, at_first, call_at, call_in, entered, point_at}
use Rattle.client_walks.specs.Paths.{Entry, LeadsIn, choices_in, start}
use Rattle.client_walks.specs.Paths as paths
use Rattle.client_walks.specs.Walks.{Does, Leads, Walk, choices_on, outcome_at}
use Rattle.client_walks.specs.Walks as walk
use Rattle.run_laws.proofs.Exits.{exit_is, point_there, way_found, ways_inside}
use Rattle.run_laws.proofs.Forth.{onward_stops}
use Rattle.run_laws.specs.Breaks.{Breaks}

-- a path breaks the clause, and the outcomes of its tests and these are all choices
pub record Found (g : Setting) (call clause unused : ℕ) (choices : List Bool) : Type 0 where
  pub taken : List Bool
  pub rest : List Bool
  pub breaks : Breaks g call clause taken
  pub whole : choices ≡ taken ++ rest
  pub unused_is : unused ≡ length rest

-- the procedure is entered so in this state, and these are the callers
abbrev Callers : (g : Setting) (p : ℕ) → Entry g p → State → List Waiting → Type 0
Callers g p start s behind = (at_first g.client ≡ s) × (behind ≡ [])
Callers g p (paths.inside q n m k into w is) s behind =
    (u v : State) × (callers : List Waiting) × Callers g q into u callers × Leads g q n w u v × (entered g.client k v ≡ s)
    × (behind ≡ waiting q m k v ∷ callers)

callers_lead : (g : Setting) (p : ℕ) (into : Entry g p) (s : State) (behind : List Waiting) → Callers g p into s behind → LeadsIn g p into (at_first g.client) s
callers_lead g p start s behind c = c.0
callers_lead g p (paths.inside q n m k into w is) s behind c = (c.0, c.1, callers_lead g q into c.0 c.2 c.3, c.4, c.5)

-- where a run stands that took these choices and has those of its moment left
pub record Stands (g : Setting) (p n : ℕ) (behind : List Waiting) (m : Moment) (choices : List Bool) : Type 0 where
  entry : Entry g p
  walk_to : Walk g p n
  first : State
  into : Callers g p entry first behind
  leads : Leads g p n walk_to first m.state
  whole : choices ≡ (choices_in g p entry ++ choices_on g p n walk_to) ++ m.choices
  there : n ≤ exit_of g p

pub at_start : (g : Setting) (choices : List Bool) (budget : ℕ) →
    Stands g 0 0 [] (record { state = at_first g.client; choices = choices; budget = budget }) choices
at_start g choices budget = record {
  entry = start;
  walk_to = walk.begin 0;
  first = at_first g.client;
  into = (refl, refl);
  leads = refl;
  whole = refl;
  there = omega arith;
}

step_on : (g : Setting) (p n l : ℕ) (b : Bool) (behind : List Waiting) (m o : Moment) (choices : List Bool) → Stands g p n behind m choices →
    IsStep g p n b l → Does g p n m.state o.state → m.choices ≡ outcome_at (point_at g.client p n) b ++ o.choices → l ≤ exit_of g p →
    Stands g p l behind o choices
step_on g p n l b behind m o choices s is does taken there = record {
  entry = s.entry;
  walk_to = walk.step p n l b s.walk_to is;
  first = s.first;
  into = s.into;
  leads = (m.state, s.leads, does);
  whole = s.whole ∙ ap (λ cs. (choices_in g p s.entry ++ choices_on g p n s.walk_to) ++ cs) taken
      ∙ sym (append_assoc (choices_in g p s.entry ++ choices_on g p n s.walk_to) (outcome_at (point_at g.client p n) b) o.choices)
      ∙ ap (λ cs. cs ++ o.choices) (append_assoc (choices_in g p s.entry) (choices_on g p n s.walk_to) (outcome_at (point_at g.client p n) b));
  there = there;
}

step_in : (g : Setting) (p n l : ℕ) (k : Call) (behind : List Waiting) (m : Moment) (choices : List Bool) → Stands g p n behind m choices →
    IsCall g p n k l → (budget : ℕ) →
    Stands g k.callee 0 (waiting p l k m.state ∷ behind) (record { state = entered g.client k m.state; choices = m.choices; budget = budget }) choices
step_in g p n l k behind m choices s is budget = record {
  entry = paths.inside p n l k s.entry s.walk_to is;
  walk_to = walk.begin k.callee;
  first = entered g.client k m.state;
  into = (s.first, m.state, behind, s.into, s.leads, refl, refl);
  leads = refl;
  whole = s.whole ∙ ap (λ cs. cs ++ m.choices) (sym (append-nil (choices_in g p s.entry ++ choices_on g p n s.walk_to)));
  there = omega arith;
}

same_head : (w v : Waiting) (ws vs : List Waiting) → w ∷ ws ≡ v ∷ vs → w ≡ v
same_head w v ws vs is = cc

same_tail : (w v : Waiting) (ws vs : List Waiting) → w ∷ ws ≡ v ∷ vs → ws ≡ vs
same_tail w v ws vs is = cc

module _ (g : Setting) (agreed : AreAgreed g.client) where
  -- at the exit the walk becomes that of a call of the caller
  abbrev Left : Waiting → List Waiting → Moment → List Bool → Type 0
  Left w behind m choices = Stands g w.procedure w.point behind (record m { state = resumed w m.state }) choices

  step_out : (p : ℕ) (w : Waiting) (behind : List Waiting) (m : Moment) (choices : List Bool) (entry : Entry g p) (inner : Walk g p (exit_of g p))
      (first : State) → Callers g p entry first (w ∷ behind) → Leads g p (exit_of g p) inner first m.state →
      choices ≡ (choices_in g p entry ++ choices_on g p (exit_of g p) inner) ++ m.choices → Left w behind m choices
  step_out p w behind m choices start inner first c leads whole = absurd (cc c.1)
  step_out p w behind m choices (paths.inside q n next k into to is) inner first c leads whole =
      let ways = way_found g q n true next is.goes in
      let within = ways_inside g.client agreed q n ways.0 ways.1 in
      let there : next ≤ exit_of g q = subst (λ l. l ≤ exit_of g q) ways.2 within.0 in
      let here : Left (waiting q next k c.1) c.2 m choices = record {
        entry = into;
        walk_to = walk.call q n next k to is inner;
        first = c.0;
        into = c.3;
        leads = (c.1, m.state, c.4, subst (λ u. Leads g k.callee (exit_of g k.callee) inner u m.state) (sym c.5) leads, refl);
        whole = whole
            ∙ ap (λ cs. cs ++ m.choices) (append_assoc (choices_in g q into) (choices_on g q n to) (choices_on g k.callee (exit_of g k.callee) inner));
        there = there;
      } in
      subst (λ v. Left v behind m choices) (sym (same_head w (waiting q next k c.1) behind c.2 c.6))
      (subst (λ vs. Left (waiting q next k c.1) vs m choices) (sym (same_tail w (waiting q next k c.1) behind c.2 c.6)) here)

  step_out_at : (p n : ℕ) (w : Waiting) (behind : List Waiting) (m : Moment) (choices : List Bool) → n ≡ exit_of g p → (entry : Entry g p) →
      (walk_to : Walk g p n) (first : State) → Callers g p entry first (w ∷ behind) → Leads g p n walk_to first m.state →
      choices ≡ (choices_in g p entry ++ choices_on g p n walk_to) ++ m.choices → Left w behind m choices
  step_out_at p n w behind m choices exit entry walk_to first c leads whole =
      subst
      (λ l. (inner : Walk g p l) → Leads g p l inner first m.state → choices ≡ (choices_in g p entry ++ choices_on g p l inner) ++ m.choices →
      Left w behind m choices)
      (sym exit)
      (λ inner leads whole. step_out p w behind m choices entry inner first c leads whole)
      walk_to leads whole

  -- what each turn shows
  abbrev Shown : List Bool → ℕ → ℕ → Moment → Turn → Type 0
  Shown choices p n m (Goes y) = Stands g y.procedure y.point y.behind y.moment choices
  Shown choices p n m (Ended (Fails call clause unused)) =
      (done_at g.form g.client p n m.state ≡ Broke call clause) × (unused ≡ length m.choices)
  Shown choices p n m (Ended (Ends unused)) = Unit {0}
  Shown choices p n m (Ended Short) = Unit {0}
  Shown choices p n m (Ended Cut) = Unit {0}

  shown_left : (choices : List Bool) (p n : ℕ) (behind : List Waiting) (m : Moment) → ways_of g p n ≡ None → Stands g p n behind m choices →
      Shown choices p n m (left behind m)
  shown_left choices p n [] m closed s = tt
  shown_left choices p n (w ∷ behind) m closed s =
      step_out_at p n w behind m choices (exit_is g.client agreed p n closed s.there) s.entry s.walk_to s.first s.into s.leads s.whole

  -- at a point that goes on by these ways
  module _ (choices : List Bool) (p n : ℕ) (behind : List Waiting) (m : Moment) (s : Stands g p n behind m choices) (ways : ℕ × ℕ)
      (goes_so : ways_of g p n ≡ Some ways) where
    way_inside : (b : Bool) → way b ways ≤ exit_of g p
    way_inside true = (ways_inside g.client agreed p n ways goes_so).0
    way_inside false = (ways_inside g.client agreed p n ways goes_so).1

    stepped : (x : Point) → point_at g.client p n ≡ Some x → call_in x ≡ None → (b : Bool) → IsOutcome x b → (o : Moment) → Does g p n m.state o.state →
        m.choices ≡ outcome_at (Some x) b ++ o.choices → Stands g p (way b ways) behind o choices
    stepped x at plain b outcome o does taken =
        step_on g p n (way b ways) b behind m o choices s
        (record { here = x; is = at; plain = plain; outcome = outcome; goes = ap (option_map (way b)) goes_so }) does
        (taken ∙ ap (λ y. outcome_at y b ++ o.choices) (sym at)) (way_inside b)

    shown_test : (call : Option ℕ) → point_at g.client p n ≡ Some (point.Branch call) → (o : Moment) → Does g p n m.state o.state → (cs : List Bool) →
        o.choices ≡ cs → m.choices ≡ o.choices → Shown choices p n m (branching p behind ways (chosen cs o))
    shown_test call at o does [] is same = tt
    shown_test call at o does (true ∷ rest) is same =
        stepped (point.Branch call) at refl true tt (record o { choices = rest }) does (same ∙ is)
    shown_test call at o does (false ∷ rest) is same =
        stepped (point.Branch call) at refl false tt (record o { choices = rest }) does (same ∙ is)

    shown_passes : (x : Point) → point_at g.client p n ≡ Some x → call_in x ≡ None → (o : Moment) → Does g p n m.state o.state → m.choices ≡ o.choices →
        Shown choices p n m (onward p behind ways (is_test (Some x)) (On o))
    shown_passes (point.Branch call) at plain o does same = shown_test call at o does o.choices refl same
    shown_passes (point.Copy target source) at plain o does same = stepped (point.Copy target source) at plain true refl o does same
    shown_passes (point.Component target call) at plain o does same = stepped (point.Component target call) at plain true refl o does same
    shown_passes (point.Call target callee args place) at plain o does same = absurd (cc plain)
    shown_passes point.Nothing at plain o does same = stepped point.Nothing at plain true refl o does same

    shown_charged : (x : Point) → point_at g.client p n ≡ Some x → call_in x ≡ None → (d : Deed) → done_at g.form g.client p n m.state ≡ d → (budget : ℕ) →
        Shown choices p n m (onward p behind ways (is_test (Some x)) (charged d (record m { budget = budget })))
    shown_charged x at plain (Broke call clause) does budget =
        subst (Shown choices p n m) (sym (onward_stops p behind ways (is_test (Some x)) (Fails call clause (length m.choices)))) (does, refl)
    shown_charged x at plain (Did t steps) does budget = of_test (nat_le steps budget)
      where
        of_test : (b : Bool) →
            Shown choices p n m (onward p behind ways (is_test (Some x)) (if b then On (record m { state = t; budget = budget - steps }) else Stops Cut))
        of_test true = shown_passes x at plain (record m { state = t; budget = budget - steps }) (steps, does) refl
        of_test false = subst (Shown choices p n m) (sym (onward_stops p behind ways (is_test (Some x)) Cut)) tt

    shown_unit : (x : Point) → point_at g.client p n ≡ Some x → call_in x ≡ None → (budget : ℕ) →
        Shown choices p n m (onward p behind ways (is_test (Some x)) (behind_unit g.form g.client p n (unit_of budget m)))
    shown_unit x at plain zero = subst (Shown choices p n m) (sym (onward_stops p behind ways (is_test (Some x)) Cut)) tt
    shown_unit x at plain (suc budget) = shown_charged x at plain (done_at g.form g.client p n m.state) refl budget

    shown_plain : (x : Point) → point_at g.client p n ≡ Some x → call_in x ≡ None → Shown choices p n m (turn_at g.form g.client p n behind m ways None)
    shown_plain x at plain =
        subst (λ o. Shown choices p n m (onward p behind ways (is_test o) (begun g.form g.client p n m))) (sym at) (shown_unit x at plain m.budget)

    module _ (k : Call) (is : call_at g.client p n ≡ Some k) where
      abbrev Inside : ℕ → Type 0
      Inside budget =
          Stands g k.callee 0 (waiting p ways.0 k m.state ∷ behind) (record { state = entered g.client k m.state; choices = m.choices; budget = budget })
          choices

      shown_inside : (budget : ℕ) → Inside budget
      shown_inside budget =
          step_in g p n ways.0 k behind m choices s (record { call = is; goes = ap (option_map (way true)) goes_so }) budget

      shown_paid : (budget : ℕ) → Shown choices p n m (entering g.client k (waiting p ways.0 k m.state ∷ behind) (unit_of budget m))
      shown_paid zero = tt
      shown_paid (suc budget) = shown_inside budget

      shown_call : (caller callee : ℕ) →
          Shown choices p n m (entering g.client k (waiting p ways.0 k m.state ∷ behind) (called_from caller callee m))
      shown_call zero zero = shown_paid m.budget
      shown_call zero (suc main) = shown_inside m.budget
      shown_call (suc q) callee = shown_paid m.budget

    shown_at : (x : Point) → point_at g.client p n ≡ Some x → (c : Option Call) → call_in x ≡ c →
        Shown choices p n m (turn_at g.form g.client p n behind m ways c)
    shown_at x at None is = shown_plain x at is
    shown_at x at (Some k) is = shown_call k (ap (option_and_then call_in) at ∙ is) p k.callee

    shown_ways : Shown choices p n m (turn_at g.form g.client p n behind m ways (call_at g.client p n))
    shown_ways =
        let here = point_there g.client agreed p n ways goes_so in
        subst (λ c. Shown choices p n m (turn_at g.form g.client p n behind m ways c)) (sym (ap (option_and_then call_in) here.1))
        (shown_at here.0 here.1 (call_in here.0) refl)

  shown_by : (choices : List Bool) (p n : ℕ) (behind : List Waiting) (m : Moment) → Stands g p n behind m choices → (o : Option (ℕ × ℕ)) →
      ways_of g p n ≡ o → Shown choices p n m (turn_by g.form g.client p n behind m o)
  shown_by choices p n behind m s None is = shown_left choices p n behind m is s
  shown_by choices p n behind m s (Some ways) is = shown_ways choices p n behind m s ways is

  shown : (choices : List Bool) (x : Place) → Stands g x.procedure x.point x.behind x.moment choices →
      Shown choices x.procedure x.point x.moment (turn_of g.form g.client x)
  shown choices x s = shown_by choices x.procedure x.point x.behind x.moment s (ways_of g x.procedure x.point) refl

  -- a run that fails breaks a clause at the end of a path
  pub found : (x : Place) (o : Outcome) → Comes g.form g.client x o → (call clause unused : ℕ) → o ≡ Fails call clause unused → (choices : List Bool) →
      Stands g x.procedure x.point x.behind x.moment choices → Found g call clause unused choices
  found x o (ended y e is) call clause unused fails choices s =
      let at : Shown choices y.procedure y.point y.moment (Ended (Fails call clause unused)) =
      subst (Shown choices y.procedure y.point y.moment) (is ∙ ap Ended fails) (shown choices y s)
      in
      record {
        taken = choices_in g y.procedure s.entry ++ choices_on g y.procedure y.point s.walk_to;
        rest = y.moment.choices;
        breaks = record {
          procedure = y.procedure;
          point = y.point;
          path = record { entry = s.entry; walk = s.walk_to };
          state = y.moment.state;
          leads = (s.first, callers_lead g y.procedure s.entry s.first y.behind s.into, s.leads);
          broke = at.0;
          taken = refl;
        };
        whole = s.whole;
        unused_is = at.1;
      }
  found x o (goes y z e is rest) call clause unused fails choices s =
      found z e rest call clause unused fails choices (subst (Shown choices y.procedure y.point y.moment) is (shown choices y s))
