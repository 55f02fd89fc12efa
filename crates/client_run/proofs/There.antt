-- A run that fails does so at a call that is there.
use Rattle.std.proofs.Common.{◌≡◌, ℕ, zero, suc, ◌-◌, ◌<◌, Bool, true, false, List, [], ◌∷◌, Ok, Err, length, refl, subst}
use Rattle.std.specs.Prelude.{IfOk, Option, Some, None, if◌then◌else◌, nat_le, slice_get}
use Rattle.std.specs.Prelude as prelude
use Rattle.std.specs.Option.{option_map_or}
use Rattle.std.proofs.lemmas.Option.{slice_get_within}
use Rattle.client_run.proofs.ByTrees.{points_are_trees}
use Rattle.client_run.specs.Answers.{Answers, HasCall, outcome_told}
use Rattle.client_run.specs.Graph.{AreAgreed, is_test}
use Rattle.flow_graph.specs.Points.{ways_at}
use Rattle.client_run.specs.Places.{Comes, Ended, Goes, Place, Turn, Waiting, beginning, branching, ended, entering, goes, left, onward, turn_at, turn_by, waiting}
use Rattle.client_run.specs.declared.runner.Outcome as made
use Rattle.client_run.specs.declared.runner.Outcome.TheVariants as ending
use Rattle.client_run.specs.declared.runner.RunFault.{RunFault}
use Rattle.client_model.specs.declared.form.CallSite.{CallSite}
use Rattle.client_model.specs.declared.form.Point.{Point}
use Rattle.client_model.specs.declared.form.Point.TheVariants as point
use Rattle.client_model.specs.CheckedForm.{ClientForm}
use Rattle.client_steps.specs.Deeds.{Broke, Deed, Did, answered, called, done, done_at}
use Rattle.client_steps.specs.Deeds as deeds
use Rattle.client_steps.specs.Runs.{Begun, Cut, Ends, Fails, Moment, On, Outcome, Short, Stops, begun, behind_unit, called_from, charged, chosen, unit_of}
use Rattle.client_steps.specs.States.{Call, State, call_at, point_at}
use Rattle.easl_model.specs.Form.{Form}

module _ (form : Form) (client : ClientForm) where
  abbrev IsThere : Outcome → Type 0
  IsThere (Ends left) = Unit {0}
  IsThere Short = Unit {0}
  IsThere (Fails call clause left) = call < length client.calls
  IsThere Cut = Unit {0}

  abbrev DeedThere : Deed → Type 0
  DeedThere (Broke call clause) = call < length client.calls
  DeedThere (Did s steps) = Unit {0}

  abbrev BegunThere : Begun → Type 0
  BegunThere (On m) = Unit {0}
  BegunThere (Stops o) = IsThere o

  abbrev TurnThere : Turn → Type 0
  TurnThere (Goes x) = Unit {0}
  TurnThere (Ended o) = IsThere o

  answer_there : (target : Option ℕ) (call method : ℕ) (args : List ℕ) (o : Option ℕ) (s : State) → call < length client.calls →
      DeedThere (answered form target call method args o s)
  answer_there target call method args None s there = tt
  answer_there target call method args (Some clause) s there = there

  called_by : (target : Option ℕ) (call : ℕ) (s : State) (o : Option CallSite) → slice_get client.calls call ≡ o →
      DeedThere (option_map_or (λ site. deeds.made form target call site s) o (Did s 0))
  called_by target call s None is = tt
  called_by target call s (Some site) is = answer_there target call site.method _ _ s (slice_get_within client.calls call site is)

  done_there : (x : Point) (s : State) → DeedThere (done form client x s)
  done_there (point.Copy target source) s = tt
  done_there (point.Component target call) s = called_by target call s (slice_get client.calls call) refl
  done_there (point.Call target procedure args place) s = tt
  done_there (point.Branch None) s = tt
  done_there (point.Branch (Some call)) s = called_by None call s (slice_get client.calls call) refl
  done_there point.Nothing s = tt

  done_by : (o : Option Point) (s : State) → DeedThere (option_map_or (λ x. done form client x s) o (Did s 0))
  done_by None s = tt
  done_by (Some x) s = done_there x s

  if_there : (b : Bool) (m : Moment) → BegunThere (if b then On m else Stops Cut)
  if_there true m = tt
  if_there false m = tt

  charged_there : (d : Deed) (m : Moment) → DeedThere d → BegunThere (charged d m)
  charged_there (Broke call clause) m there = there
  charged_there (Did s steps) m there = if_there (nat_le steps m.budget) (record m { state = s; budget = m.budget - steps })

  unit_there : (units : ℕ) (m : Moment) → BegunThere (unit_of units m)
  unit_there zero m = tt
  unit_there (suc less) m = tt

  point_there : (p number : ℕ) (b : Begun) → BegunThere b → BegunThere (behind_unit form client p number b)
  point_there p number (On m) there = charged_there (done_at form client p number m.state) m (done_by (point_at client p number) m.state)
  point_there p number (Stops o) there = there

  chosen_there : (p : ℕ) (behind : List Waiting) (ways : ℕ × ℕ) (cs : List Bool) (m : Moment) → TurnThere (branching p behind ways (chosen cs m))
  chosen_there p behind ways [] m = tt
  chosen_there p behind ways (true ∷ cs) m = tt
  chosen_there p behind ways (false ∷ cs) m = tt

  onward_there : (p : ℕ) (behind : List Waiting) (ways : ℕ × ℕ) (test : Bool) (b : Begun) → BegunThere b → TurnThere (onward p behind ways test b)
  onward_there p behind ways true (On m) there = chosen_there p behind ways m.choices m
  onward_there p behind ways true (Stops o) there = there
  onward_there p behind ways false (On m) there = tt
  onward_there p behind ways false (Stops o) there = there

  entering_there : (k : Call) (behind : List Waiting) (b : Begun) → BegunThere b → TurnThere (entering client k behind b)
  entering_there k behind (On m) there = tt
  entering_there k behind (Stops o) there = there

  from_there : (p callee : ℕ) (m : Moment) → BegunThere (called_from p callee m)
  from_there zero zero m = unit_there m.budget m
  from_there zero (suc main) m = tt
  from_there (suc p) callee m = unit_there m.budget m

  call_there : (p number : ℕ) (behind : List Waiting) (m : Moment) (ways : ℕ × ℕ) (k : Option Call) → TurnThere (turn_at form client p number behind m ways k)
  call_there p number behind m ways None =
      onward_there p behind ways (is_test (point_at client p number)) (begun form client p number m)
      (point_there p number (unit_of m.budget m) (unit_there m.budget m))
  call_there p number behind m ways (Some k) =
      entering_there k (waiting p ways.0 k m.state ∷ behind) (called_from p k.callee m) (from_there p k.callee m)

  left_there : (behind : List Waiting) (m : Moment) → TurnThere (left behind m)
  left_there [] m = tt
  left_there (w ∷ behind) m = tt

  turn_there : (p number : ℕ) (behind : List Waiting) (m : Moment) (o : Option (ℕ × ℕ)) → TurnThere (turn_by form client p number behind m o)
  turn_there p number behind m None = left_there behind m
  turn_there p number behind m (Some ways) = call_there p number behind m ways (call_at client p number)

  comes_there : (x : Place) (o : Outcome) → Comes form client x o → IsThere o
  comes_there x o (ended y q is) =
      subst TurnThere is (turn_there y.procedure y.point y.behind y.moment (ways_at client y.procedure y.point))
  comes_there x o (goes y z q is rest) = comes_there z q rest

  told_there : (o : made.Outcome) → IsThere (outcome_told o) → HasCall client.calls o
  told_there (ending.Ends left) there = tt
  told_there ending.Short there = tt
  told_there (ending.Fails call clause left) there = there

  pub answers_there : (choices : List Bool) (budget : ℕ) (r : prelude.Result made.Outcome RunFault) → AreAgreed client → Answers form client choices budget r →
      IfOk r (HasCall client.calls)
  answers_there choices budget (Ok o) agreed answers =
      told_there o (comes_there (beginning client choices budget) (outcome_told o)
      ((points_are_trees form client choices budget (outcome_told o) agreed).points answers))
  answers_there choices budget (Err e) agreed answers = tt
