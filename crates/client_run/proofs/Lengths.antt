-- The statements of a procedure keep how many statics and variables there are: by induction on the run.
use Rattle.std.proofs.Common.{◌≡◌, ℕ, zero, suc, ◌-◌, Bool, true, false, List, [], ◌∷◌, length, length-set, refl, sym, subst, ◌∙◌}
use Rattle.std.specs.Prelude.{Option, Some, None, if◌then◌else◌, nat_le, slice_get}
use Rattle.std.specs.Option.{option_map_or}
use Rattle.client_run.specs.Kept.{AreAsMany, FramesKeepLengths, KeepsLengths}
use Rattle.client_model.specs.Nodes.{Tree, Trees, While}
use Rattle.client_model.specs.declared.form.CallSite.{CallSite}
use Rattle.client_model.specs.declared.form.Point.{Point}
use Rattle.client_model.specs.declared.form.Point.TheVariants as point
use Rattle.client_model.specs.CheckedForm.{ClientForm}
use Rattle.client_model.specs.Codes.{Name, Result as Given, Slot, Static, Variable, name_of}
use Rattle.client_steps.specs.Deeds.{Broke, Deed, Did, answered, done, done_at, made}
use Rattle.client_steps.specs.Runs.{Again, Around, Back, Begun, Behind, Branches, Broken, Called, Cut, Enters, Leaves, Loops, Moment, On, Out, Over}
use Rattle.client_steps.specs.Runs.{Passes, Result, Runs, RunsAll, Skips, Steps, Stopped, Stops, Tested, Turn, Turns, around, begun, behind_call}
use Rattle.client_steps.specs.Runs.{behind_unit, branches, breaks, called_from, calls, charged, choosing, chosen, continues, enters, goes_on, inside}
use Rattle.client_steps.specs.Runs.{leaves, leaving, loops, no_more, on_false, on_true, out, passing, past, plain, returns, row, step, tested, turn_of}
use Rattle.client_steps.specs.Runs.{unit_of, unpaid, untaken, untried}
use Rattle.client_steps.specs.States.{Call, State, body_at, entered, point_at, returned, set_named, with_object}
use Rattle.easl_heap.specs.Body.{body}
use Rattle.easl_model.specs.Form.{Form}

as_many : (s : State) → AreAsMany s s
as_many s = record { statics = refl; variables = refl }

joined : (s t u : State) → AreAsMany s t → AreAsMany t u → AreAsMany s u
joined s t u one other = record { statics = other.statics ∙ one.statics; variables = other.variables ∙ one.variables }

set_keeps : (name : Name) (object : ℕ) (s : State) → AreAsMany s (set_named name object s)
set_keeps (Static k) object s = record { statics = length-set s.statics k object; variables = refl }
set_keeps (Variable j) object s = record { statics = refl; variables = length-set s.variables j object }
set_keeps (Slot j) object s = as_many s
set_keeps (Given j) object s = record { statics = refl; variables = refl }

with_keeps : (name : Option ℕ) (object : ℕ) (s : State) → AreAsMany s (with_object name object s)
with_keeps None object s = as_many s
with_keeps (Some code) object s = set_keeps (name_of code) object s

abbrev DeedKeeps : State → Deed → Type 0
DeedKeeps s (Broke call clause) = Unit {0}
DeedKeeps s (Did t steps) = AreAsMany s t

abbrev BegunKeeps : State → Begun → Type 0
BegunKeeps s (On m) = AreAsMany s m.state
BegunKeeps s (Stops o) = Unit {0}

abbrev TestKeeps : State → Tested → Type 0
TestKeeps s (Enters m) = AreAsMany s m.state
TestKeeps s (Skips m) = AreAsMany s m.state
TestKeeps s (Over o) = Unit {0}

abbrev TurnKeeps : State → Turn → Type 0
TurnKeeps s (Around m) = AreAsMany s m.state
TurnKeeps s (Out r) = KeepsLengths s r

from_keeps : (s t : State) (r : Result) → AreAsMany s t → KeepsLengths t r → KeepsLengths s r
from_keeps s t (Passes m) one other = joined s t m.state one other
from_keeps s t (Leaves (Broken m)) one other = joined s t m.state one other
from_keeps s t (Leaves (Again m)) one other = joined s t m.state one other
from_keeps s t (Leaves (Back m)) one other = joined s t m.state one other
from_keeps s t (Leaves (Stopped o)) one other = tt

module _ (form : Form) (client : ClientForm) where
  answer_keeps : (target : Option ℕ) (call method : ℕ) (args : List ℕ) (o : Option ℕ) (s : State) → DeedKeeps s (answered form target call method args o s)
  answer_keeps target call method args None s =
      let left = body form method args s.heap in
      let kept = with_keeps target left.result (record s { heap = left.heap }) in
      record { statics = kept.statics; variables = kept.variables }
  answer_keeps target call method args (Some clause) s = tt

  called_keeps : (target : Option ℕ) (call : ℕ) (s : State) (o : Option CallSite) →
      DeedKeeps s (option_map_or (λ site. made form target call site s) o (Did s 0))
  called_keeps target call s None = as_many s
  called_keeps target call s (Some site) = answer_keeps target call site.method _ _ s

  done_keeps : (x : Point) (s : State) → DeedKeeps s (done form client x s)
  done_keeps (point.Copy target source) s = with_keeps target _ s
  done_keeps (point.Component target call) s = called_keeps target call s (slice_get client.calls call)
  done_keeps (point.Call target procedure args place) s = as_many s
  done_keeps (point.Branch None) s = as_many s
  done_keeps (point.Branch (Some call)) s = called_keeps None call s (slice_get client.calls call)
  done_keeps point.Nothing s = as_many s

  done_by : (o : Option Point) (s : State) → DeedKeeps s (option_map_or (λ x. done form client x s) o (Did s 0))
  done_by None s = as_many s
  done_by (Some x) s = done_keeps x s

  if_keeps : (s : State) (b : Bool) (m : Moment) → AreAsMany s m.state → BegunKeeps s (if b then On m else Stops Cut)
  if_keeps s true m kept = kept
  if_keeps s false m kept = tt

  charged_keeps : (s : State) (d : Deed) (m : Moment) → DeedKeeps s d → BegunKeeps s (charged d m)
  charged_keeps s (Broke call clause) m kept = tt
  charged_keeps s (Did t steps) m kept = if_keeps s (nat_le steps m.budget) (record m { state = t; budget = m.budget - steps }) kept

  unit_keeps : (units : ℕ) (m : Moment) → BegunKeeps m.state (unit_of units m)
  unit_keeps zero m = tt
  unit_keeps (suc less) m = as_many m.state

  begun_keeps : (p number units : ℕ) (m : Moment) → BegunKeeps m.state (behind_unit form client p number (unit_of units m))
  begun_keeps p number zero m = tt
  begun_keeps p number (suc less) m =
      charged_keeps m.state (done_at form client p number m.state) (record m { budget = less }) (done_by (point_at client p number) m.state)

  chosen_keeps : (s : State) (cs : List Bool) (m : Moment) → AreAsMany s m.state → TestKeeps s (chosen cs m)
  chosen_keeps s [] m kept = tt
  chosen_keeps s (true ∷ cs) m kept = kept
  chosen_keeps s (false ∷ cs) m kept = kept

  choosing_keeps : (s : State) (b : Begun) → BegunKeeps s b → TestKeeps s (choosing b)
  choosing_keeps s (On m) kept = chosen_keeps s m.choices m kept
  choosing_keeps s (Stops o) kept = tt

  tested_keeps : (p number : ℕ) (m : Moment) → TestKeeps m.state (tested form client p number m)
  tested_keeps p number m = choosing_keeps m.state (begun form client p number m) (begun_keeps p number m.budget m)

  passing_keeps : (s : State) (b : Begun) → BegunKeeps s b → KeepsLengths s (passing b)
  passing_keeps s (On m) kept = kept
  passing_keeps s (Stops o) kept = tt

  broken_keeps : (s : State) (b : Begun) → BegunKeeps s b → KeepsLengths s (leaving Broken b)
  broken_keeps s (On m) kept = kept
  broken_keeps s (Stops o) kept = tt

  again_keeps : (s : State) (b : Begun) → BegunKeeps s b → KeepsLengths s (leaving Again b)
  again_keeps s (On m) kept = kept
  again_keeps s (Stops o) kept = tt

  back_keeps : (s : State) (b : Begun) → BegunKeeps s b → KeepsLengths s (leaving Back b)
  back_keeps s (On m) kept = kept
  back_keeps s (Stops o) kept = tt

  turn_keeps : (s : State) (r : Result) → KeepsLengths s r → TurnKeeps s (turn_of r)
  turn_keeps s (Passes m) kept = kept
  turn_keeps s (Leaves (Broken m)) kept = kept
  turn_keeps s (Leaves (Again m)) kept = kept
  turn_keeps s (Leaves (Back m)) kept = kept
  turn_keeps s (Leaves (Stopped o)) kept = tt

  -- behind a procedure call, whose body began with these statics
  abbrev StaticsKept : State → Result → Type 0
  StaticsKept s (Passes m) = length m.state.statics ≡ length s.statics
  StaticsKept s (Leaves (Broken m)) = length m.state.statics ≡ length s.statics
  StaticsKept s (Leaves (Again m)) = length m.state.statics ≡ length s.statics
  StaticsKept s (Leaves (Back m)) = length m.state.statics ≡ length s.statics
  StaticsKept s (Leaves (Stopped o)) = Unit {0}

  statics_kept : (s t : State) (r : Result) → length t.statics ≡ length s.statics → KeepsLengths t r → StaticsKept s r
  statics_kept s t (Passes m) same kept = kept.statics ∙ same
  statics_kept s t (Leaves (Broken m)) same kept = kept.statics ∙ same
  statics_kept s t (Leaves (Again m)) same kept = kept.statics ∙ same
  statics_kept s t (Leaves (Back m)) same kept = kept.statics ∙ same
  statics_kept s t (Leaves (Stopped o)) same kept = tt

  back_in_frame : (k : Call) (s t : State) → length t.statics ≡ length s.statics → AreAsMany s (returned k s t)
  back_in_frame k s t same =
      let kept = with_keeps k.target t.result (record s { heap = t.heap; statics = t.statics }) in
      record { statics = kept.statics ∙ same; variables = kept.variables }

  call_keeps : (k : Call) (s : State) (r : Result) → StaticsKept s r → KeepsLengths s (behind_call k s r)
  call_keeps k s (Passes m) same = back_in_frame k s m.state same
  call_keeps k s (Leaves (Broken m)) same = back_in_frame k s m.state same
  call_keeps k s (Leaves (Again m)) same = back_in_frame k s m.state same
  call_keeps k s (Leaves (Back m)) same = back_in_frame k s m.state same
  call_keeps k s (Leaves (Stopped o)) same = tt

  called_from_keeps : (p callee : ℕ) (m : Moment) → BegunKeeps m.state (called_from p callee m)
  called_from_keeps zero zero m = unit_keeps m.budget m
  called_from_keeps zero (suc main) m = as_many m.state
  called_from_keeps (suc p) callee m = unit_keeps m.budget m

  mutual
    runs_keep : (p : ℕ) (x : Tree) (m : Moment) (r : Result) → Runs form client p x m r → KeepsLengths m.state r
    runs_keep p x m r (step q number n s one) = steps_keep q number _ n r one
    runs_keep p x m r (breaks q number n s is) =
        subst (KeepsLengths n.state) (sym is) (broken_keeps n.state (begun form client q number n) (begun_keeps q number n.budget n))
    runs_keep p x m r (continues q number n s is) =
        subst (KeepsLengths n.state) (sym is) (again_keeps n.state (begun form client q number n) (begun_keeps q number n.budget n))
    runs_keep p x m r (returns q number n s is) =
        subst (KeepsLengths n.state) (sym is) (back_keeps n.state (begun form client q number n) (begun_keeps q number n.budget n))
    runs_keep p x m r (branches q number first second n s one) = branches_keep n.state q first second _ r (tested_keeps q number n) one
    runs_keep p x m r (loops q number inner n s one) = loops_keep n.state q number inner _ r (tested_keeps q number n) one

    steps_keep : (p number : ℕ) (c : Option Call) (m : Moment) (r : Result) → Steps form client p number c m r → KeepsLengths m.state r
    steps_keep p number c m r (plain q number1 n s is) =
        subst (KeepsLengths n.state) (sym is) (passing_keeps n.state (begun form client q number1 n) (begun_keeps q number1 n.budget n))
    steps_keep p number c m r (calls q number1 k n s e one is) =
        subst (KeepsLengths n.state) (sym is) (call_keeps k n.state s (called_keep n.state k _ s (called_from_keeps q k.callee n) one))

    called_keep : (s : State) (k : Call) (b : Begun) (r : Result) → BegunKeeps s b → Called form client k b r → StaticsKept s r
    called_keep s k b r kept (enters l n e one) =
        statics_kept s (entered client l n.state) r kept.statics (all_keep l.callee (body_at client l.callee) (record n
        { state = entered client l n.state }) r one)
    called_keep s k b r kept (unpaid l o) = tt

    branches_keep : (s : State) (p : ℕ) (first second : Trees) (t : Tested) (r : Result) → TestKeeps s t → Branches form client p first second t r →
        KeepsLengths s r
    branches_keep s p first second t r kept (on_true q f1 s1 n e one) = from_keeps s n.state r kept (all_keep q f1 n r one)
    branches_keep s p first second t r kept (on_false q f1 s1 n e one) = from_keeps s n.state r kept (all_keep q s1 n r one)
    branches_keep s p first second t r kept (untaken q f1 s1 o) = tt

    loops_keep : (s : State) (p number : ℕ) (inner : Trees) (t : Tested) (r : Result) → TestKeeps s t → Loops form client p number inner t r →
        KeepsLengths s r
    loops_keep s p number inner t r kept (inside q number1 i1 n u e one turns) =
        turns_keep s q number1 i1 (turn_of u) r (turn_keeps s u (from_keeps s n.state u kept (all_keep q i1 n u one))) turns
    loops_keep s p number inner t r kept (past q number1 i1 n) = kept
    loops_keep s p number inner t r kept (untried q number1 i1 o) = tt

    turns_keep : (s : State) (p number : ℕ) (inner : Trees) (t : Turn) (r : Result) → TurnKeeps s t → Turns form client p number inner t r →
        KeepsLengths s r
    turns_keep s p number inner t r kept (around q number1 i1 n u one) = from_keeps s n.state r kept (runs_keep q (While number1 i1) n r one)
    turns_keep s p number inner t r kept (out q number1 i1 u) = kept

    all_keep : (p : ℕ) (xs : Trees) (m : Moment) (r : Result) → RunsAll form client p xs m r → KeepsLengths m.state r
    all_keep p xs m r (no_more q n) = as_many n.state
    all_keep p xs m r (row q y ys n s e one rest) = behind_keep n.state q ys s r (runs_keep q y n s one) rest

    behind_keep : (s : State) (p : ℕ) (xs : Trees) (b r : Result) → KeepsLengths s b → Behind form client p xs b r → KeepsLengths s r
    behind_keep s p xs b r kept (goes_on q ys n u one) = from_keeps s n.state r kept (all_keep q ys n r one)
    behind_keep s p xs b r kept (leaves q ys way) = kept

pub frames_keep_lengths : FramesKeepLengths
frames_keep_lengths = runs_keep
