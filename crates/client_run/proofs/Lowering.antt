-- Each turn brings a run nearer to its end.
use Rattle.std.proofs.Common.{◌≡◌, ℕ, zero, suc, ◌+◌, ◌*◌, ◌<◌, ◌≤◌, Bool, true, false, List, [], ◌∷◌, refl, ap, subst, arith}
use Rattle.std.specs.Prelude.{Option, Some, None, option_and_then, slice_get}
use Rattle.std.specs.Option.{option_map_or}
use Rattle.std.proofs.lemmas.Option.{slice_get_within}
use Rattle.client_run.specs.Graph.{AreAgreed, IsAgreed, is_test}
use Rattle.flow_graph.specs.Points.{exit_at, exit_of, next_in, ways_at}
use Rattle.client_run.specs.Places.{Ended, Goes, Place, Turn, Waiting, branching, entering, going, left, onward, turn_at, turn_by, turn_of, waiting}
use Rattle.client_run.specs.Turns.{height, measure, weight}
use Rattle.client_model.specs.declared.form.Point.{Point}
use Rattle.client_model.specs.CheckedForm.{ClientForm, ProcedureForm}
use Rattle.client_steps.proofs.Exist.{Less, LessTested, choosing_less, unit_less}
use Rattle.client_steps.specs.Runs.{Begun, Enters, Moment, On, Over, Skips, Stops, Tested, begun, called_from, choosing, unit_of}
use Rattle.client_steps.specs.States.{Call, call_at, call_in, point_at, procedure_at}
use Rattle.easl_model.specs.Form.{Form}

-- only the point of the procedure that is executed is another
height_less : (exit p number next : ℕ) (behind : List Waiting) → weight exit p next ≤ weight exit p number →
    height exit p next behind ≤ height exit p number behind
height_less exit p number next [] less = less
height_less exit p number next (w ∷ behind) less = omega arith

height_nearer : (exit number : ℕ) (behind : List Waiting) → number < exit → height exit 0 (suc number) behind + 2 ≤ height exit 0 number behind
height_nearer exit number [] within = omega arith
height_nearer exit number (w ∷ behind) within = omega arith

no_weight : (exit p number : ℕ) → 0 < p → weight exit p number ≡ 0
no_weight exit zero number more = absurd (omega arith)
no_weight exit (suc p) number more = refl

module _ (form : Form) (client : ClientForm) (exit : ℕ) where
  abbrev Lowers : ℕ → Turn → Type 0
  Lowers most (Goes y) = measure exit y < most
  Lowers most (Ended o) = Unit {0}

  going_lowers : (p number next : ℕ) (behind : List Waiting) (m : Moment) (b : Begun) → weight exit p next ≤ weight exit p number → Less m.budget b →
      Lowers (2 * m.budget + height exit p number behind) (going p behind next b)
  going_lowers p number next behind m (On n) less few =
      let under : height exit p next behind ≤ height exit p number behind = height_less exit p number next behind less in
      omega arith
  going_lowers p number next behind m (Stops o) less few = tt

  branching_lowers : (p number : ℕ) (ways : ℕ × ℕ) (behind : List Waiting) (m : Moment) (t : Tested) → weight exit p ways.0 ≤ weight exit p number →
      weight exit p ways.1 ≤ weight exit p number → LessTested m.budget t →
      Lowers (2 * m.budget + height exit p number behind) (branching p behind ways t)
  branching_lowers p number ways behind m (Enters n) first second few =
      let under : height exit p ways.0 behind ≤ height exit p number behind = height_less exit p number ways.0 behind first in
      omega arith
  branching_lowers p number ways behind m (Skips n) first second few =
      let under : height exit p ways.1 behind ≤ height exit p number behind = height_less exit p number ways.1 behind second in
      omega arith
  branching_lowers p number ways behind m (Over o) first second few = tt

  onward_lowers : (p number : ℕ) (ways : ℕ × ℕ) (behind : List Waiting) (m : Moment) (test : Bool) (b : Begun) →
      weight exit p ways.0 ≤ weight exit p number → weight exit p ways.1 ≤ weight exit p number → Less m.budget b →
      Lowers (2 * m.budget + height exit p number behind) (onward p behind ways test b)
  onward_lowers p number ways behind m true b first second few =
      branching_lowers p number ways behind m (choosing b) first second (choosing_less m.budget b few)
  onward_lowers p number ways behind m false b first second few = going_lowers p number ways.0 behind m b first few

  -- a call that leaves so many units
  abbrev Under : ℕ → ℕ → Begun → Type 0
  Under most rest (On n) = 2 * n.budget + suc rest < most
  Under most rest (Stops o) = Unit {0}

  entering_lowers : (most : ℕ) (k : Call) (w : Waiting) (behind : List Waiting) (b : Begun) → 0 < k.callee →
      Under most (height exit w.procedure w.point behind) b → Lowers most (entering client k (w ∷ behind) b)
  entering_lowers most k w behind (On n) later under =
      let none : weight exit k.callee 0 ≡ 0 = no_weight exit k.callee 0 later in
      omega arith
  entering_lowers most k w behind (Stops o) later under = tt

  unit_under : (units rest most : ℕ) (m : Moment) → 2 * units + rest ≤ most → Under most rest (unit_of units m)
  unit_under zero rest most m few = tt
  unit_under (suc less) rest most m few = omega arith

  called_under : (p callee number next : ℕ) (behind : List Waiting) (m : Moment) → 0 < callee → (p ≡ 0 → (next ≡ suc number) × (number < exit)) →
      Under (2 * m.budget + height exit p number behind) (height exit p next behind) (called_from p callee m)
  called_under zero zero number next behind m later start = absurd (omega arith)
  called_under zero (suc main) number next behind m later start =
      let at : next ≡ suc number = (start refl).0 in
      let nearer : height exit 0 (suc number) behind + 2 ≤ height exit 0 number behind = height_nearer exit number behind (start refl).1 in
      let same : height exit 0 next behind ≡ height exit 0 (suc number) behind = ap (λ n. height exit 0 n behind) at in
      omega arith
  called_under (suc p) callee number next behind m later start =
      let under : height exit (suc p) next behind ≤ height exit (suc p) number behind = height_less exit (suc p) number next behind (omega arith) in
      unit_under m.budget (height exit (suc p) next behind) (2 * m.budget + height exit (suc p) number behind) m (omega arith)

  left_lowers : (p number : ℕ) (behind : List Waiting) (m : Moment) → Lowers (2 * m.budget + height exit p number behind) (left behind m)
  left_lowers p number [] m = tt
  left_lowers p number (w ∷ behind) m = omega arith

within_exit : (o : Option ProcedureForm) → ((x : ProcedureForm) → o ≡ Some x → IsAgreed x) → (number : ℕ) (ways : ℕ × ℕ) →
    option_and_then (λ x. slice_get (next_in x) number) o ≡ Some ways → number < option_map_or exit_of o 0
within_exit None all number ways is = absurd cc
within_exit (Some x) all number ways is =
    let within : number < _ = slice_get_within (next_in x) number ways is in
    let many = (all x refl).many in
    omega (arith, within, many)

module _ (form : Form) (client : ClientForm) (agreed : AreAgreed client) where
  abbrev exit : ℕ
  exit = exit_at client 0

  callee_here : (p number : ℕ) (x : ProcedureForm) (k : Call) (here : Option Point) → procedure_at client p ≡ Some x → slice_get x.points number ≡ here →
      option_and_then call_in here ≡ Some k → 0 < k.callee
  callee_here p number x k None at there call = absurd cc
  callee_here p number x k (Some here) at there call = agreed.called p number x here k at there call

  callee_by : (p number : ℕ) (k : Call) (o : Option ProcedureForm) → procedure_at client p ≡ o →
      option_and_then call_in (option_and_then (λ x. slice_get x.points number) o) ≡ Some k → 0 < k.callee
  callee_by p number k None at call = absurd cc
  callee_by p number k (Some x) at call = callee_here p number x k (slice_get x.points number) at refl call

  ways_lower : (p number : ℕ) (ways : ℕ × ℕ) → ways_at client p number ≡ Some ways →
      (weight exit p ways.0 ≤ weight exit p number) × (weight exit p ways.1 ≤ weight exit p number)
  ways_lower zero number ways is =
      let next : ways ≡ (suc number, suc number) = agreed.start number ways is in
      let first : ways.0 ≡ suc number = ap (λ z. z.0) next in
      let second : ways.1 ≡ suc number = ap (λ z. z.1) next in
      (omega arith, omega arith)
  ways_lower (suc p) number ways is = (omega arith, omega arith)

  in_start : (p number : ℕ) (ways : ℕ × ℕ) → ways_at client p number ≡ Some ways → p ≡ 0 → (ways.0 ≡ suc number) × (number < exit)
  in_start zero number ways is start =
      (ap (λ z. z.0) (agreed.start number ways is), within_exit (procedure_at client 0) (agreed.procedures 0) number ways is)
  in_start (suc p) number ways is start = absurd (omega arith)

  call_lowers : (p number : ℕ) (behind : List Waiting) (m : Moment) (ways : ℕ × ℕ) (c : Option Call) → ways_at client p number ≡ Some ways →
      call_at client p number ≡ c → Lowers form client exit (2 * m.budget + height exit p number behind) (turn_at form client p number behind m ways c)
  call_lowers p number behind m ways None is call =
      let lower = ways_lower p number ways is in
      onward_lowers form client exit p number ways behind m (is_test (point_at client p number)) (begun form client p number m) lower.0 lower.1
      (unit_less form client p number m.budget m)
  call_lowers p number behind m ways (Some k) is call =
      let later : 0 < k.callee = callee_by p number k (procedure_at client p) refl call in
      entering_lowers form client exit (2 * m.budget + height exit p number behind) k (waiting p ways.0 k m.state) behind (called_from p k.callee m) later
      (called_under form client exit p k.callee number ways.0 behind m later (in_start p number ways is))

  turn_lowers : (p number : ℕ) (behind : List Waiting) (m : Moment) (o : Option (ℕ × ℕ)) → ways_at client p number ≡ o →
      Lowers form client exit (2 * m.budget + height exit p number behind) (turn_by form client p number behind m o)
  turn_lowers p number behind m None is = left_lowers form client exit p number behind m
  turn_lowers p number behind m (Some ways) is = call_lowers p number behind m ways (call_at client p number) is refl

  pub goes_lower : (x y : Place) → turn_of form client x ≡ Goes y → measure exit y < measure exit x
  goes_lower x y is =
      subst (Lowers form client exit (measure exit x)) is
      (turn_lowers x.procedure x.point x.behind x.moment (ways_at client x.procedure x.point) refl)
