-- A run by statement trees is a run from point to point: by induction on the run, with what the points behind it come to.
use Rattle.std.proofs.Common.{◌≡◌, ℕ, Bool, true, false, List, [], ◌∷◌, length, refl, sym, ap, subst, ◌∙◌, arith}
use Rattle.std.specs.Prelude.{Option, Some, None, option_and_then, slice_get}
use Rattle.std.specs.Option.{option_map_or}
use Rattle.std.proofs.lemmas.Option.{slice_get_past}
use Rattle.client_run.specs.Graph.{Agree, Agrees, AreAgreed, GoesTo, IsAgreed, Tests, is_test, whole}
use Rattle.flow_graph.specs.Points.{exit_at, exit_of, next_in, ways_at}
use Rattle.client_run.specs.Graph as graph
use Rattle.client_run.specs.Laws.{PointsAreTrees}
use Rattle.client_run.specs.Places.{Comes, Ended, Goes, Place, Waiting, beginning, branching, ended, entering, goes, going, onward, place, turn_at, turn_by, turn_of, waiting}
use Rattle.client_model.specs.Nodes.{Tree, Trees, While, end}
use Rattle.client_model.specs.declared.form.Point.{Point}
use Rattle.client_model.specs.declared.form.Point.TheVariants as point
use Rattle.client_model.specs.CheckedForm.{ClientForm, ProcedureForm}
use Rattle.client_model.specs.Ways.{Ways, first_point, in_loop, point_of}
use Rattle.client_steps.proofs.Exist.{runs_exist}
use Rattle.client_steps.specs.Runs.{Again, Around, Back, Begun, Behind, Branches, Broken, Called, Enters, IsRun, Leaves, Leaving, Loops, Moment, On}
use Rattle.client_steps.specs.Runs.{Out, Outcome, Over, Passes, Result, Runs, RunsAll, Skips, Steps, Stopped, Stops, Tested, Turns, around, begun}
use Rattle.client_steps.specs.Runs.{behind_call, branches, breaks, called_from, calls, continues, enters, goes_on, inside, leaves, leaving, loops}
use Rattle.client_steps.specs.Runs.{no_more, on_false, on_true, out, outcome_of, passing, past, plain, returns, row, start, step, tested}
use Rattle.client_steps.specs.Runs.{turn_of as turned, unpaid, untaken, untried}
use Rattle.client_steps.specs.Runs as runs
use Rattle.client_steps.specs.States.{Call, State, body_at, call_at, call_in, entered, point_at, procedure_at, returned}
use Rattle.easl_model.specs.Form.{Form}

-- whatever procedure is there, or none
module _ where
  abbrev ways_by : Option ProcedureForm → ℕ → Option (ℕ × ℕ)
  ways_by o number = option_and_then (λ x. slice_get (next_in x) number) o

  abbrev points_by : Option ProcedureForm → ℕ → Option Point
  points_by o number = option_and_then (λ x. slice_get x.points number) o

  agree_by : (o : Option ProcedureForm) → ((x : ProcedureForm) → o ≡ Some x → IsAgreed x) →
      Agree (ways_by o) (points_by o) (option_map_or (λ x. x.shape) o end) (whole (option_map_or exit_of o 0))
  agree_by None all = tt
  agree_by (Some x) all = (all x refl).agree

  first_by : (o : Option ProcedureForm) → ((x : ProcedureForm) → o ≡ Some x → IsAgreed x) →
      first_point (option_map_or (λ x. x.shape) o end) (option_map_or exit_of o 0) ≡ 0
  first_by None all = refl
  first_by (Some x) all = (all x refl).first

  closed_by : (o : Option ProcedureForm) → ((x : ProcedureForm) → o ≡ Some x → IsAgreed x) → ways_by o (option_map_or exit_of o 0) ≡ None
  closed_by None all = refl
  closed_by (Some x) all = slice_get_past (next_in x) (exit_of x) (let many = (all x refl).many in omega arith)

test_calls : (here : Option Point) → is_test here ≡ true → option_and_then call_in here ≡ None
test_calls None test = refl
test_calls (Some (point.Branch call)) test = refl
test_calls (Some (point.Copy target source)) test = absurd cc
test_calls (Some (point.Component target call)) test = absurd cc
test_calls (Some (point.Call target procedure args place)) test = absurd cc
test_calls (Some point.Nothing) test = absurd cc

module _ (form : Form) (client : ClientForm) where
  -- what the run comes to behind statements of this result
  abbrev pub Continues : ℕ → Ways → List Waiting → Result → Outcome → Type 0
  Continues p w behind (Passes m) o = Comes form client (place p w.on behind m) o
  Continues p w behind (Leaves (Broken m)) o = Comes form client (place p w.broken behind m) o
  Continues p w behind (Leaves (Again m)) o = Comes form client (place p w.again behind m) o
  Continues p w behind (Leaves (Back m)) o = Comes form client (place p w.exit behind m) o
  Continues p w behind (Leaves (Stopped e)) o = o ≡ e

  -- what it comes to behind a point
  abbrev Onward : ℕ → ℕ → List Waiting → Begun → Outcome → Type 0
  Onward p next behind (On m) o = Comes form client (place p next behind m) o
  Onward p next behind (Stops e) o = o ≡ e

  abbrev Inward : Call → List Waiting → Begun → Outcome → Type 0
  Inward k behind (On m) o = Comes form client (place k.callee 0 behind (record m { state = entered client k m.state })) o
  Inward k behind (Stops e) o = o ≡ e

  abbrev Tried : ℕ → ℕ → ℕ → List Waiting → Tested → Outcome → Type 0
  Tried p first second behind (Enters m) o = Comes form client (place p first behind m) o
  Tried p first second behind (Skips m) o = Comes form client (place p second behind m) o
  Tried p first second behind (Over e) o = o ≡ e

  abbrev Turned : ℕ → ℕ → Ways → List Waiting → runs.Turn → Outcome → Type 0
  Turned p number w behind (Around m) o = Comes form client (place p number behind m) o
  Turned p number w behind (Out r) o = Continues p w behind r o

  onward_comes : (x : Place) (p next : ℕ) (behind : List Waiting) (o : Outcome) (b : Begun) → turn_of form client x ≡ going p behind next b →
      Onward p next behind b o → Comes form client x o
  onward_comes x p next behind o (On m) is rest = goes x (place p next behind m) o is rest
  onward_comes x p next behind o (Stops e) is rest = ended x o (is ∙ ap Ended (sym rest))

  inward_comes : (x : Place) (k : Call) (behind : List Waiting) (o : Outcome) (b : Begun) → turn_of form client x ≡ entering client k behind b →
      Inward k behind b o → Comes form client x o
  inward_comes x k behind o (On m) is rest = goes x (place k.callee 0 behind (record m { state = entered client k m.state })) o is rest
  inward_comes x k behind o (Stops e) is rest = ended x o (is ∙ ap Ended (sym rest))

  tried_comes : (x : Place) (p first second : ℕ) (behind : List Waiting) (o : Outcome) (t : Tested) →
      turn_of form client x ≡ branching p behind (first, second) t → Tried p first second behind t o → Comes form client x o
  tried_comes x p first second behind o (Enters m) is rest = goes x (place p first behind m) o is rest
  tried_comes x p first second behind o (Skips m) is rest = goes x (place p second behind m) o is rest
  tried_comes x p first second behind o (Over e) is rest = ended x o (is ∙ ap Ended (sym rest))

  -- the turn at a point that calls no procedure, and is a test or not
  turn_is : (p number : ℕ) (behind : List Waiting) (m : Moment) (ways : ℕ × ℕ) (test : Bool) → ways_at client p number ≡ Some ways →
      call_at client p number ≡ None → is_test (point_at client p number) ≡ test →
      turn_of form client (place p number behind m) ≡ onward p behind ways test (begun form client p number m)
  turn_is p number behind m ways test to none is =
      ap (turn_by form client p number behind m) to
      ∙ (ap (turn_at form client p number behind m ways) none ∙ ap (λ t. onward p behind ways t (begun form client p number m)) is)

  passing_onward : (p : ℕ) (w : Ways) (behind : List Waiting) (o : Outcome) (b : Begun) → Continues p w behind (passing b) o → Onward p w.on behind b o
  passing_onward p w behind o (On m) rest = rest
  passing_onward p w behind o (Stops e) rest = rest

  broken_onward : (p : ℕ) (w : Ways) (behind : List Waiting) (o : Outcome) (b : Begun) → Continues p w behind (leaving Broken b) o →
      Onward p w.broken behind b o
  broken_onward p w behind o (On m) rest = rest
  broken_onward p w behind o (Stops e) rest = rest

  again_onward : (p : ℕ) (w : Ways) (behind : List Waiting) (o : Outcome) (b : Begun) → Continues p w behind (leaving Again b) o →
      Onward p w.again behind b o
  again_onward p w behind o (On m) rest = rest
  again_onward p w behind o (Stops e) rest = rest

  back_onward : (p : ℕ) (w : Ways) (behind : List Waiting) (o : Outcome) (b : Begun) → Continues p w behind (leaving Back b) o →
      Onward p w.exit behind b o
  back_onward p w behind o (On m) rest = rest
  back_onward p w behind o (Stops e) rest = rest

  -- what a statement is left by doesn't go on behind it
  leaves_so : (p : ℕ) (w : Ways) (on : ℕ) (behind : List Waiting) (o : Outcome) (way : Leaving) → Continues p w behind (Leaves way) o →
      Continues p (record w { on = on }) behind (Leaves way) o
  leaves_so p w on behind o (Broken m) rest = rest
  leaves_so p w on behind o (Again m) rest = rest
  leaves_so p w on behind o (Back m) rest = rest
  leaves_so p w on behind o (Stopped e) rest = rest

  -- behind the block of a `while`
  block_turned : (p number : ℕ) (w : Ways) (behind : List Waiting) (o : Outcome) (r : Result) → Turned p number w behind (turned r) o →
      Continues p (in_loop number w) behind r o
  block_turned p number w behind o (Passes m) rest = rest
  block_turned p number w behind o (Leaves (Broken m)) rest = rest
  block_turned p number w behind o (Leaves (Again m)) rest = rest
  block_turned p number w behind o (Leaves (Back m)) rest = rest
  block_turned p number w behind o (Leaves (Stopped e)) rest = rest

  module _ (agreed : AreAgreed client) where
    agree_at : (p : ℕ) → Agree (ways_at client p) (point_at client p) (body_at client p) (whole (exit_at client p))
    agree_at p = agree_by (procedure_at client p) (agreed.procedures p)

    first_at : (p : ℕ) → first_point (body_at client p) (exit_at client p) ≡ 0
    first_at p = first_by (procedure_at client p) (agreed.procedures p)

    closed_at : (p : ℕ) → ways_at client p (exit_at client p) ≡ None
    closed_at p = closed_by (procedure_at client p) (agreed.procedures p)

    -- behind the body of a procedure that was called in this state
    left_comes : (p next : ℕ) (k : Call) (s : State) (behind : List Waiting) (o : Outcome) (m : Moment) →
        Comes form client (place p next behind (record m { state = returned k s m.state })) o →
        Comes form client (place k.callee (exit_at client k.callee) (waiting p next k s ∷ behind) m) o
    left_comes p next k s behind o m rest =
        goes (place k.callee (exit_at client k.callee) (waiting p next k s ∷ behind) m)
        (place p next behind (record m { state = returned k s m.state })) o
        (ap (turn_by form client k.callee (exit_at client k.callee) (waiting p next k s ∷ behind) m) (closed_at k.callee)) rest

    call_left : (p : ℕ) (w : Ways) (k : Call) (s : State) (behind : List Waiting) (o : Outcome) (r : Result) →
        Continues p w behind (behind_call k s r) o →
        Continues k.callee (whole (exit_at client k.callee)) (waiting p w.on k s ∷ behind) r o
    call_left p w k s behind o (Passes m) rest = left_comes p w.on k s behind o m rest
    call_left p w k s behind o (Leaves (Broken m)) rest = left_comes p w.on k s behind o m rest
    call_left p w k s behind o (Leaves (Again m)) rest = left_comes p w.on k s behind o m rest
    call_left p w k s behind o (Leaves (Back m)) rest = left_comes p w.on k s behind o m rest
    call_left p w k s behind o (Leaves (Stopped e)) rest = rest

    -- a statement that goes elsewhere
    leaf_comes : (f : Begun → Result) (p number on : ℕ) (w : Ways) (behind : List Waiting) (o : Outcome) (m : Moment) (r : Result) →
        ((b : Begun) → Continues p w behind (f b) o → Onward p on behind b o) → graph.Leaves (ways_at client p number) (point_at client p number) on →
        r ≡ f (begun form client p number m) → Continues p w behind r o → Comes form client (place p number behind m) o
    leaf_comes f p number on w behind o m r moves leaf is rest =
        onward_comes (place p number behind m) p on behind o (begun form client p number m)
        (turn_is p number behind m (on, on) false leaf.goes.ways leaf.plain leaf.goes.plain)
        (moves (begun form client p number m) (subst (λ e. Continues p w behind e o) is rest))

    -- a test
    test_comes : (p number first second : ℕ) (behind : List Waiting) (o : Outcome) (m : Moment) →
        Tests (ways_at client p number) (point_at client p number) first second → Tried p first second behind (tested form client p number m) o →
        Comes form client (place p number behind m) o
    test_comes p number first second behind o m tests rest =
        tried_comes (place p number behind m) p first second behind o (tested form client p number m)
        (turn_is p number behind m (first, second) true tests.ways (test_calls (point_at client p number) tests.test) tests.test) rest

    mutual
      pub runs_on : (p : ℕ) (x : Tree) (m : Moment) (r : Result) (w : Ways) (behind : List Waiting) (o : Outcome) →
          Agrees (ways_at client p) (point_at client p) x w → Runs form client p x m r → Continues p w behind r o →
          Comes form client (place p (point_of x) behind m) o
      runs_on p x m r w behind o agree (step q number n s one) rest = steps_on q number (call_at client q number) n r w behind o refl agree one rest
      runs_on p x m r w behind o agree (breaks q number n s is) rest =
          leaf_comes (leaving Broken) q number w.broken w behind o n r (broken_onward q w behind o) agree is rest
      runs_on p x m r w behind o agree (continues q number n s is) rest =
          leaf_comes (leaving Again) q number w.again w behind o n r (again_onward q w behind o) agree is rest
      runs_on p x m r w behind o agree (returns q number n s is) rest =
          leaf_comes (leaving Back) q number w.exit w behind o n r (back_onward q w behind o) agree is rest
      runs_on p x m r w behind o agree (branches q number first second n s one) rest =
          test_comes q number (first_point first w.on) (first_point second w.on) behind o n agree.0
          (branches_on q first second (tested form client q number n) r w behind o agree.1 agree.2 one rest)
      runs_on p x m r w behind o agree (loops q number inner n s one) rest =
          test_comes q number (first_point inner number) w.on behind o n agree.0
          (loops_on q number inner (tested form client q number n) r w behind o agree one rest)

      steps_on : (p number : ℕ) (c : Option Call) (m : Moment) (r : Result) (w : Ways) (behind : List Waiting) (o : Outcome) →
          call_at client p number ≡ c → GoesTo (ways_at client p number) (point_at client p number) w.on → Steps form client p number c m r →
          Continues p w behind r o → Comes form client (place p number behind m) o
      steps_on p number c m r w behind o at to (plain q number1 n s is) rest =
          onward_comes (place q number1 behind n) q w.on behind o (begun form client q number1 n)
          (turn_is q number1 behind n (w.on, w.on) false to.ways at to.plain)
          (passing_onward q w behind o (begun form client q number1 n) (subst (λ e. Continues q w behind e o) is rest))
      steps_on p number c m r w behind o at to (calls q number1 k n s e one is) rest =
          inward_comes (place q number1 behind n) k (waiting q w.on k n.state ∷ behind) o (called_from q k.callee n)
          (ap (turn_by form client q number1 behind n) to.ways ∙ ap (turn_at form client q number1 behind n (w.on, w.on)) at)
          (called_on k (called_from q k.callee n) s (waiting q w.on k n.state ∷ behind) o one
          (call_left q w k n.state behind o s (subst (λ e. Continues q w behind e o) is rest)))

      called_on : (k : Call) (b : Begun) (r : Result) (behind : List Waiting) (o : Outcome) → Called form client k b r →
          Continues k.callee (whole (exit_at client k.callee)) behind r o → Inward k behind b o
      called_on k b r behind o (enters l n s one) rest =
          subst (λ first. Comes form client (place l.callee first behind (record n { state = entered client l n.state })) o) (first_at l.callee)
          (all_on l.callee (body_at client l.callee) (record n { state = entered client l n.state }) r (whole (exit_at client l.callee)) behind o
          (agree_at l.callee) one rest)
      called_on k b r behind o (unpaid l e) rest = rest

      branches_on : (p : ℕ) (first second : Trees) (t : Tested) (r : Result) (w : Ways) (behind : List Waiting) (o : Outcome) →
          Agree (ways_at client p) (point_at client p) first w → Agree (ways_at client p) (point_at client p) second w →
          Branches form client p first second t r → Continues p w behind r o → Tried p (first_point first w.on) (first_point second w.on) behind t o
      branches_on p first second t r w behind o here there (on_true q f1 s1 n s one) rest = all_on q f1 n r w behind o here one rest
      branches_on p first second t r w behind o here there (on_false q f1 s1 n s one) rest = all_on q s1 n r w behind o there one rest
      branches_on p first second t r w behind o here there (untaken q f1 s1 e) rest = rest

      loops_on : (p number : ℕ) (inner : Trees) (t : Tested) (r : Result) (w : Ways) (behind : List Waiting) (o : Outcome) →
          Agrees (ways_at client p) (point_at client p) (While number inner) w → Loops form client p number inner t r → Continues p w behind r o →
          Tried p (first_point inner number) w.on behind t o
      loops_on p number inner t r w behind o agree (inside q number1 i1 n s e one turns) rest =
          all_on q i1 n s (in_loop number1 w) behind o agree.1 one
          (block_turned q number1 w behind o s (turns_on q number1 i1 (turned s) r w behind o agree turns rest))
      loops_on p number inner t r w behind o agree (past q number1 i1 n) rest = rest
      loops_on p number inner t r w behind o agree (untried q number1 i1 e) rest = rest

      turns_on : (p number : ℕ) (inner : Trees) (t : runs.Turn) (r : Result) (w : Ways) (behind : List Waiting) (o : Outcome) →
          Agrees (ways_at client p) (point_at client p) (While number inner) w → Turns form client p number inner t r → Continues p w behind r o →
          Turned p number w behind t o
      turns_on p number inner t r w behind o agree (around q number1 i1 n s one) rest = runs_on q (While number1 i1) n r w behind o agree one rest
      turns_on p number inner t r w behind o agree (out q number1 i1 s) rest = rest

      all_on : (p : ℕ) (xs : Trees) (m : Moment) (r : Result) (w : Ways) (behind : List Waiting) (o : Outcome) →
          Agree (ways_at client p) (point_at client p) xs w → RunsAll form client p xs m r → Continues p w behind r o →
          Comes form client (place p (first_point xs w.on) behind m) o
      all_on p xs m r w behind o agree (no_more q n) rest = rest
      all_on p xs m r w behind o agree (row q y ys n s e one later) rest =
          runs_on q y n s (record w { on = first_point ys w.on }) behind o agree.0 one (behind_on q ys s r w behind o agree.1 later rest)

      behind_on : (p : ℕ) (xs : Trees) (b r : Result) (w : Ways) (behind : List Waiting) (o : Outcome) →
          Agree (ways_at client p) (point_at client p) xs w → Behind form client p xs b r → Continues p w behind r o →
          Continues p (record w { on = first_point xs w.on }) behind b o
      behind_on p xs b r w behind o agree (goes_on q ys n s one) rest = all_on q ys n r w behind o agree one rest
      behind_on p xs b r w behind o agree (leaves q ys way) rest = leaves_so q w (first_point ys w.on) behind o way rest

    -- behind the start
    over_comes : (m : Moment) → Comes form client (place 0 (exit_at client 0) [] m) (runs.Ends (length m.choices))
    over_comes m = ended (place 0 (exit_at client 0) [] m) (runs.Ends (length m.choices)) (ap (turn_by form client 0 (exit_at client 0) [] m) (closed_at 0))

    whole_comes : (r : Result) → Continues 0 (whole (exit_at client 0)) [] r (outcome_of r)
    whole_comes (Passes m) = over_comes m
    whole_comes (Leaves (Broken m)) = over_comes m
    whole_comes (Leaves (Again m)) = over_comes m
    whole_comes (Leaves (Back m)) = over_comes m
    whole_comes (Leaves (Stopped e)) = refl

    run_comes : (choices : List Bool) (budget : ℕ) (o : Outcome) → IsRun form client choices budget o → Comes form client (beginning client choices budget) o
    run_comes choices budget o run =
        subst (λ e. Comes form client (beginning client choices budget) e) (sym run.comes_to)
        (subst (λ first. Comes form client (place 0 first [] (start client choices budget)) (outcome_of run.result)) (first_at 0)
        (all_on 0 (body_at client 0) (start client choices budget) run.result (whole (exit_at client 0)) [] (outcome_of run.result) (agree_at 0) run.runs
        (whole_comes run.result)))

  same_end : (o p : Outcome) → Ended o ≡ Ended p → o ≡ p
  same_end o p is = cc

  same_place : (x y : Place) → Goes x ≡ Goes y → x ≡ y
  same_place x y is = cc

  -- from a place a run comes to one outcome
  pub comes_once : (x : Place) (o p : Outcome) → Comes form client x o → Comes form client x p → o ≡ p
  comes_once x o p (ended y q is) (ended y2 q2 is2) = same_end q q2 (sym is ∙ is2)
  comes_once x o p (ended y q is) (goes y2 z2 q2 is2 rest2) = absurd (cc (sym is ∙ is2))
  comes_once x o p (goes y z q is rest) (ended y2 q2 is2) = absurd (cc (sym is ∙ is2))
  comes_once x o p (goes y z q is rest) (goes y2 z2 q2 is2 rest2) =
      comes_once z q q2 rest (subst (λ v. Comes form client v q2) (same_place z2 z (sym is2 ∙ is)) rest2)

pub points_are_trees : PointsAreTrees
points_are_trees form client choices budget o agreed = record {
  trees = λ comes.
      let run = runs_exist form client choices budget in
      let same : run.0 ≡ o = comes_once form client (beginning client choices budget) run.0 o (run_comes form client agreed choices budget run.0 run.1) comes in
      subst (IsRun form client choices budget) same run.1;
  points = run_comes form client agreed choices budget o;
}
