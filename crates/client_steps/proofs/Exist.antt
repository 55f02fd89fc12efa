-- There is a run: by induction on the units that are left, the procedures of the text before the start.
use Rattle.std.proofs.Common.{◌≡◌, ℕ, zero, suc, ◌-◌, ◌<◌, ◌≤◌, Bool, true, false, List, [], ◌∷◌, refl, sym, subst, arith}
use Rattle.std.specs.Prelude.{Option, Some, None, if◌then◌else◌, nat_le}
use Rattle.client_model.specs.CheckedForm.{ClientForm}
use Rattle.client_model.specs.Nodes.{Tree, Trees, Step, If, While, Break, Continue, Return, end, ◌▹◌}
use Rattle.client_steps.specs.Deeds.{Broke, Deed, Did, done_at}
use Rattle.client_steps.specs.Laws.{RunsExist}
use Rattle.client_steps.specs.Runs.{Again, Around, Back, Begun, Behind, Branches, Broken, Called, Cut, Enters, Leaves, Loops, Moment, On, Out, Over, Passes}
use Rattle.client_steps.specs.Runs.{Result, Runs, RunsAll, Skips, Steps, Stopped, Stops, Tested, Turn, Turns, around, begun, behind_call, behind_unit}
use Rattle.client_steps.specs.Runs.{branches, breaks, called_from, calls, charged, choosing, chosen, continues, enters, goes_on, inside, leaves, leaving}
use Rattle.client_steps.specs.Runs.{loops, no_more, on_false, on_true, out, outcome_of, passing, past, plain, returns, row, start, step, tested, turn_of}
use Rattle.client_steps.specs.Runs.{unit_of, unpaid, untaken, untried}
use Rattle.client_steps.specs.States.{Call, State, body_at, call_at, entered}
use Rattle.easl_model.specs.Form.{Form}

-- where the run goes on, no more units are left
abbrev Within : ℕ → Result → Type 0
Within most (Passes n) = n.budget ≤ most
Within most (Leaves (Broken n)) = n.budget ≤ most
Within most (Leaves (Again n)) = n.budget ≤ most
Within most (Leaves (Back n)) = n.budget ≤ most
Within most (Leaves (Stopped o)) = Unit {0}

-- fewer are left
abbrev pub Less : ℕ → Begun → Type 0
Less most (On n) = n.budget < most
Less most (Stops o) = Unit {0}

abbrev pub LessTested : ℕ → Tested → Type 0
LessTested most (Enters n) = n.budget < most
LessTested most (Skips n) = n.budget < most
LessTested most (Over o) = Unit {0}

abbrev WithinTurn : ℕ → Turn → Type 0
WithinTurn most (Around n) = n.budget ≤ most
WithinTurn most (Out r) = Within most r

within_more : (less most : ℕ) (r : Result) → less ≤ most → Within less r → Within most r
within_more less most (Passes n) order within = omega arith
within_more less most (Leaves (Broken n)) order within = omega arith
within_more less most (Leaves (Again n)) order within = omega arith
within_more less most (Leaves (Back n)) order within = omega arith
within_more less most (Leaves (Stopped o)) order within = tt

if_less : (most : ℕ) (b : Bool) (n : Moment) → n.budget < most → Less most (if b then On n else Stops Cut)
if_less most true n less = less
if_less most false n less = tt

charged_less : (d : Deed) (m : Moment) (most : ℕ) → m.budget < most → Less most (charged d m)
charged_less (Broke call clause) m most less = tt
charged_less (Did s steps) m most less = if_less most (nat_le steps m.budget) (record m { state = s; budget = m.budget - steps }) (omega arith)

pub unit_less : (form : Form) (client : ClientForm) (p number budget : ℕ) (m : Moment) → Less budget (behind_unit form client p number (unit_of budget m))
unit_less form client p number zero m = tt
unit_less form client p number (suc left) m = charged_less (done_at form client p number m.state) (record m { budget = left }) (suc left)
    (omega arith)

chosen_less : (most : ℕ) (cs : List Bool) (n : Moment) → n.budget < most → LessTested most (chosen cs n)
chosen_less most [] n less = tt
chosen_less most (true ∷ cs) n less = less
chosen_less most (false ∷ cs) n less = less

pub choosing_less : (most : ℕ) (b : Begun) → Less most b → LessTested most (choosing b)
choosing_less most (On n) less = chosen_less most n.choices n less
choosing_less most (Stops o) less = tt

passing_within : (most : ℕ) (b : Begun) → Less most b → Within most (passing b)
passing_within most (On n) less = omega arith
passing_within most (Stops o) less = tt

broken_within : (most : ℕ) (b : Begun) → Less most b → Within most (leaving Broken b)
broken_within most (On n) less = omega arith
broken_within most (Stops o) less = tt

again_within : (most : ℕ) (b : Begun) → Less most b → Within most (leaving Again b)
again_within most (On n) less = omega arith
again_within most (Stops o) less = tt

back_within : (most : ℕ) (b : Begun) → Less most b → Within most (leaving Back b)
back_within most (On n) less = omega arith
back_within most (Stops o) less = tt

call_within : (k : Call) (s : State) (most : ℕ) (r : Result) → Within most r → Within most (behind_call k s r)
call_within k s most (Passes n) within = within
call_within k s most (Leaves (Broken n)) within = within
call_within k s most (Leaves (Again n)) within = within
call_within k s most (Leaves (Back n)) within = within
call_within k s most (Leaves (Stopped o)) within = tt

turn_within : (most : ℕ) (r : Result) → Within most r → WithinTurn most (turn_of r)
turn_within most (Passes n) within = within
turn_within most (Leaves (Broken n)) within = within
turn_within most (Leaves (Again n)) within = within
turn_within most (Leaves (Back n)) within = within
turn_within most (Leaves (Stopped o)) within = tt

-- one result is so
record Found (F : Result → Type 0) (most : ℕ) : Type 0 where
  result : Result
  so : F result
  within : Within most result

module _ (form : Form) (client : ClientForm) where
  abbrev RunOf : ℕ → Tree → Moment → Type 0
  RunOf p x m = Found (Runs form client p x m) m.budget

  abbrev RowOf : ℕ → Trees → Moment → Type 0
  RowOf p xs m = Found (RunsAll form client p xs m) m.budget

  -- with fewer units than these, each statement of this procedure, and each row
  abbrev Below : ℕ → ℕ → Type 0
  Below p most = (x : Tree) (n : Moment) → n.budget < most → RunOf p x n

  abbrev Rows : ℕ → ℕ → Type 0
  Rows p most = (xs : Trees) (n : Moment) → n.budget < most → RowOf p xs n

  behind_found : (p most : ℕ) (xs : Trees) (r : Result) → Within most r → ((n : Moment) → n.budget ≤ most → RowOf p xs n) →
      Found (Behind form client p xs r) most
  behind_found p most xs (Passes n) within rows =
      let rest : RowOf p xs n = rows n within in
      record { result = rest.result; so = goes_on p xs n rest.result rest.so; within = within_more n.budget most rest.result within rest.within }
  behind_found p most xs (Leaves way) within rows = record { result = Leaves way; so = leaves p xs way; within = within }

  rows_below : (p most : ℕ) → Below p most → Rows p most
  rows_below p most below end n less = record { result = Passes n; so = no_more p n; within = omega arith }
  rows_below p most below (x ▹ xs) n less =
      let one : RunOf p x n = below x n less in
      let rest : Found (Behind form client p xs one.result) n.budget = behind_found p n.budget xs one.result one.within
      (λ o few. rows_below p most below xs o (omega arith)) in
      record { result = rest.result; so = row p x xs n one.result rest.result one.so rest.so; within = rest.within }

  branch_found : (p most : ℕ) (first second : Trees) (t : Tested) → LessTested most t → Rows p most →
      Found (Branches form client p first second t) most
  branch_found p most first second (Enters n) less rows =
      let one : RowOf p first n = rows first n less in
      record {
        result = one.result;
        so = on_true p first second n one.result one.so;
        within = within_more n.budget most one.result
            (omega arith) one.within;
      }
  branch_found p most first second (Skips n) less rows =
      let one : RowOf p second n = rows second n less in
      record {
        result = one.result;
        so = on_false p first second n one.result one.so;
        within = within_more n.budget most one.result
            (omega arith) one.within;
      }
  branch_found p most first second (Over o) less rows = record { result = Leaves (Stopped o); so = untaken p first second o; within = tt }

  turn_found : (p number most : ℕ) (inner : Trees) (t : Turn) → WithinTurn most t → ((n : Moment) → n.budget ≤ most →
      RunOf p (While number inner) n) → Found (Turns form client p number inner t) most
  turn_found p number most inner (Around n) within again =
      let one : RunOf p (While number inner) n = again n within in
      record { result = one.result; so = around p number inner n one.result one.so; within = within_more n.budget most one.result within one.within }
  turn_found p number most inner (Out r) within again = record { result = r; so = out p number inner r; within = within }

  loop_found : (p number most : ℕ) (inner : Trees) (t : Tested) → LessTested most t → Below p most → Found (Loops form client p number inner t) most
  loop_found p number most inner (Enters n) less below =
      let one : RowOf p inner n = rows_below p most below inner n less in
      let turn : Found (Turns form client p number inner (turn_of one.result)) n.budget = turn_found p number n.budget inner (turn_of one.result)
      (turn_within n.budget one.result one.within) (λ o few. below (While number inner) o (omega arith)) in
      record {
        result = turn.result;
        so = inside p number inner n one.result turn.result one.so turn.so;
        within = within_more n.budget most turn.result (omega arith) turn.within;
      }
  loop_found p number most inner (Skips n) less below = record { result = Passes n; so = past p number inner n; within = omega arith }
  loop_found p number most inner (Over o) less below = record { result = Leaves (Stopped o); so = untried p number inner o; within = tt }

  step_found : (p number : ℕ) (k : Option Call) (m : Moment) → ((l : Call) → Found (Called form client l (called_from p l.callee m)) m.budget) →
      Found (Steps form client p number k m) m.budget
  step_found p number None m called = record {
    result = passing (begun form client p number m);
    so = plain p number m (passing (begun form client p number m)) refl;
    within = passing_within m.budget (begun form client p number m) (unit_less form client p number m.budget m);
  }
  step_found p number (Some k) m called =
      let one : Found (Called form client k (called_from p k.callee m)) m.budget = called k in
      record {
        result = behind_call k m.state one.result;
        so = calls p number k m one.result (behind_call k m.state one.result) one.so refl;
        within = call_within k m.state m.budget one.result one.within;
      }

  tree_found : (p : ℕ) (m : Moment) → Below p m.budget → ((l : Call) → Found (Called form client l (called_from p l.callee m)) m.budget) →
      (x : Tree) → RunOf p x m
  tree_found p m below called (Step number) =
      let one = step_found p number (call_at client p number) m called in
      record { result = one.result; so = step p number m one.result one.so; within = one.within }
  tree_found p m below called (If number first second) =
      let one = branch_found p m.budget first second (tested form client p number m) (choosing_less m.budget (begun form client p number m)
      (unit_less form client p number m.budget m)) (rows_below p m.budget below) in
      record { result = one.result; so = branches p number first second m one.result one.so; within = one.within }
  tree_found p m below called (While number inner) =
      let one = loop_found p number m.budget inner (tested form client p number m) (choosing_less m.budget (begun form client p number m)
      (unit_less form client p number m.budget m)) below in
      record { result = one.result; so = loops p number inner m one.result one.so; within = one.within }
  tree_found p m below called (Break number) = record {
    result = leaving Broken (begun form client p number m);
    so = breaks p number m (leaving Broken (begun form client p number m)) refl;
    within = broken_within m.budget (begun form client p number m) (unit_less form client p number m.budget m);
  }
  tree_found p m below called (Continue number) = record {
    result = leaving Again (begun form client p number m);
    so = continues p number m (leaving Again (begun form client p number m)) refl;
    within = again_within m.budget (begun form client p number m) (unit_less form client p number m.budget m);
  }
  tree_found p m below called (Return number) = record {
    result = leaving Back (begun form client p number m);
    so = returns p number m (leaving Back (begun form client p number m)) refl;
    within = back_within m.budget (begun form client p number m) (unit_less form client p number m.budget m);
  }

  -- what is called, its unit taken
  paid_found : (k : Call) (m : Moment) (units most : ℕ) → units ≤ most → Rows k.callee most → Found (Called form client k (unit_of units m)) units
  paid_found k m zero most few rows = record { result = Leaves (Stopped Cut); so = unpaid k Cut; within = tt }
  paid_found k m (suc left) most few rows =
      let n : Moment = record m { budget = left } in
      let one : RowOf k.callee (body_at client k.callee) (record n { state = entered client k n.state }) = rows (body_at client k.callee)
      (record n { state = entered client k n.state }) (omega arith) in
      record { result = one.result; so = enters k n one.result one.so; within = within_more left (suc left) one.result (omega arith) one.within }

  -- what the start calls, where that takes no unit
  main_found : (k : Call) (main : ℕ) (m : Moment) → k.callee ≡ suc main →
      RowOf (suc main) (body_at client (suc main)) (record m { state = entered client k m.state }) → Found (Called form client k (On m)) m.budget
  main_found k main m is rows =
      let one : RowOf k.callee (body_at client k.callee) (record m { state = entered client k m.state }) = subst (λ q. RowOf q (body_at client q)
      (record m { state = entered client k m.state })) (sym is) rows in
      record { result = one.result; so = enters k m one.result one.so; within = one.within }

  -- with fewer units than these, each statement of each procedure
  abbrev All : ℕ → Type 0
  All most = (p : ℕ) → Below p most

  inner_found : (most : ℕ) → All most → (p : ℕ) → Below (suc p) (suc most)
  inner_found most all p x m less =
      tree_found (suc p) m (λ y n few. all (suc p) y n (omega arith)) (λ k. paid_found k m m.budget most (omega arith) (rows_below k.callee most
      (all k.callee))) x

  start_called : (most : ℕ) → All most → (k : Call) (m : Moment) → m.budget < suc most → (c : ℕ) → k.callee ≡ c →
      Found (Called form client k (called_from 0 c m)) m.budget
  start_called most all k m less zero is = paid_found k m m.budget most (omega arith) (rows_below k.callee most (all k.callee))
  start_called most all k m less (suc main) is =
      main_found k main m is (rows_below (suc main) (suc most) (inner_found most all main) (body_at client (suc main))
      (record m { state = entered client k m.state }) less)

  start_found : (most : ℕ) → All most → Below 0 (suc most)
  start_found most all x m less = tree_found 0 m (λ y n few. all 0 y n (omega arith)) (λ k. start_called most all k m less k.callee refl) x

  all_found : (most : ℕ) → All most
  all_found zero p x m less = absurd (omega arith)
  all_found (suc most) zero x m less = start_found most (all_found most) x m less
  all_found (suc most) (suc p) x m less = inner_found most (all_found most) p x m less

pub runs_exist : RunsExist
runs_exist form client choices budget =
    let one = rows_below form client 0 (suc budget) (all_found form client (suc budget) 0) (body_at client 0) (start client choices budget)
    (omega arith) in
    (outcome_of one.result, record { result = one.result; runs = one.so; comes_to = refl })
