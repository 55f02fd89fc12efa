-- Runs of a whole client on the Easl heap, by rules over its statement trees (own).
use Rattle.std.specs.Prelude.{◌≡◌, ℕ, zero, suc, ◌-◌, Bool, true, false, List, [], ◌∷◌, Option, Some, None, if◌then◌else◌, length, nat_le}
use Rattle.client_model.specs.CheckedForm.{ClientForm}
use Rattle.client_model.specs.Nodes.{Tree, Trees, Step, If, While, Break, Continue, Return, end, ◌▹◌}
use Rattle.client_steps.specs.Deeds.{Broke, Deed, Did, done_at}
use Rattle.client_steps.specs.States.{Call, State, at_first, body_at, call_at, entered, returned}
use Rattle.easl_model.specs.Form.{Form}

-- a run under way: its state, and the choices and units that are left
pub record Moment : Type 0 where
  pub state : State
  pub choices : List Bool
  pub budget : ℕ

-- how a run may end: behind `main`, at a test that finds no choice, at the first false clause of a call, or where it asks for
-- a unit and none is left. The first and the third say how many choices are not taken
pub data Outcome : Type 0 where
  Ends : ℕ → Outcome
  Short : Outcome
  Fails : ℕ → ℕ → ℕ → Outcome
  Cut : Outcome

-- how statements are left before their end: out of the innermost loop, to its test, out of the procedure, or for good
pub data Leaving : Type 0 where
  Broken : Moment → Leaving
  Again : Moment → Leaving
  Back : Moment → Leaving
  Stopped : Outcome → Leaving

-- what statements come to: the run passes on from this moment, or leaves them so
pub data Result : Type 0 where
  Passes : Moment → Result
  Leaves : Leaving → Result

-- what a unit or a point comes to: the run goes on from this moment, or stops
pub data Begun : Type 0 where
  On : Moment → Begun
  Stops : Outcome → Begun

-- one unit is taken, of so many
abbrev pub unit_of : ℕ → Moment → Begun
unit_of zero m = Stops Cut
unit_of (suc left) m = On (record m { budget = left })

-- each Easl statement takes a unit
abbrev pub charged : Deed → Moment → Begun
charged (Broke call clause) m = Stops (Fails call clause (length m.choices))
charged (Did s steps) m = if nat_le steps m.budget then On (record m { state = s; budget = m.budget - steps }) else Stops Cut

abbrev pub behind_unit : Form → ClientForm → ℕ → ℕ → Begun → Begun
behind_unit form client p number (On m) = charged (done_at form client p number m.state) m
behind_unit form client p number (Stops o) = Stops o

-- a statement is begun that is no procedure call, or a test is evaluated: a unit is taken, and what is done at its point is done
abbrev pub begun : Form → ClientForm → ℕ → ℕ → Moment → Begun
begun form client p number m = behind_unit form client p number (unit_of m.budget m)

-- a procedure calls another: a unit is taken, but the start's call of `main` stands in no text and takes none. The start,
-- procedure 0, is called by none
abbrev pub called_from : ℕ → ℕ → Moment → Begun
called_from zero zero m = unit_of m.budget m
called_from zero (suc main) m = On m
called_from (suc p) callee m = unit_of m.budget m

-- what a test comes to: what it guards is entered, or passed over, or the run is over
pub data Tested : Type 0 where
  Enters : Moment → Tested
  Skips : Moment → Tested
  Over : Outcome → Tested

-- the next choice is taken
abbrev pub chosen : List Bool → Moment → Tested
chosen [] m = Over Short
chosen (true ∷ rest) m = Enters (record m { choices = rest })
chosen (false ∷ rest) m = Skips (record m { choices = rest })

abbrev pub choosing : Begun → Tested
choosing (On m) = chosen m.choices m
choosing (Stops o) = Over o

-- a test: a unit, its call, then a choice
abbrev pub tested : Form → ClientForm → ℕ → ℕ → Moment → Tested
tested form client p number m = choosing (begun form client p number m)

-- a statement behind whose point the run passes on, or leaves in this way
abbrev pub passing : Begun → Result
passing (On m) = Passes m
passing (Stops o) = Leaves (Stopped o)

abbrev pub leaving : (Moment → Leaving) → Begun → Result
leaving way (On m) = Leaves (way m)
leaving way (Stops o) = Leaves (Stopped o)

-- what a procedure call comes to whose body comes to this; it was called in this state
abbrev pub behind_call : Call → State → Result → Result
behind_call k s (Passes m) = Passes (record m { state = returned k s m.state })
behind_call k s (Leaves (Broken m)) = Passes (record m { state = returned k s m.state })
behind_call k s (Leaves (Again m)) = Passes (record m { state = returned k s m.state })
behind_call k s (Leaves (Back m)) = Passes (record m { state = returned k s m.state })
behind_call k s (Leaves (Stopped o)) = Leaves (Stopped o)

-- where a `while` goes on behind its block: its test is evaluated again, or it comes to this
pub data Turn : Type 0 where
  Around : Moment → Turn
  Out : Result → Turn

abbrev pub turn_of : Result → Turn
turn_of (Passes m) = Around m
turn_of (Leaves (Broken m)) = Out (Passes m)
turn_of (Leaves (Again m)) = Around m
turn_of (Leaves (Back m)) = Out (Leaves (Back m))
turn_of (Leaves (Stopped o)) = Out (Leaves (Stopped o))

mutual
  -- a statement of the procedure is begun at this moment
  pub data Runs (form : Form) (client : ClientForm) : ℕ → Tree → Moment → Result → Type 0 where
    step : (p number : ℕ) (m : Moment) (r : Result) → Steps form client p number (call_at client p number) m r → Runs form client p (Step number) m r
    breaks : (p number : ℕ) (m : Moment) (r : Result) → r ≡ leaving Broken (begun form client p number m) → Runs form client p (Break number) m r
    continues : (p number : ℕ) (m : Moment) (r : Result) → r ≡ leaving Again (begun form client p number m) → Runs form client p (Continue number) m r
    returns : (p number : ℕ) (m : Moment) (r : Result) → r ≡ leaving Back (begun form client p number m) → Runs form client p (Return number) m r
    branches : (p number : ℕ) (first second : Trees) (m : Moment) (r : Result) →
        Branches form client p first second (tested form client p number m) r → Runs form client p (If number first second) m r
    loops : (p number : ℕ) (inner : Trees) (m : Moment) (r : Result) → Loops form client p number inner (tested form client p number m) r →
        Runs form client p (While number inner) m r

  -- a statement that is no test: the point is no procedure call, or is this one
  pub data Steps (form : Form) (client : ClientForm) : ℕ → ℕ → Option Call → Moment → Result → Type 0 where
    plain : (p number : ℕ) (m : Moment) (r : Result) → r ≡ passing (begun form client p number m) → Steps form client p number None m r
    calls : (p number : ℕ) (k : Call) (m : Moment) (r e : Result) → Called form client k (called_from p k.callee m) r →
        e ≡ behind_call k m.state r → Steps form client p number (Some k) m e

  -- what is called, once its unit is taken or not
  pub data Called (form : Form) (client : ClientForm) : Call → Begun → Result → Type 0 where
    enters : (k : Call) (m : Moment) (r : Result) →
        RunsAll form client k.callee (body_at client k.callee) (record m { state = entered client k m.state }) r → Called form client k (On m) r
    unpaid : (k : Call) (o : Outcome) → Called form client k (Stops o) (Leaves (Stopped o))

  -- an `if` behind its test
  pub data Branches (form : Form) (client : ClientForm) : ℕ → Trees → Trees → Tested → Result → Type 0 where
    on_true : (p : ℕ) (first second : Trees) (m : Moment) (r : Result) → RunsAll form client p first m r →
        Branches form client p first second (Enters m) r
    on_false : (p : ℕ) (first second : Trees) (m : Moment) (r : Result) → RunsAll form client p second m r →
        Branches form client p first second (Skips m) r
    untaken : (p : ℕ) (first second : Trees) (o : Outcome) → Branches form client p first second (Over o) (Leaves (Stopped o))

  -- a `while` behind its test
  pub data Loops (form : Form) (client : ClientForm) : ℕ → ℕ → Trees → Tested → Result → Type 0 where
    inside : (p number : ℕ) (inner : Trees) (m : Moment) (r e : Result) → RunsAll form client p inner m r →
        Turns form client p number inner (turn_of r) e → Loops form client p number inner (Enters m) e
    past : (p number : ℕ) (inner : Trees) (m : Moment) → Loops form client p number inner (Skips m) (Passes m)
    untried : (p number : ℕ) (inner : Trees) (o : Outcome) → Loops form client p number inner (Over o) (Leaves (Stopped o))

  -- a `while` behind its block
  pub data Turns (form : Form) (client : ClientForm) : ℕ → ℕ → Trees → Turn → Result → Type 0 where
    around : (p number : ℕ) (inner : Trees) (m : Moment) (r : Result) → Runs form client p (While number inner) m r →
        Turns form client p number inner (Around m) r
    out : (p number : ℕ) (inner : Trees) (r : Result) → Turns form client p number inner (Out r) r

  -- statements in a row
  pub data RunsAll (form : Form) (client : ClientForm) : ℕ → Trees → Moment → Result → Type 0 where
    no_more : (p : ℕ) (m : Moment) → RunsAll form client p end m (Passes m)
    row : (p : ℕ) (x : Tree) (xs : Trees) (m : Moment) (r e : Result) → Runs form client p x m r → Behind form client p xs r e →
        RunsAll form client p (x ▹ xs) m e

  -- a row behind a statement that comes to this: what does not pass on is what the row comes to, whatever it is
  pub data Behind (form : Form) (client : ClientForm) : ℕ → Trees → Result → Result → Type 0 where
    goes_on : (p : ℕ) (xs : Trees) (m : Moment) (r : Result) → RunsAll form client p xs m r → Behind form client p xs (Passes m) r
    leaves : (p : ℕ) (xs : Trees) (way : Leaving) → Behind form client p xs (Leaves way) (Leaves way)

-- before the first initialiser
abbrev pub start : ClientForm → List Bool → ℕ → Moment
start client choices budget = record { state = at_first client; choices = choices; budget = budget }

abbrev pub left_by : Leaving → Outcome
left_by (Broken m) = Ends (length m.choices)
left_by (Again m) = Ends (length m.choices)
left_by (Back m) = Ends (length m.choices)
left_by (Stopped o) = o

-- what the run of a whole client is that comes to this
abbrev pub outcome_of : Result → Outcome
outcome_of (Passes m) = Ends (length m.choices)
outcome_of (Leaves way) = left_by way

-- the run on these choices with this budget: what the start does, the initialisers and then the call of `main`
pub record IsRun (form : Form) (client : ClientForm) (choices : List Bool) (budget : ℕ) (o : Outcome) : Type 0 where
  pub result : Result
  pub runs : RunsAll form client 0 (body_at client 0) (start client choices budget) result
  pub comes_to : o ≡ outcome_of result

-- no list of choices and no budget makes the run fail
abbrev pub IsSafe : Form → ClientForm → Type 0
IsSafe form client = (choices : List Bool) (budget call clause left : ℕ) → IsRun form client choices budget (Fails call clause left) → ⊥
