-- Without the choices that it leaves, and with more units, a run goes on as it did: by induction on the run.
use Rattle.std.proofs.Common.{◌≡◌, ◌≢◌, ℕ, zero, suc, ◌+◌, ◌-◌, ◌≤◌, Bool, true, false, List, [], ◌∷◌, length, refl, sym, ap, subst, ◌∙◌, arith}
use Rattle.std.specs.Prelude.{Option, if◌then◌else◌, nat_le, take}
use Rattle.std.proofs.lemmas.Bool.{le-leb, leb-true}
use Rattle.client_model.specs.CheckedForm.{ClientForm}
use Rattle.client_model.specs.Nodes.{Tree, Trees, While}
use Rattle.client_steps.specs.Deeds.{Broke, Deed, Did, done_at}
use Rattle.client_steps.specs.Laws.{FailsOnTaken, MoreKeeps}
use Rattle.client_steps.specs.Runs.{Again, Around, Back, Begun, Behind, Branches, Broken, Called, Cut, Ends, Enters, Fails, IsRun, Leaves, Leaving, Loops}
use Rattle.client_steps.specs.Runs.{Moment, On, Out, Outcome, Over, Passes, Result, Runs, RunsAll, Short, Skips, Steps, Stopped, Stops, Tested, Turn, Turns}
use Rattle.client_steps.specs.Runs.{around, begun, behind_call, behind_unit, branches, breaks, called_from, calls, charged, choosing, chosen, continues}
use Rattle.client_steps.specs.Runs.{enters, goes_on, inside, leaves, leaving, loops, no_more, on_false, on_true, out, outcome_of, passing, past, plain}
use Rattle.client_steps.specs.Runs.{returns, row, start, step, tested, turn_of, unit_of, unpaid, untaken, untried}
use Rattle.client_steps.specs.States.{Call, State, body_at, entered}
use Rattle.easl_model.specs.Form.{Form}

-- without the last k choices
abbrev shorter : ℕ → List Bool → List Bool
shorter k cs = take (length cs - k) cs

abbrev nothing : List Bool
nothing = []

none_taken : (n : ℕ) → take n nothing ≡ nothing
none_taken zero = refl
none_taken (suc n) = refl

one_taken : (k : ℕ) (c : Bool) (cs : List Bool) → k ≤ length cs → shorter k (c ∷ cs) ≡ c ∷ shorter k cs
one_taken k c cs few =
    let more : length (c ∷ cs) - k ≡ suc (length cs - k) = omega arith in
    ap (λ n. take n (c ∷ cs)) more

all_taken : (cs : List Bool) → shorter 0 cs ≡ cs
all_taken [] = none_taken (length nothing - 0)
all_taken (c ∷ cs) = one_taken 0 c cs (omega arith) ∙ ap (λ rest. c ∷ rest) (all_taken cs)

length_taken : (n : ℕ) (cs : List Bool) → n ≤ length cs → length (take n cs) ≡ n
length_taken zero cs few = refl
length_taken (suc n) [] few = absurd (omega arith)
length_taken (suc n) (c ∷ cs) few = ap suc (length_taken n cs (omega arith))

module _ (k u : ℕ) where
  -- with k choices fewer and u units more
  abbrev moved : Moment → Moment
  moved m = record { state = m.state; choices = shorter k m.choices; budget = m.budget + u }

  abbrev ended : Outcome → Outcome
  ended (Ends left) = Ends (left - k)
  ended Short = Short
  ended (Fails call clause left) = Fails call clause (left - k)
  ended Cut = Cut

  abbrev left : Leaving → Leaving
  left (Broken m) = Broken (moved m)
  left (Again m) = Again (moved m)
  left (Back m) = Back (moved m)
  left (Stopped o) = Stopped (ended o)

  abbrev come : Result → Result
  come (Passes m) = Passes (moved m)
  come (Leaves way) = Leaves (left way)

  abbrev at_begin : Begun → Begun
  at_begin (On m) = On (moved m)
  at_begin (Stops o) = Stops (ended o)

  abbrev at_test : Tested → Tested
  at_test (Enters m) = Enters (moved m)
  at_test (Skips m) = Skips (moved m)
  at_test (Over o) = Over (ended o)

  abbrev at_turn : Turn → Turn
  at_turn (Around m) = Around (moved m)
  at_turn (Out r) = Out (come r)

  -- so many choices are left, and the run is not cut
  abbrev Has : Moment → Type 0
  Has m = k ≤ length m.choices

  abbrev HasEnded : Outcome → Type 0
  HasEnded (Ends left) = k ≤ left
  HasEnded Short = k ≡ 0
  HasEnded (Fails call clause left) = k ≤ left
  HasEnded Cut = ⊥

  abbrev HasLeft : Leaving → Type 0
  HasLeft (Broken m) = Has m
  HasLeft (Again m) = Has m
  HasLeft (Back m) = Has m
  HasLeft (Stopped o) = HasEnded o

  abbrev HasCome : Result → Type 0
  HasCome (Passes m) = Has m
  HasCome (Leaves way) = HasLeft way

  abbrev HasBegun : Begun → Type 0
  HasBegun (On m) = Has m
  HasBegun (Stops o) = HasEnded o

  abbrev HasTested : Tested → Type 0
  HasTested (Enters m) = Has m
  HasTested (Skips m) = Has m
  HasTested (Over o) = HasEnded o

  abbrev HasTurned : Turn → Type 0
  HasTurned (Around m) = Has m
  HasTurned (Out r) = HasCome r

  unit_moved : (units : ℕ) (m : Moment) → HasBegun (unit_of units m) → (Has m) × (unit_of (units + u) (moved m) ≡ at_begin (unit_of units m))
  unit_moved zero m has = absurd has
  unit_moved (suc less) m has =
      let more : suc less + u ≡ suc (less + u) = omega arith in
      (has, ap (λ b. unit_of b (moved m)) more)

  if_moved : (s : State) (steps : ℕ) (m : Moment) (b : Bool) → nat_le steps m.budget ≡ b →
      HasBegun (if b then On (record m { state = s; budget = m.budget - steps }) else Stops Cut) →
      (Has m) × (charged (Did s steps) (moved m) ≡ at_begin (if b then On (record m { state = s; budget = m.budget - steps }) else Stops Cut))
  if_moved s steps m true is has =
      let less : steps ≤ m.budget = leb-true steps m.budget is in
      let within : nat_le steps (m.budget + u) ≡ true = le-leb steps (m.budget + u) (omega arith) in
      let rest : (m.budget + u) - steps ≡ (m.budget - steps) + u = omega arith in (
        has,
        ap (λ b. if b then On (record (moved m) { state = s; budget = (m.budget + u) - steps }) else Stops Cut) within ∙ ap (λ b. On (record
            (moved m) { state = s; budget = b })) rest,
      )
  if_moved s steps m false is has = absurd has

  charged_moved : (d : Deed) (m : Moment) → HasBegun (charged d m) → (Has m) × (charged d (moved m) ≡ at_begin (charged d m))
  charged_moved (Broke call clause) m has =
      let same : length (shorter k m.choices) ≡ length m.choices - k = length_taken (length m.choices - k) m.choices (omega arith) in
      (has, ap (λ n. Stops (Fails call clause n)) same)
  charged_moved (Did s steps) m has = if_moved s steps m (nat_le steps m.budget) refl has

  chosen_moved : (cs : List Bool) (m : Moment) → HasTested (chosen cs m) → (k ≤ length cs) × (chosen (shorter k cs) (moved m) ≡ at_test (chosen cs m))
  chosen_moved [] m has = (omega arith, ap (λ cs. chosen cs (moved m)) (none_taken (length nothing - k)))
  chosen_moved (true ∷ cs) m has = (omega arith, ap (λ ds. chosen ds (moved m)) (one_taken k true cs has))
  chosen_moved (false ∷ cs) m has = (omega arith, ap (λ ds. chosen ds (moved m)) (one_taken k false cs has))

  choosing_moved : (b : Begun) → HasTested (choosing b) → (HasBegun b) × (choosing (at_begin b) ≡ at_test (choosing b))
  choosing_moved (On m) has = chosen_moved m.choices m has
  choosing_moved (Stops o) has = (has, refl)

  passing_moved : (b : Begun) → HasCome (passing b) → (HasBegun b) × (passing (at_begin b) ≡ come (passing b))
  passing_moved (On m) has = (has, refl)
  passing_moved (Stops o) has = (has, refl)

  broken_moved : (b : Begun) → HasCome (leaving Broken b) → (HasBegun b) × (leaving Broken (at_begin b) ≡ come (leaving Broken b))
  broken_moved (On m) has = (has, refl)
  broken_moved (Stops o) has = (has, refl)

  again_moved : (b : Begun) → HasCome (leaving Again b) → (HasBegun b) × (leaving Again (at_begin b) ≡ come (leaving Again b))
  again_moved (On m) has = (has, refl)
  again_moved (Stops o) has = (has, refl)

  back_moved : (b : Begun) → HasCome (leaving Back b) → (HasBegun b) × (leaving Back (at_begin b) ≡ come (leaving Back b))
  back_moved (On m) has = (has, refl)
  back_moved (Stops o) has = (has, refl)

  call_moved : (l : Call) (s : State) (r : Result) → HasCome (behind_call l s r) → (HasCome r) × (behind_call l s (come r) ≡ come (behind_call l s r))
  call_moved l s (Passes m) has = (has, refl)
  call_moved l s (Leaves (Broken m)) has = (has, refl)
  call_moved l s (Leaves (Again m)) has = (has, refl)
  call_moved l s (Leaves (Back m)) has = (has, refl)
  call_moved l s (Leaves (Stopped o)) has = (has, refl)

  turn_moved : (r : Result) → HasTurned (turn_of r) → (HasCome r) × (turn_of (come r) ≡ at_turn (turn_of r))
  turn_moved (Passes m) has = (has, refl)
  turn_moved (Leaves (Broken m)) has = (has, refl)
  turn_moved (Leaves (Again m)) has = (has, refl)
  turn_moved (Leaves (Back m)) has = (has, refl)
  turn_moved (Leaves (Stopped o)) has = (has, refl)

  called_moved : (p callee : ℕ) (m : Moment) → HasBegun (called_from p callee m) →
      (Has m) × (called_from p callee (moved m) ≡ at_begin (called_from p callee m))
  called_moved zero zero m has = unit_moved m.budget m has
  called_moved zero (suc main) m has = (has, refl)
  called_moved (suc p) callee m has = unit_moved m.budget m has

  module _ (form : Form) (client : ClientForm) where
    point_moved : (p number : ℕ) (b : Begun) → HasBegun (behind_unit form client p number b) →
        (HasBegun b) × (behind_unit form client p number (at_begin b) ≡ at_begin (behind_unit form client p number b))
    point_moved p number (On m) has = charged_moved (done_at form client p number m.state) m has
    point_moved p number (Stops o) has = (has, refl)

    begun_moved : (p number : ℕ) (m : Moment) → HasBegun (begun form client p number m) →
        (Has m) × (begun form client p number (moved m) ≡ at_begin (begun form client p number m))
    begun_moved p number m has =
        let point = point_moved p number (unit_of m.budget m) has in
        let unit = unit_moved m.budget m point.0 in
        (unit.0, ap (behind_unit form client p number) unit.1 ∙ point.1)

    tested_moved : (p number : ℕ) (m : Moment) → HasTested (tested form client p number m) →
        (Has m) × (tested form client p number (moved m) ≡ at_test (tested form client p number m))
    tested_moved p number m has =
        let choice = choosing_moved (begun form client p number m) has in
        let point = begun_moved p number m choice.0 in
        (point.0, ap choosing point.1 ∙ choice.1)

    -- what a point comes to by such a function of what is begun
    point_comes : (f : Begun → Result) → ((b : Begun) → HasCome (f b) → (HasBegun b) × (f (at_begin b) ≡ come (f b))) →
        (p number : ℕ) (m : Moment) (r : Result) → r ≡ f (begun form client p number m) → HasCome r →
        (Has m) × (come r ≡ f (begun form client p number (moved m)))
    point_comes f moves p number m r is has =
        let one = moves (begun form client p number m) (subst HasCome is has) in
        let point = begun_moved p number m one.0 in
        (point.0, ap come is ∙ (sym one.1 ∙ sym (ap f point.1)))

    mutual
      runs_moved : (p : ℕ) (x : Tree) (m : Moment) (r : Result) → Runs form client p x m r → HasCome r →
          (Has m) × Runs form client p x (moved m) (come r)
      runs_moved p x m r (step q number n s one) has =
          let rest = steps_moved q number _ n r one has in
          (rest.0, step q number (moved n) (come r) rest.1)
      runs_moved p x m r (breaks q number n s is) has =
          let rest = point_comes (leaving Broken) broken_moved q number n r is has in
          (rest.0, breaks q number (moved n) (come r) rest.1)
      runs_moved p x m r (continues q number n s is) has =
          let rest = point_comes (leaving Again) again_moved q number n r is has in
          (rest.0, continues q number (moved n) (come r) rest.1)
      runs_moved p x m r (returns q number n s is) has =
          let rest = point_comes (leaving Back) back_moved q number n r is has in
          (rest.0, returns q number (moved n) (come r) rest.1)
      runs_moved p x m r (branches q number first second n s one) has =
          let rest = branches_moved q first second _ r one has in
          let test = tested_moved q number n rest.0 in (
            test.0,
            branches q number first second (moved n) (come r) (subst (λ t. Branches form client q first second t (come r))
                (sym test.1) rest.1),
          )
      runs_moved p x m r (loops q number inner n s one) has =
          let rest = loops_moved q number inner _ r one has in
          let test = tested_moved q number n rest.0 in
          (test.0, loops q number inner (moved n) (come r) (subst (λ t. Loops form client q number inner t (come r)) (sym test.1) rest.1))

      steps_moved : (p number : ℕ) (c : Option Call) (m : Moment) (r : Result) → Steps form client p number c m r → HasCome r →
          (Has m) × Steps form client p number c (moved m) (come r)
      steps_moved p number c m r (plain q number1 n s is) has =
          let rest = point_comes passing passing_moved q number1 n r is has in
          (rest.0, plain q number1 (moved n) (come r) rest.1)
      steps_moved p number c m r (calls q number1 l n s e one is) has =
          let back = call_moved l n.state s (subst HasCome is has) in
          let inner = call_runs_moved l _ s one back.0 in
          let unit = called_moved q l.callee n inner.0 in (
            unit.0,
            calls q number1 l (moved n) (come s) (come r) (subst (λ b. Called form client l b (come s)) (sym unit.1) inner.1)
                (ap come is ∙ sym back.1),
          )

      call_runs_moved : (l : Call) (b : Begun) (r : Result) → Called form client l b r → HasCome r →
          (HasBegun b) × Called form client l (at_begin b) (come r)
      call_runs_moved l b r (enters l1 n s one) has =
          let rest = all_moved l1.callee (body_at client l1.callee) (record n { state = entered client l1 n.state }) r one has in
          (rest.0, enters l1 (moved n) (come r) rest.1)
      call_runs_moved l b r (unpaid l1 o) has = (has, unpaid l1 (ended o))

      branches_moved : (p : ℕ) (first second : Trees) (t : Tested) (r : Result) → Branches form client p first second t r → HasCome r →
          (HasTested t) × Branches form client p first second (at_test t) (come r)
      branches_moved p first second t r (on_true q f1 s1 n s one) has =
          let rest = all_moved q f1 n r one has in
          (rest.0, on_true q f1 s1 (moved n) (come r) rest.1)
      branches_moved p first second t r (on_false q f1 s1 n s one) has =
          let rest = all_moved q s1 n r one has in
          (rest.0, on_false q f1 s1 (moved n) (come r) rest.1)
      branches_moved p first second t r (untaken q f1 s1 o) has = (has, untaken q f1 s1 (ended o))

      loops_moved : (p number : ℕ) (inner : Trees) (t : Tested) (r : Result) → Loops form client p number inner t r → HasCome r →
          (HasTested t) × Loops form client p number inner (at_test t) (come r)
      loops_moved p number inner t r (inside q number1 i1 n s e one rest) has =
          let turns = turns_moved q number1 i1 _ r rest has in
          let turn = turn_moved s turns.0 in
          let block = all_moved q i1 n s one turn.0 in (
            block.0,
            inside q number1 i1 (moved n) (come s) (come r) block.1 (subst (λ a. Turns form client q number1 i1 a (come r))
                (sym turn.1) turns.1),
          )
      loops_moved p number inner t r (past q number1 i1 n) has = (has, past q number1 i1 (moved n))
      loops_moved p number inner t r (untried q number1 i1 o) has = (has, untried q number1 i1 (ended o))

      turns_moved : (p number : ℕ) (inner : Trees) (t : Turn) (r : Result) → Turns form client p number inner t r → HasCome r →
          (HasTurned t) × Turns form client p number inner (at_turn t) (come r)
      turns_moved p number inner t r (around q number1 i1 n s one) has =
          let rest = runs_moved q (While number1 i1) n r one has in
          (rest.0, around q number1 i1 (moved n) (come r) rest.1)
      turns_moved p number inner t r (out q number1 i1 s) has = (has, out q number1 i1 (come s))

      all_moved : (p : ℕ) (xs : Trees) (m : Moment) (r : Result) → RunsAll form client p xs m r → HasCome r →
          (Has m) × RunsAll form client p xs (moved m) (come r)
      all_moved p xs m r (no_more q n) has = (has, no_more q (moved n))
      all_moved p xs m r (row q y ys n s e one rest) has =
          let others = behind_moved q ys s r rest has in
          let first = runs_moved q y n s one others.0 in
          (first.0, row q y ys (moved n) (come s) (come r) first.1 others.1)

      behind_moved : (p : ℕ) (xs : Trees) (b r : Result) → Behind form client p xs b r → HasCome r →
          (HasCome b) × Behind form client p xs (come b) (come r)
      behind_moved p xs b r (goes_on q ys n s one) has =
          let rest = all_moved q ys n r one has in
          (rest.0, goes_on q ys (moved n) (come r) rest.1)
      behind_moved p xs b r (leaves q ys way) has = (has, leaves q ys (left way))

  -- the outcome moves with the result
  has_come : (r : Result) → HasEnded (outcome_of r) → HasCome r
  has_come (Passes m) has = has
  has_come (Leaves (Broken m)) has = has
  has_come (Leaves (Again m)) has = has
  has_come (Leaves (Back m)) has = has
  has_come (Leaves (Stopped o)) has = has

  fewer : (cs : List Bool) → k ≤ length cs → Ends (length cs - k) ≡ Ends (length (shorter k cs))
  fewer cs has = ap Ends (sym (length_taken (length cs - k) cs (omega arith)))

  outcome_moved : (r : Result) → HasCome r → ended (outcome_of r) ≡ outcome_of (come r)
  outcome_moved (Passes m) has = fewer m.choices has
  outcome_moved (Leaves (Broken m)) has = fewer m.choices has
  outcome_moved (Leaves (Again m)) has = fewer m.choices has
  outcome_moved (Leaves (Back m)) has = fewer m.choices has
  outcome_moved (Leaves (Stopped o)) has = refl

  run_moved : (form : Form) (client : ClientForm) (choices : List Bool) (budget : ℕ) (o : Outcome) → IsRun form client choices budget o →
      HasEnded o → (k ≤ length choices) × IsRun form client (shorter k choices) (budget + u) (ended o)
  run_moved form client choices budget o run has =
      let come_to : HasCome run.result = has_come run.result (subst HasEnded run.comes_to has) in
      let all = all_moved form client 0 (body_at client 0) (start client choices budget) run.result run.runs come_to in
      (all.0, record { result = come run.result; runs = all.1; comes_to = ap ended run.comes_to ∙ outcome_moved run.result come_to })

-- no choice fewer
same_outcome : (u : ℕ) (o : Outcome) → ended 0 u o ≡ o
same_outcome u (Ends left) = ap Ends (omega arith)
same_outcome u Short = refl
same_outcome u (Fails call clause left) = ap (Fails call clause) (omega arith)
same_outcome u Cut = refl

uncut_has : (u : ℕ) (o : Outcome) → o ≢ Cut → HasEnded 0 u o
uncut_has u (Ends left) uncut = omega arith
uncut_has u Short uncut = refl
uncut_has u (Fails call clause left) uncut = omega arith
uncut_has u Cut uncut = uncut refl

pub more_keeps : MoreKeeps
more_keeps form client choices less budget o run uncut most =
    let u : ℕ = budget - less in
    let all : less + (budget - less) ≡ budget = omega arith in
    let moves = run_moved 0 (budget - less) form client choices less o run (uncut_has (budget - less) o uncut) in
    subst (IsRun form client choices budget) (same_outcome (budget - less) o) (subst (λ b. IsRun form client choices b (ended 0
    (budget - less) o)) all (subst (λ cs. IsRun form client cs (less + (budget - less)) (ended 0 (budget - less) o)) (all_taken choices) moves.1))

pub fails_on_taken : FailsOnTaken
fails_on_taken form client choices budget call clause left run =
    let moves = run_moved left 0 form client choices budget (Fails call clause left) run (omega arith) in
    let units : budget + 0 ≡ budget = omega arith in
    let none : left - left ≡ 0 = omega arith in (
      moves.0,
      subst (λ n. IsRun form client (take (length choices - left) choices) budget (Fails call clause n)) none (subst
          (λ b. IsRun form client (take (length choices - left) choices) b (Fails call clause (left - left))) units moves.1),
    )
