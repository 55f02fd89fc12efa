-- A straight client: its run takes no choice, and no more units than 2^32 - 1, so that one run tells of all.
use Rattle.std.proofs.Common.{◌≡◌, ℕ, zero, suc, ◌+◌, ◌-◌, ◌*◌, ◌<◌, ◌≤◌, Bool, true, false, not, ◌||◌, ◌==◌, List, [], ◌∷◌, ◌++◌, All, Err, Ok, length, map, refl, sym, ap, subst, ◌∙◌, arith}
use Rattle.std.specs.Prelude.{Option, Some, None, flat_map, option_and_then, slice_get, take}
use Rattle.std.specs.Prelude as prelude
use Rattle.std.specs.List.{list_any}
use Rattle.std.specs.Option.{option_map_or}
use Rattle.std.proofs.lemmas.Bool.{and_parts, eqb-true}
use Rattle.std.proofs.lemmas.List.{length-append, length-map}
use Rattle.std.proofs.lemmas.Option.{slice_get_within}
use Rattle.client_run.proofs.Fitted.{fitting_agreed}
use Rattle.client_run.proofs.Units.{ArePlain, CallsNone, ComesSo, EndsSo, IsBounded, IsPlain, comes_more, most_of, row_so, start_so}
use Rattle.client_run.proofs.There.{answers_there}
use Rattle.client_run.specs.Answers.{Answers, HasCall, outcome_told}
use Rattle.client_run.specs.declared.runner.Outcome as made
use Rattle.client_run.specs.declared.runner.Outcome.TheVariants as ending
use Rattle.client_run.specs.declared.runner.RunFault.{RunFault}
use Rattle.client_run.specs.declared.runner.RunFault.TheVariants as fault
use Rattle.client_run.specs.Graph.{Agree, Agrees, AreAgreed, IsAgreed, is_test, whole}
use Rattle.flow_graph.specs.Points.{exit_of, next_in}
use Rattle.client_run.specs.Straight.{Finds, calls_or_tests, failure_of, first_points, is_straight}
use Rattle.client_model.specs.Program as told
use Rattle.client_model.specs.Bodies.{bodies_from}
use Rattle.client_model.specs.Checked.{IsFitting, IsInRange, procedure_seen, seen}
use Rattle.client_model.specs.CheckedForm.{ClientForm, ProcedureForm, form_of, in_start, steps_from}
use Rattle.client_model.specs.Nodes.{Tree, Trees, Step, If, While, Break, Continue, Return, end, ◌▹◌}
use Rattle.client_model.specs.Settings.{Setting, class_in, setting_of, statics_from}
use Rattle.client_model.specs.Trees.{Client, Initialiser, Item, Procedure, statics_in}
use Rattle.client_model.specs.Ways.{Ways, first_point, ways_in, ways_of}
use Rattle.client_model.specs.declared.form.Point.{Point}
use Rattle.client_model.specs.declared.form.Point.TheVariants as point
use Rattle.client_model.specs.declared.form.Procedure.{Procedure as Made}
use Rattle.client_steps.specs.Runs.{Again, Back, Broken, Cut, Ends, Fails, IsRun, IsSafe, Leaves, Moment, Outcome, Passes, Result, RunsAll, Short, Stopped, outcome_of, start}
use Rattle.client_steps.specs.States.{Call, body_at, call_in, point_at, procedure_at}
use Rattle.client_steps.proofs.Alike.{fails_on_taken}
use Rattle.client_steps.proofs.Corollaries.{uncut_is_one}
use Rattle.easl_model.proofs.Constructors.{map_at}
use Rattle.easl_model.proofs.Items.{all_at}
use Rattle.easl_model.specs.Form.{Form}
use Rattle.easl_model.specs.Limits.{MethodKeepsLimits}

-- points that call no procedure and are no tests
point_plain : (x : Point) (b : Bool) → (calls_or_tests x || b) ≡ false → (call_in x ≡ None) × (is_test (Some x) ≡ false) × (b ≡ false)
point_plain (point.Copy target source) b none = (refl, refl, none)
point_plain (point.Component target call) b none = (refl, refl, none)
point_plain (point.Call target procedure args place) b none = absurd cc
point_plain (point.Branch call) b none = absurd cc
point_plain point.Nothing b none = (refl, refl, none)

points_plain : (points : List Point) (number : ℕ) → list_any calls_or_tests points ≡ false →
    (option_and_then call_in (slice_get points number) ≡ None) × (is_test (slice_get points number) ≡ false)
points_plain [] number none = (refl, refl)
points_plain (x ∷ points) zero none =
    let here = point_plain x (list_any calls_or_tests points) none in
    (here.0, here.1)
points_plain (x ∷ points) (suc number) none = points_plain points number (point_plain x (list_any calls_or_tests points) none).2

-- so that statements which go on as they do hold no test, nor more than those points
module _ (next : ℕ → Option (ℕ × ℕ)) (points : ℕ → Option Point) (plain : (number : ℕ) → is_test (points number) ≡ false) where
  tree_plain : (x : Tree) (w : Ways) → Agrees next points x w → IsPlain x
  tree_plain (Step number) w agree = tt
  tree_plain (If number first second) w agree =
      let test : is_test (points number) ≡ true = agree.0.test in
      let none : is_test (points number) ≡ false = plain number in
      absurd cc
  tree_plain (While number inner) w agree =
      let test : is_test (points number) ≡ true = agree.0.test in
      let none : is_test (points number) ≡ false = plain number in
      absurd cc
  tree_plain (Break number) w agree = tt
  tree_plain (Continue number) w agree = tt
  tree_plain (Return number) w agree = tt

  trees_plain : (xs : Trees) (w : Ways) → Agree next points xs w → ArePlain xs
  trees_plain end w agree = tt
  trees_plain (x ▹ xs) w agree = (tree_plain x (record w { on = first_point xs w.on }) agree.0, trees_plain xs w agree.1)

-- each statement has a point, and each point goes on somewhere
one_way : (x : Tree) (w : Ways) → 1 ≤ length (ways_in w x)
one_way (Step number) w = omega arith
one_way (If number first second) w = omega arith
one_way (While number inner) w = omega arith
one_way (Break number) w = omega arith
one_way (Continue number) w = omega arith
one_way (Return number) w = omega arith

most_by_ways : (xs : Trees) (w : Ways) → most_of xs ≤ 1025 * length (ways_of w xs)
most_by_ways end w = omega arith
most_by_ways (x ▹ xs) w =
    let inner : Ways = record w { on = first_point xs w.on } in
    let both : length (ways_in inner x ++ ways_of w xs) ≡ length (ways_in inner x) + length (ways_of w xs) = length-append (ways_in inner x) (ways_of w xs) in
    let one : 1 ≤ length (ways_in inner x) = one_way x inner in
    let rest : most_of xs ≤ 1025 * length (ways_of w xs) = most_by_ways xs w in
    omega arith

-- the start of a client with no static is its call of `main` alone
none_initial : (s : Setting) (static procedure call : ℕ) (items : List Item) → length (statics_in items) ≡ 0 →
    flat_map (λ b. in_start b b.item) (bodies_from s static procedure call items) ≡ []
none_initial s static procedure call [] none = refl
none_initial s static procedure call (Initialiser x ∷ rest) none = absurd (omega (arith, none))
none_initial s static procedure call (Procedure p ∷ rest) none = none_initial s static (suc procedure) _ rest none

statics_counted : (form : Form) (number : ℕ) (xs : List _) → length (statics_from form number xs) ≡ length xs
statics_counted form number [] = refl
statics_counted form number (x ∷ xs) = ap suc (statics_counted form (suc number) xs)

start_single : (form : Form) (client : Client) → length (form_of form client).statics ≡ 0 → body_at (form_of form client) 0 ≡ Step 0 ▹ end
start_single form client none =
    let made : length (map (λ v. class_in v.kind) (setting_of form client).statics) ≡ length (setting_of form client).statics =
    length-map (setting_of form client).statics (λ v. class_in v.kind) in
    let counted : length (setting_of form client).statics ≡ length (statics_in client.items) = statics_counted form 0 (statics_in client.items) in
    ap (λ l. steps_from 0 (suc (length l))) (none_initial (setting_of form client) 0 1 0 client.items (omega arith))

-- what a straight client keeps
record IsStraight (client : ClientForm) : Type 0 where
  statics : length client.statics ≡ 0
  procedures : length client.procedures ≡ 2
  points : list_any calls_or_tests (first_points client) ≡ false

not_false : (b : Bool) → not b ≡ true → b ≡ false
not_false true is = absurd cc
not_false false is = refl

straight : (client : ClientForm) → is_straight client ≡ true → IsStraight client
straight client is =
    let first = and_parts (length client.statics == 0) _ is in
    let second = and_parts (length client.procedures == 2) _ first.1 in
    record {
      statics = eqb-true (length client.statics) 0 first.0;
      procedures = eqb-true (length client.procedures) 2 second.0;
      points = not_false (list_any calls_or_tests (first_points client)) second.1;
    }

-- 1,025 units for the statement of the start, and 1,074,791,425 for `main`
ends_of : (m : Moment) (r : Result) → ComesSo 1074792450 m r → EndsSo 1074792450 m (outcome_of r)
ends_of m (Passes n) so = tt
ends_of m (Leaves (Broken n)) so = tt
ends_of m (Leaves (Again n)) so = tt
ends_of m (Leaves (Back n)) so = tt
ends_of m (Leaves (Stopped o)) so = so

module _ (form : Form) (limits : All (MethodKeepsLimits form) form.methods) (client : ClientForm) where
  -- the procedure takes no more units than 1,025 for each of 1,048,577 points
  abbrev IsShort : ℕ → Type 0
  IsShort p = IsBounded form limits client 1074791425 p

  -- statements that hold no test and no procedure call
  rows_bounded : (p : ℕ) (xs : Trees) → body_at client p ≡ xs → CallsNone form limits client p → ArePlain xs → most_of xs ≤ 1074791425 →
      IsShort p
  rows_bounded p xs is none plain few n e run =
      comes_more (most_of xs) 1074791425 n e few (row_so form limits client p xs n e none plain (subst (λ ys. RunsAll form client p ys n e) is run))

  none_bounded : (p : ℕ) → procedure_at client p ≡ None → IsShort p
  none_bounded p is =
      rows_bounded p end (ap (λ o. option_map_or (λ x. x.shape) o end) is)
      (λ number. ap (λ o. option_and_then call_in (option_and_then (λ x. slice_get x.points number) o)) is) tt (omega arith)

  -- a procedure whose points are no tests and no procedure calls
  main_bounded : (p : ℕ) (x : ProcedureForm) → procedure_at client p ≡ Some x → IsAgreed x → list_any calls_or_tests x.points ≡ false →
      length x.points ≤ 1048577 → IsShort p
  main_bounded p x is agreed none few =
      let plain = trees_plain (slice_get (next_in x)) (slice_get x.points) (λ number. (points_plain x.points number none).1) x.shape
      (whole (exit_of x)) agreed.agree in
      let most : most_of x.shape ≤ 1025 * length (next_in x) = most_by_ways x.shape (whole (exit_of x)) in
      let many : length (next_in x) ≡ length x.points = agreed.many in
      rows_bounded p x.shape (ap (λ o. option_map_or (λ x. x.shape) o end) is)
      (λ number. ap (λ o. option_and_then call_in (option_and_then (λ x. slice_get x.points number) o)) is ∙ (points_plain x.points number none).0)
      plain (omega arith)

  module _ (agreed : AreAgreed client) (kept : IsStraight client)
      (few : (p : ℕ) (x : ProcedureForm) → procedure_at client p ≡ Some x → length x.points ≤ 1048577) where
    each_bounded : (p : ℕ) → 0 < p → (o : Option ProcedureForm) → procedure_at client p ≡ o → IsShort p
    each_bounded p later None is = none_bounded p is
    each_bounded p later (Some x) is =
        let within : p < length client.procedures = slice_get_within client.procedures p x is in
        let two : length client.procedures ≡ 2 = kept.procedures in
        let first : p ≡ 1 = omega arith in
        let here : procedure_at client 1 ≡ Some x = subst (λ n. procedure_at client n ≡ Some x) first is in
        let none : list_any calls_or_tests x.points ≡ false =
        sym (ap (λ o. list_any calls_or_tests (option_map_or (λ (y : ProcedureForm). y.points) o [])) here) ∙ kept.points in
        main_bounded p x is (agreed.procedures p x is) none (few p x is)

    -- the start calls a procedure of the text
    called_later : (o : Option ProcedureForm) (q : Option Point) (number : ℕ) (k : Call) → procedure_at client 0 ≡ o →
        option_and_then (λ x. slice_get x.points number) o ≡ q → option_and_then call_in q ≡ Some k → 0 < k.callee
    called_later None None number k is at call = absurd cc
    called_later None (Some here) number k is at call = absurd cc
    called_later (Some x) None number k is at call = absurd cc
    called_later (Some x) (Some here) number k is at call = agreed.called 0 number x here k is at call

    -- a run from its start fails with all choices left, and is cut only where there are fewer units
    run_so : (choices : List Bool) (budget : ℕ) (o : Outcome) → body_at client 0 ≡ Step 0 ▹ end → IsRun form client choices budget o →
        EndsSo 1074792450 (start client choices budget) o
    run_so choices budget o single run =
        let m : Moment = start client choices budget in
        let comes : ComesSo (1025 + 1074791425) m run.result =
        start_so form limits client 1074791425 (λ p later. each_bounded p later (procedure_at client p) refl) 0 m run.result
        (λ k is. called_later (procedure_at client 0) (point_at client 0 0) 0 k refl refl is)
        (subst (λ xs. RunsAll form client 0 xs m run.result) single run.runs) in
        subst (EndsSo 1074792450 m) (sym run.comes_to) (ends_of m run.result comes)

-- a run that is not cut and does not fail tells that none fails
module _ (form : Form) (client : ClientForm) (so : (choices : List Bool) (budget : ℕ) (o : Outcome) → IsRun form client choices budget o →
    EndsSo 1074792450 (start client choices budget) o) where
  -- a run that fails does so on no choices
  fails_on_none : (choices : List Bool) (budget call clause left : ℕ) → IsRun form client choices budget (Fails call clause left) →
      IsRun form client [] budget (Fails call clause 0)
  fails_on_none choices budget call clause left run =
      let all : left ≡ length choices = so choices budget (Fails call clause left) run in
      let none : length choices - left ≡ 0 = omega arith in
      subst (λ n. IsRun form client (take n choices) budget (Fails call clause 0)) none (fails_on_taken form client choices budget call clause left run).1

  not_cut : (budget : ℕ) → IsRun form client [] budget Cut → 1074792450 ≤ budget → ⊥
  not_cut budget run enough =
      let short : budget < 1074792450 = so [] budget Cut run in
      omega arith

  safe_by_end : (budget left : ℕ) → IsRun form client [] budget (Ends left) → IsSafe form client
  safe_by_end budget left run choices other call clause rest fails =
      let same : Ends left ≡ Fails call clause 0 = uncut_is_one form client [] budget other (Ends left) (Fails call clause 0) run
      (fails_on_none choices other call clause rest fails) (λ is. absurd cc) (λ is. absurd cc) in
      absurd cc

  safe_by_short : (budget : ℕ) → IsRun form client [] budget Short → IsSafe form client
  safe_by_short budget run choices other call clause rest fails =
      let same : Short ≡ Fails call clause 0 = uncut_is_one form client [] budget other Short (Fails call clause 0) run
      (fails_on_none choices other call clause rest fails) (λ is. absurd cc) (λ is. absurd cc) in
      absurd cc

  ended_found : (budget : ℕ) (o : made.Outcome) → HasCall client.calls o → IsRun form client [] budget (outcome_told o) → Finds form client (failure_of o)
  ended_found budget (ending.Ends left) there run = safe_by_end budget left run
  ended_found budget ending.Short there run = safe_by_short budget run
  ended_found budget (ending.Fails call clause left) there run = (there, (budget, fails_on_none [] budget call clause left run))

-- of a client that fits a specification
fitting_single : (form : Form) (c : told.ClientForm) → IsFitting form c → length (seen c).statics ≡ 0 → body_at (seen c) 0 ≡ Step 0 ▹ end
fitting_single form c fits none =
    let statics : length (form_of form fits.client).statics ≡ 0 = sym (ap (λ d. length d.statics) fits.is) ∙ none in
    ap (λ d. body_at d 0) fits.is ∙ start_single form fits.client statics

points_few : (c : told.ClientForm) → IsInRange c → (p : ℕ) (x : ProcedureForm) → procedure_at (seen c) p ≡ Some x → length x.points ≤ 1048577
points_few c range p x is =
    let from = map_at procedure_seen c.procedures p x is in
    let few : length from.0.points ≤ 1048577 = all_at (λ (y : Made). length y.points ≤ 1048577) c.procedures p from.0 range.few_points from.1 in
    subst (λ (y : ProcedureForm). length y.points ≤ 1048577) from.2 few

module _ (form : Form) (limits : All (MethodKeepsLimits form) form.methods) (c : told.ClientForm) (range : IsInRange c) (fitting : IsFitting form c)
    (is : is_straight (seen c) ≡ true) where
  straight_so : (choices : List Bool) (budget : ℕ) (o : Outcome) → IsRun form (seen c) choices budget o →
      EndsSo 1074792450 (start (seen c) choices budget) o
  straight_so choices budget o run =
      let kept : IsStraight (seen c) = straight (seen c) is in
      run_so form limits (seen c) (fitting_agreed form c fitting) kept (points_few c range) choices budget o
      (fitting_single form c fitting kept.statics) run

  -- with units enough the run on no choices is not cut
  pub never_long : (budget : ℕ) (r : prelude.Result made.Outcome RunFault) → 1074792450 ≤ budget → Answers form (seen c) [] budget r →
      r ≡ Err fault.Long → ⊥
  never_long budget r enough answers long =
      not_cut form (seen c) straight_so budget (subst (Answers form (seen c) [] budget) long answers) enough

  -- and its outcome tells of all runs
  pub outcome_found : (budget : ℕ) (r : prelude.Result made.Outcome RunFault) (o : made.Outcome) → Answers form (seen c) [] budget r → r ≡ Ok o →
      Finds form (seen c) (failure_of o)
  outcome_found budget r o answers ended =
      let run : IsRun form (seen c) [] budget (outcome_told o) = subst (Answers form (seen c) [] budget) ended answers in
      ended_found form (seen c) straight_so budget o (answers_there form (seen c) [] budget (Ok o) (fitting_agreed form c fitting) run) run
