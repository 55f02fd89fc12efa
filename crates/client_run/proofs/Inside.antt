-- The body of a procedure leaves no loop that is not there: where no `break` and `continue` stands outside the loops, by induction
-- on the run, and so in the checked form of a client that is well-formed.
use Rattle.std.proofs.Common.{◌≡◌, ℕ, zero, suc, ◌+◌, Bool, true, false, not, List, [], ◌∷◌, ◌++◌, length, refl, sym, ap, subst, ◌∙◌}
use Rattle.std.specs.Prelude.{Option, Some, None, filter_map, flat_map}
use Rattle.std.specs.Option.{option_map_or}
use Rattle.client_run.proofs.Lists.{Each, each_more, each_none}
use Rattle.client_run.specs.Kept.{BodiesStayInside, IsInside}
use Rattle.client_model.specs.Nodes.{Tree, Trees, Step, If, While, Break, Continue, Return, count, count_in, end, node_at, shape_from, ◌▹◌}
use Rattle.client_model.specs.Statements.{Statement, Statements, none, ◌▸◌}
use Rattle.client_model.specs.Statements as text
use Rattle.client_model.specs.Bodies.{Body, all_in, bodies_from, bodies_of, body_of, initialiser}
use Rattle.client_model.specs.BodyFaults.{faults_at, outside_loop, unreachable}
use Rattle.client_model.specs.CheckedForm.{ClientForm, ProcedureForm, form_by, form_of, in_start, procedure_form, start_form, steps_from}
use Rattle.client_model.specs.Contexts.{Context, Situated, after, after_all, counting, entered, evaluated, situated, situated_in, value_of_test}
use Rattle.client_model.specs.Faults.{OutsideLoop, broken_if}
use Rattle.client_model.specs.Rules.{faults_of_body, faults_of_end}
use Rattle.client_model.specs.Settings.{Setting, setting_of}
use Rattle.client_model.specs.Trees.{Client, Initialiser, Item, Procedure}
use Rattle.client_steps.specs.Runs.{Again, Around, Back, Begun, Behind, Branches, Broken, Leaves, Loops, Moment, On, Out, Passes, Result, Runs, RunsAll}
use Rattle.client_steps.specs.Runs.{Steps, Stopped, Stops, Tested, Turn, Turns, around, begun, behind_call, branches, breaks, calls, continues, goes_on}
use Rattle.client_steps.specs.Runs.{inside, leaves, leaving, loops, no_more, on_false, on_true, out, passing, past, plain, returns, row, step, turn_of}
use Rattle.client_steps.specs.Runs.{untaken, untried}
use Rattle.client_steps.specs.States.{Call, State, body_at, procedure_at}
use Rattle.easl_model.proofs.None.{none_of_both}
use Rattle.easl_model.specs.Form.{Form}
use Rattle.easl_model.specs.declared.place.Place.{Place}

abbrev mutual
  -- each `break` and `continue` stands in a loop
  Closed : Trees → Type 0
  Closed end = Unit {0}
  Closed (x ▹ xs) = ClosedIn x × Closed xs

  ClosedIn : Tree → Type 0
  ClosedIn (Step number) = Unit {0}
  ClosedIn (If number first second) = Closed first × Closed second
  ClosedIn (While number inner) = Unit {0}
  ClosedIn (Break number) = ⊥
  ClosedIn (Continue number) = ⊥
  ClosedIn (Return number) = Unit {0}

abbrev TurnInside : Turn → Type 0
TurnInside (Around m) = Unit {0}
TurnInside (Out r) = IsInside r

passing_inside : (b : Begun) → IsInside (passing b)
passing_inside (On m) = tt
passing_inside (Stops o) = tt

back_inside : (b : Begun) → IsInside (leaving Back b)
back_inside (On m) = tt
back_inside (Stops o) = tt

call_inside : (k : Call) (s : State) (r : Result) → IsInside (behind_call k s r)
call_inside k s (Passes m) = tt
call_inside k s (Leaves (Broken m)) = tt
call_inside k s (Leaves (Again m)) = tt
call_inside k s (Leaves (Back m)) = tt
call_inside k s (Leaves (Stopped o)) = tt

turn_inside : (r : Result) → TurnInside (turn_of r)
turn_inside (Passes m) = tt
turn_inside (Leaves (Broken m)) = tt
turn_inside (Leaves (Again m)) = tt
turn_inside (Leaves (Back m)) = tt
turn_inside (Leaves (Stopped o)) = tt

module _ (form : Form) (client : ClientForm) where
  mutual
    runs_inside : (p : ℕ) (x : Tree) (m : Moment) (r : Result) → ClosedIn x → Runs form client p x m r → IsInside r
    runs_inside p x m r closed (step q number n s one) = steps_inside q number _ n r one
    runs_inside p x m r closed (breaks q number n s is) = absurd closed
    runs_inside p x m r closed (continues q number n s is) = absurd closed
    runs_inside p x m r closed (returns q number n s is) = subst IsInside (sym is) (back_inside (begun form client q number n))
    runs_inside p x m r closed (branches q number first second n s one) = branches_inside q first second _ r closed.0 closed.1 one
    runs_inside p x m r closed (loops q number inner n s one) = loops_inside q number inner _ r one

    steps_inside : (p number : ℕ) (c : Option Call) (m : Moment) (r : Result) → Steps form client p number c m r → IsInside r
    steps_inside p number c m r (plain q number1 n s is) = subst IsInside (sym is) (passing_inside (begun form client q number1 n))
    steps_inside p number c m r (calls q number1 k n s e one is) = subst IsInside (sym is) (call_inside k n.state s)

    branches_inside : (p : ℕ) (first second : Trees) (t : Tested) (r : Result) → Closed first → Closed second → Branches form client p first second t r →
        IsInside r
    branches_inside p first second t r one other (on_true q f1 s1 n s runs) = all_inside q f1 n r one runs
    branches_inside p first second t r one other (on_false q f1 s1 n s runs) = all_inside q s1 n r other runs
    branches_inside p first second t r one other (untaken q f1 s1 o) = tt

    loops_inside : (p number : ℕ) (inner : Trees) (t : Tested) (r : Result) → Loops form client p number inner t r → IsInside r
    loops_inside p number inner t r (inside q number1 i1 n s e one turns) = turns_inside q number1 i1 (turn_of s) r (turn_inside s) turns
    loops_inside p number inner t r (past q number1 i1 n) = tt
    loops_inside p number inner t r (untried q number1 i1 o) = tt

    turns_inside : (p number : ℕ) (inner : Trees) (t : Turn) (r : Result) → TurnInside t → Turns form client p number inner t r → IsInside r
    turns_inside p number inner t r here (around q number1 i1 n s one) = runs_inside q (While number1 i1) n r tt one
    turns_inside p number inner t r here (out q number1 i1 s) = here

    pub all_inside : (p : ℕ) (xs : Trees) (m : Moment) (r : Result) → Closed xs → RunsAll form client p xs m r → IsInside r
    all_inside p xs m r closed (no_more q n) = tt
    all_inside p xs m r closed (row q y ys n s e one rest) = behind_inside q ys s r closed.1 (runs_inside q y n s closed.0 one) rest

    behind_inside : (p : ℕ) (xs : Trees) (b r : Result) → Closed xs → IsInside b → Behind form client p xs b r → IsInside r
    behind_inside p xs b r closed here (goes_on q ys n s one) = all_inside q ys n r closed one
    behind_inside p xs b r closed here (leaves q ys way) = here

-- statements that break no rule, outside the loops
looped_after : (s : Setting) (c : Context) (x : Statement) → (after s c x).looped ≡ c.looped
looped_after s c (text.Declare place sort w None) = refl
looped_after s c (text.Declare place sort w (Some v)) = refl
looped_after s c (text.Assign w v) = refl
looped_after s c (text.Do v) = refl
looped_after s c (text.If place t first second has_else) = refl
looped_after s c (text.While place t inner) = refl
looped_after s c (text.Break place) = refl
looped_after s c (text.Continue place) = refl
looped_after s c (text.Return r) = refl

all_free : (xs ys : List Situated) → flat_map faults_at (xs ++ ys) ≡ [] → (flat_map faults_at xs ≡ []) × (flat_map faults_at ys ≡ [])
all_free [] ys free = (refl, free)
all_free (z ∷ xs) ys free =
    let parts = none_of_both (faults_at z) (flat_map faults_at (xs ++ ys)) free in
    let rest = all_free xs ys parts.1 in
    (ap (λ l. l ++ flat_map faults_at xs) parts.0 ∙ rest.0, rest.1)

in_loop_if : (looped : Bool) (place : Place) → looped ≡ false → broken_if (not looped) OutsideLoop place ≡ [] → ⊥
in_loop_if true place is free = absurd cc
in_loop_if false place is free = absurd cc

mutual
  closed_in : (s : Setting) (c : Context) (x : Statement) (number : ℕ) → c.looped ≡ false →
      flat_map faults_at (record { setting = s; context = c; statement = x } ∷ situated_in s c x) ≡ [] → ClosedIn (node_at number x)
  closed_in s c (text.Declare place sort w v) number is free = tt
  closed_in s c (text.Assign w v) number is free = tt
  closed_in s c (text.Do v) number is free = tt
  closed_in s c (text.If place t first second has_else) number is free =
      let z : Situated = record { setting = s; context = c; statement = text.If place t first second has_else } in
      let start : Context = entered (evaluated (value_of_test t) c) in
      let behind : Context = entered (counting (evaluated (value_of_test t) c) (after_all s start first)) in
      let held = (none_of_both (faults_at z) (flat_map faults_at (situated s start first ++ situated s behind second)) free).1 in
      let parts = all_free (situated s start first) (situated s behind second) held in
      (closed_all s start first (suc number) is parts.0, closed_all s behind second (suc number + count first) is parts.1)
  closed_in s c (text.While place t inner) number is free = tt
  closed_in s c (text.Break place) number is free =
      let z : Situated = record { setting = s; context = c; statement = text.Break place } in
      let here = (none_of_both (faults_at z) [] free).0 in
      in_loop_if c.looped place is (none_of_both (unreachable c (text.Break place)) (outside_loop c place) here).1
  closed_in s c (text.Continue place) number is free =
      let z : Situated = record { setting = s; context = c; statement = text.Continue place } in
      let here = (none_of_both (faults_at z) [] free).0 in
      in_loop_if c.looped place is (none_of_both (unreachable c (text.Continue place)) (outside_loop c place) here).1
  closed_in s c (text.Return r) number is free = tt

  closed_all : (s : Setting) (c : Context) (xs : Statements) (number : ℕ) → c.looped ≡ false → flat_map faults_at (situated s c xs) ≡ [] →
      Closed (shape_from number xs)
  closed_all s c none number is free = tt
  closed_all s c (x ▸ xs) number is free =
      let z : Situated = record { setting = s; context = c; statement = x } in
      let parts = all_free (z ∷ situated_in s c x) (situated s (after s c x) xs) free in
      (closed_in s c x number is parts.0, closed_all s (after s c x) xs (number + count_in x) (looped_after s c x ∙ is) parts.1)

steps_closed : (number more : ℕ) → Closed (steps_from number more)
steps_closed number zero = tt
steps_closed number (suc more) = (tt, steps_closed (suc number) more)

abbrev IsClosed : ProcedureForm → Type 0
IsClosed x = Closed x.shape

bodies_closed : (form : Form) (s : Setting) (static procedure call : ℕ) (items : List Item) →
    flat_map faults_of_body (bodies_from s static procedure call items) ≡ [] →
    Each IsClosed (filter_map (λ b. form_by form b b.item) (bodies_from s static procedure call items))
bodies_closed form s static procedure call [] free = each_none IsClosed
bodies_closed form s static procedure call (Initialiser x ∷ rest) free =
    bodies_closed form s (suc static) procedure _ rest (none_of_both (faults_of_body
    (initialiser s static call x)) (flat_map faults_of_body (bodies_from s (suc static) procedure _ rest)) free).1
bodies_closed form s static procedure call (Procedure p ∷ rest) free =
    let b : Body = body_of s procedure call p in
    let parts = none_of_both (faults_of_body b) (flat_map faults_of_body (bodies_from s static (suc procedure) _ rest)) free in
    let here = (none_of_both (flat_map faults_at (all_in b)) (faults_of_end b.item) parts.0).0 in
    each_more IsClosed (procedure_form form b p) _ (closed_all b.setting b.start p.body 0 refl here)
    (bodies_closed form s static (suc procedure) _ rest parts.1)

shape_closed : (o : Option ProcedureForm) → ((x : ProcedureForm) → o ≡ Some x → IsClosed x) → Closed (option_map_or (λ x. x.shape) o end)
shape_closed None all = tt
shape_closed (Some x) all = all x refl

form_closed : (form : Form) (client : Client) → flat_map faults_of_body (bodies_of form client) ≡ [] → (p : ℕ) → Closed (body_at (form_of form client) p)
form_closed form client free p =
    shape_closed (procedure_at (form_of form client) p) (each_more IsClosed (start_form form client) _ (steps_closed 0 (suc (length (flat_map
    (λ b. in_start b b.item) (bodies_of form client)))))
    (bodies_closed form (setting_of form client) 0 1 0 client.items free) p)

pub bodies_stay_inside : BodiesStayInside
bodies_stay_inside form c fits p m r runs =
    all_inside form c p (body_at c p) m r (subst (λ d. Closed (body_at d p)) (sym fits.is) (form_closed form fits.client fits.well_formed.bodies p)) runs
