-- Statements with no test in them, and no procedure call, take no choice and few units.
use Rattle.std.proofs.Common.{◌≡◌, ℕ, zero, suc, ◌+◌, ◌-◌, ◌<◌, ◌≤◌, Bool, true, false, All, length, refl, sym, ap, subst, ◌∙◌, arith}
use Rattle.std.specs.Prelude.{List, Option, Some, None, if◌then◌else◌, nat_le, slice_get}
use Rattle.std.specs.Option.{option_map_or}
use Rattle.std.proofs.lemmas.Bool.{leb-false}
use Rattle.client_model.specs.Nodes.{Tree, Trees, Step, If, While, Break, Continue, Return, end, ◌▹◌}
use Rattle.client_model.specs.declared.form.CallSite.{CallSite}
use Rattle.client_model.specs.declared.form.Point.{Point}
use Rattle.client_model.specs.declared.form.Point.TheVariants as point
use Rattle.client_model.specs.CheckedForm.{ClientForm}
use Rattle.client_steps.specs.Deeds.{Broke, Deed, Did, answered, done, done_at, made}
use Rattle.client_steps.specs.Runs.{Again, Back, Begun, Behind, Broken, Called, Cut, Ends, Fails, Leaves, Moment, On, Outcome, Passes, Result, Runs}
use Rattle.client_steps.specs.Runs.{RunsAll, Short, Steps, Stopped, Stops, begun, behind_call, behind_unit, branches, breaks, called_from, calls}
use Rattle.client_steps.specs.Runs.{charged, continues, enters, goes_on, leaves, leaving, loops, no_more, passing, plain, returns, row, step, unit_of}
use Rattle.client_steps.specs.Runs.{unpaid}
use Rattle.client_steps.specs.States.{Call, State, body_at, call_at, entered, point_at}
use Rattle.easl_heap.proofs.Counting.{called_most}
use Rattle.easl_heap.specs.Body.{called, outcome}
use Rattle.easl_heap.specs.Heap.{Object}
use Rattle.easl_model.proofs.Items.{all_at}
use Rattle.easl_model.specs.Form.{Form}
use Rattle.easl_model.specs.Limits.{MethodKeepsLimits}
use Rattle.easl_model.specs.declared.form.Method.{Method}

-- from the one moment to the other no choice is taken, and no more units than these
abbrev pub Takes : ℕ → Moment → Moment → Type 0
Takes most m n = (n.choices ≡ m.choices) × (m.budget ≤ n.budget + most)

-- a run that is over: it failed with all choices left, or there were fewer units than these
abbrev pub EndsSo : ℕ → Moment → Outcome → Type 0
EndsSo most m (Ends left) = Unit {0}
EndsSo most m Short = Unit {0}
EndsSo most m (Fails call clause left) = left ≡ length m.choices
EndsSo most m Cut = m.budget < most

abbrev pub BegunSo : ℕ → Moment → Begun → Type 0
BegunSo most m (On n) = Takes most m n
BegunSo most m (Stops o) = EndsSo most m o

abbrev pub ComesSo : ℕ → Moment → Result → Type 0
ComesSo most m (Passes n) = Takes most m n
ComesSo most m (Leaves (Broken n)) = Takes most m n
ComesSo most m (Leaves (Again n)) = Takes most m n
ComesSo most m (Leaves (Back n)) = Takes most m n
ComesSo most m (Leaves (Stopped o)) = EndsSo most m o

-- a first part and a second one
ends_both : (one other : ℕ) (m n : Moment) (o : Outcome) → Takes one m n → EndsSo other n o → EndsSo (one + other) m o
ends_both one other m n (Ends left) before behind = tt
ends_both one other m n Short before behind = tt
ends_both one other m n (Fails call clause left) before behind = behind ∙ ap length before.0
ends_both one other m n Cut before behind = omega (arith, before.1)

takes_both : (one other : ℕ) (m n l : Moment) → Takes one m n → Takes other n l → Takes (one + other) m l
takes_both one other m n l before behind = (behind.0 ∙ before.0, omega (arith, before.1, behind.1))

comes_both : (one other : ℕ) (m n : Moment) (r : Result) → Takes one m n → ComesSo other n r → ComesSo (one + other) m r
comes_both one other m n (Passes l) before behind = takes_both one other m n l before behind
comes_both one other m n (Leaves (Broken l)) before behind = takes_both one other m n l before behind
comes_both one other m n (Leaves (Again l)) before behind = takes_both one other m n l before behind
comes_both one other m n (Leaves (Back l)) before behind = takes_both one other m n l before behind
comes_both one other m n (Leaves (Stopped o)) before behind = ends_both one other m n o before behind

-- what is so with fewer units is so with more
ends_more : (less most : ℕ) (m : Moment) (o : Outcome) → less ≤ most → EndsSo less m o → EndsSo most m o
ends_more less most m (Ends left) order so = tt
ends_more less most m Short order so = tt
ends_more less most m (Fails call clause left) order so = so
ends_more less most m Cut order so = omega arith

pub comes_more : (less most : ℕ) (m : Moment) (r : Result) → less ≤ most → ComesSo less m r → ComesSo most m r
comes_more less most m (Passes n) order so = (so.0, omega (arith, so.1))
comes_more less most m (Leaves (Broken n)) order so = (so.0, omega (arith, so.1))
comes_more less most m (Leaves (Again n)) order so = (so.0, omega (arith, so.1))
comes_more less most m (Leaves (Back n)) order so = (so.0, omega (arith, so.1))
comes_more less most m (Leaves (Stopped o)) order so = ends_more less most m o order so

passing_so : (most : ℕ) (m : Moment) (b : Begun) → BegunSo most m b → ComesSo most m (passing b)
passing_so most m (On n) so = so
passing_so most m (Stops o) so = so

broken_so : (most : ℕ) (m : Moment) (b : Begun) → BegunSo most m b → ComesSo most m (leaving Broken b)
broken_so most m (On n) so = so
broken_so most m (Stops o) so = so

again_so : (most : ℕ) (m : Moment) (b : Begun) → BegunSo most m b → ComesSo most m (leaving Again b)
again_so most m (On n) so = so
again_so most m (Stops o) so = so

back_so : (most : ℕ) (m : Moment) (b : Begun) → BegunSo most m b → ComesSo most m (leaving Back b)
back_so most m (On n) so = so
back_so most m (Stops o) so = so

call_so : (most : ℕ) (m : Moment) (k : Call) (s : State) (r : Result) → ComesSo most m r → ComesSo most m (behind_call k s r)
call_so most m k s (Passes n) so = so
call_so most m k s (Leaves (Broken n)) so = so
call_so most m k s (Leaves (Again n)) so = so
call_so most m k s (Leaves (Back n)) so = so
call_so most m k s (Leaves (Stopped o)) so = so

unit_so : (units : ℕ) (m : Moment) → m.budget ≡ units → BegunSo 1 m (unit_of units m)
unit_so zero m is = omega (arith, is)
unit_so (suc left) m is = (refl, omega (arith, is))

from_so : (p callee : ℕ) (m : Moment) → BegunSo 1 m (called_from p callee m)
from_so zero zero m = unit_so m.budget m refl
from_so zero (suc main) m = (refl, omega arith)
from_so (suc p) callee m = unit_so m.budget m refl

-- a body executes no more statements than a method may
abbrev IsShort : Deed → Type 0
IsShort (Broke call clause) = Unit {0}
IsShort (Did s steps) = steps ≤ 1024

if_so : (s : State) (steps : ℕ) (m : Moment) (b : Bool) → steps ≤ 1024 → nat_le steps m.budget ≡ b →
    BegunSo 1024 m (if b then On (record m { state = s; budget = m.budget - steps }) else Stops Cut)
if_so s steps m true short is = (refl, omega arith)
if_so s steps m false short is =
    let more : m.budget < steps = leb-false steps m.budget is in
    omega arith

charged_so : (d : Deed) (m : Moment) → IsShort d → BegunSo 1024 m (charged d m)
charged_so (Broke call clause) m short = refl
charged_so (Did s steps) m short = if_so s steps m (nat_le steps m.budget) short refl

-- a unit and then the deed
behind_so : (one other : ℕ) (m n : Moment) (b : Begun) → Takes one m n → BegunSo other n b → BegunSo (one + other) m b
behind_so one other m n (On l) before behind = takes_both one other m n l before behind
behind_so one other m n (Stops o) before behind = ends_both one other m n o before behind

-- none of these statements is a test
abbrev pub IsPlain : Tree → Type 0
IsPlain (Step number) = Unit {0}
IsPlain (If number first second) = ⊥
IsPlain (While number inner) = ⊥
IsPlain (Break number) = Unit {0}
IsPlain (Continue number) = Unit {0}
IsPlain (Return number) = Unit {0}

abbrev pub ArePlain : Trees → Type 0
ArePlain end = Unit {0}
ArePlain (x ▹ xs) = IsPlain x × ArePlain xs

-- the most units that they take where none of them calls a procedure
abbrev pub most_of : Trees → ℕ
most_of end = 0
most_of (x ▹ xs) = 1025 + most_of xs

module _ (form : Form) (limits : All (MethodKeepsLimits form) form.methods) where
  -- a method executes no more statements in place than its limit allows
  body_by : (o : Option Method) (n : ℕ) (args : List ℕ) (heap : List Object) → slice_get form.methods n ≡ o →
      (option_map_or (λ m. called form m args heap) o (outcome heap 0 0)).steps ≤ 1024
  body_by None n args heap is = omega arith
  body_by (Some m) n args heap is =
      let kept : MethodKeepsLimits form m = all_at (MethodKeepsLimits form) form.methods n m limits is in
      omega (arith, called_most form m args heap, kept.in_place)

  answered_short : (target : Option ℕ) (call method : ℕ) (args : List ℕ) (o : Option ℕ) (s : State) → IsShort (answered form target call method args o s)
  answered_short target call method args None s = body_by (slice_get form.methods method) method args s.heap refl
  answered_short target call method args (Some clause) s = tt

  module _ (client : ClientForm) where
    -- no statement of the procedure calls another
    abbrev pub CallsNone : ℕ → Type 0
    CallsNone p = (number : ℕ) → call_at client p number ≡ None

    -- each run of the procedure's body takes no choice, and no more units than these
    abbrev pub IsBounded : ℕ → ℕ → Type 0
    IsBounded most p = (m : Moment) (r : Result) → RunsAll form client p (body_at client p) m r → ComesSo most m r

    called_short : (target : Option ℕ) (call : ℕ) (s : State) (o : Option CallSite) →
        IsShort (option_map_or (λ site. made form target call site s) o (Did s 0))
    called_short target call s None = omega arith
    called_short target call s (Some site) = answered_short target call site.method _ _ s

    done_short : (x : Point) (s : State) → IsShort (done form client x s)
    done_short (point.Copy target source) s = omega arith
    done_short (point.Component target call) s = called_short target call s (slice_get client.calls call)
    done_short (point.Call target procedure args place) s = omega arith
    done_short (point.Branch None) s = omega arith
    done_short (point.Branch (Some call)) s = called_short None call s (slice_get client.calls call)
    done_short point.Nothing s = omega arith

    done_by : (o : Option Point) (s : State) → IsShort (option_map_or (λ x. done form client x s) o (Did s 0))
    done_by None s = omega arith
    done_by (Some x) s = done_short x s

    -- a statement is begun that is no procedure call: a unit, and one for each statement of a body
    point_so : (p number units : ℕ) (m : Moment) → m.budget ≡ units → BegunSo 1025 m (behind_unit form client p number (unit_of units m))
    point_so p number zero m is = omega (arith, is)
    point_so p number (suc left) m is =
        let n : Moment = record m { budget = left } in
        behind_so 1 1024 m n (charged (done_at form client p number n.state) n) (refl, omega (arith, is))
        (charged_so (done_at form client p number n.state) n (done_by (point_at client p number) n.state))

    begun_so : (p number : ℕ) (m : Moment) → BegunSo 1025 m (begun form client p number m)
    begun_so p number m = point_so p number m.budget m refl

    -- a statement of a procedure that calls none
    step_so : (p number : ℕ) (k : Option Call) (m : Moment) (r : Result) → k ≡ None → Steps form client p number k m r → ComesSo 1025 m r
    step_so p number k m r none (plain q number1 n s is) =
        subst (ComesSo 1025 n) (sym is) (passing_so 1025 n (begun form client q number1 n) (begun_so q number1 n))
    step_so p number k m r none (calls q number1 l n s e one is) = absurd cc

    tree_so : (p : ℕ) (x : Tree) (m : Moment) (r : Result) → CallsNone p → IsPlain x → Runs form client p x m r → ComesSo 1025 m r
    tree_so p x m r none is (step q number n s one) = step_so q number (call_at client q number) n s (none number) one
    tree_so p x m r none is (breaks q number n s to) = subst (ComesSo 1025 n) (sym to) (broken_so 1025 n (begun form client q number n) (begun_so q number n))
    tree_so p x m r none is (continues q number n s to) = subst (ComesSo 1025 n) (sym to) (again_so 1025 n (begun form client q number n) (begun_so q number n))
    tree_so p x m r none is (returns q number n s to) = subst (ComesSo 1025 n) (sym to) (back_so 1025 n (begun form client q number n) (begun_so q number n))
    tree_so p x m r none is (branches q number first second n s one) = absurd is
    tree_so p x m r none is (loops q number inner n s one) = absurd is

    -- and of statements in a row that hold no test
    mutual
      pub row_so : (p : ℕ) (xs : Trees) (m : Moment) (r : Result) → CallsNone p → ArePlain xs → RunsAll form client p xs m r →
          ComesSo (most_of xs) m r
      row_so p xs m r none are (no_more q n) = (refl, omega arith)
      row_so p xs m r none are (row q y ys n s e one rest) = rest_so q ys n s e none are.1 (tree_so q y n s none are.0 one) rest

      rest_so : (p : ℕ) (xs : Trees) (m : Moment) (b r : Result) → CallsNone p → ArePlain xs → ComesSo 1025 m b →
          Behind form client p xs b r → ComesSo (1025 + most_of xs) m r
      rest_so p xs m b r none are before (goes_on q ys n s one) = comes_both 1025 (most_of ys) m n s before (row_so q ys n s none are one)
      rest_so p xs m b r none are before (leaves q ys way) = comes_more 1025 (1025 + most_of ys) m (Leaves way) (omega arith) before

    -- a call of a procedure that takes no more than these
    called_so : (k : Call) (most : ℕ) (m : Moment) (b : Begun) (r : Result) → IsBounded most k.callee → BegunSo 1 m b → Called form client k b r →
        ComesSo (1 + most) m r
    called_so k most m b r all before (enters l n s one) =
        let inner : Moment = record n { state = entered client l n.state } in
        comes_both 1 most m inner s before (all inner s one)
    called_so k most m b r all before (unpaid l o) = ends_more 1 (1 + most) m o (omega arith) before

    -- a statement of the start, where no procedure of the text takes more than these
    call_of_start : (most : ℕ) → ((p : ℕ) → 0 < p → IsBounded most p) → (p number : ℕ) (o : Option Call) (m : Moment) (r : Result) →
        ((k : Call) → o ≡ Some k → 0 < k.callee) → Steps form client p number o m r → ComesSo (1025 + most) m r
    call_of_start most all p number o m r later (plain q number1 n s is) =
        comes_more 1025 (1025 + most) n s (omega arith)
        (subst (ComesSo 1025 n) (sym is) (passing_so 1025 n (begun form client q number1 n) (begun_so q number1 n)))
    call_of_start most all p number o m r later (calls q number1 k n s e one is) =
        comes_more (1 + most) (1025 + most) n e (omega arith)
        (subst (ComesSo (1 + most) n) (sym is) (call_so (1 + most) n k n.state s
        (called_so k most n (called_from q k.callee n) s (all k.callee (later k refl)) (from_so q k.callee n) one)))

    start_tree : (most : ℕ) → ((p : ℕ) → 0 < p → IsBounded most p) → (number : ℕ) (m : Moment) (r : Result) →
        ((k : Call) → call_at client 0 number ≡ Some k → 0 < k.callee) → Runs form client 0 (Step number) m r →
        ComesSo (1025 + most) m r
    start_tree most all number m r later (step q number1 n s one) = call_of_start most all 0 number (call_at client 0 number) n s later one

    start_rest : (most : ℕ) (m : Moment) (b r : Result) → ComesSo most m b → Behind form client 0 end b r → ComesSo most m r
    start_rest most m b r so (goes_on q ys n s (no_more q1 n1)) = so
    start_rest most m b r so (leaves q ys way) = so

    -- the start where it is one statement
    pub start_so : (most : ℕ) → ((p : ℕ) → 0 < p → IsBounded most p) → (number : ℕ) (m : Moment) (r : Result) →
        ((k : Call) → call_at client 0 number ≡ Some k → 0 < k.callee) →
        RunsAll form client 0 (Step number ▹ end) m r → ComesSo (1025 + most) m r
    start_so most all number m r later (row q y ys n s e one rest) = start_rest (1025 + most) n s e (start_tree most all number n s later one) rest
