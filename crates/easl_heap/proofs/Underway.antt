-- A body under way: after some statements, the rest leads where the whole leads.
use Rattle.std.proofs.Common.{◌≡◌, ℕ, zero, suc, ◌+◌, ◌<◌, ◌≤◌, List, [], ◌∷◌, length, drop, get_or, arith, refl, ap, sym, subst, ◌∙◌, length-append}
use Rattle.std.specs.Prelude.{if◌then◌else◌}
use Rattle.std.proofs.lemmas.List.{drop_more, drop_all, length-set, length-take}
use Rattle.easl_model.specs.{ActHasFewArguments, ActInRange, ActsHaveFewArguments, ActsInRange, Change, Local, Statement, Write, statement_of, statements_of}
use Rattle.easl_model.specs.{written_by, written_in}
use Rattle.easl_model.specs.Form.{Form}
use Rattle.easl_model.specs.Statements.{Statements, If, ◌▸◌}
use Rattle.easl_model.specs.declared.form.Act.{Act}
use Rattle.easl_heap.specs.{Comes, Fits, Making, Moment, counted, holds, made, run, step, value}
use Rattle.easl_heap.proofs.Counting.{run_later, step_later}

-- within the limits, the statements from the i-th on lead from here to where they all lead from the start
pub record IsUnderWay (form : Form) (depth : ℕ) (acts : List Act) (i : ℕ) (start now : Moment) : Type 0 where
  pub leads : run (made form depth) (statements_of (drop i acts)) now ≡ run (made form depth) (statements_of acts) start
  pub slots : length now.slots + written_in (statements_of (drop i acts)) ≤ length start.slots + written_in (statements_of acts)

abbrev pub InLimits : Form → ℕ → List Act → Moment → Type 0 → Type 0
InLimits form depth acts start P = Fits start.slots (statements_of acts) → (run (made form depth) (statements_of acts) start).steps ≤ 1024 → P

pub begins : (form : Form) (depth : ℕ) (acts : List Act) (start : Moment) → IsUnderWay form depth acts 0 start start
begins form depth acts start = record { leads = refl; slots = omega arith }

-- what holds of all statements holds of the one at a place
pub in_range_at : (classes : ℕ) (acts : List Act) (i : ℕ) (act : Act) → i < length acts → act ≡ get_or acts i act
    → ActsInRange classes (statements_of acts) → ActInRange classes (statement_of act)
in_range_at classes [] i act within is all = absurd (omega arith)
in_range_at classes (a ∷ acts) zero act within is all = subst (λ x. ActInRange classes (statement_of x)) (sym is) all.0
in_range_at classes (a ∷ acts) (suc i) act within is all = in_range_at classes acts i act (omega arith) is all.1

few_at : (acts : List Act) (i : ℕ) (act : Act) → i < length acts → act ≡ get_or acts i act → ActsHaveFewArguments (statements_of acts)
    → ActHasFewArguments (statement_of act)
few_at [] i act within is all = absurd (omega arith)
few_at (a ∷ acts) zero act within is all = subst (λ x. ActHasFewArguments (statement_of x)) (sym is) all.0
few_at (a ∷ acts) (suc i) act within is all = few_at acts i act (omega arith) is all.1

-- a statement declares at most a slot, and an `if` none
step_slots : (make : Making) (x : Statement) (m : Moment) → length (step make x m).slots ≤ length m.slots + written_by x
step_slots make (Local v) m = simp length-append (omega arith)
step_slots make (Change slot v) m =
    omega (arith, length-set m.slots slot ((value make v m).result))
step_slots make (Write target field v) m = omega arith
step_slots make (If c first second) m =
    let after : Moment = if holds m.heap m.slots c then run make first m else run make second m in
    omega (arith, length-take (length m.slots) after.slots)

run_more : (form : Form) (depth : ℕ) (x : Statement) (xs : Statements) (m : Moment) → m.steps < (run (made form depth) (x ▸ xs) m).steps
run_more form depth x xs m =
    omega (arith, run_later form depth xs (step (made form depth) x (counted m)), step_later form depth x (counted m))

-- the next statement, and what follows it
next_is : (acts : List Act) (i : ℕ) (act : Act) → i < length acts → act ≡ get_or acts i act
    → statements_of (drop i acts) ≡ statement_of act ▸ statements_of (drop (i + 1) acts)
next_is acts i act within is_act =
    ap statements_of (drop_more acts i act within ∙ ap (λ a. a ∷ drop (i + 1) acts) (sym is_act))

pub goes_on : (form : Form) (depth : ℕ) (acts : List Act) (i : ℕ) (act : Act) (start now next : Moment) → i < length acts → act ≡ get_or acts i act
    → (ActHasFewArguments (statement_of act) → length now.slots + written_by (statement_of act) ≤ 69 → Comes next (step (made form depth) (statement_of act) (counted now)))
    → InLimits form depth acts start (IsUnderWay form depth acts i start now)
    → InLimits form depth acts start (IsUnderWay form depth acts (i + 1) start next)
goes_on form depth acts i act start now next within is_act stepped before fits short =
    let make : Making = made form depth
    in let u : IsUnderWay form depth acts i start now = before fits short
    in let after : Moment = step make (statement_of act) (counted now)
    in let rest : Statements = statements_of (drop (i + 1) acts)
    in let is = next_is acts i act within is_act
    in let leads : run make rest after ≡ run make (statements_of acts) start = sym (ap (λ xs. run make xs now) is) ∙ u.leads
    in let soon : after.steps ≤ 1024 = omega (arith, run_later form depth rest after, ap (λ (m : Moment). m.steps) leads)
    in let room : length now.slots + written_by (statement_of act) ≤ 69 = omega (arith, u.slots, fits.room, ap written_in is)
    in let same : next ≡ after = stepped (few_at acts i act within is_act fits.arguments) room soon
    in record {
      leads = ap (run make rest) same ∙ leads;
      slots = omega (arith, ap (λ (m : Moment). length m.slots) same, step_slots make (statement_of act) (counted now), u.slots, ap written_in is);
    }

pub stops : (form : Form) (depth : ℕ) (acts : List Act) (i : ℕ) (act : Act) (start now : Moment) → i < length acts → act ≡ get_or acts i act
    → now.steps ≡ 1024 → InLimits form depth acts start (IsUnderWay form depth acts i start now)
    → InLimits form depth acts start (now ≡ run (made form depth) (statements_of acts) start)
stops form depth acts i act start now within is_act out before fits short =
    let make : Making = made form depth
    in let u : IsUnderWay form depth acts i start now = before fits short
    in let is = next_is acts i act within is_act
    in let leads : run make (statement_of act ▸ statements_of (drop (i + 1) acts)) now ≡ run make (statements_of acts) start = sym (ap (λ xs. run make xs now) is) ∙ u.leads
    in absurd (omega (arith, run_more form depth (statement_of act) (statements_of (drop (i + 1) acts)) now, ap (λ (m : Moment). m.steps) leads))

pub ends : (form : Form) (depth : ℕ) (acts : List Act) (i : ℕ) (start now : Moment) → length acts ≤ i
    → InLimits form depth acts start (IsUnderWay form depth acts i start now)
    → InLimits form depth acts start (now ≡ run (made form depth) (statements_of acts) start)
ends form depth acts i start now past before fits short =
    let u : IsUnderWay form depth acts i start now = before fits short
    in sym (ap (λ rest. run (made form depth) (statements_of rest) now) (drop_all i acts past)) ∙ u.leads
