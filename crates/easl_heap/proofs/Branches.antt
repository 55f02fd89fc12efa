-- The branch of an `if` that is executed.
use Rattle.std.proofs.Common.{◌≡◌, ℕ, ◌+◌, ◌≤◌, Bool, true, false, if◌then◌else◌, List, length, take, arith, ap, sym, subst, ◌∙◌}
use Rattle.easl_model.specs.{ActHasFewArguments, Condition, Statement, written_by}
use Rattle.easl_model.specs.Statements.{Statements, If}
use Rattle.easl_heap.specs.{Comes, Fits, Making, Moment, ended, holds, moment, run, step}

-- the list is executed, and its locals end with it
list_ended : (make : Making) (xs : Statements) (m done last : Moment) (slots : List ℕ) → Fits m.slots xs
    → (Fits m.slots xs → Comes done (run make xs m)) → slots ≡ take (length m.slots) done.slots → last ≡ ended m (run make xs m)
    → Comes (moment done.heap slots done.steps) last
list_ended make xs m done last slots fits comes are is short =
    let same : done ≡ run make xs m = comes fits (omega (arith, short, ap (λ (x : Moment). x.steps) is)) in
    ap (λ ns. moment done.heap ns done.steps) are ∙ ap (ended m) same ∙ sym is

pub branch_ended : (make : Making) (x : Statement) (c : Condition) (first second xs : Statements) (m done : Moment) (slots : List ℕ) (b : Bool)
    → x ≡ If c first second → b ≡ holds m.heap m.slots c → xs ≡ (if b then first else second) → (Fits m.slots xs → Comes done (run make xs m))
    → slots ≡ take (length m.slots) done.slots → ActHasFewArguments x → length m.slots + written_by x ≤ 69
    → Comes (moment done.heap slots done.steps) (step make x m)
branch_ended make x c first second xs m done slots true is chosen are comes end few room =
    let both : ActHasFewArguments (If c first second) = subst ActHasFewArguments is few in
    let told : step make x m ≡ ended m (run make first m) = ap (λ y. step make y m) is ∙ ap (λ b. ended m (if b then run make first m else run make second m)) (sym chosen) in
    list_ended make first m done (step make x m) slots (record { room = omega (arith, room, ap written_by is); arguments = both.0 })
    (subst (λ ys. Fits m.slots ys → Comes done (run make ys m)) are comes) end told
branch_ended make x c first second xs m done slots false is chosen are comes end few room =
    let both : ActHasFewArguments (If c first second) = subst ActHasFewArguments is few in
    let told : step make x m ≡ ended m (run make second m) = ap (λ y. step make y m) is ∙ ap (λ b. ended m (if b then run make first m else run make second m)) (sym chosen) in
    list_ended make second m done (step make x m) slots (record { room = omega (arith, room, ap written_by is); arguments = both.1 })
    (subst (λ ys. Fits m.slots ys → Comes done (run make ys m)) are comes) end told
