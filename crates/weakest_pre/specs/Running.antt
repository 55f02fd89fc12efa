-- What the code has come to, in the words of the questions' meaning.
use Rattle.std.specs.Prelude.{◌≡◌, ℕ, List, Option, Some, Vec, Result, Ok, Err}
use Rattle.question_model.specs.{Done, Long, Needs, Outcome, State, ended, outcome, ◌>>=◌}
use Rattle.question_model.specs.Stage.{Stage}
use Rattle.question_model.specs.declared.value.Value.{Value}
use Rattle.question_model.specs.declared.value.Write.{Write}
use Rattle.weakest_pre.specs.declared.stop.Stop.{Stop}
use Rattle.weakest_pre.specs.declared.stop.Stop.TheVariants as stop

-- so many fields may a term have at most
abbrev pub most : Option ℕ
most = Some 6

-- it stops so; want of memory is free
abbrev pub Stops : {A : Type 0} → Stage A → Stop → Type 0
Stops s (stop.Needs t u) = s ≡ Needs t u
Stops s stop.Long = s ≡ Long
Stops s stop.Memory = Unit {0}

abbrev pub Gives : {A : Type 0} → Stage A → Result A Stop → Type 0
Gives s (Ok x) = s ≡ Done x
Gives s (Err e) = Stops s e

-- it is done with these items
abbrev pub GivesItems : {X Z : Type 0} → Stage (List X) → Result (Vec X Z) Stop → Type 0
GivesItems s (Ok v) = s ≡ Done v.items
GivesItems s (Err e) = Stops s e

-- it is done and leaves this
abbrev pub GivesTo : {A X : Type 0} → Stage A → Result X Stop → A → Type 0
GivesTo s (Ok x) a = s ≡ Done a
GivesTo s (Err e) a = Stops s e

-- a list of an `if` comes to this, and then its locals end
abbrev pub closed : State → Stage State → Stage State
closed before s = s >>= λ after. Done (ended before after)

-- it is done and gives this value, with these writes and so many objects made
abbrev pub Leaves : Stage Outcome → Result Value Stop → List Write → ℕ → Type 0
Leaves s (Ok v) writes count = s ≡ Done (outcome writes count v)
Leaves s (Err e) writes count = Stops s e
