-- Facts over procedure calls, by computing.
use Rattle.std.proofs.Common.{zero, [], ◌∷◌, refl}
use Rattle.std.specs.Prelude.{Some, None}
use Rattle.client_facts.proofs.Cmp.{setting}
use Rattle.client_facts.specs.Calls.{AtReturn, Enters, Returns}
use Rattle.client_facts.specs.Choices.{Choice}
use Rattle.client_facts.specs.Setting.{Setting}
use Rattle.client_facts.specs.declared.fact.Fact.TheVariants.{Always, Of}
use Rattle.client_steps.specs.States.{Call}

abbrev g : Setting
g = setting (record { statics = []; procedures = []; calls = [] })

-- touch(v), where v has the code 1; in `touch` the parameter has the code 1 too, and the slots have 2, 6 and 10
abbrev touch : Call
touch = record { target = None; callee = 1; args = Some 1 ∷ [] }

-- w = first(v), where w has the code 5
abbrev first : Call
first = record { target = Some 5; callee = 1; args = Some 1 ∷ [] }

-- the iterator i, whose code is 5, is given to the first slot of its class
abbrev given : Choice
given zero zero = Some 5
given class number = None

-- F3(parameter, slot) at the entry follows from F3(v, i)
at_entry : Enters g given touch (Of 2 (1 ∷ 5 ∷ [])) (Of 2 (1 ∷ 2 ∷ []))
at_entry = (refl, (refl, (refl, tt)))

-- F1(i) behind the call follows from F1(slot) at the exit
behind : Returns g given touch (Of 0 (2 ∷ [])) (Of 0 (5 ∷ []))
behind = (refl, (refl, tt))

-- the argument v does not stand for the parameter behind the call
parameter_is_left : AtReturn given touch 1 1 1 → ⊥
parameter_is_left h = h

-- what takes the result stands for the result, also where it was given to a slot
takes_result : Returns g given first (Of 0 (3 ∷ [])) (Of 0 (5 ∷ []))
takes_result = (refl, (refl, tt))

-- what is always true is so at the entry, and behind the call
always_enters : Enters g given touch Always Always
always_enters = tt

always_returns : Returns g given touch Always Always
always_returns = tt
