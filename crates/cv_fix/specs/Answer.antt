-- What rules answer at an item.
use Rattle.std.specs.Prelude.{◌≡◌, List, Ok, Err, Result, ⊤}
use Rattle.std.specs.Global.{Vec}
use Rattle.cv_fix.specs.declared.rules.RuleStop.{RuleStop}
use Rattle.cv_fix.specs.declared.rules.RuleStop.TheVariants.{Stop, Memory}

-- The answer is the list that follows, or the refusal, unless memory ran out.
abbrev pub IsAnswer : {T S : Type 0} → Result (Vec T) (RuleStop S) → Result (List T) S → Type 0
IsAnswer (Ok items) follows = follows ≡ Ok items.items
IsAnswer (Err (Stop stop)) follows = follows ≡ Err stop
IsAnswer (Err Memory) follows = ⊤
