-- What the code's faults stand for in the rules of clients.
use Rattle.std.specs.Prelude.{◌≡◌, List, Option, option_map}
use Rattle.client_values.specs.declared.fault.Fault.{Fault}
use Rattle.client_values.specs.declared.fault.Rule.{Rule}
use Rattle.client_values.specs.declared.fault.Rule.TheVariants as rule
use Rattle.client_model.specs.Faults as told
use Rattle.easl_model.specs.Faults.{first_with}

abbrev pub rule_told : Rule → told.Rule
rule_told rule.Duplicate = told.Duplicate
rule_told rule.Unknown = told.Unknown
rule_told rule.Mismatch = told.Mismatch
rule_told rule.Unset = told.Unset
rule_told rule.NoReturn = told.NoReturn
rule_told rule.NoMain = told.NoMain
rule_told rule.Unreachable = told.Unreachable
rule_told rule.OutsideLoop = told.OutsideLoop

abbrev pub fault_told : Fault → told.Fault
fault_told f = record { rule = rule_told f.rule; place = f.place }

-- of what was found before, if anything, and of these faults this is the first
abbrev pub Finds : Option Fault → Option Fault → List told.Fault → Type 0
Finds found first faults = option_map fault_told first ≡ first_with told.comes_before (option_map fault_told found) faults
