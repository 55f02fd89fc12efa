-- Second constructors.
use Rattle.std.specs.Prelude.{Bool, true, List, [], ◌∷◌, ◌++◌}
use Rattle.easl_model.specs.{broken_if}
use Rattle.easl_model.specs.declared.fault.Fault.{Fault}
use Rattle.easl_model.specs.declared.fault.Rule.TheVariants as rule
use Rattle.easl_model.specs.declared.tree.Code.{Code}

-- second constructors, where one stands before these or none does
abbrev pub constructors_behind : Bool → List Code → List Fault
constructors_behind is_second [] = []
constructors_behind is_second (code ∷ codes) = broken_if is_second rule.Duplicate code.name.place ++ constructors_behind true codes
