use Rattle.std.proofs.Common.{◌≡◌, drop, map}
use Rattle.std.specs.Prelude.{option_map}
use Rattle.client_model.specs.Settings.{valued}
use Rattle.client_values.specs.Knowing.{Knows}
use Rattle.client_values.specs.ToldFaults.{fault_told}
use Rattle.client_model.specs.BodyFaults.{faults_of_arguments}
use Rattle.client_model.specs.Contexts.{Context}
use Rattle.client_model.specs.Faults.{comes_before}
use Rattle.easl_model.specs.Faults.{first_with}
use Rattle.client_values.proofs.arguments.faults_of_given.Given as goal

abbrev pub invariant-each : goal.invariant-each
invariant-each l = (c : Context) → Knows c l.context
    → first_with comes_before (option_map fault_told l.found) (faults_of_arguments l.setting c (drop l.at (map valued l.params)) (drop l.at l.args))
    ≡ first_with comes_before (option_map fault_told l.fn.start) (faults_of_arguments l.setting c (map valued l.params) l.args)
