use Rattle.std.proofs.Common.{[], map}
use Rattle.std.specs.Prelude.{option_map}
use Rattle.client_headers.proofs.Duplicates.{Seconds}
use Rattle.client_headers.proofs.seconds.second_procedures.Given as goal
use Rattle.client_model.specs.declared.tree.Proc.{Proc}
use Rattle.client_model.specs.Faults.{comes_before}
use Rattle.client_model.specs.HeaderFaults.{second_names}
use Rattle.client_values.specs.ToldFaults.{fault_told}
use Rattle.easl_model.specs.Faults.{first_with}

abbrev pub invariant-each : goal.invariant-each
invariant-each l =
    Seconds (λ (x : Proc). x.name) l.procedures l.procedure-index l.before (option_map fault_told l.found)
    (first_with comes_before (option_map fault_told l.fn.start) (second_names [] (map (λ (x : Proc). x.name) l.procedures)))
