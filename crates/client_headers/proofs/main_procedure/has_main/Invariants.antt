use Rattle.std.proofs.Common.{◌≡◌, drop}
use Rattle.std.specs.List.{list_any}
use Rattle.client_headers.proofs.main_procedure.has_main.Given as goal
use Rattle.client_model.specs.HeaderFaults.{is_main}
use Rattle.client_model.specs.Trees.{procedure_of}

abbrev pub invariant-each : goal.invariant-each
invariant-each l = list_any (λ p. is_main (procedure_of p)) (drop l.procedure-index l.procedures) ≡ list_any (λ p. is_main (procedure_of p)) l.procedures
