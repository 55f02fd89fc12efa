use Rattle.std.proofs.Common.{option_map}
use Rattle.std.proofs.lemmas.Result.{IfOk-weaker}
use Rattle.std.specs.Prelude.{None}
use Rattle.client_headers.proofs.AllHeaders.{all_headers}
use Rattle.client_headers.proofs.headers.first_header_fault.Goals as goal
use Rattle.client_model.specs.HeaderFaults.{faults_of_headers}
use Rattle.client_model.specs.Trees.{client_of}
use Rattle.client_values.specs.ToldFaults.{Finds, fault_told}

pub returns : goal.returns
returns c =
    let form = c.args.spec.now in
    let client = c.args.client.now in
    IfOk-weaker c.faults_of_procedures.result _ (λ f. Finds None f (faults_of_headers form (client_of client)))
    (λ f last. all_headers form client c.statics_of-statics.result.now c.procedures_of-procedures.result.now
    (option_map fault_told c.in_ok-found.found) (option_map fault_told c.in_ok-found-2.found) (option_map fault_told c.types_of_statics-found.result) (option_map fault_told f)
    c.statics_of-statics.ensures c.procedures_of-procedures.ensures c.in_ok-found.ensures c.in_ok-found-2.ensures c.types_of_statics-found.ensures last)
    c.faults_of_procedures.ensures
