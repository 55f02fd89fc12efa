use Rattle.client_values.specs.Calling.{callee_by_header}
use Rattle.client_values.specs.ToldFaults.{Finds}
use Rattle.std.proofs.Common.{ap, subst, ◌≡◌, ◌∙◌}
use Rattle.std.specs.Prelude.{Some}
use Rattle.client_model.specs.BodyFaults.{faults_of_call}
use Rattle.client_model.specs.Settings.{procedure_from}
use Rattle.client_values.proofs.values.faults_of_arguments_of.Goals as goal

pub returns-in-Some : goal.returns-in-Some
returns-in-Some c d knows =
    let name = c.args.call.now.procedure.name in
    let called : Some (callee_by_header c.in-Some.field-0-0 c.in-Some.header.now) ≡ procedure_from 1 c.args.setting.now.procedures name =
    c.in-Some.ensures ∙ ap (λ s. procedure_from 1 s.procedures name) c.setting.view_is in
    subst (λ m. Finds c.args.found c.faults_of_procedure_call.result (faults_of_call c.args.setting.now d c.args.call.now.procedure.place m c.args.call.now.args))
    called
    (subst (λ xs. Finds c.args.found c.faults_of_procedure_call.result
    (faults_of_call c.args.setting.now d c.args.call.now.procedure.place (Some (callee_by_header c.in-Some.field-0-0 c.in-Some.header.now)) xs))
    c.as_slice-args.ensures
    (c.faults_of_procedure_call.ensures d knows c.in-Some.field-0-0))
