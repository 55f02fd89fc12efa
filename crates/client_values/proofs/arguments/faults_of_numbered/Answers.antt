use Rattle.std.proofs.Common.{ap, subst, sym, ◌∙◌}
use Rattle.std.specs.Prelude.{slice_get}
use Rattle.client_values.proofs.Taking.{numbered}
use Rattle.client_values.specs.ToldFaults.{Finds}
use Rattle.client_model.specs.BodyFaults.{faults_of_call}
use Rattle.client_values.proofs.arguments.faults_of_numbered.Goals as goal

pub returns-in-Some : goal.returns-in-Some
returns-in-Some c d knows =
    subst (λ m. Finds c.args.found c.faults_of_method_call.result (faults_of_call c.args.setting.now d c.args.place m c.args.args.now))
    (sym (numbered c.args.setting.now.form c.in-Some.number c.args.number c.method-method.result.now c.in-Some.is
    (sym (ap (λ s. slice_get s.form.methods c.in-Some.number) c.setting.view_is) ∙ c.method-method.ensures.value)))
    (c.faults_of_method_call.ensures d knows c.in-Some.number)
