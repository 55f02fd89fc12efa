use Rattle.std.proofs.Common.{option_map}
use Rattle.client_values.proofs.Taking.{next_argument}
use Rattle.client_values.specs.ToldFaults.{fault_told}
use Rattle.client_model.specs.Settings.{valued}
use Rattle.client_values.proofs.arguments.faults_of_given.Goals as goal

pub each-preserved : goal.each-preserved
each-preserved c d knows =
    next_argument valued c.args.setting.now d c.args.params.now c.args.args.now c.each.at c.index-args-at.result _
    (option_map fault_told c.each.found) (option_map fault_told c.faults_of_argument-found.result) _
    c.each-test.true c.index-args-at.is c.kind_at-taken.ensures (c.faults_of_argument-found.ensures d knows) (c.each.invariant d knows)
