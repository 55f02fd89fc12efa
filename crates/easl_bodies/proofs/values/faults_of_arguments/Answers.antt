use Rattle.easl_bodies.proofs.Walks.{argument_more}
use Rattle.easl_bodies.proofs.values.faults_of_arguments.Goals as goal

pub each-preserved : goal.each-preserved
each-preserved c =
    argument_more c.args.spec.now c.args.context.now c.args.params.now c.args.arguments.now c.each.at c.index-arguments-at.result _ c.each.found c.faults_of_taken-found.result _
    c.each-test.true c.index-arguments-at.is c.at.ensures c.faults_of_taken-found.ensures c.each.invariant
