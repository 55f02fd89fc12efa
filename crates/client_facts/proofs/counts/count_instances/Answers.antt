use Rattle.client_facts.specs.Held.{setting}
use Rattle.client_facts.proofs.Counted.{factor_over, names_over}
use Rattle.client_facts.proofs.counts.count_instances.Goals as goal

pub returns-in_err-names-clause-over : goal.returns-in_err-names-clause-over
returns-in_err-names-clause-over c none =
    names_over (setting c.args.setting.now) c.args.procedure 18446744073709551616 c.args.classes.now c.each.class-index c.each.count c.each-test.true
    c.each.invariant.so c.each.invariant.some (c.count_names.ensures.over c.in_err-names.was)

pub returns-in_err-count-clause-over : goal.returns-in_err-count-clause-over
returns-in_err-count-clause-over c none =
    factor_over (setting c.args.setting.now) c.args.procedure 18446744073709551616 c.args.classes.now c.each.class-index c.each.count c.in_ok-names.names
    c.each-test.true c.each.invariant.so c.in_ok-names.ensures.fits c.in_err-count.ensures
