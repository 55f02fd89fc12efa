use Rattle.std.proofs.Common.{rules, arith, sym}
use Rattle.alias_cases.specs.{extended, fitting_blocks}
use Rattle.alias_cases.proofs.Turns.{no_more}
use Rattle.alias_cases.proofs.listing.next_level.Goals as goal

pub returns-in_err-extend-clause-over : goal.returns-in_err-extend-clause-over
returns-in_err-extend-clause-over c = λ is.
    no_more (λ bs. extended bs (fitting_blocks c.args.steps.now c.args.classes.now c.args.step c.args.class bs))
    c.args.level.now c.each.blocks-index c.blocks-item.result 65536 (omega (arith, c.each-test.true)) (sym c.blocks-item.is)
    (rw (sym c.each.invariant.items) (let many = c.in_err-extend.ensures.over (search rules) in rw (c.deref.ensures.value, c.in_ok-found.ensures, c.as_slice.ensures, c.as_slice-in-each.ensures) at many))
