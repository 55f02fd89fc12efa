use Rattle.std.proofs.Common.{arith}
use Rattle.std.proofs.lemmas.Slice.Zip.{AllZip-long}
use Rattle.step_flows.proofs.Zips.{AllZip-at}
use Rattle.step_flows.proofs.names.Asked.may_be.Goals as goal

pub returns-then-vars-names : goal.returns-then-vars-names
returns-then-vars-names c = λ codes h. omega (arith, AllZip-long _ _ _ h)

pub returns-then-not-may_be_named : goal.returns-then-not-may_be_named
returns-then-not-may_be_named c = λ codes h. c.if-not-may_be_named.ensures codes (AllZip-at _ _ _ c.each.number _ 0 h (omega arith))
