use Rattle.std.proofs.Common.{arith}
use Rattle.std.proofs.lemmas.Slice.Zip.{AllZip-long}
use Rattle.step_flows.proofs.Zips.{AllZip-at, AllZip-each}
use Rattle.step_flows.proofs.names.Asked.are_named.Goals as goal

pub returns-then-vars-names-clause-not_so : goal.returns-then-vars-names-clause-not_so
returns-then-vars-names-clause-not_so c = λ h. omega (arith, AllZip-long _ _ _ h)

pub returns-then-not-is_named-clause-not_so : goal.returns-then-not-is_named-clause-not_so
returns-then-not-is_named-clause-not_so c = λ h. c.if-not-is_named.ensures.not_so (AllZip-at _ _ _ c.each.number _ 0 h (omega arith))

pub returns-clause-so : goal.returns-clause-so
returns-clause-so c = AllZip-each _ _ _ (omega arith) (λ k d e below. c.each.invariant k d e (omega arith))
