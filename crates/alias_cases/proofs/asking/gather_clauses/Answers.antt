use Rattle.std.proofs.Common.{rules, OnOk, subst, sym}
use Rattle.alias_cases.specs.{Gathers}
use Rattle.alias_cases.proofs.Asked.{asked_clauses}
use Rattle.alias_cases.proofs.asking.gather_clauses.Goals as goal

pub returns : goal.returns
returns c =
    subst (λ l. OnOk c.gather_tests.result (Gathers l c.args.list.now.items c.gather_tests.new.list.items))
    (sym (asked_clauses c.args.method.now c.args.with_clauses (search rules) (search rules)))
    (rw c.as_slice.ensures at c.gather_tests.ensures)
