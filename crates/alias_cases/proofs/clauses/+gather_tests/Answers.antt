use Rattle.std.proofs.Common.{◌≡◌, [], ◌∷◌, OnOk, arith, ap, subst, sym, ◌∙◌}
use Rattle.std.proofs.lemmas.List.{take_all}
use Rattle.case_model.specs.{term_of, terms_of_condition}
use Rattle.easl_model.specs.{condition_of}
use Rattle.alias_cases.specs.{Gathers}
use Rattle.alias_cases.proofs.Plain.{plain_all, plain_any, plain_differ, plain_same}
use Rattle.alias_cases.proofs.OfTests.{terms_of_tests, tests_more}
use Rattle.alias_cases.proofs.clauses.+gather_tests.Goals as goal

pub gather_test-returns-in-Same : goal.gather_test-returns-in-Same
gather_test-returns-in-Same t c =
    let told : terms_of_condition 3 (condition_of c.args.test.now) ≡ term_of 3 c.in-Same.left ∷ term_of 3 c.in-Same.right ∷ [] = ap (terms_of_condition 3) (ap condition_of c.in-Same.is ∙ plain_same c.in-Same.left c.in-Same.right) in
    subst (λ l. OnOk c.gather_sides.result (Gathers l c.args.list.now.items c.gather_sides.new.list.items)) (sym told) c.gather_sides.ensures

pub gather_test-returns-in-Differ : goal.gather_test-returns-in-Differ
gather_test-returns-in-Differ t c =
    let told : terms_of_condition 3 (condition_of c.args.test.now) ≡ term_of 3 c.in-Differ.left ∷ term_of 3 c.in-Differ.right ∷ [] = ap (terms_of_condition 3) (ap condition_of c.in-Differ.is ∙ plain_differ c.in-Differ.left c.in-Differ.right) in
    subst (λ l. OnOk c.gather_sides-in-Differ.result (Gathers l c.args.list.now.items c.gather_sides-in-Differ.new.list.items)) (sym told) c.gather_sides-in-Differ.ensures

pub gather_test-returns-in-All : goal.gather_test-returns-in-All
gather_test-returns-in-All t c =
    let told : terms_of_condition 3 (condition_of c.args.test.now) ≡ terms_of_tests c.in-All.tests = ap (terms_of_condition 3) (ap condition_of c.in-All.is ∙ plain_all c.in-All.tests) in
    subst (λ l. OnOk c.gather_tests.result (Gathers l c.args.list.now.items c.gather_tests.new.list.items)) (sym told)
    (rw c.as_slice.ensures at c.gather_tests.ensures)

pub gather_test-returns-in-Any : goal.gather_test-returns-in-Any
gather_test-returns-in-Any t c =
    let told : terms_of_condition 3 (condition_of c.args.test.now) ≡ terms_of_tests c.in-Any.tests = ap (terms_of_condition 3) (ap condition_of c.in-Any.is ∙ plain_any c.in-Any.tests) in
    subst (λ l. OnOk c.gather_tests-in-Any.result (Gathers l c.args.list.now.items c.gather_tests-in-Any.new.list.items)) (sym told)
    (rw c.as_slice-in-Any.ensures at c.gather_tests-in-Any.ensures)

pub gather_tests-each-preserved : goal.gather_tests-each-preserved
gather_tests-each-preserved t c =
    tests_more c.args.tests.now c.each.test-index c.test-item.result c.args.list.now.items c.each.list.items c.gather_test.new.list.items
    (omega (arith, c.each-test.true)) c.test-item.is c.each.invariant c.in_ok-gather_test.ensures

pub gather_tests-returns : goal.gather_tests-returns
gather_tests-returns t c =
    subst (λ tests. Gathers (terms_of_tests tests) c.args.list.now.items c.each.list.items)
    (take_all c.each.test-index c.args.tests.now (omega (arith, c.each-test.false)))
    c.each.invariant
