-- The terms of clauses, one after another.
use Rattle.std.proofs.Common.{◌≡◌, ℕ, ◌+◌, ◌<◌, List, [], ◌∷◌, ◌++◌, length, map, flat_map, take, get_or, refl, ap, sym, subst, ◌∙◌, append_assoc, append-nil}
use Rattle.std.proofs.lemmas.List.{map-append, take_more}
use Rattle.easl_model.specs.{Condition, condition_of, conditions}
use Rattle.easl_model.specs.declared.form.Test.{Test}
use Rattle.access_paths.specs.declared.term.Term.{Term}
use Rattle.case_model.specs.{terms_of_condition, terms_of_conditions}
use Rattle.alias_cases.specs.{Gathers}
use Rattle.alias_cases.proofs.Gathered.{gathers-both}

push_terms : (first : ℕ) (cs : List Condition) (c : Condition)
    → terms_of_conditions first (conditions (cs ++ c ∷ [])) ≡ terms_of_conditions first (conditions cs) ++ terms_of_condition first c
push_terms first [] c = append-nil (terms_of_condition first c)
push_terms first (d ∷ cs) c =
    ap (λ l. terms_of_condition first d ++ l) (push_terms first cs c)
    ∙ sym (append_assoc (terms_of_condition first d) (terms_of_conditions first (conditions cs)) (terms_of_condition first c))

abbrev pub terms_of_tests : List Test → List Term
terms_of_tests tests = terms_of_conditions 3 (conditions (map condition_of tests))

pub tests_more : (tests : List Test) (i : ℕ) (test : Test) (a b c : List Term) → i < length tests → test ≡ get_or tests i test
    → Gathers (terms_of_tests (take i tests)) a b → Gathers (terms_of_condition 3 (condition_of test)) b c → Gathers (terms_of_tests (take (i + 1) tests)) a c
tests_more tests i test a b c within at first second =
    let longer : take (i + 1) tests ≡ take i tests ++ test ∷ [] = take_more tests i test within ∙ ap (λ t. take i tests ++ t ∷ []) (sym at) in
    let same : terms_of_tests (take (i + 1) tests) ≡ terms_of_tests (take i tests) ++ terms_of_condition 3 (condition_of test) =
    ap terms_of_tests longer
    ∙ ap (λ cs. terms_of_conditions 3 (conditions cs)) (map-append condition_of (take i tests) (test ∷ []))
    ∙ push_terms 3 (map condition_of (take i tests)) (condition_of test) in
    subst (λ l. Gathers l a c) (sym same) (gathers-both (terms_of_tests (take i tests)) (terms_of_condition 3 (condition_of test)) a b c first second)

pub clauses_terms : (first : ℕ) (cs : List Condition) → flat_map (terms_of_condition first) cs ≡ terms_of_conditions first (conditions cs)
clauses_terms first [] = refl
clauses_terms first (c ∷ cs) = ap (λ l. terms_of_condition first c ++ l) (clauses_terms first cs)
