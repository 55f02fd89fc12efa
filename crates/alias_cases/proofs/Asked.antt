-- The terms of a method's clauses, as they are asked.
use Rattle.std.proofs.Common.{◌≡◌, Bool, true, false, cond, if◌then◌else◌, [], map, flat_map, arith, ap, sym, subst, ◌∙◌}
use Rattle.std.specs.Bool.{OnFalse, OnTrue}
use Rattle.easl_model.specs.{condition_of, conditions}
use Rattle.easl_model.specs.declared.form.Method.{Method}
use Rattle.case_model.specs.{AreTermsOf, HasLongTerm, terms_of_clauses, terms_of_condition}
use Rattle.alias_cases.specs.{are_short}
use Rattle.alias_cases.proofs.Long.{none_long, some_long}
use Rattle.alias_cases.proofs.OfTests.{clauses_terms, terms_of_tests}

method_terms : (m : Method) → m.constructor ≡ false → terms_of_clauses m ≡ terms_of_tests m.clauses
method_terms m is = ap (λ b. flat_map (terms_of_condition (cond b 4 3)) (cond b [] (map condition_of m.clauses))) is ∙ clauses_terms 3 (map condition_of m.clauses)

pub asked_clauses : (m : Method) (w : Bool) → w ≡ true → m.constructor ≡ false → (if w then terms_of_clauses m else []) ≡ terms_of_tests m.clauses
asked_clauses m w asks is = ap (λ b. if b then terms_of_clauses m else []) asks ∙ method_terms m is

pub short_if : (m : Method) (b : Bool) → b ≡ are_short (conditions (map condition_of m.clauses)) → m.constructor ≡ false
    → OnTrue b (HasLongTerm (terms_of_clauses m) → ⊥)
short_if m true e is = subst (λ ts. HasLongTerm ts → ⊥) (sym (method_terms m is)) (none_long (conditions (map condition_of m.clauses)) (sym e))
short_if m false e is = tt

pub long_if : (m : Method) (b : Bool) → b ≡ are_short (conditions (map condition_of m.clauses)) → m.constructor ≡ false
    → OnFalse b (HasLongTerm (terms_of_clauses m))
long_if m true e is = tt
long_if m false e is = subst HasLongTerm (sym (method_terms m is)) (some_long (conditions (map condition_of m.clauses)) (sym e))

pub none_asked : AreTermsOf [] []
none_asked = record { ordered = λ i j d before within. absurd (omega arith); holds = λ t. ((λ has. absurd (omega (arith, has.1))), (λ from. absurd (omega (arith, from.1.1)))) }
