-- Counts that are cut off find the methods that are too long.
use Rattle.std.proofs.Common.{◌≡◌, ℕ, zero, suc, ◌+◌, ◌<◌, Bool, true, false, List, [], ◌∷◌, ◌++◌, length, map, arith, refl, ap, sym, ◌∙◌, length-append}
use Rattle.std.specs.List.{flat_map}
use Rattle.std.specs.Option.{option_map, option_map_or}
use Rattle.std.specs.Prelude.{Option, Some, None, IfSome, if◌then◌else◌, nat_lt, slice_get, unwrap_or}
use Rattle.std.proofs.lemmas.Bool.{le-ltb, lt-ltb, ltb-false, ltb-true}
use Rattle.std.proofs.lemmas.List.{append_assoc}
use Rattle.std.proofs.lemmas.Option.{slice_get-map}
use Rattle.easl_model.specs.{ActInRange, ActsInRange, Body, IsWithinLimits, MethodInRange, SourceInRange, Statement, bodies_of, body_of, broken_if}
use Rattle.easl_model.specs.{constructor_count, constructor_of, count_in_place, count_of, faults_of_bodies, faults_of_lengths, form_of, method_of}
use Rattle.easl_model.specs.{statement_count, statements_of, too_long, total_count, value_count}
use Rattle.easl_model.specs.Form.{Form}
use Rattle.easl_model.specs.Statements.{Statements}
use Rattle.easl_model.specs.Statements as act
use Rattle.easl_model.specs.declared.fault.Rule.TheVariants as rule
use Rattle.easl_model.specs.declared.form.ClassForm.{ClassForm}
use Rattle.easl_model.specs.declared.form.Method.{Method}
use Rattle.easl_model.specs.declared.form.Source.{Source}
use Rattle.easl_model.specs.declared.form.Source.TheVariants as source
use Rattle.easl_model.specs.declared.tree.Spec.{Spec}
use Rattle.easl_model.proofs.InRange.{methods_in_range}
use Rattle.easl_model.proofs.Items.{item_at}
use Rattle.easl_types.specs.Counts.{count_at, count_by, counts_after, cut, long_at, long_from, long_methods, next_counts}
use Rattle.easl_types.proofs.Ends.{at_end}

-- counts that agree for each class, beyond the limit aside, agree for what is in range
module _ (classes : ℕ) (counted exact : ℕ → ℕ) (agree : (class : ℕ) → class < classes → cut (counted class) ≡ cut (exact class)) where
  source_agrees : (v : Source) → SourceInRange classes v → cut (count_of counted v) ≡ cut (count_of exact v)
  source_agrees (source.Reach r) within = refl
  source_agrees (source.Make class args) within = agree class within

  mutual
    statement_agrees : (x : Statement) → ActInRange classes x → cut (statement_count counted x) ≡ cut (statement_count exact x)
    statement_agrees (act.Local v) within = omega (arith, source_agrees v within)
    statement_agrees (act.Change slot v) within = omega (arith, source_agrees v within)
    statement_agrees (act.Write target field v) within = omega (arith, source_agrees v within)
    statement_agrees (act.If c first second) within = omega (arith, statements_agree first within.0, statements_agree second within.1)

    statements_agree : (xs : Statements) → ActsInRange classes xs → cut (total_count counted xs) ≡ cut (total_count exact xs)
    statements_agree act.none within = refl
    statements_agree (act.◌▸◌ x xs) within = omega (arith, statement_agrees x within.0, statements_agree xs within.1)

  value_agrees : (v : Option Source) → IfSome v (SourceInRange classes) → cut (value_count counted v) ≡ cut (value_count exact v)
  value_agrees None within = refl
  value_agrees (Some v) within = omega (arith, source_agrees v within)

-- the body of each method is in range
body_within : (form : Form) → ((k : ℕ) (m : Method) → slice_get form.methods k ≡ Some m → MethodInRange (length form.classes) m) → (method : ℕ)
    → ActsInRange (length form.classes) (body_of form method)
body_within form each method = by (slice_get form.methods method) refl
  where
    by : (o : Option Method) → slice_get form.methods method ≡ o
        → ActsInRange (length form.classes) (option_map_or (λ (m : Method). statements_of m.body) o act.none)
    by None at = tt
    by (Some m) at = (each method m at).body

-- after so many rounds, the counts are those of constructors, so deep
counts_agree : (form : Form) → ((method : ℕ) → ActsInRange (length form.classes) (body_of form method)) → (depth class : ℕ) → class < length form.classes
    → count_at (counts_after form depth) class ≡ cut (constructor_count form depth class)
counts_agree form bodies zero class within = refl
counts_agree form bodies (suc depth) class within =
    let counts = counts_after form depth in
    let c = item_at form.classes class within in
    let number : constructor_of form class ≡ c.0.constructor = ap (λ (o : Option ClassForm). unwrap_or (option_map (λ (d : ClassForm). d.constructor) o) 0) c.1 in
    let counted : ClassForm → ℕ = λ d. cut (total_count (count_at counts) (body_of form d.constructor)) in
    let there : count_at (next_counts form counts) class ≡ counted c.0 =
    ap (λ o. unwrap_or o 0) (slice_get-map counted form.classes class) ∙ ap (λ (o : Option ClassForm). unwrap_or (option_map counted o) 0) c.1 in
    let agree : (k : ℕ) → k < length form.classes → cut (count_at counts k) ≡ cut (constructor_count form depth k) =
    (λ k below. omega (arith, counts_agree form bodies depth k below)) in
    there
    ∙ statements_agree (length form.classes) (count_at counts) (constructor_count form depth) agree (body_of form c.0.constructor) (bodies c.0.constructor)
    ∙ ap (λ n. cut (total_count (constructor_count form depth) (body_of form n))) (sym number)

-- the count of a method
method_agrees : (form : Form) → ((k : ℕ) (m : Method) → slice_get form.methods k ≡ Some m → MethodInRange (length form.classes) m) → (m : Method)
    → MethodInRange (length form.classes) m
    → cut (count_by (counts_after form (length form.classes)) m) ≡ cut (count_in_place form m)
method_agrees form each m within = by m.constructor
  where
    agree : (k : ℕ) → k < length form.classes → cut (count_at (counts_after form (length form.classes)) k) ≡ cut (constructor_count form (length form.classes) k)
    agree k below = omega (arith, counts_agree form (body_within form each) (length form.classes) k below)

    by : (b : Bool) → cut (if b then count_at (counts_after form (length form.classes)) m.class
        else total_count (count_at (counts_after form (length form.classes))) (statements_of m.body) + value_count (count_at (counts_after form (length form.classes))) m.value)
        ≡ cut (if b then constructor_count form (length form.classes) m.class
        else total_count (constructor_count form (length form.classes)) (statements_of m.body) + value_count (constructor_count form (length form.classes)) m.value)
    by true = agree m.class within.of
    by false =
        let counted = count_at (counts_after form (length form.classes)) in
        let exact = constructor_count form (length form.classes) in
        omega (arith, statements_agree (length form.classes) counted exact agree (statements_of m.body) within.body, value_agrees (length form.classes) counted exact agree m.value within.value)

-- whether a count is over the limit is seen when it is cut off
over_limit : (n : ℕ) → nat_lt 1024 (cut n) ≡ nat_lt 1024 n
over_limit n = by (nat_lt 1024 n) refl
  where
    by : (b : Bool) → nat_lt 1024 n ≡ b → nat_lt 1024 (cut n) ≡ b
    by true is = lt-ltb 1024 (cut n) (omega (arith, ltb-true 1024 n is))
    by false is = le-ltb 1024 (cut n) (omega (arith, ltb-false 1024 n is))

-- the faults of lengths, from a body on
long_behind : (spec : Spec) → faults_of_bodies spec ≡ [] → IsWithinLimits spec → (k : ℕ) (before bodies : List Body) → length before ≡ k
    → before ++ bodies ≡ bodies_of spec
    → long_from (counts_after (form_of spec) (length (form_of spec).classes)) (form_of spec).methods k (map (λ (b : Body). b.code.name.place) bodies) ≡ flat_map (too_long spec) bodies
long_behind spec free within k before [] many are = refl
long_behind spec free within k before (b ∷ bodies) many are =
    let form = form_of spec in
    let counts = counts_after form (length form.classes) in
    let each = methods_in_range spec free within in
    let there : slice_get (bodies_of spec) k ≡ Some b = sym (ap (λ xs. slice_get xs k) are) ∙ at_end before b bodies k many in
    let at : slice_get form.methods k ≡ Some (method_of spec b) = slice_get-map (method_of spec) (bodies_of spec) k ∙ ap (option_map (method_of spec)) there in
    let is : nat_lt 1024 (cut (count_by counts (method_of spec b))) ≡ nat_lt 1024 (count_in_place form (method_of spec b)) =
    ap (nat_lt 1024) (method_agrees form each (method_of spec b) (each k (method_of spec b) at)) ∙ over_limit (count_in_place form (method_of spec b)) in
    let now : long_at counts (slice_get form.methods k) b.code.name.place ≡ too_long spec b =
    ap (λ o. long_at counts o b.code.name.place) at ∙ ap (λ so. broken_if so rule.TooLong b.code.name.place) is in
    ap (λ fs. fs ++ long_from counts form.methods (suc k) (map (λ (x : Body). x.code.name.place) bodies)) now
    ∙ ap (λ fs. too_long spec b ++ fs)
    (long_behind spec free within (suc k) (before ++ b ∷ []) bodies (omega (arith, many, length-append before (b ∷ []))) (append_assoc before (b ∷ []) bodies ∙ are))

-- where no body breaks another rule, the methods found too long are those that are
pub lengths_found : (spec : Spec) → faults_of_bodies spec ≡ [] → IsWithinLimits spec
    → long_methods (form_of spec) (map (λ (b : Body). b.code.name.place) (bodies_of spec)) ≡ faults_of_lengths spec
lengths_found spec free within = long_behind spec free within 0 [] (bodies_of spec) refl refl
