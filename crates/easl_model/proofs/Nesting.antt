-- Where no constructor leads back to itself, constructors stand in one another at most as deep as there are classes.
use Rattle.std.proofs.Common.{inl, inr, ◌≡◌, ℕ, zero, suc, ◌+◌, ◌-◌, ◌<◌, ◌≤◌, Bool, true, false, List, [], ◌∷◌, ◌++◌, length, map, arith, refl, ap, sym, subst, ◌∙◌, eqb, eq-eqb, eqb-true, ne_eqb}
use Rattle.std.specs.Prelude.{Option, Some, None, ◌||◌, ◌==◌, slice_get}
use Rattle.std.specs.List.{AllByRecursion, IsDistinct, cons_option, filter_map, flat_map, list_any}
use Rattle.std.specs.Option.{option_map_or, unwrap_or}
use Rattle.std.proofs.lemmas.Bool.{or_cases, or_left, or_right}
use Rattle.std.proofs.lemmas.List.Elements.{filter_map-append}
use Rattle.std.proofs.lemmas.List.Folds.{list_any-append}
use Rattle.std.proofs.lemmas.Map.Keys.{IsDistinct-cons}
use Rattle.std.proofs.lemmas.Map.Steps.{length-le_from_distinct_below}
use Rattle.std.proofs.lemmas.Option.{slice_get_within}
use Rattle.easl_model.specs.{Assign, Block, ConstructorsNest, Declare, IsWellFormed, NestsWithin, OfMade, OfStatement, OfStatements, Way, Written, act_of}
use Rattle.easl_model.specs.{acts_of, after, after_all, assigned_by, block_of, bodies_of, body_of, broken_if, calls, class_in, class_named, class_of}
use Rattle.easl_model.specs.{classes_made, clause_of, clauses, constructor_body, constructor_in, constructor_of, constructor_or_implicit, cycles_from, end_of}
use Rattle.easl_model.specs.{ends_unset, faults_of_assigned, faults_of_block, faults_of_body, faults_of_clause, faults_of_clauses, faults_of_cycles}
use Rattle.easl_model.specs.{faults_of_new, faults_of_return, faults_of_value, faults_of_written, form_of, leads_back, made_by, method_of, named_twice}
use Rattle.easl_model.specs.{new_by, new_in, news_in, news_of, no_class, owner_of, position_in, reach_by, source_of, start_of, statement_of, statements_of}
use Rattle.easl_model.specs.{target_of, target_of_value, test_of, value_differs, way_of}
use Rattle.easl_model.specs.BodyFaults.{no_return}
use Rattle.easl_model.specs.Steps.{If, ◌▸◌}
use Rattle.easl_model.specs.Steps as steps
use Rattle.easl_model.specs.declared.fault.Rule.TheVariants as rule
use Rattle.easl_model.specs.declared.form.Source.{Source}
use Rattle.easl_model.specs.declared.scope.Context.{Context}
use Rattle.easl_model.specs.declared.tree.Class.{Class}
use Rattle.easl_model.specs.declared.tree.Code.{Code}
use Rattle.easl_model.specs.declared.tree.New.{New}
use Rattle.easl_model.specs.declared.tree.Requires.{Requires}
use Rattle.easl_model.specs.declared.tree.Spec.{Spec}
use Rattle.easl_model.specs.declared.tree.Value.{Value}
use Rattle.easl_model.specs.declared.tree.Value.TheVariants as value
use Rattle.easl_model.specs.declared.tree.Word.{Word}
use Rattle.easl_model.proofs.BodyTypes.{given_by}
use Rattle.easl_model.proofs.Constructors.{class_there, classes_many, constructor_found, constructor_stands}
use Rattle.easl_model.proofs.Folds.{change_act, if_act, local_act, write_act}
use Rattle.easl_model.proofs.Items.{item_at}
use Rattle.easl_model.proofs.None.{none_at, none_of_both, none_of_five, none_of_three, not_broken}

-- what constructions make

abbrev classes_of : Spec → List New → List ℕ
classes_of spec news = filter_map (λ (n : New). class_named spec n.class.name) news

abbrev makes : Spec → List New → ℕ → Bool
makes spec news class = list_any (λ made. made == class) (classes_of spec news)

makes_both : (spec : Spec) (news others : List New) (class : ℕ) → makes spec (news ++ others) class ≡ (makes spec news class || makes spec others class)
makes_both spec news others class =
    ap (list_any (λ made. made == class)) (filter_map-append _ news others) ∙ list_any-append (λ made. made == class) (classes_of spec news) (classes_of spec others)

-- this holds of each class that is made
abbrev OfNews : (ℕ → Type 0) → Spec → List New → Type 0
OfNews P spec news = (class : ℕ) → class < length spec.classes → makes spec news class ≡ true → P class

of_both : (P : ℕ → Type 0) (spec : Spec) (news others : List New) → OfNews P spec (news ++ others) → OfNews P spec news × OfNews P spec others
of_both P spec news others all = (
  λ class there is. all class there (makes_both spec news others class ∙ or_left (makes spec news class) (makes spec others class) is),
  λ class there is. all class there (makes_both spec news others class ∙ or_right (makes spec news class) (makes spec others class) is),
)

-- and then of those that statements without a fault make in the checked form
module _ (spec : Spec) (P : ℕ → Type 0) where
  value_made : (c : Context) (taken : Option ℕ) (v : Value) → faults_of_value spec c taken v ≡ [] → OfNews P spec (new_in v) → OfMade P (source_of spec c v)
  value_made c taken (value.Path path) free all = tt
  value_made c taken (value.New new) free all =
      let own = none_of_both (value_differs new.place taken (target_of_value spec c (value.New new))) (faults_of_new spec c new) free in
      by (class_named spec new.class.name) refl own.1 all
    where
      by : (o : Option ℕ) → class_named spec new.class.name ≡ o → new_by spec c new o ≡ []
          → ((class : ℕ) → class < length spec.classes → list_any (λ made. made == class) (cons_option o []) ≡ true → P class) → P (unwrap_or o 0)
      by None named free all = absurd cc
      by (Some class) named free all =
          let there = class_there spec new.class.name class named in
          all class (slice_get_within spec.classes class there.0 there.1) (or_left (class == class) false (eq-eqb class class refl))

  assigned_made : (c : Context) (way : Way) (o : Option Word) (s : Source) → OfMade P s → OfStatement P (statement_of (assigned_by spec c way o s))
  assigned_made c way None s of = rw (change_act way.slot s) of
  assigned_made c way (Some last) s of =
      rw (write_act (reach_by spec c (owner_of way)) (position_in spec (end_of spec c (owner_of way)) last) s) of

  mutual
    statement_made : (c : Context) (x : Written) → faults_of_written spec c x ≡ [] → OfNews P spec (news_of x) → OfStatement P (statement_of (act_of spec c x))
    statement_made c (Declare class name v) free all =
        let own = none_of_three (no_class spec class) (named_twice c name) (faults_of_value spec c (class_named spec class.name) v) free in
        rw (local_act (source_of spec c v)) (value_made c (class_named spec class.name) v own.2 all)
    statement_made c (Assign path v) free all =
        let taken = class_in (target_of spec c path) in
        let own = none_of_both (faults_of_assigned spec c path) (faults_of_value spec c taken v) free in
        assigned_made c (way_of c path) _ (source_of spec c v) (value_made c taken v own.1 all)
    statement_made c (If place test first second has_else) free all =
        let own = none_of_three (faults_of_clause spec c test) (faults_of_block spec c first) (faults_of_block spec c second) free in
        let parts = of_both P spec (news_in first) (news_in second) all in
        rw (if_act (test_of spec c test) (acts_of spec c first) (acts_of spec c second)) (block_made c first own.1 parts.0, block_made c second own.2 parts.1)

    block_made : (c : Context) (xs : Block) → faults_of_block spec c xs ≡ [] → OfNews P spec (news_in xs) → OfStatements P (statements_of (acts_of spec c xs))
    block_made c steps.none free all = tt
    block_made c (x ▸ xs) free all =
        let own = none_of_both (faults_of_written spec c x) (faults_of_block spec (after spec c x) xs) free in
        let parts = of_both P spec (news_of x) (news_in xs) all in
        (statement_made c x own.0 parts.0, block_made (after spec c x) xs own.1 parts.1)

-- calls

any_weaker : (f g : ℕ → Bool) → ((k : ℕ) → f k ≡ true → g k ≡ true) → (xs : List ℕ) → list_any f xs ≡ true → list_any g xs ≡ true
any_weaker f g to [] e = e
any_weaker f g to (x ∷ xs) e = elim (or_cases (f x) (list_any f xs) e) [
  | inl here ↦ or_left (g x) (list_any g xs) (to x here)
  | inr later ↦ or_right (g x) (list_any g xs) (any_weaker f g to xs later)
]

-- through more others
calls_more : (spec : Spec) (n class other : ℕ) → calls spec n class other ≡ true → calls spec (suc n) class other ≡ true
calls_more spec zero class other e = any_weaker _ _ (λ k is. or_left (k == other) (calls spec zero k other) is) (classes_made spec class) e
calls_more spec (suc n) class other e =
    any_weaker _ _ (λ k is. elim (or_cases (k == other) (calls spec n k other) is) [
      | inl same ↦ or_left (k == other) (calls spec (suc n) k other) same
      | inr on ↦ or_right (k == other) (calls spec (suc n) k other) (calls_more spec n k other on)
    ]) (classes_made spec class) e

calls_up : (spec : Spec) (n more class other : ℕ) → calls spec n class other ≡ true → calls spec (more + n) class other ≡ true
calls_up spec n zero class other e = let same : n ≡ 0 + n = omega arith in subst (λ m. calls spec m class other ≡ true) same e
calls_up spec n (suc more) class other e =
    let same : suc (more + n) ≡ suc more + n = omega arith in
    subst (λ m. calls spec m class other ≡ true) same (calls_more spec (more + n) class other (calls_up spec n more class other e))

-- and on to what the last one makes
calls_on : (spec : Spec) (n class next other : ℕ) → calls spec n class next ≡ true → calls spec 0 next other ≡ true → calls spec (suc n) class other ≡ true
calls_on spec zero class next other e makes =
    any_weaker _ _ (λ k is. let same : k ≡ next = eqb-true k next is in or_right (k == other) (calls spec 0 k other) (subst (λ m. calls spec 0 m other ≡ true) (sym same) makes)) (classes_made spec class) e
calls_on spec (suc n) class next other e makes =
    any_weaker _ _ (λ k is. elim (or_cases (k == next) (calls spec n k next) is) [
      | inl here ↦
          let same : k ≡ next = eqb-true k next here in
          let direct : calls spec 0 k other ≡ true = subst (λ m. calls spec 0 m other ≡ true) (sym same) makes in
          let n0 : suc n + 0 ≡ suc n = omega arith in
          or_right (k == other) (calls spec (suc n) k other) (subst (λ m. calls spec m k other ≡ true) n0 (calls_up spec 0 (suc n) k other direct))
      | inr on ↦ or_right (k == other) (calls spec (suc n) k other) (calls_on spec n k next other on makes)
    ]) (classes_made spec class) e

-- no construction in a class's constructor leads back to it
back_free : (spec : Spec) (class : ℕ) (news : List New) → flat_map (leads_back spec class) news ≡ []
    → list_any (λ made. (made == class) || calls spec (length spec.classes) made class) (classes_of spec news) ≡ false
back_free spec class [] free = refl
back_free spec class (new ∷ news) free =
    let parts = none_of_both (leads_back spec class new) (flat_map (leads_back spec class) news) free in
    by (class_named spec new.class.name) parts.0 (back_free spec class news parts.1)
  where
    leads : ℕ → Bool
    leads made = (made == class) || calls spec (length spec.classes) made class

    by : (o : Option ℕ) → option_map_or (λ made. broken_if (leads made) rule.ConstructorCycle new.place) o [] ≡ []
        → list_any leads (classes_of spec news) ≡ false → list_any leads (cons_option o (classes_of spec news)) ≡ false
    by None own rest = rest
    by (Some made) own rest = rw (not_broken (leads made) rule.ConstructorCycle new.place own) rest

cycle_free : (spec : Spec) (first : ℕ) (cs : List Class) (p : ℕ) → cycles_from spec first cs ≡ [] → p < length cs
    → flat_map (leads_back spec (first + p)) (made_by spec (first + p)) ≡ []
cycle_free spec first [] p free within = absurd (omega (arith, within))
cycle_free spec first (c ∷ cs) p free within =
    let parts = none_of_both (flat_map (leads_back spec first) (made_by spec first)) (cycles_from spec (suc first) cs) free in
    by p within parts.0 (λ q few. cycle_free spec (suc first) cs q parts.1 few)
  where
    Free : ℕ → Type 0
    Free k = flat_map (leads_back spec k) (made_by spec k) ≡ []

    by : (p : ℕ) → p < length (c ∷ cs) → Free first → ((q : ℕ) → q < length cs → Free (suc first + q)) → Free (first + p)
    by zero within here later = let same : first ≡ first + 0 = omega arith in subst Free same here
    by (suc q) within here later = let same : suc first + q ≡ first + suc q = omega arith in subst Free same (later q (omega (arith, within)))

no_cycle : (spec : Spec) → faults_of_cycles spec ≡ [] → (class n : ℕ) → class < length spec.classes → n ≤ length spec.classes
    → calls spec n class class ≡ true → ⊥
no_cycle spec free class n there few e =
    let most = length spec.classes in
    let up : (suc most - n) + n ≡ suc most = omega arith in
    let back : calls spec (suc most) class class ≡ true = subst (λ m. calls spec m class class ≡ true) up (calls_up spec n (suc most - n) class class e) in
    let same : 0 + class ≡ class = omega arith in
    let made = subst (λ k. flat_map (leads_back spec k) (made_by spec k) ≡ []) same (cycle_free spec 0 spec.classes class free there) in
    let none : calls spec (suc most) class class ≡ false = back_free spec class (made_by spec class) made in
    absurd cc

-- the classes in whose constructors this one's stands, the nearest first
abbrev AreAbove : Spec → ℕ → List ℕ → ℕ → Type 0
AreAbove spec n [] class = Unit {0}
AreAbove spec n (q ∷ above) class = (q < length spec.classes) × (calls spec n q class ≡ true) × AreAbove spec (suc n) above class

apart : (spec : Spec) → faults_of_cycles spec ≡ [] → (n : ℕ) (above : List ℕ) (class : ℕ) → length above + n ≤ length spec.classes
    → AreAbove spec n above class → AllByRecursion (λ y. eqb class y ≡ false) above
apart spec free n [] class few are = tt
apart spec free n (q ∷ above) class few are =
    (ne_eqb class q (λ e. no_cycle spec free q n are.0 (omega (arith, few)) (subst (λ k. calls spec n q k ≡ true) e are.1)), apart spec free (suc n) above class (omega (arith, few)) are.2)

all_on : (spec : Spec) (n : ℕ) (above : List ℕ) (class other : ℕ) → AreAbove spec n above class → calls spec 0 class other ≡ true
    → AreAbove spec (suc n) above other
all_on spec n [] class other are makes = tt
all_on spec n (q ∷ above) class other are makes = (are.0, calls_on spec n q class other are.1 makes, all_on spec (suc n) above class other are.2 makes)

below : (spec : Spec) (n : ℕ) (above : List ℕ) (class q : ℕ) → AreAbove spec n above class → list_any (eqb q) above ≡ true → q < length spec.classes
below spec n [] class q are e = absurd cc
below spec n (p ∷ above) class q are e =
    elim (or_cases (eqb q p) (list_any (eqb q) above) e) [
      | inl same ↦ omega (arith, eqb-true q p same, are.0)
      | inr rest ↦ below spec (suc n) above class q are.2 rest
    ]

below_too : (spec : Spec) (above : List ℕ) (class q : ℕ) → class < length spec.classes → AreAbove spec 0 above class
    → list_any (eqb q) (class ∷ above) ≡ true → q < length spec.classes
below_too spec above class q there are e =
    elim (or_cases (eqb q class) (list_any (eqb q) above) e) [
      | inl same ↦ omega (arith, eqb-true q class same, there)
      | inr rest ↦ below spec 0 above class q are rest
    ]

-- what the constructor of a class makes
news_are : (spec : Spec) (class : ℕ) (c : Class) → slice_get spec.classes class ≡ Some c
    → news_in (block_of (constructor_or_implicit c (constructor_in c.members)).body) ≡ made_by spec class
news_are spec class c there = by (constructor_in c.members) ∙ ap (λ (o : Option Class). option_map_or (λ (code : Code). news_in (block_of code.body)) (constructor_in (option_map_or (λ (x : Class). x.members) o [])) []) (sym there)
  where
    by : (o : Option Code) → news_in (block_of (constructor_or_implicit c o).body) ≡ option_map_or (λ (code : Code). news_in (block_of code.body)) o []
    by None = refl
    by (Some code) = refl

nests : (spec : Spec) → IsWellFormed spec → (depth : ℕ) (above : List ℕ) (class : ℕ) → class < length spec.classes → AreAbove spec 0 above class
    → IsDistinct eqb above → length above + depth ≡ length spec.classes → NestsWithin (form_of spec) depth class
nests spec formed zero above class there are distinct deep =
    let longer = length-le_from_distinct_below (class ∷ above) (length spec.classes)
    (IsDistinct-cons eqb class above (apart spec formed.cycles 0 above class (omega (arith, deep)) are) distinct)
    (λ q. below_too spec above class q there are) in
    absurd (omega (arith, deep, longer))
nests spec formed (suc depth) above class there are distinct deep =
    let c = item_at spec.classes class there in
    let b = constructor_body class c.0 in
    let start = start_of spec b in
    let end = after_all spec start (block_of b.code.body) in
    let free : faults_of_body spec b ≡ [] = none_at (faults_of_body spec) (bodies_of spec) (constructor_of (form_of spec) class) b formed.bodies (constructor_stands spec class c.0 c.1) in
    let result = class_of spec b.code.result in
    let parts = none_of_five (no_return result (given_by b) b.code.name) (faults_of_clauses spec start (clauses (map (λ (x : Requires). clause_of x.condition) b.code.clauses))) (faults_of_block spec start (block_of b.code.body)) (faults_of_return spec end result (given_by b)) (ends_unset end b.code.name) free in
    let far = IsDistinct-cons eqb class above (apart spec formed.cycles 0 above class (omega (arith, deep)) are) distinct in
    let all : OfNews (NestsWithin (form_of spec) depth) spec (news_in (block_of b.code.body)) =
    subst (OfNews (NestsWithin (form_of spec) depth) spec) (sym (news_are spec class c.0 c.1))
    (λ next within makes. nests spec formed depth (class ∷ above) next within (there, makes, all_on spec 0 above class next are makes) far (omega (arith, deep))) in
    let body : body_of (form_of spec) (constructor_of (form_of spec) class) ≡ statements_of (method_of spec b).body = rw (constructor_found spec class c.0 c.1) in
    subst (OfStatements (NestsWithin (form_of spec) depth)) (sym body)
    (block_made spec (NestsWithin (form_of spec) depth) start (block_of b.code.body) parts.2 all)

pub constructors_nest : (spec : Spec) → IsWellFormed spec → ConstructorsNest (form_of spec)
unfolding IsDistinct
constructors_nest spec formed class within =
    let many = classes_many spec in
    subst (λ n. NestsWithin (form_of spec) n class) (sym many) (nests spec formed (length spec.classes) [] class (omega (arith, within, many)) tt tt (omega arith))
