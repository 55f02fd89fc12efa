-- Marks in a row are calls of constructors.
use Rattle.std.proofs.Common.{◌≡◌, ℕ, zero, suc, Bool, true, false, List, [], ◌∷◌, ◌++◌, ap, refl, sym, ◌∙◌, length, arith, length-append}
use Rattle.std.specs.List.{filter_map, flat_map, list_any}
use Rattle.std.specs.Option.{option_map, option_map_or}
use Rattle.std.specs.Prelude.{Option, Some, None, ◌==◌, ◌||◌, slice_get, unwrap_or}
use Rattle.std.proofs.lemmas.Grind.{flat_map-append}
use Rattle.std.proofs.lemmas.List.{append_assoc, length-map}
use Rattle.std.proofs.lemmas.Option.{slice_get-map}
use Rattle.easl_model.specs.{block_of, broken_if, calls, class_named, constructor_in, cycles_from, faults_of_cycles, leads_back, made_by, news_in}
use Rattle.easl_model.specs.declared.fault.Rule.TheVariants as rule
use Rattle.easl_model.specs.declared.tree.Class.{Class}
use Rattle.easl_model.specs.declared.tree.Code.{Code}
use Rattle.easl_model.specs.declared.tree.New.{New}
use Rattle.easl_model.specs.declared.tree.Spec.{Spec}
use Rattle.easl_types.specs.Calls.{call_of, calls_back, calls_of_class, calls_of_classes, cycles_over, is_set, leads_to, next_row, row_of}
use Rattle.easl_types.proofs.Ends.{at_end}
use Rattle.easl_types.specs.declared.cycles.Call.{Call}

abbrev made_in : Class → List New
made_in c = option_map_or (λ (code : Code). news_in (block_of code.body)) (constructor_in c.members) []

-- what a class's constructor makes, by the class
made_at : (spec : Spec) (class : ℕ) (o : Option Class) → slice_get spec.classes class ≡ o → made_by spec class ≡ option_map_or made_in o []
made_at spec class None at = rw at refl
made_at spec class (Some c) at = rw at refl

-- a test of the classes made is one of the calls
some_call : (spec : Spec) (row : List Bool) (other : ℕ) (f : ℕ → Bool) → ((class : ℕ) → is_set row class ≡ f class) → (news : List New)
    → list_any (leads_to row other) (flat_map (call_of spec) news) ≡ list_any (λ made. (made == other) || f made) (filter_map (λ (new : New). class_named spec new.class.name) news)
some_call spec row other f set [] = refl
some_call spec row other f set (new ∷ news) = by (class_named spec new.class.name) refl (some_call spec row other f set news)
  where
    by : (o : Option ℕ) → class_named spec new.class.name ≡ o
        → list_any (leads_to row other) (flat_map (call_of spec) news) ≡ list_any (λ made. (made == other) || f made) (filter_map (λ (new : New). class_named spec new.class.name) news)
        → list_any (leads_to row other) (flat_map (call_of spec) (new ∷ news)) ≡ list_any (λ made. (made == other) || f made) (filter_map (λ (new : New). class_named spec new.class.name) (new ∷ news))
    by None e rest = rw e rest
    by (Some class) e rest = rw (e, set class) (ap (λ b. ((class == other) || f class) || b) rest)

pub calls_in_both : (spec : Spec) (xs ys : List New) → flat_map (call_of spec) (xs ++ ys) ≡ flat_map (call_of spec) xs ++ flat_map (call_of spec) ys
calls_in_both spec xs ys = flat_map-append (call_of spec) xs ys

-- the marks of a next row, by the calls of the class
set_next : (all : List (List Call)) (other : ℕ) (row : List Bool) (class : ℕ)
    → is_set (next_row all other row) class ≡ list_any (leads_to row other) (unwrap_or (slice_get all class) [])
set_next all other row class = ap (λ o. unwrap_or o false) (slice_get-map (list_any (leads_to row other)) all class) ∙ by (slice_get all class)
  where
    by : (o : Option (List Call)) → unwrap_or (option_map (list_any (leads_to row other)) o) false ≡ list_any (leads_to row other) (unwrap_or o [])
    by None = refl
    by (Some calls) = refl

calls_at : (spec : Spec) (class : ℕ) → unwrap_or (slice_get (calls_of_classes spec spec.classes) class) [] ≡ flat_map (call_of spec) (made_by spec class)
calls_at spec class =
    ap (λ o. unwrap_or o []) (slice_get-map (calls_of_class spec) spec.classes class)
    ∙ by (slice_get spec.classes class)
    ∙ ap (flat_map (call_of spec)) (sym (made_at spec class (slice_get spec.classes class) refl))
  where
    by : (o : Option Class) → unwrap_or (option_map (calls_of_class spec) o) [] ≡ flat_map (call_of spec) (option_map_or made_in o [])
    by None = refl
    by (Some c) = refl

or_false : (b : Bool) → (b || false) ≡ b
or_false true = refl
or_false false = refl

none_more : (other : ℕ) (xs : List ℕ) → list_any (λ made. (made == other) || false) xs ≡ list_any (λ made. made == other) xs
none_more other [] = refl
none_more other (x ∷ xs) = ap (λ b. b || list_any (λ made. (made == other) || false) xs) (or_false (x == other)) ∙ ap (λ b. (x == other) || b) (none_more other xs)

-- after so many rounds, the marks are the classes that call the other one through at most so many
reaches : (spec : Spec) (other rounds class : ℕ) → is_set (row_of (calls_of_classes spec spec.classes) other rounds) class ≡ calls spec rounds class other
reaches spec other zero class =
    set_next (calls_of_classes spec spec.classes) other [] class
    ∙ ap (list_any (leads_to [] other)) (calls_at spec class)
    ∙ some_call spec [] other (λ made. false) (λ made. refl) (made_by spec class)
    ∙ none_more other (filter_map (λ (new : New). class_named spec new.class.name) (made_by spec class))
reaches spec other (suc rounds) class =
    let all = calls_of_classes spec spec.classes in
    set_next all other (row_of all other rounds) class
    ∙ ap (list_any (leads_to (row_of all other rounds) other)) (calls_at spec class)
    ∙ some_call spec (row_of all other rounds) other (λ made. calls spec rounds made other) (λ made. reaches spec other rounds made) (made_by spec class)

-- the calls that lead back
back : (spec : Spec) (class : ℕ) (row : List Bool) → ((made : ℕ) → is_set row made ≡ calls spec (length spec.classes) made class) → (news : List New)
    → flat_map (calls_back row class) (flat_map (call_of spec) news) ≡ flat_map (leads_back spec class) news
back spec class row set [] = refl
back spec class row set (new ∷ news) = by (class_named spec new.class.name) refl (back spec class row set news)
  where
    by : (o : Option ℕ) → class_named spec new.class.name ≡ o
        → flat_map (calls_back row class) (flat_map (call_of spec) news) ≡ flat_map (leads_back spec class) news
        → flat_map (calls_back row class) (flat_map (call_of spec) (new ∷ news)) ≡ flat_map (leads_back spec class) (new ∷ news)
    by None e rest = rw e rest
    by (Some made) e rest = rw (e, set made) (ap (λ fs. broken_if ((made == class) || calls spec (length spec.classes) made class) rule.ConstructorCycle new.place ++ fs) rest)

row_reaches : (spec : Spec) (class made : ℕ)
    → is_set (row_of (calls_of_classes spec spec.classes) class (length (calls_of_classes spec spec.classes))) made ≡ calls spec (length spec.classes) made class
row_reaches spec class made =
    ap (λ n. is_set (row_of (calls_of_classes spec spec.classes) class n) made) (length-map spec.classes (calls_of_class spec))
    ∙ reaches spec class (length spec.classes) made

over_from : (spec : Spec) (class : ℕ) (before cs : List Class) → length before ≡ class → before ++ cs ≡ spec.classes
    → cycles_over (calls_of_classes spec spec.classes) class (calls_of_classes spec cs) ≡ cycles_from spec class cs
over_from spec class before [] many are = refl
over_from spec class before (c ∷ cs) many are =
    let all = calls_of_classes spec spec.classes in
    let there : slice_get spec.classes class ≡ Some c = sym (ap (λ xs. slice_get xs class) are) ∙ at_end before c cs class many in
    let made = made_at spec class (Some c) there in
    let row = row_of all class (length all) in
    let now : flat_map (calls_back row class) (calls_of_class spec c) ≡ flat_map (leads_back spec class) (made_by spec class) =
    back spec class row (row_reaches spec class) (made_in c) ∙ ap (flat_map (leads_back spec class)) (sym made) in
    ap (λ fs. fs ++ cycles_over all (suc class) (calls_of_classes spec cs)) now
    ∙ ap (λ fs. flat_map (leads_back spec class) (made_by spec class) ++ fs)
    (over_from spec (suc class) (before ++ c ∷ []) cs (omega (arith, many, length-append before (c ∷ []))) (append_assoc before (c ∷ []) cs ∙ are))

pub over_all : (spec : Spec) → cycles_over (calls_of_classes spec spec.classes) 0 (calls_of_classes spec spec.classes) ≡ faults_of_cycles spec
over_all spec = over_from spec 0 [] spec.classes refl refl
