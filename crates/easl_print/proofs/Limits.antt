-- The limits look at no place.
use Rattle.std.proofs.Common.{◌≡◌, ℕ, zero, suc, List, [], ◌∷◌, ◌++◌, Option, Some, None, map, refl, sym, ap, ◌∙◌}
use Rattle.std.specs.Prelude.{option_to_list}
use Rattle.std.specs.List.{flat_map}
use Rattle.std.specs.Option.{option_map}
use Rattle.easl_model.specs.{Assign, Block, Clause, Declare, IsWithinLimits, Written, beyond, block_of, clause_of, codes_in, comparisons_in, comparisons_of}
use Rattle.easl_model.specs.{conditionals_at, conditionals_in, excess_at, excess_in, excess_of, excess_of_argument, excess_of_class, excess_of_clause}
use Rattle.easl_model.specs.{excess_of_code, excess_of_condition, excess_of_path, excess_of_value, fields_in, methods_in, more, paths_in, paths_of}
use Rattle.easl_model.specs.{statements_at, statements_in}
use Rattle.easl_model.specs.Clauses.{Clauses, none}
use Rattle.easl_model.specs.Clauses as written
use Rattle.easl_model.specs.Steps.{If, ◌▸◌}
use Rattle.easl_model.specs.Steps as steps
use Rattle.easl_model.specs.declared.fault.Excess.{Excess}
use Rattle.easl_model.specs.declared.fault.Which.{Which}
use Rattle.easl_model.specs.declared.fault.Which.TheVariants as which
use Rattle.easl_model.specs.declared.place.Place.{Place}
use Rattle.easl_model.specs.declared.tree.Arg.{Arg}
use Rattle.easl_model.specs.declared.tree.Arg.TheVariants as arg
use Rattle.easl_model.specs.declared.tree.Class as tree
use Rattle.easl_model.specs.declared.tree.Code as tree_code
use Rattle.easl_model.specs.declared.tree.Member as tree_member
use Rattle.easl_model.specs.declared.tree.Member.TheVariants as member
use Rattle.easl_model.specs.declared.tree.Path.{Path}
use Rattle.easl_model.specs.declared.tree.Requires.{Requires}
use Rattle.easl_model.specs.declared.tree.Return.{Return}
use Rattle.easl_model.specs.declared.tree.Spec.{Spec}
use Rattle.easl_model.specs.declared.tree.Value.{Value}
use Rattle.easl_model.specs.declared.tree.Value.TheVariants as value
use Rattle.easl_print.specs.Bare.{Code, Member, Field, Constructor, Method, Class, bare_path, bare, bare_all, bare_arg, bare_value, bare_step, bare_block, bare_clause, bare_return, bare_param, bare_code, bare_member, bare_class, bare_spec}
use Rattle.cv_layout.specs.{bare_word, nowhere}

-- an excess with its place aside
abbrev moved : Excess → Excess
moved e = record { which = e.which; place = nowhere }

abbrev aside : List Excess → List Excess
aside es = map moved es

abbrev somewhere : List Place → List Place
somewhere ps = map (λ p. nowhere) ps

aside_append : (xs ys : List Excess) → aside (xs ++ ys) ≡ aside xs ++ aside ys
aside_append [] ys = refl
aside_append (x ∷ xs) ys = ap (λ l. moved x ∷ l) (aside_append xs ys)

both : (xs ys us vs : List Excess) → aside xs ≡ us → aside ys ≡ vs → aside (xs ++ ys) ≡ us ++ vs
both xs ys us vs e f = aside_append xs ys ∙ ap (λ l. l ++ aside ys) e ∙ ap (λ l. us ++ l) f

each : {A B : Type 0} (f : A → List Excess) (g : B → List Excess) (h : A → B) → ((x : A) → aside (f x) ≡ g (h x)) → (xs : List A) → aside
    (flat_map f xs) ≡ flat_map g (map h xs)
each f g h e [] = refl
each f g h e (x ∷ xs) = both (f x) (flat_map f xs) (g (h x)) (flat_map g (map h xs)) (e x) (each f g h e xs)

some_append : (ps qs : List Place) → somewhere (ps ++ qs) ≡ somewhere ps ++ somewhere qs
some_append [] qs = refl
some_append (p ∷ ps) qs = ap (λ l. nowhere ∷ l) (some_append ps qs)

some_both : (ps qs us vs : List Place) → somewhere ps ≡ us → somewhere qs ≡ vs → somewhere (ps ++ qs) ≡ us ++ vs
some_both ps qs us vs e f = some_append ps qs ∙ ap (λ l. l ++ somewhere qs) e ∙ ap (λ l. us ++ l) f

some_each : {A B : Type 0} (f : A → Place) (g : B → Place) (h : A → B) → ((x : A) → nowhere ≡ g (h x)) → (xs : List A) → somewhere (map f xs) ≡ map g
    (map h xs)
some_each f g h e [] = refl
some_each f g h e (x ∷ xs) = ap (λ p. p ∷ somewhere (map f xs)) (e x) ∙ ap (λ l. g (h x) ∷ l) (some_each f g h e xs)

-- as many places, as many beyond
beyond_aside : (n : ℕ) (w : Which) (ps qs : List Place) → somewhere ps ≡ qs → aside (beyond n w ps) ≡ beyond n w qs
beyond_aside n w ps qs e = by n ps ∙ ap (beyond n w) e
  where
    by : (n : ℕ) (ps : List Place) → aside (beyond n w ps) ≡ beyond n w (somewhere ps)
    by zero [] = refl
    by zero (p ∷ ps) = ap (λ l. (let E : Excess = record { which = w; place = nowhere } in E) ∷ l) (by zero ps)
    by (suc n) [] = refl
    by (suc n) (p ∷ ps) = by n ps

-- paths, conditions and values
path_limits : (p : Path) → aside (excess_of_path p) ≡ excess_of_path (bare_path p)
path_limits p = beyond_aside 6 which.Path (map (λ w. w.place) p.fields) _ (some_each (λ w. w.place) (λ w. w.place) bare_word (λ w. refl) p.fields)

mutual
  comparisons_limits : (c : Clause) → somewhere (comparisons_of c) ≡ comparisons_of (bare c)
  comparisons_limits (written.Same p q) = refl
  comparisons_limits (written.Differ p q) = refl
  comparisons_limits (written.All cs) = comparisons_all cs
  comparisons_limits (written.Any cs) = comparisons_all cs

  comparisons_all : (cs : Clauses) → somewhere (comparisons_in cs) ≡ comparisons_in (bare_all cs)
  comparisons_all none = refl
  comparisons_all (more c cs) = some_both (comparisons_of c) (comparisons_in cs) _ _ (comparisons_limits c) (comparisons_all cs)

paths_append : (ps qs : List Path) → map bare_path (ps ++ qs) ≡ map bare_path ps ++ map bare_path qs
paths_append [] qs = refl
paths_append (p ∷ ps) qs = ap (λ l. bare_path p ∷ l) (paths_append ps qs)

mutual
  paths_limits : (c : Clause) → map bare_path (paths_of c) ≡ paths_of (bare c)
  paths_limits (written.Same p q) = refl
  paths_limits (written.Differ p q) = refl
  paths_limits (written.All cs) = paths_all cs
  paths_limits (written.Any cs) = paths_all cs

  paths_all : (cs : Clauses) → map bare_path (paths_in cs) ≡ paths_in (bare_all cs)
  paths_all none = refl
  paths_all (more c cs) =
      paths_append (paths_of c) (paths_in cs) ∙ ap (λ l. l ++ map bare_path (paths_in cs)) (paths_limits c) ∙ ap (λ l. paths_of (bare c) ++ l) (paths_all cs)

condition_limits : (c : Clause) → aside (excess_of_condition c) ≡ excess_of_condition (bare c)
condition_limits c = each excess_of_path excess_of_path bare_path path_limits (paths_of c) ∙ ap (flat_map excess_of_path) (paths_limits c)

argument_limits : (x : Arg) → aside (excess_of_argument x) ≡ excess_of_argument (bare_arg x)
argument_limits (arg.Literal w) = refl
argument_limits (arg.Path p) = path_limits p

value_limits : (v : Value) → aside (excess_of_value v) ≡ excess_of_value (bare_value v)
value_limits (value.Path p) = path_limits p
value_limits (value.New n) = each excess_of_argument excess_of_argument bare_arg argument_limits n.args

-- steps
mutual
  statements_limits : (w : Written) → somewhere (statements_at w) ≡ statements_at (bare_step w)
  statements_limits (Declare class name v) = refl
  statements_limits (Assign p v) = refl
  statements_limits (If place test xs ys b) =
      ap (λ l. nowhere ∷ l) (some_both (statements_in xs) (statements_in ys) _ _ (statements_all xs) (statements_all ys))

  statements_all : (xs : Block) → somewhere (statements_in xs) ≡ statements_in (bare_block xs)
  statements_all steps.none = refl
  statements_all (x ▸ xs) = some_both (statements_at x) (statements_in xs) _ _ (statements_limits x) (statements_all xs)

mutual
  conditionals_limits : (w : Written) → somewhere (conditionals_at w) ≡ conditionals_at (bare_step w)
  conditionals_limits (Declare class name v) = refl
  conditionals_limits (Assign p v) = refl
  conditionals_limits (If place test xs ys b) =
      ap (λ l. nowhere ∷ l) (some_both (conditionals_in xs) (conditionals_in ys) _ _ (conditionals_all xs) (conditionals_all ys))

  conditionals_all : (xs : Block) → somewhere (conditionals_in xs) ≡ conditionals_in (bare_block xs)
  conditionals_all steps.none = refl
  conditionals_all (x ▸ xs) = some_both (conditionals_at x) (conditionals_in xs) _ _ (conditionals_limits x) (conditionals_all xs)

mutual
  step_limits : (w : Written) → aside (excess_at w) ≡ excess_at (bare_step w)
  step_limits (Declare class name v) = value_limits v
  step_limits (Assign p v) = both (excess_of_path p) (excess_of_value v) _ _ (path_limits p) (value_limits v)
  step_limits (If place test xs ys b) =
      both _ (excess_in ys) _ _ (both (excess_of_condition test) (excess_in xs) _ _ (condition_limits test) (block_limits xs)) (block_limits ys)

  block_limits : (xs : Block) → aside (excess_in xs) ≡ excess_in (bare_block xs)
  block_limits steps.none = refl
  block_limits (x ▸ xs) = both (excess_at x) (excess_in xs) _ _ (step_limits x) (block_limits xs)

-- what stands beyond the limits in trees without places
abbrev clause_excess : Clause → List Excess
clause_excess c = beyond 16 which.Comparisons (comparisons_of c) ++ excess_of_condition c

abbrev code_excess : Code → List Excess
code_excess code =
    beyond 4 which.Parameters (map (λ p. p.place) code.params)
    ++ beyond 16 which.Clauses (map (λ c. nowhere) code.clauses)
    ++ flat_map clause_excess code.clauses
    ++ beyond 64 which.Statements (statements_in code.body ++ map (λ r. nowhere) (option_to_list code.value))
    ++ beyond 8 which.Conditionals (conditionals_in code.body)
    ++ excess_in code.body
    ++ flat_map excess_of_value (option_to_list code.value)

abbrev fields_among : List Member → List Place
fields_among [] = []
fields_among (Field class name ∷ rest) = nowhere ∷ fields_among rest
fields_among (Constructor code ∷ rest) = fields_among rest
fields_among (Method code ∷ rest) = fields_among rest

abbrev methods_among : List Member → List Place
methods_among [] = []
methods_among (Field class name ∷ rest) = methods_among rest
methods_among (Constructor code ∷ rest) = methods_among rest
methods_among (Method code ∷ rest) = nowhere ∷ methods_among rest

abbrev codes_among : List Member → List Code
codes_among [] = []
codes_among (Field class name ∷ rest) = codes_among rest
codes_among (Constructor code ∷ rest) = code ∷ codes_among rest
codes_among (Method code ∷ rest) = code ∷ codes_among rest

abbrev class_excess : Class → List Excess
class_excess c =
    beyond 16 which.Fields (fields_among c.members) ++ beyond 64 which.Methods (methods_among c.members) ++ flat_map code_excess (codes_among c.members)

abbrev spec_excess : List Class → List Excess
spec_excess cs = beyond 64 which.Classes (map (λ c. nowhere) cs) ++ flat_map class_excess cs

clause_limits : (c : Requires) → aside (excess_of_clause c) ≡ clause_excess (bare_clause c)
clause_limits c =
    let x = clause_of c.condition in
    both (beyond 16 which.Comparisons (comparisons_of x)) (excess_of_condition x) _ _
    (beyond_aside 16 which.Comparisons (comparisons_of x) _ (comparisons_limits x)) (condition_limits x)

returns_limits : (r : Option Return) → aside (flat_map (λ x. excess_of_value x.value) (option_to_list r)) ≡ flat_map excess_of_value
    (option_to_list (option_map bare_return r))
returns_limits None = refl
returns_limits (Some r) = both (excess_of_value r.value) [] _ _ (value_limits r.value) refl

returns_counted : (r : Option Return) → somewhere (map (λ x. x.place) (option_to_list r)) ≡ map (λ x. nowhere) (option_to_list (option_map bare_return r))
returns_counted None = refl
returns_counted (Some r) = refl

code_limits : (c : tree_code.Code) → aside (excess_of_code c) ≡ code_excess (bare_code c)
code_limits c =
    let body = block_of c.body in
    let returns = option_to_list c.value in
    both _ (flat_map (λ r. excess_of_value r.value) returns) _ _
    (both _ (excess_in body) _ _
    (both _ (beyond 8 which.Conditionals (conditionals_in body)) _ _
    (both _ (beyond 64 which.Statements (statements_in body ++ map (λ r. r.place) returns)) _ _
    (both _ (flat_map excess_of_clause c.clauses) _ _
    (both (beyond 4 which.Parameters (map (λ p. p.place) c.params)) (beyond 16 which.Clauses (map (λ x. x.place) c.clauses)) _ _
    (beyond_aside 4 which.Parameters (map (λ p. p.place) c.params) _
    (some_each (λ p. p.place) (λ p. p.place) bare_param (λ p. refl) c.params))
    (beyond_aside 16 which.Clauses (map (λ x. x.place) c.clauses) _
    (some_each (λ x. x.place) (λ x. nowhere) bare_clause (λ x. refl) c.clauses)))
    (each excess_of_clause clause_excess bare_clause clause_limits c.clauses))
    (beyond_aside 64 which.Statements (statements_in body ++ map (λ r. r.place) returns) _
    (some_both (statements_in body) (map (λ r. r.place) returns) _ _ (statements_all body) (returns_counted c.value))))
    (beyond_aside 8 which.Conditionals (conditionals_in body) _ (conditionals_all body)))
    (block_limits body))
    (returns_limits c.value)

fields_counted : (ms : List tree_member.Member) → somewhere (map (λ f. f.class.place) (fields_in ms)) ≡ fields_among (map bare_member ms)
fields_counted [] = refl
fields_counted (member.Field f ∷ ms) = ap (λ l. nowhere ∷ l) (fields_counted ms)
fields_counted (member.Constructor c ∷ ms) = fields_counted ms
fields_counted (member.Method c ∷ ms) = fields_counted ms

methods_counted : (ms : List tree_member.Member) → somewhere (map (λ c. c.place) (methods_in ms)) ≡ methods_among (map bare_member ms)
methods_counted [] = refl
methods_counted (member.Field f ∷ ms) = methods_counted ms
methods_counted (member.Constructor c ∷ ms) = methods_counted ms
methods_counted (member.Method c ∷ ms) = ap (λ l. nowhere ∷ l) (methods_counted ms)

codes_limits : (ms : List tree_member.Member) → aside (flat_map excess_of_code (codes_in ms)) ≡ flat_map code_excess (codes_among (map bare_member ms))
codes_limits [] = refl
codes_limits (member.Field f ∷ ms) = codes_limits ms
codes_limits (member.Constructor c ∷ ms) = both (excess_of_code c) (flat_map excess_of_code (codes_in ms)) _ _ (code_limits c) (codes_limits ms)
codes_limits (member.Method c ∷ ms) = both (excess_of_code c) (flat_map excess_of_code (codes_in ms)) _ _ (code_limits c) (codes_limits ms)

class_limits : (c : tree.Class) → aside (excess_of_class c) ≡ class_excess (bare_class c)
class_limits c =
    let fields = map (λ f. f.class.place) (fields_in c.members) in
    let methods = map (λ m. m.place) (methods_in c.members) in
    both _ (flat_map excess_of_code (codes_in c.members)) _ _
    (both (beyond 16 which.Fields fields) (beyond 64 which.Methods methods) _ _ (beyond_aside 16 which.Fields fields _ (fields_counted c.members))
    (beyond_aside 64 which.Methods methods _ (methods_counted c.members)))
    (codes_limits c.members)

spec_limits : (s : Spec) → aside (excess_of s) ≡ spec_excess (bare_spec s)
spec_limits s =
    both (beyond 64 which.Classes (map (λ c. c.place) s.classes)) (flat_map excess_of_class s.classes) _ _
    (beyond_aside 64 which.Classes (map (λ c. c.place) s.classes) _ (some_each (λ c. c.place) (λ c. nowhere) bare_class (λ c. refl) s.classes))
    (each excess_of_class class_excess bare_class class_limits s.classes)

none_aside : (es : List Excess) → aside es ≡ [] → es ≡ []
none_aside [] e = refl
none_aside (x ∷ es) e = cc

-- two trees that are the same, places aside, keep the limits alike
pub same_limits : (x y : Spec) → bare_spec x ≡ bare_spec y → IsWithinLimits y → IsWithinLimits x
same_limits x y e h = none_aside (excess_of x) (spec_limits x ∙ ap spec_excess e ∙ sym (spec_limits y) ∙ ap aside h)
