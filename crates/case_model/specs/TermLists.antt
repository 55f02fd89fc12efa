-- The terms of a question, in a list with their classes.
use Rattle.std.specs.Prelude.{◌≡◌, ℕ, ◌+◌, ◌↔◌, Bool, List, [], ◌∷◌, ◌++◌, AllPairs, Any, Contains, Option, Some, None, ◌<◌, flat_map, length, slice_get, map, if◌then◌else◌}
use Rattle.std.specs.List.{AllZip}
use Rattle.std.specs.declared.cmp.Ordering.TheVariants.{Less}
use Rattle.easl_model.specs.{Condition, IsChecked, condition_of}
use Rattle.easl_model.specs.Conditions.{Conditions, Same, Differ, All, none, ◌▸◌}
use Rattle.easl_model.specs.Conditions as condition
use Rattle.easl_model.specs.Form.{Form}
use Rattle.easl_model.specs.declared.form.Method.{Method}
use Rattle.easl_model.specs.declared.form.Reach.{Reach}
use Rattle.access_paths.specs.{Ask, IsTermOf, Leaf, compare_terms, family_classes, no_family, term, variables_of}
use Rattle.access_paths.specs.Trees.{Tree}
use Rattle.access_paths.specs.declared.term.Family.{Family}
use Rattle.access_paths.specs.declared.term.Literal.{Literal}
use Rattle.access_paths.specs.declared.term.Term.{Term}

-- from the first term more fields lead to the second, or none
abbrev pub IsPrefix : Term → Term → Type 0
IsPrefix t u = (t.var ≡ u.var) × ((more : List ℕ) × (u.fields ≡ t.fields ++ more))

-- in order and each once: the terms that are asked and all their prefixes, and no other term
pub record AreTermsOf (asked ts : List Term) : Type 0 where
  pub ordered : AllPairs (λ t u. compare_terms t u ≡ Less) ts
  pub holds : (t : Term) → Contains ts t ↔ ((u : Term) × Contains asked u × IsPrefix t u)

-- all of these are in the list
abbrev pub HasTerms : List Term → List Term → Type 0
HasTerms ts asked = (t : Term) → Contains asked t → Contains ts t

-- the class of each term of the list, where variables have these classes
abbrev pub HaveClasses : Form → List (Option ℕ) → List Term → List ℕ → Type 0
HaveClasses form variables ts classes = AllZip (IsTermOf form variables) ts classes

-- the term list of some question, with its classes
pub record IsTermList (ts : List Term) (classes : List ℕ) : Type 0 where
  pub form : Form
  pub variables : List (Option ℕ)
  pub asked : List Term
  pub terms : AreTermsOf asked ts
  pub typed : HaveClasses form variables ts classes

-- the terms that a tree asks
abbrev pub terms_of_tree : Tree → List Term
terms_of_tree (Leaf b) = []
terms_of_tree (Ask t u x y) = t ∷ u ∷ terms_of_tree x ++ terms_of_tree y

-- the terms of literals
abbrev pub terms_of_cube : List Literal → List Term
terms_of_cube ls = flat_map (λ l. l.less ∷ l.more ∷ []) ls

-- the variable of slot 0: `this`, or the first parameter of a constructor
abbrev pub first_variable : Method → ℕ
first_variable m = if m.constructor then 4 else 3

-- what is reached from a slot of a method's clauses; slot 0 is this variable
abbrev pub term_of : ℕ → Reach → Term
term_of first r = term (first + r.slot) r.fields

-- the terms of a condition, from left to right
abbrev mutual
  pub terms_of_condition : ℕ → Condition → List Term
  terms_of_condition first (Same left right) = term_of first left ∷ term_of first right ∷ []
  terms_of_condition first (Differ left right) = term_of first left ∷ term_of first right ∷ []
  terms_of_condition first (All cs) = terms_of_conditions first cs
  terms_of_condition first (condition.Any cs) = terms_of_conditions first cs

  pub terms_of_conditions : ℕ → Conditions → List Term
  terms_of_conditions first none = []
  terms_of_conditions first (c ▸ cs) = terms_of_condition first c ++ terms_of_conditions first cs

-- the clauses of a method; a constructor has none
abbrev pub clauses_of : Method → List Condition
clauses_of m = if m.constructor then [] else map condition_of m.clauses

abbrev pub terms_of_clauses : Method → List Term
terms_of_clauses m = flat_map (terms_of_condition (first_variable m)) (clauses_of m)

-- what a question asks: its tree, and in an update question the clauses of the method
abbrev pub terms_asked : Method → Tree → Bool → List Term
terms_asked m tree with_clauses = terms_of_tree tree ++ (if with_clauses then terms_of_clauses m else [])

-- the classes of a question's variables: of x1 to x3 where it has a family, of `this` and of the parameters
abbrev pub question_variables : Method → Option Family → List (Option ℕ)
question_variables m None = variables_of m no_family
question_variables m (Some family) = variables_of m (family_classes family)

-- each of these terms leads to an object of some class
abbrev pub AreTyped : Form → List (Option ℕ) → List Term → Type 0
AreTyped form variables ts = (t : Term) → Contains ts t → (class : ℕ) × IsTermOf form variables t class

-- one of them has more than 6 fields
abbrev pub HasLongTerm : List Term → Type 0
HasLongTerm ts = Any (λ t. 6 < length t.fields) ts

-- In a checked specification each term of a method's clauses leads somewhere, whatever x1 to x3 are.
abbrev pub ClausesHaveClasses : Type 0
ClausesHaveClasses = (form : Form) (n : ℕ) (m : Method) (xs : List (Option ℕ)) → IsChecked form → slice_get form.methods n ≡ Some m → length xs ≡ 3
    → AreTyped form (variables_of m xs) (terms_of_clauses m)
