-- Names have the codes of statics that are assigned, or of variables.
use Rattle.std.proofs.Common.{◌≡◌, ◌⊎◌, ℕ, ◌<◌, ◌≤◌, ◌+◌, suc, Bool, true, false, List, [], ◌∷◌, ◌++◌, ap, arith, inl, inr, length, map, refl, subst, sym, ◌∙◌}
use Rattle.std.specs.List.{range_with_len}
use Rattle.std.specs.Prelude.{Option, Some, None, cond, find, option_map}
use Rattle.client_bodies.specs.Walking.{AreVariables, IsCoded, IsName, IsVariable}
use Rattle.client_model.proofs.Kept.{grows}
use Rattle.client_model.proofs.SetNumbers.{statics_at_entry, still_assigned}
use Rattle.client_model.specs.Bodies.{at_entry, codes_of, params_from}
use Rattle.client_model.specs.Codes.{variable_code}
use Rattle.client_model.specs.Contexts.{Assigned, Context, after, after_all, counting, entered, evaluated, has, looping, value_of_test}
use Rattle.client_model.specs.Lookups.{is_same}
use Rattle.client_model.specs.SetNumbers.{AreAssigned}
use Rattle.client_model.specs.Settings.{Setting, Variable, variable_named}
use Rattle.client_model.specs.Statements.{Statement, Statements, Declare, Assign, Do, If, While, Break, Continue, Return, none, ◌▸◌}
use Rattle.easl_model.specs.Form.{Form}
use Rattle.easl_model.specs.declared.tree.Param.{Param}

more_variables : (n m : ℕ) (vs : List Variable) → n ≤ m → AreVariables n vs → AreVariables m vs
more_variables n m [] few are = tt
more_variables n m (v ∷ vs) few are =
    let k = are.0.0 in
    let inside : k < n = are.0.2 in
    ((k, are.0.1, omega arith), more_variables n m vs few are.1)

one_more : (n : ℕ) (vs : List Variable) (v : Variable) → AreVariables n vs → IsVariable n v.code → AreVariables n (vs ++ v ∷ [])
one_more n [] v are is = (is, tt)
one_more n (w ∷ ws) v are is = (are.0, one_more n ws v are.1 is)

mutual
  count_grows : (s : Setting) (c : Context) (x : Statement) → c.variables ≤ (after s c x).variables
  count_grows s c (Declare place sort w None) = omega arith
  count_grows s c (Declare place sort w (Some v)) = omega arith
  count_grows s c (Assign w v) = omega arith
  count_grows s c (Do v) = omega arith
  count_grows s c (If place t first second has_else) =
      let start : Context = evaluated (value_of_test t) c in
      let one : Context = after_all s (entered start) first in
      let left : c.variables ≤ one.variables = counts_grow s (entered start) first in
      let right : one.variables ≤ (after_all s (entered (counting start one)) second).variables = counts_grow s (entered (counting start one)) second in
      omega (arith, left, right)
  count_grows s c (While place t inner) = counts_grow s (looping (evaluated (value_of_test t) c)) inner
  count_grows s c (Break place) = omega arith
  count_grows s c (Continue place) = omega arith
  count_grows s c (Return r) = omega arith

  counts_grow : (s : Setting) (c : Context) (xs : Statements) → c.variables ≤ (after_all s c xs).variables
  counts_grow s c none = omega arith
  counts_grow s c (x ▸ xs) =
      let here : c.variables ≤ (after s c x).variables = count_grows s c x in
      let behind : (after s c x).variables ≤ (after_all s (after s c x) xs).variables = counts_grow s (after s c x) xs in
      omega (arith, here, behind)

scope_coded : (s : Setting) (c : Context) (x : Statement) → AreVariables c.variables c.scope → AreVariables (after s c x).variables (after s c x).scope
scope_coded s c (Declare place sort w None) are =
    one_more (suc c.variables) c.scope _ (more_variables c.variables (suc c.variables) c.scope (omega arith) are) (c.variables, refl, omega arith)
scope_coded s c (Declare place sort w (Some v)) are =
    one_more (suc c.variables) c.scope _ (more_variables c.variables (suc c.variables) c.scope (omega arith) are) (c.variables, refl, omega arith)
scope_coded s c (Assign w v) are = are
scope_coded s c (Do v) are = are
scope_coded s c (If place t first second has_else) are =
    more_variables c.variables (after s c (If place t first second has_else)).variables c.scope (count_grows s c (If place t first second has_else)) are
scope_coded s c (While place t inner) are =
    more_variables c.variables (after s c (While place t inner)).variables c.scope (count_grows s c (While place t inner)) are
scope_coded s c (Break place) are = are
scope_coded s c (Continue place) are = are
scope_coded s c (Return r) are = are

pub coded_after : (s : Setting) (c : Context) (x : Statement) → IsCoded s c → IsCoded s (after s c x)
coded_after s c x coded = record {
  scope = scope_coded s c x coded.scope;
  statics = still_assigned s.statics c.assigned (after s c x).assigned (grows s c x) coded.statics;
}

pub coded_all : (s : Setting) (c : Context) (xs : Statements) → IsCoded s c → IsCoded s (after_all s c xs)
coded_all s c none coded = coded
coded_all s c (x ▸ xs) coded = coded_all s (after s c x) xs (coded_after s c x coded)

-- behind a block that began in this context
pub coded_behind : (s : Setting) (c : Context) (xs : Statements) → IsCoded s c → IsCoded s (counting c (after_all s (entered c) xs))
coded_behind s c xs coded = record {
  scope = more_variables c.variables (after_all s (entered c) xs).variables c.scope (counts_grow s (entered c) xs) coded.scope;
  statics = coded.statics;
}

-- the name of a variable or a static

abbrev Names : Assigned → ℕ → Option Variable → Type 0
Names a n o = (v : Variable) → o ≡ Some v → (has a v.code ≡ true) ⊎ IsVariable n v.code

found_static : (p : Variable → Bool) (ws : List Variable) (n : ℕ) (a : Assigned) → AreAssigned ws a → Names a n (find p ws)
found_static p [] n a assigned v is = absurd cc
found_static p (w ∷ ws) n a assigned v is = by (p w) (found_static p ws n a assigned.1 v) is
  where
    by : (b : Bool) → (find p ws ≡ Some v → (has a v.code ≡ true) ⊎ IsVariable n v.code) → cond b (Some w) (find p ws) ≡ Some v
        → (has a v.code ≡ true) ⊎ IsVariable n v.code
    by true rest here =
        let same : w ≡ v = cc in
        inl (ap (λ (x : Variable). has a x.code) (sym same) ∙ assigned.0)
    by false rest there = rest there

found : (p : Variable → Bool) (vs ws : List Variable) (n : ℕ) (a : Assigned) → AreVariables n vs → AreAssigned ws a → Names a n (find p (vs ++ ws))
found p [] ws n a are assigned v is = found_static p ws n a assigned v is
found p (x ∷ vs) ws n a are assigned v is = by (p x) (found p vs ws n a are.1 assigned v) is
  where
    by : (b : Bool) → (find p (vs ++ ws) ≡ Some v → (has a v.code ≡ true) ⊎ IsVariable n v.code) → cond b (Some x) (find p (vs ++ ws)) ≡ Some v
        → (has a v.code ≡ true) ⊎ IsVariable n v.code
    by true rest here =
        let same : x ≡ v = cc in
        inr (are.0.0, ap (λ (y : Variable). y.code) (sym same) ∙ are.0.1, are.0.2)
    by false rest there = rest there

pub is_name : (s : Setting) (c : Context) (name : List ℕ) (code : ℕ) → IsCoded s c → Some code ≡ option_map (λ v. v.code) (variable_named s c.scope name) → IsName c code
is_name s c name code coded is = by (variable_named s c.scope name) refl is
  where
    by : (o : Option Variable) → variable_named s c.scope name ≡ o → Some code ≡ option_map (λ v. v.code) o → IsName c code
    by None there lacks = absurd cc
    by (Some v) there gives =
        let same : code ≡ v.code = cc in
        subst (IsName c) (sym same) (found (λ x. is_same x.name name) c.scope s.statics c.variables c.assigned coded.scope coded.statics v there)

-- at the entry of a procedure

params_coded : (form : Form) (n count : ℕ) (params : List Param) → n + length params ≤ count → AreVariables count (params_from form n params)
params_coded form n count [] few = tt
params_coded form n count (p ∷ rest) few = ((n, refl, omega (arith, few)), params_coded form (suc n) count rest (omega (arith, few)))

pub length_params : (form : Form) (n : ℕ) (params : List Param) → length (params_from form n params) ≡ length params
length_params form n [] = refl
length_params form n (p ∷ rest) = ap suc (length_params form (suc n) rest)

pub codes_params : (form : Form) (n : ℕ) (params : List Param) → codes_of (params_from form n params) ≡ map variable_code (range_with_len n (length (params_from form n params)))
codes_params form n [] = refl
codes_params form n (p ∷ rest) =
    let next : suc n ≡ n + 1 = omega arith in
    ap (λ ks. variable_code n ∷ ks) (codes_params form (suc n) rest ∙ ap (λ k. map variable_code (range_with_len k (length (params_from form (suc n) rest)))) next)

pub coded_at_entry : (s : Setting) (calls : ℕ) (params : List Param) → IsCoded s (at_entry s calls params)
coded_at_entry s calls params =
    let long : length (params_from s.form 0 params) ≡ length params = length_params s.form 0 params in
    record { scope = params_coded s.form 0 (length (params_from s.form 0 params)) params (omega (arith, long)); statics = statics_at_entry s calls params }
