-- Arguments and what takes them.
use Rattle.std.proofs.Common.{◌≡◌, ℕ, suc, zero, ◌+◌, ◌<◌, List, [], ◌∷◌, ◌++◌, ap, drop, get_or, length, map, refl, sym, ◌∙◌, arith}
use Rattle.std.proofs.lemmas.List.{drop_more}
use Rattle.std.specs.Prelude.{Option, Some, option_and_then, option_map, slice_get}
use Rattle.client_values.specs.Calling.{faults_of_argument}
use Rattle.client_model.specs.BodyFaults.{faults_of_arguments}
use Rattle.client_model.specs.Contexts.{Context}
use Rattle.client_model.specs.Faults.{Fault, comes_before}
use Rattle.client_model.specs.Settings.{Kind, Setting, callee_by, method_at}
use Rattle.easl_model.proofs.Finding.{both}
use Rattle.easl_model.specs.Faults.{first_with}
use Rattle.easl_model.specs.Form.{Form}
use Rattle.easl_model.specs.declared.form.Method.{Method}
use Rattle.easl_model.specs.declared.tree.Word.{Word}

pub get_map : {A B : Type 0} (f : A → B) (xs : List A) (k : ℕ) → slice_get (map f xs) k ≡ option_map f (slice_get xs k)
get_map f [] k = refl
get_map f (x ∷ xs) zero = refl
get_map f (x ∷ xs) (suc k) = get_map f xs k

pub length_map : {A B : Type 0} (f : A → B) (xs : List A) → length (map f xs) ≡ length xs
length_map f [] = refl
length_map f (x ∷ xs) = ap suc (length_map f xs)

-- the first of some arguments, and the others
one_by_one : (s : Setting) (c : Context) (params : List Kind) (k : ℕ) (w : Word) (ws : List Word)
    → faults_of_arguments s c (drop k params) (w ∷ ws) ≡ faults_of_argument s c (slice_get params k) w ++ faults_of_arguments s c (drop (suc k) params) ws
one_by_one s c [] zero w ws = refl
one_by_one s c [] (suc k) w ws = refl
one_by_one s c (p ∷ params) zero w ws = refl
one_by_one s c (p ∷ params) (suc k) w ws = one_by_one s c params k w ws

pub argument_more : (s : Setting) (c : Context) (params : List Kind) (args : List Word) (k : ℕ) (w : Word) → k < length args → w ≡ get_or args k w
    → faults_of_arguments s c (drop k params) (drop k args) ≡ faults_of_argument s c (slice_get params k) w ++ faults_of_arguments s c (drop (k + 1) params) (drop (k + 1) args)
argument_more s c params args k w within is =
    let number : suc k ≡ k + 1 = omega arith in
    ap (faults_of_arguments s c (drop k params)) (drop_more args k w within ∙ ap (λ y. y ∷ drop (k + 1) args) (sym is))
    ∙ one_by_one s c params k w (drop (k + 1) args)
    ∙ ap (λ n. faults_of_argument s c (slice_get params k) w ++ faults_of_arguments s c (drop n params) (drop (k + 1) args)) number

-- the first fault with one more argument, where what takes it is found in a list that stands for the parameters
pub next_argument : {P : Type 0} (kind : P → Kind) (s : Setting) (c : Context) (params : List P) (args : List Word) (k : ℕ) (w : Word) (taken : Option Kind) (found next start : Option Fault)
    → k < length args → w ≡ get_or args k w → taken ≡ slice_get (map kind params) k
    → next ≡ first_with comes_before found (faults_of_argument s c taken w)
    → first_with comes_before found (faults_of_arguments s c (drop k (map kind params)) (drop k args)) ≡ start
    → first_with comes_before next (faults_of_arguments s c (drop (k + 1) (map kind params)) (drop (k + 1) args)) ≡ start
next_argument kind s c params args k w taken found next start within is param stepped left =
    let all = map kind params in
    let rest = faults_of_arguments s c (drop (k + 1) all) (drop (k + 1) args) in
    ap (λ f. first_with comes_before f rest) (stepped ∙ ap (λ p. first_with comes_before found (faults_of_argument s c p w)) param)
    ∙ sym (both comes_before found (faults_of_argument s c (slice_get all k) w) rest)
    ∙ ap (first_with comes_before found) (sym (argument_more s c all args k w within is))
    ∙ left

-- the method of a number
pub numbered : (form : Form) (number : ℕ) (asked : Option ℕ) (m : Method) → asked ≡ Some number → slice_get form.methods number ≡ Some m
    → option_and_then (method_at form) asked ≡ Some (callee_by number m)
numbered form number asked m is there = ap (option_and_then (method_at form)) is ∙ ap (option_map (callee_by number)) there
