-- The questions of a specification ask terms of their variables.
use Rattle.std.proofs.Common.{inl, inr, ◌≡◌, ℕ, suc, ◌+◌, ◌≤◌, ◌==◌, ◌/◌, ◌%◌, Bool, true, false, not, if◌then◌else◌, List, [], ◌∷◌, Option, Some, None, slice_get, arith, refl, ap, sym, subst, ◌∙◌}
use Rattle.std.specs.Prelude.{IfSome}
use Rattle.easl_model.specs.Form.{Form}
use Rattle.easl_model.specs.declared.form.Method.{Method}
use Rattle.access_paths.specs.{before_call, no_family, variables_of}
use Rattle.access_paths.specs.declared.term.Family.{Family}
use Rattle.question_model.specs.{ClauseAsksTerms, Done, UpdateAsksTerms, after_call, arguments_of, called, cube_after, fails, holds, state, update, variable}
use Rattle.question_model.specs.Questions as told
use Rattle.question_model.specs.declared.value.Value.{Value}
use Rattle.question_model.proofs.AskedBodies.{FineOutcome, asks_terms, called_comes, cube_comes}
use Rattle.question_model.proofs.AskedConditions.{holds_comes}
use Rattle.question_model.proofs.AskedValues.{AllFine, IsFine, SomeAnswer, comes_on}
use Rattle.question_model.proofs.Calls.{constructor_arguments, decided, four_on, method_arguments, receiver_at}

none_short : (most : Option ℕ) → IfSome most (λ n. 0 ≤ n)
none_short None = tt
none_short (Some n) = omega arith

module _ (form : Form) (most : Option ℕ) (variables : List (Option ℕ)) where
  one_fine : (n : ℕ) (o : Option ℕ) → slice_get variables n ≡ Some o → IsFine form most variables (variable n o)
  one_fine n None at = tt
  one_fine n (Some class) at = (record { start = class; variable = at; leads = refl }, none_short most)

  all_fine : (n : ℕ) (ps : List (Option ℕ)) → ((k : ℕ) (o : Option ℕ) → slice_get ps k ≡ Some o → slice_get variables (n + k) ≡ Some o)
      → AllFine form most variables (told.variables n ps)
  all_fine n [] at = tt
  all_fine n (p ∷ ps) at = (
    one_fine n p (let e : n ≡ n + 0 = omega arith in ap (slice_get variables) e ∙ at 0 p refl),
    all_fine (suc n) ps (λ k o is. let e : suc n + k ≡ n + suc k = omega arith in ap (slice_get variables) e ∙ at (suc k) o is),
  )

  put_fine : (bit : Bool) (n : ℕ) (o : Option ℕ) (result : Value) → IsFine form most variables result
      → slice_get variables n ≡ Some (if bit then None else o)
      → IsFine form most variables (if bit then result else variable n o)
  put_fine true n o result fine at = fine
  put_fine false n o result fine at = one_fine n o at

arguments_fine : (form : Form) (most : Option ℕ) (m : Method) (a b c : Option ℕ)
    → AllFine form most (variables_of m (a ∷ b ∷ c ∷ [])) (arguments_of m)
arguments_fine form most m a b c =
    elim (decided m.constructor) [
      | inl is ↦ subst (AllFine form most all) (sym (constructor_arguments m is)) params
      | inr is ↦ subst (AllFine form most all) (sym (method_arguments m is))
          (one_fine form most all 3 (Some m.class) (receiver_at m a b c is), params)
    ]
  where
    all : List (Option ℕ)
    all = variables_of m (a ∷ b ∷ c ∷ [])

    params : AllFine form most (variables_of m (a ∷ b ∷ c ∷ [])) (told.variables 4 m.params)
    params = all_fine form most (variables_of m (a ∷ b ∷ c ∷ [])) 4 m.params (λ k o is. ap (slice_get (variables_of m (a ∷ b ∷ c ∷ []))) (four_on k) ∙ is)

module _ (form : Form) (most : Option ℕ) (m : Method) (family : Family) (results : ℕ) (result : Value) where
  abbrev all : List (Option ℕ)
  all = variables_of m (before_call family results)

  -- the family's variables after the call
  after_fine : IsFine form most (variables_of m (before_call family results)) result
      → AllFine form most (variables_of m (before_call family results)) (after_call family results result)
  after_fine is = (
    put_fine form most all (results % 2 == 1) 0 (slice_get family.classes 0) result is refl,
    (
      put_fine form most all ((results / 2) % 2 == 1) 1 (slice_get family.classes 1) result is refl,
      (put_fine form most all ((results / 2 / 2) % 2 == 1) 2 (slice_get family.classes 2) result is refl, tt),
    ),
  )

pub update_asks_terms : UpdateAsksTerms
update_asks_terms form most m family results tree is =
    let all : List (Option ℕ) = variables_of m (before_call family results) in
    asks_terms form most (variables_of m (before_call family results)) (λ answers. update form most answers m family results)
    (λ answers.
    comes_on form most all (FineOutcome form most all answers) (SomeAnswer form most all)
    (called form most answers m (arguments_of m)) (λ x. cube_after form most answers x.writes (after_call family results x.result) family.cube.literals)
    (called_comes form most all answers m (arguments_of m) (arguments_fine form most m _ _ _))
    (λ x so. cube_comes form most all answers x.writes (after_call family results x.result) so.0
    (after_fine form most m family results x.result so.1) family.cube.literals))
    tree [] is

pub clause_asks_terms : ClauseAsksTerms
clause_asks_terms form most m c tree is =
    asks_terms form most (variables_of m no_family) (λ answers. fails form most answers m c)
    (λ answers. comes_on form most (variables_of m no_family) (SomeAnswer form most (variables_of m no_family))
    (SomeAnswer form most (variables_of m no_family))
    (holds form most answers (state (arguments_of m) [] 0) c) (λ b. Done (not b))
    (holds_comes form most (variables_of m no_family) answers (state (arguments_of m) [] 0) (arguments_fine form most m None None None, tt) c) (λ b any. tt))
    tree [] is
