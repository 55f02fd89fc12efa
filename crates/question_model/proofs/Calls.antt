-- A method on symbolic values follows the method on the heap.
use Rattle.std.proofs.Common.{inl, inr, ◌≡◌, ℕ, zero, suc, ◌+◌, Bool, true, false, List, [], ◌∷◌, length, map, Option, Some, None, slice_get, slice_index, arith, refl, ap, sym, subst, ◌∙◌}
use Rattle.std.specs.Prelude.{◌⊎◌}
use Rattle.std.specs.List.{AllZip}
use Rattle.easl_model.specs.Form.{Form}
use Rattle.easl_model.specs.{statements_of}
use Rattle.easl_model.specs.declared.form.Method.{Method}
use Rattle.easl_heap.specs.Body as told
use Rattle.easl_heap.specs.{IsFull, IsGiven, IsObjectOf, Object}
use Rattle.easl_heap.proofs.Called.{constructor_called, method_called}
use Rattle.access_paths.specs.{AreObjects, IsTermOf, arguments_in, term, variables_of}
use Rattle.question_model.specs.{Done, Outcome, arguments_of, called, made, returned, run, state, variable, ◌>>=◌}
use Rattle.question_model.specs.Questions as told_of
use Rattle.question_model.specs.declared.answer.Answer.{Answer}
use Rattle.question_model.specs.declared.value.Value.{Value}
use Rattle.question_model.proofs.Asking.{Agree, bound}
use Rattle.question_model.proofs.Following.{Follows, Leaves}
use Rattle.easl_heap.proofs.Reading.{full_wide}
use Rattle.question_model.proofs.Meaning.{AllGood, Matches, Start, denote}
use Rattle.question_model.proofs.Steps.{made_so, returned_so, run_so}

-- the variables that have objects have objects of their classes
given_at : (heap : List Object) (vs : List (Option ℕ)) (ns : List ℕ) → AllZip (IsGiven heap) vs ns
    → (n class : ℕ) → slice_get vs n ≡ Some (Some class) → IsObjectOf heap class (slice_index ns n)
given_at heap [] ns are n class at = absurd (cc)
given_at heap (v ∷ vs) [] are n class at = absurd are
given_at heap (v ∷ vs) (x ∷ ns) are zero class at =
    let e : v ≡ Some class = cc in
    subst (λ o. IsGiven heap o x) e are.0
given_at heap (v ∷ vs) (x ∷ ns) are (suc n) class at = given_at heap vs ns are.1 n class at

pub starts : (form : Form) (variables : List (Option ℕ)) (before : List Object) (objects : List ℕ) → IsFull form before
    → AreObjects before variables objects → Start form variables before objects
starts form variables before objects full are = record { full = full; given = given_at before variables objects are }

module _ (form : Form) (variables : List (Option ℕ)) (before : List Object) (objects : List ℕ) where
  -- the variables numbered from n on have these classes and objects
  pub parameters_are : (n : ℕ) (ps : List (Option ℕ)) (ns : List ℕ) → AllZip (IsGiven before) ps ns
      → ((k : ℕ) → slice_index objects (n + k) ≡ slice_index ns k) → ns ≡ map (denote before objects) (told_of.variables n ps)
  parameters_are n [] [] zip at = refl
  parameters_are n [] (x ∷ ns) zip at = absurd zip
  parameters_are n (p ∷ ps) [] zip at = absurd zip
  parameters_are n (None ∷ ps) (x ∷ ns) zip at =
      λ i. zip.0 i ∷ parameters_are (suc n) ps ns zip.1 (λ k. let e : suc n + k ≡ n + suc k = omega arith in ap (slice_index objects) e ∙ at (suc k)) i
  parameters_are n (Some class ∷ ps) (x ∷ ns) zip at =
      let here : x ≡ slice_index objects n = let e : n + 0 ≡ n = omega arith in sym (at 0) ∙ ap (slice_index objects) e in
      λ i. here i ∷ parameters_are (suc n) ps ns zip.1 (λ k. let e : suc n + k ≡ n + suc k = omega arith in ap (slice_index objects) e ∙ at (suc k)) i

  variable_good : (n class : ℕ) → slice_get variables n ≡ Some (Some class) → IsTermOf form variables (term n []) class
  variable_good n class at = record { start = class; variable = at; leads = refl }

  pub parameters_good : (n : ℕ) (ps : List (Option ℕ))
      → ((k class : ℕ) → slice_get ps k ≡ Some (Some class) → slice_get variables (n + k) ≡ Some (Some class))
      → AllGood form variables before objects before (told_of.variables n ps)
  parameters_good n [] at = tt
  parameters_good n (None ∷ ps) at =
      (tt, parameters_good (suc n) ps (λ k class is. let e : suc n + k ≡ n + suc k = omega arith in ap (slice_get variables) e ∙ at (suc k) class is))
  parameters_good n (Some class ∷ ps) at = (
    variable_good n class (let e : n ≡ n + 0 = omega arith in ap (slice_get variables) e ∙ at 0 class refl),
    parameters_good (suc n) ps (λ k other is. let e : suc n + k ≡ n + suc k = omega arith in ap (slice_get variables) e ∙ at (suc k) other is),
  )

pub decided : (b : Bool) → (b ≡ true) ⊎ (b ≡ false)
decided true = inl refl
decided false = inr refl

-- before the call nothing is written
pub start_matches : (form : Form) (variables : List (Option ℕ)) (before : List Object) (objects : List ℕ) → Start form variables before objects
    → Matches form variables before objects [] 0 before
start_matches form variables before objects start = record {
  made = omega arith;
  kept = λ c k is. is;
  wide = full_wide form before start.full;
  good = tt;
  fields = λ n p. refl;
}

-- the slots with which a call begins
pub record Begins (form : Form) (m : Method) (xs : List (Option ℕ)) (before : List Object) (objects : List ℕ) : Type 0 where
  pub are : arguments_in m objects ≡ map (denote before objects) (arguments_of m)
  pub good : AllGood form (variables_of m xs) before objects before (arguments_of m)

pub four_on : (k : ℕ) → 4 + k ≡ suc (suc (suc (suc k)))
four_on k = omega arith

pub constructor_arguments : (m : Method) → m.constructor ≡ true → arguments_of m ≡ told_of.variables 4 m.params
constructor_arguments m is = rw is refl

pub method_arguments : (m : Method) → m.constructor ≡ false
    → arguments_of m ≡ variable 3 (Some m.class) ∷ told_of.variables 4 m.params
method_arguments m is = rw is refl

constructor_objects : (m : Method) (x y z this : ℕ) (params : List ℕ) → m.constructor ≡ true
    → arguments_in m (x ∷ y ∷ z ∷ this ∷ params) ≡ params
constructor_objects m x y z this params is = rw is refl

method_objects : (m : Method) (x y z this : ℕ) (params : List ℕ) → m.constructor ≡ false
    → arguments_in m (x ∷ y ∷ z ∷ this ∷ params) ≡ this ∷ params
method_objects m x y z this params is = rw is refl

pub receiver_at : (m : Method) (a b c : Option ℕ) → m.constructor ≡ false
    → slice_get (variables_of m (a ∷ b ∷ c ∷ [])) 3 ≡ Some (Some m.class)
receiver_at m a b c is = rw is refl

module _ (form : Form) (m : Method) (a b c : Option ℕ) (before : List Object) (x y z this : ℕ) (ps : List ℕ)
    (are : AllZip (IsGiven before) m.params ps) where
  abbrev all : List (Option ℕ)
  all = variables_of m (a ∷ b ∷ c ∷ [])

  abbrev objects : List ℕ
  objects = x ∷ y ∷ z ∷ this ∷ ps

  params : ps ≡ map (denote before objects) (told_of.variables 4 m.params)
  params = parameters_are form all before objects 4 m.params ps are (λ k. ap (slice_index objects) (four_on k))

  good : AllGood form all before objects before (told_of.variables 4 m.params)
  good = parameters_good form all before objects 4 m.params (λ k class is. ap (slice_get all) (four_on k) ∙ is)

  begins_at : Begins form m (a ∷ b ∷ c ∷ []) before objects
  begins_at =
      elim (decided m.constructor) [
        | inl is ↦ record {
          are = constructor_objects m x y z this ps is ∙ params ∙ ap (map (denote before objects)) (sym (constructor_arguments m is));
          good = subst (AllGood form all before objects before) (sym (constructor_arguments m is)) good;
        }
        | inr is ↦ record {
          are = method_objects m x y z this ps is ∙ ap (λ ns. this ∷ ns) params ∙ ap (map (denote before objects)) (sym (method_arguments m is));
          good = subst (AllGood form all before objects before) (sym (method_arguments m is))
              (variable_good form all before objects 3 m.class (receiver_at m a b c is), good);
        }
      ]

pub begins : (form : Form) (m : Method) (a b c : Option ℕ) (before : List Object) (objects : List ℕ)
    → AreObjects before (variables_of m (a ∷ b ∷ c ∷ [])) objects → Begins form m (a ∷ b ∷ c ∷ []) before objects
begins form m a b c before [] are = absurd are
begins form m a b c before (x ∷ []) are = absurd are.1
begins form m a b c before (x ∷ y ∷ []) are = absurd are.1.1
begins form m a b c before (x ∷ y ∷ z ∷ []) are = absurd are.1.1.1
begins form m a b c before (x ∷ y ∷ z ∷ this ∷ ps) are = begins_at form m a b c before x y z this ps are.1.1.1.1

module _ (form : Form) (variables : List (Option ℕ)) (before : List Object) (objects : List ℕ) (start : Start form variables before objects)
    (most : Option ℕ) (answers : List Answer) (agree : Agree before objects answers) where
  constructor_so : (m : Method) (args : List Value) → AllGood form variables before objects before args → m.constructor ≡ true → (x : Outcome)
      → made form most answers (length form.classes) m.class args [] 0 ≡ Done x
      → Leaves form variables before objects x before (told.called form m (map (denote before objects) args) before)
  constructor_so m args good is x done =
      subst (Leaves form variables before objects x before) (sym (constructor_called form m (map (denote before objects) args) before is))
      (made_so form variables before objects start most answers agree (length form.classes) m.class args [] 0 before 0 x
      (start_matches form variables before objects start) good done)

  method_so : (m : Method) (args : List Value) → AllGood form variables before objects before args → m.constructor ≡ false → (x : Outcome)
      → (run form most answers (made form most answers (length form.classes)) (statements_of m.body) (state args [] 0)
      >>= (λ s. returned form most answers (made form most answers (length form.classes)) m.value s)) ≡ Done x
      → Leaves form variables before objects x before (told.called form m (map (denote before objects) args) before)
  method_so m args good is x done =
      let make = made form most answers (length form.classes) in
      let real : told.Making = told.made form (length form.classes) in
      let sims = made_so form variables before objects start most answers agree (length form.classes) in
      let begun : told.Moment = told.moment before (map (denote before objects) args) 0 in
      let f : Follows form variables before objects (state args [] 0) before (map (denote before objects) args) = record {
        matches = start_matches form variables before objects start;
        slots_are = refl;
        good = good;
      } in
      let two = bound (run form most answers make (statements_of m.body) (state args [] 0)) (λ s. returned form most answers make m.value s) x done in
      let ran = run_so form variables before objects start most answers agree make real sims (statements_of m.body) (state args [] 0) begun f two.0 two.1 in
      let last : told.Moment = told.run real (statements_of m.body) begun in
      let l = returned_so form variables before objects start most answers agree make real sims two.0 last ran.0 m.value x two.2 in
      subst (Leaves form variables before objects x before) (sym (method_called form m (map (denote before objects) args) before is))
      (record { matches = l.matches; kept = λ c k was. l.kept c k (ran.1 c k was); good = l.good; result = l.result })

  pub called_so : (m : Method) (args : List Value) → AllGood form variables before objects before args → (x : Outcome)
      → called form most answers m args ≡ Done x → Leaves form variables before objects x before (told.called form m (map (denote before objects) args) before)
  called_so m args good x done =
      elim (decided m.constructor) [
        | inl is ↦ constructor_so m args good is x (rw is at done)
        | inr is ↦ method_so m args good is x (rw is at done)
      ]
