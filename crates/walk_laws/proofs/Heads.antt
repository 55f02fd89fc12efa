-- The first three variables of an update question: those of the family, but for the positions of the result.
use Rattle.std.proofs.Common.{◌≡◌, ◌≢◌, ◌∙◌, ℕ, zero, suc, ◌+◌, ◌*◌, ◌/◌, ◌%◌, ◌<◌, ◌≤◌, ◌==◌, ◌&&◌, ◌||◌, not, Bool, true, false, List, [], ◌∷◌}
use Rattle.std.proofs.Common.{◌++◌, ap, arith, eq-eqb, length, map, refl, subst, sym}
use Rattle.std.specs.Prelude.{Option, Some, None, IfSome, if◌then◌else◌, slice_get, slice_index}
use Rattle.std.specs.List.{AllZip}
use Rattle.std.specs.Option.{option_map_or}
use Rattle.access_paths.specs.{put}
use Rattle.client_facts.specs.Calls.{is_target}
use Rattle.client_facts.specs.FactSlots.{AtSlot}
use Rattle.client_facts.specs.Facts.{objects_by}
use Rattle.client_facts.specs.Flows.{positions}
use Rattle.client_facts.specs.Names.{IsNameAt, Slots, object_in, object_named}
use Rattle.client_facts.specs.Setting.{Setting}
use Rattle.client_facts.specs.States.{IsObject, IsState}
use Rattle.client_model.specs.Codes.{Name, Result, Slot, Static, Variable, name_of}
use Rattle.client_steps.specs.States.{State, with_object}
use Rattle.easl_heap.specs.{Object}
use Rattle.easl_model.specs.declared.form.Method.{Method}
use Rattle.method_abstraction.specs.Asking.{gives, so_at}
use Rattle.walk_laws.specs.Points.{ResultFits}
use Rattle.walk_laws.specs.Premises.{MayBeAssigned}
use Rattle.walk_laws.proofs.Assigned.{same_named}
use Rattle.walk_laws.proofs.Objects.{assign_other, assign_same, is_there, target_is, target_not}
use Rattle.walk_laws.proofs.Questions.{StandsIn, object_by, objects_for}

-- the first of a list, None where it has none
abbrev pub heads : ℕ → List ℕ → List (Option ℕ)
heads zero xs = []
heads (suc k) [] = None ∷ heads k []
heads (suc k) (x ∷ xs) = Some x ∷ heads k xs

pub heads_three : (xs : List ℕ) → heads 3 xs ≡ slice_get xs 0 ∷ slice_get xs 1 ∷ slice_get xs 2 ∷ []
heads_three [] = refl
heads_three (x ∷ []) = refl
heads_three (x ∷ y ∷ []) = refl
heads_three (x ∷ y ∷ z ∷ xs) = refl

-- the positions of a name, bit by bit
bit_is : (b : Bool) (k : ℕ) → (((if b then 1 else 0) + 2 * k) % 2 == 1) ≡ b
bit_is true k = eq-eqb ((1 + 2 * k) % 2) 1 (omega arith)
bit_is false k = grind arith

rest_is : (b : Bool) (k : ℕ) → ((if b then 1 else 0) + 2 * k) / 2 ≡ k
rest_is true k = omega arith
rest_is false k = omega arith

bit : (target : Option ℕ) (a : ℕ) (args : List ℕ) → (positions target (a ∷ args) % 2 == 1) ≡ is_target target a
bit None a args = refl
bit (Some x) a args = bit_is (x == a) (positions (Some x) args)

rest : (target : Option ℕ) (a : ℕ) (args : List ℕ) → positions target (a ∷ args) / 2 ≡ positions target args
rest None a args = refl
rest (Some x) a args = rest_is (x == a) (positions (Some x) args)

bit_of : (target : Option ℕ) (a : ℕ) (args : List ℕ) (r : ℕ) → r ≡ positions target (a ∷ args) → (r % 2 == 1) ≡ is_target target a
bit_of target a args r is = ap (λ q. q % 2 == 1) is ∙ bit target a args

rest_of : (target : Option ℕ) (a : ℕ) (args : List ℕ) (r : ℕ) → r ≡ positions target (a ∷ args) → r / 2 ≡ positions target args
rest_of target a args r is = ap (λ q. q / 2) is ∙ rest target a args

one_bit : (b : Bool) → (if b then 1 else 0) < 2
one_bit true = omega arith
one_bit false = omega arith

pub few_positions : (target : Option ℕ) (args : List ℕ) → length args ≤ 3 → positions target args < 8
few_positions None args few = omega arith
few_positions (Some x) [] few = omega arith
few_positions (Some x) (a ∷ []) few = omega (arith, one_bit (x == a))
few_positions (Some x) (a ∷ b ∷ []) few = omega (arith, one_bit (x == a), one_bit (x == b))
few_positions (Some x) (a ∷ b ∷ c ∷ []) few = omega (arith, one_bit (x == a), one_bit (x == b), one_bit (x == c))
few_positions (Some x) (a ∷ b ∷ c ∷ d ∷ args) few = absurd (omega (arith, few))

-- a name that has an object if it is a slot has one
some_object : (s : State) (slots : Slots) (class : ℕ) (x : Name) → IsObject s.heap class (object_named s slots class x) x →
    AtSlot (λ class number. slots class number ≢ 0) class x → object_named s slots class x ≢ 0
some_object s slots class (Static k) is some = is_there s.heap class (object_named s slots class (Static k)) is
some_object s slots class (Variable j) is some = is_there s.heap class (object_named s slots class (Variable j)) is
some_object s slots class (Slot j) is some = some
some_object s slots class (Result j) is some = is_there s.heap class (object_named s slots class (Result j)) is

-- in a state of the point the names of a fact whose slots have objects have objects
pub have_objects : (g : Setting) (p n : ℕ) (s : State) (slots : Slots) → IsState g p n s slots → (classes args : List ℕ) →
    AllZip (IsNameAt g p n) classes args → AllZip (λ class code. AtSlot (λ class number. slots class number ≢ 0) class (name_of code)) classes args →
    AllZip (λ class code. object_in s slots class code ≢ 0) classes args
have_objects g p n s slots state [] [] names filled = tt
have_objects g p n s slots state [] (a ∷ args) names filled = absurd names
have_objects g p n s slots state (class ∷ classes) [] names filled = absurd names
have_objects g p n s slots state (class ∷ classes) (a ∷ args) names filled =
    (some_object s slots class (name_of a) (state.objects class a names.0) filled.0, have_objects g p n s slots state classes args names.1 filled.1)

module _ (g : Setting) (p n m : ℕ) (target : Option ℕ) (method : Method) (fits : ResultFits g p n m target method) where
  none_given : (k : ℕ) → so_at 0 (map (gives method) (heads k [])) ≡ true
  none_given zero = refl
  none_given (suc k) = none_given k

  nowhere : (t : Option ℕ) → positions t [] ≡ 0
  nowhere None = refl
  nowhere (Some x) = refl

  -- the result may stand at the positions of the name that takes it
  pub may_be_at : (k : ℕ) (classes args : List ℕ) → AllZip (IsNameAt g p m) classes args → (r : ℕ) → r ≡ positions target args →
      so_at r (map (gives method) (heads k classes)) ≡ true
  may_be_at zero classes args names r is = refl
  may_be_at (suc k) [] [] names r is = subst (λ q. so_at q (map (gives method) (heads (suc k) [])) ≡ true) (sym (is ∙ nowhere target)) (none_given (suc k))
  may_be_at (suc k) [] (a ∷ args) names r is = absurd names
  may_be_at (suc k) (class ∷ classes) [] names r is = absurd names
  may_be_at (suc k) (class ∷ classes) (a ∷ args) names r is =
      let later = may_be_at k classes args names.1 (r / 2) (rest_of target a args r is) in
      let first : (not (r % 2 == 1) || gives method (Some class)) ≡ true =
      subst (λ b. (not b || gives method (Some class)) ≡ true) (sym (bit_of target a args r is)) (here (is_target target a) refl)
      in
      λ i. first i && later i
    where
      here : (b : Bool) → is_target target a ≡ b → (not b || gives method (Some class)) ≡ true
      here true at =
          ap (λ o. option_map_or (λ result. result == class) o false) (fits.result class a (target_is target a at) names.0) ∙ eq-eqb class class refl
      here false at = refl

  module _ (s : State) (slots : Slots) (state : IsState g p n s slots) where
    none_stand : (k r : ℕ) → AllZip (StandsIn g p n s slots) (put r None (heads k [])) (put r None (heads k []))
    none_stand zero r = tt
    none_stand (suc k) r = (of_test (r % 2 == 1), none_stand k (r / 2))
      where
        of_test : (b : Bool) → StandsIn g p n s slots (if b then None else None) (if b then None else None)
        of_test true = refl
        of_test false = refl

    -- what stands there has objects
    pub heads_stand : (k : ℕ) (classes args : List ℕ) → AllZip (IsNameAt g p m) classes args →
        AllZip (λ class code. AtSlot (λ class number. slots class number ≢ 0) class (name_of code)) classes args → (r : ℕ) → r ≡ positions target args →
        AllZip (StandsIn g p n s slots) (put r None (heads k classes)) (put r None (heads k args))
    heads_stand zero classes args names filled r is = tt
    heads_stand (suc k) [] [] names filled r is = none_stand (suc k) r
    heads_stand (suc k) [] (a ∷ args) names filled r is = absurd names
    heads_stand (suc k) (class ∷ classes) [] names filled r is = absurd names
    heads_stand (suc k) (class ∷ classes) (a ∷ args) names filled r is = (
      subst (λ b. StandsIn g p n s slots (if b then None else Some class) (if b then None else Some a)) (sym (bit_of target a args r is))
          (here (is_target target a) refl),
      heads_stand k classes args names.1 filled.1 (r / 2) (rest_of target a args r is),
    )
      where
        here : (b : Bool) → is_target target a ≡ b → StandsIn g p n s slots (if b then None else Some class) (if b then None else Some a)
        here true at = refl
        here false at =
            let named : IsNameAt g p n class a = fits.after class a names.0 (target_not target a at) in
            (a, refl, named, some_object s slots class (name_of a) (state.objects class a named) filled.0)

    -- the objects of the family after the call
    module _ (left : List Object) (result : ℕ) (others names_behind : List (Option ℕ)) where
      pub objects_placed : (k : ℕ) (classes args : List ℕ) → AllZip (IsNameAt g p m) classes args → (r : ℕ) → r ≡ positions target args →
          length classes ≤ k → (v : ℕ) → v < length classes →
          slice_index (put r result (objects_for s slots (put r None (heads k classes) ++ others) (put r None (heads k args) ++ names_behind))) v
          ≡ slice_index (objects_by (object_in (with_object target result (record s { heap = left })) slots) classes args) v
      objects_placed zero [] args names r is few v less = absurd (omega (arith, less))
      objects_placed zero (class ∷ classes) args names r is few v less = absurd (omega (arith, few))
      objects_placed (suc k) [] args names r is few v less = absurd (omega (arith, less))
      objects_placed (suc k) (class ∷ classes) [] names r is few v less = absurd names
      objects_placed (suc k) (class ∷ classes) (a ∷ args) names r is few zero less =
          subst (λ b. (if b then result else object_by s slots (if b then None else Some class) (if b then None else Some a))
          ≡ object_in (with_object target result (record s { heap = left })) slots class a) (sym (bit_of target a args r is)) (here (is_target target a) refl)
        where
          here : (b : Bool) → is_target target a ≡ b → (if b then result else object_by s slots (if b then None else Some class) (if b then None else Some a))
              ≡ object_in (with_object target result (record s { heap = left })) slots class a
          here true at =
              let is_at : target ≡ Some a = target_is target a at in
              let may : MayBeAssigned g p (name_of a) = subst (λ t. IfSome t (λ x. MayBeAssigned g p (name_of x))) is_at fits.target_is in
              sym (ap (λ t. object_in (with_object t result (record s { heap = left })) slots class a) is_at
              ∙ assign_same g p (record s { heap = left }) slots class result (name_of a) state.statics state.variables may)
          here false at =
              sym (assign_other g p (record s { heap = left }) slots class result a target fits.target_is (target_not target a at)
              ∙ same_named s left slots class (name_of a))
      objects_placed (suc k) (class ∷ classes) (a ∷ args) names r is few (suc v) less =
          objects_placed k classes args names.1 (r / 2) (rest_of target a args r is) (omega (arith, few)) v (omega (arith, less))
