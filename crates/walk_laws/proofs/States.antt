-- States at the entry of a procedure and after its call.
use Rattle.std.proofs.Common.{◌≡◌, ◌≢◌, ℕ, ◌+◌, ◌-◌, ◌≤◌, ◌⊎◌, inl, inr, Bool, true, false, List, ◌++◌, map, length, refl, sym, ap, subst, ◌∙◌, arith}
use Rattle.std.proofs.Common.{length-append, length-set, ⊎_elim}
use Rattle.std.proofs.lemmas.List.{length-map, length-replicate}
use Rattle.std.specs.Prelude.{Option, Some, None, IfSome, slice_index, replicate}
use Rattle.std.specs.Option.{option_map_or}
use Rattle.easl_heap.specs.Full.{KeepsClasses}
use Rattle.easl_heap.specs.Heap.{IsFull, IsObjectOf, Object}
use Rattle.client_facts.specs.Calls.{is_target}
use Rattle.client_facts.specs.Choices.{Choice, IsChoice, slots_given}
use Rattle.client_facts.specs.Names.{IsNameAt, Slots, no_slots, object_in, object_named}
use Rattle.client_facts.specs.Setting.{Setting, exit_of}
use Rattle.client_facts.specs.States.{IsObject, IsState}
use Rattle.client_model.specs.Codes.{Name, Result, Slot, Static, Variable, name_of, result_code}
use Rattle.client_steps.specs.States.{Call, State, entered, named, object_of, returned, set_named, variable_count, with_object}
use Rattle.walk_laws.specs.Premises.{CallFits, IsGivenAtEntry, IsLeftAfter, MayBeAssigned}
use Rattle.walk_laws.proofs.Objects.{argument_object, assign_other, assign_same, plain_object, returned_heap, target_is, target_not}

-- no slot is given a name
abbrev pub nothing_given : Choice
nothing_given class number = None

pub IsChoice-nothing : (g : Setting) (p n : ℕ) → IsChoice g p n nothing_given
IsChoice-nothing g p n = record { given = λ class number code is. absurd (empty is); once = λ class one other code is and. absurd (empty is) }
  where
    empty : {a : ℕ} → None ≡ Some a → ⊥
    empty is = absurd cc

pub plain_is : (g : Setting) (p : ℕ) (heap : List Object) (class object : ℕ) (x : Name) → MayBeAssigned g p x → IsObject heap class object x →
    IsObjectOf heap class object
plain_is g p heap class object (Static k) may is = is
plain_is g p heap class object (Variable j) may is = is
plain_is g p heap class object (Slot j) may is = absurd may
plain_is g p heap class object (Result j) may is = absurd may

is_plain : (g : Setting) (p : ℕ) (heap : List Object) (class object : ℕ) (x : Name) → MayBeAssigned g p x → IsObjectOf heap class object →
    IsObject heap class object x
is_plain g p heap class object (Static k) may is = is
is_plain g p heap class object (Variable j) may is = is
is_plain g p heap class object (Slot j) may is = absurd may
is_plain g p heap class object (Result j) may is = absurd may

one_or_none : (heap : List Object) (class object : ℕ) (x : Name) → IsObject heap class object x → (object ≡ 0) ⊎ IsObjectOf heap class object
one_or_none heap class object (Static k) is = inr is
one_or_none heap class object (Variable j) is = inr is
one_or_none heap class object (Slot j) is = is
one_or_none heap class object (Result j) is = inr is

-- an object stays one
pub stays : (old new : List Object) → KeepsClasses old new → (class object : ℕ) (x : Name) → IsObject old class object x → IsObject new class object x
stays old new keeps class object (Static k) is = keeps class object is
stays old new keeps class object (Variable j) is = keeps class object is
stays old new keeps class object (Slot j) is =
    ⊎_elim (λ (none : object ≡ 0). inl none) (λ (some : IsObjectOf old class object). inr (keeps class object some)) is
stays old new keeps class object (Result j) is = keeps class object is

module _ (g : Setting) (p n m : ℕ) (k : Call) (fits : CallFits g p n k m) (u : State) (slots : Slots) (state : IsState g p n u slots) where
  pub entered_state : (c : Choice) → IsChoice g p n c → IsState g k.callee 0 (entered g.client k u) (slots_given c u slots)
  entered_state c choice = record {
    full = state.full;
    statics = state.statics;
    variables = lengths;
    objects = λ class b named. of_name class b (name_of b) refl (fits.entry class b named);
  }
    where
      lengths : length (map (object_of u) k.args ++ replicate (variable_count g.client k.callee - length k.args) 0) ≡ variable_count g.client k.callee
      lengths =
          let few : length k.args ≤ variable_count g.client k.callee = fits.few in
          length-append (map (object_of u) k.args) (replicate (variable_count g.client k.callee - length k.args) 0)
          ∙ (λ i. length-map k.args (object_of u) i + length-replicate {A = ℕ} (variable_count g.client k.callee - length k.args) 0 i)
          ∙ omega arith

      given_object : (class : ℕ) (o : Option ℕ) → ((a : ℕ) → o ≡ Some a → IsNameAt g p n class a) →
          (option_map_or (object_in u slots class) o 0 ≡ 0) ⊎ IsObjectOf u.heap class (option_map_or (object_in u slots class) o 0)
      given_object class None names = inl refl
      given_object class (Some a) names = one_or_none u.heap class (object_in u slots class a) (name_of a) (state.objects class a (names a refl))

      of_name : (class b : ℕ) (x : Name) → name_of b ≡ x → IsGivenAtEntry g p n k class b x →
          IsObject u.heap class (object_named (entered g.client k u) (slots_given c u slots) class x) x
      of_name class b (Static number) is given = subst (λ x. IsObject u.heap class (object_named u slots class x) x) is (state.objects class b given)
      of_name class b (Variable number) is given =
          let a : ℕ = given.0 in
          let object : IsObjectOf u.heap class (object_in u slots class a) = plain_is g p u.heap class (object_in u slots class a) (name_of a) given.2.kind
          (state.objects class a given.2.named) in
          let same : object_in u slots class a ≡ slice_index (entered g.client k u).variables number = plain_object g p u slots class (name_of a) given.2.kind
          ∙ sym (argument_object u k.args (replicate (variable_count g.client k.callee - length k.args) 0) number a given.1) in
          subst (IsObjectOf u.heap class) same object
      of_name class b (Slot number) is given = given_object class (c class number) (λ a at. (choice.given class number a at).named)
      of_name class b (Result number) is given = absurd given

  module _ (v : State) (left : IsState g k.callee (exit_of g k.callee) v no_slots) (keeps : KeepsClasses u.heap v.heap) where
    pub returned_state : IsState g p m (returned k u v) slots
    returned_state = record {
      full = subst (IsFull g.form) (sym (returned_heap k u v)) left.full;
      statics = assigned_statics k.target ∙ left.statics;
      variables = assigned_variables k.target ∙ state.variables;
      objects =
          λ class a named. subst (λ heap. IsObject heap class (object_in (returned k u v) slots class a) (name_of a)) (sym (returned_heap k u v))
          (of_test class a named (is_target k.target a) refl);
    }
      where
        assigned_statics : (target : Option ℕ) →
            length (with_object target v.result (record u { heap = v.heap; statics = v.statics })).statics ≡ length v.statics
        assigned_statics None = refl
        assigned_statics (Some x) = of_name (name_of x)
          where
            of_name : (y : Name) → length (set_named y v.result (record u { heap = v.heap; statics = v.statics })).statics ≡ length v.statics
            of_name (Static number) = length-set v.statics number v.result
            of_name (Variable number) = refl
            of_name (Slot number) = refl
            of_name (Result number) = refl

        assigned_variables : (target : Option ℕ) →
            length (with_object target v.result (record u { heap = v.heap; statics = v.statics })).variables ≡ length u.variables
        assigned_variables None = refl
        assigned_variables (Some x) = of_name (name_of x)
          where
            of_name : (y : Name) → length (set_named y v.result (record u { heap = v.heap; statics = v.statics })).variables ≡ length u.variables
            of_name (Static number) = refl
            of_name (Variable number) = length-set u.variables number v.result
            of_name (Slot number) = refl
            of_name (Result number) = refl

        before : (class a : ℕ) → IsNameAt g p n class a → IsObject v.heap class (object_in u slots class a) (name_of a)
        before class a named = stays u.heap v.heap keeps class (object_in u slots class a) (name_of a) (state.objects class a named)

        left_after : (class a : ℕ) → IsNameAt g p m class a → (x : Name) → name_of a ≡ x → IsLeftAfter g p n k class a x →
            IsObject v.heap class (object_named (record u { heap = v.heap; statics = v.statics }) slots class x) x
        left_after class a named (Static number) is after =
            subst (λ x. IsObject v.heap class (object_named v no_slots class x) x) is (left.objects class a after)
        left_after class a named (Variable number) is after = subst (λ x. IsObject v.heap class (object_named u slots class x) x) is (before class a after)
        left_after class a named (Slot number) is after = subst (λ x. IsObject v.heap class (object_named u slots class x) x) is (before class a after)
        left_after class a named (Result number) is after = absurd after

        of_test : (class a : ℕ) → IsNameAt g p m class a → (t : Bool) → is_target k.target a ≡ t →
            IsObject v.heap class (object_in (returned k u v) slots class a) (name_of a)
        of_test class a named true is =
            let target : k.target ≡ Some a = target_is k.target a is in
            let may : MayBeAssigned g p (name_of a) = subst (λ t. IfSome t (λ x. MayBeAssigned g p (name_of x))) target fits.target in
            let object : object_in (returned k u v) slots class a ≡ v.result =
            ap (λ t. object_in (with_object t v.result (record u { heap = v.heap; statics = v.statics })) slots class a) target
            ∙ assign_same g p (record u { heap = v.heap; statics = v.statics }) slots class v.result (name_of a) left.statics state.variables may
            in
            is_plain g p v.heap class (object_in (returned k u v) slots class a) (name_of a) may
            (subst (IsObjectOf v.heap class) (sym object) (left.objects class result_code (fits.result class a target named)))
        of_test class a named false is =
            let other : k.target ≢ Some a = target_not k.target a is in
            let object : object_in (returned k u v) slots class a ≡ object_named (record u { heap = v.heap; statics = v.statics }) slots class (name_of a) =
            assign_other g p (record u { heap = v.heap; statics = v.statics }) slots class v.result a k.target fits.target other in
            subst (λ o. IsObject v.heap class o (name_of a)) (sym object) (left_after class a named (name_of a) refl (fits.after class a named other))
