-- Objects of names at the entry of a procedure and after its call.
use Rattle.std.proofs.Common.{◌≡◌, ◌≢◌, ℕ, zero, suc, ◌-◌, Bool, true, false, List, [], ◌∷◌, ◌++◌, map, length, refl, sym, ap, subst, ◌∙◌, arith, eqb-true}
use Rattle.std.proofs.Common.{eq-eqb, get_or-set_same, get_or-set_other}
use Rattle.std.specs.Prelude.{Option, Some, None, IfSome, slice_get, slice_index, replicate}
use Rattle.std.specs.Option.{option_map_or, unwrap_or}
use Rattle.easl_heap.specs.Heap.{Object, IsObjectOf}
use Rattle.client_facts.specs.Calls.{AtEntry, AtReturn, Remains, ReturnsAs, StandsFor, WasGiven, is_target}
use Rattle.client_facts.specs.Choices.{Choice, IsChoice, IsGiven, MayBeGiven, slots_given}
use Rattle.client_facts.specs.FactSlots.{AtSlot}
use Rattle.client_facts.specs.Names.{IsNameAt, Slots, object_in, object_named}
use Rattle.client_facts.specs.Setting.{Setting}
use Rattle.client_facts.specs.States.{IsObject, IsState}
use Rattle.client_model.specs.Codes.{Name, Result, Slot, Static, Variable, name_of}
use Rattle.client_steps.specs.States.{Call, State, entered, named, object_of, returned, set_named, variable_count, with_object}
use Rattle.walk_laws.specs.Premises.{CallFits, IsGivenAtEntry, MayBeAssigned}
use Rattle.walk_laws.proofs.Names.{name_once}

-- an object of a class is not 0
pub is_there : (heap : List Object) (class n : ℕ) → IsObjectOf heap class n → n ≢ 0
is_there heap class n object none = absurd (there (subst (IsObjectOf heap class) none object))
  where
    there : IsObjectOf heap class 0 → ⊥
    there is = absurd cc

pub inner : {A : Type 0} {x y : A} → Some x ≡ Some y → x ≡ y
inner {x = x} is = ap (λ o. unwrap_or o x) is

-- the objects of arguments
pub argument_object : (s : State) (args : List (Option ℕ)) (rest : List ℕ) (number a : ℕ) → slice_get args number ≡ Some (Some a) →
    slice_index (map (object_of s) args ++ rest) number ≡ object_of s (Some a)
argument_object s [] rest number a is = absurd cc
argument_object s (x ∷ args) rest zero a is = ap (object_of s) (inner is)
argument_object s (x ∷ args) rest (suc number) a is = argument_object s args rest number a is

pub plain_object : (g : Setting) (p : ℕ) (s : State) (slots : Slots) (class : ℕ) (x : Name) → MayBeAssigned g p x → object_named s slots class x ≡ named s x
plain_object g p s slots class (Static k) may = refl
plain_object g p s slots class (Variable j) may = refl
plain_object g p s slots class (Slot j) may = absurd may
plain_object g p s slots class (Result j) may = absurd may

module _ (g : Setting) (p n m : ℕ) (k : Call) (fits : CallFits g p n k m) (c : Choice) where
  -- at the entry a name has the object of the one that it stands for
  pub entry_object : (s : State) (slots : Slots) (class a b : ℕ) → AtEntry c k class a b → IsNameAt g k.callee 0 class b →
      object_in s slots class a ≡ object_in (entered g.client k s) (slots_given c s slots) class b
  entry_object s slots class a b at named = of_name (name_of b) refl at (fits.entry class b named)
    where
      of_name : (x : Name) → name_of b ≡ x → StandsFor c k class a b x → IsGivenAtEntry g p n k class b x →
          object_in s slots class a ≡ object_named (entered g.client k s) (slots_given c s slots) class x
      of_name (Static number) is stands given =
          ap (λ code. object_in s slots class code) (sym stands) ∙ ap (object_named s slots class) is
      of_name (Variable number) is stands given =
          let same : given.0 ≡ a = inner (inner (sym given.1 ∙ stands)) in
          let may : MayBeAssigned g p (name_of a) = subst (λ code. MayBeAssigned g p (name_of code)) same given.2.kind in
          plain_object g p s slots class (name_of a) may
          ∙ sym (argument_object s k.args (replicate (variable_count g.client k.callee - length k.args) 0) number a stands)
      of_name (Slot number) is stands given = sym (ap (λ o. option_map_or (object_in s slots class) o 0) stands)
      of_name (Result number) is stands given = absurd stands

pub assign_same : (g : Setting) (p : ℕ) (s : State) (slots : Slots) (class object : ℕ) (x : Name) → length s.statics ≡ length g.client.statics →
    length s.variables ≡ variable_count g.client p → MayBeAssigned g p x → object_named (set_named x object s) slots class x ≡ object
assign_same g p s slots class object (Static k) statics variables may = get_or-set_same s.statics k object 0 (omega arith)
assign_same g p s slots class object (Variable j) statics variables may = get_or-set_same s.variables j object 0 (omega arith)
assign_same g p s slots class object (Slot j) statics variables may = absurd may
assign_same g p s slots class object (Result j) statics variables may = absurd may

assign_named_other : (g : Setting) (p : ℕ) (s : State) (slots : Slots) (class object : ℕ) (x y : Name) → MayBeAssigned g p x → x ≢ y →
    object_named (set_named x object s) slots class y ≡ object_named s slots class y
assign_named_other g p s slots class object (Static k) (Static l) may other = get_or-set_other s.statics k l object 0 (λ is. other (ap Static (sym is)))
assign_named_other g p s slots class object (Static k) (Variable j) may other = refl
assign_named_other g p s slots class object (Static k) (Slot j) may other = refl
assign_named_other g p s slots class object (Static k) (Result j) may other = refl
assign_named_other g p s slots class object (Variable j) (Static k) may other = refl
assign_named_other g p s slots class object (Variable j) (Variable l) may other = get_or-set_other s.variables j l object 0 (λ is. other (ap Variable (sym is)))
assign_named_other g p s slots class object (Variable j) (Slot l) may other = refl
assign_named_other g p s slots class object (Variable j) (Result l) may other = refl
assign_named_other g p s slots class object (Slot j) y may other = absurd may
assign_named_other g p s slots class object (Result j) y may other = absurd may

pub assign_other : (g : Setting) (p : ℕ) (s : State) (slots : Slots) (class object code : ℕ) (target : Option ℕ) →
    IfSome target (λ x. MayBeAssigned g p (name_of x)) → target ≢ Some code → object_in (with_object target object s) slots class code ≡ object_in s slots
    class code
assign_other g p s slots class object code None may other = refl
assign_other g p s slots class object code (Some x) may other =
    assign_named_other g p s slots class object (name_of x) (name_of code) may (λ is. other (ap Some (name_once x code is)))

assign_named_heap : (x : Name) (object : ℕ) (s : State) → (set_named x object s).heap ≡ s.heap
assign_named_heap (Static k) object s = refl
assign_named_heap (Variable j) object s = refl
assign_named_heap (Slot j) object s = refl
assign_named_heap (Result j) object s = refl

pub assign_heap : (target : Option ℕ) (object : ℕ) (s : State) → (with_object target object s).heap ≡ s.heap
assign_heap None object s = refl
assign_heap (Some x) object s = assign_named_heap (name_of x) object s

pub returned_heap : (k : Call) (u v : State) → (returned k u v).heap ≡ v.heap
returned_heap k u v = assign_heap k.target v.result (record u { heap = v.heap; statics = v.statics })

pub target_is : (target : Option ℕ) (code : ℕ) → is_target target code ≡ true → target ≡ Some code
target_is None code is = absurd cc
target_is (Some x) code is = ap Some (eqb-true x code is)

pub target_not : (target : Option ℕ) (code : ℕ) → is_target target code ≡ false → target ≢ Some code
target_not target code is same = clash (ap (λ t. is_target t code) same ∙ eq-eqb code code refl)
  where
    apart : false ≡ true → ⊥
    apart e = absurd cc

    clash : is_target target code ≡ true → ⊥
    clash so = absurd (apart (sym is ∙ so))

module _ (g : Setting) (p n m : ℕ) (k : Call) (fits : CallFits g p n k m) (c : Choice) (u v : State) (slots : Slots)
    (statics : length v.statics ≡ length g.client.statics) (variables : length u.variables ≡ variable_count g.client p) where
  -- after the call a name has the object of the one that it stands for
  pub return_object : (class a b : ℕ) → AtReturn c k class a b → object_in (returned k u v) slots class a ≡ object_in v (slots_given c u slots) class b
  return_object class a b at = of_test (is_target k.target a) refl at
    where
      base : State
      base = record u { heap = v.heap; statics = v.statics }

      given : Slots
      given = slots_given c u slots

      was_given : (y : Name) → WasGiven c class a y → object_in u slots class a ≡ object_named v (slots_given c u slots) class y
      was_given (Static number) was = absurd was
      was_given (Variable number) was = absurd was
      was_given (Slot number) was = sym (ap (λ o. option_map_or (object_in u slots class) o 0) was)
      was_given (Result number) was = absurd was

      of_name : (x : Name) → name_of a ≡ x → Remains c class a b x →
          object_named (record u { heap = v.heap; statics = v.statics }) slots class x ≡ object_in v (slots_given c u slots) class b
      of_name (Static number) is remains =
          sym (ap (λ code. object_in v (slots_given c u slots) class code) remains ∙ ap (object_named v (slots_given c u slots) class) is)
      of_name (Variable number) is remains = sym (ap (object_named u slots class) is) ∙ was_given (name_of b) remains
      of_name (Slot number) is remains = sym (ap (object_named u slots class) is) ∙ was_given (name_of b) remains
      of_name (Result number) is remains = absurd remains

      of_test : (t : Bool) → is_target k.target a ≡ t → ReturnsAs c class a b t →
          object_in (returned k u v) slots class a ≡ object_in v (slots_given c u slots) class b
      of_test true is at =
          let target : k.target ≡ Some a = target_is k.target a is in
          let may : MayBeAssigned g p (name_of a) = subst (λ t. IfSome t (λ x. MayBeAssigned g p (name_of x))) target fits.target in
          ap (λ t. object_in (with_object t v.result (record u { heap = v.heap; statics = v.statics })) slots class a) target
          ∙ assign_same g p (record u { heap = v.heap; statics = v.statics }) slots class v.result (name_of a) statics variables may
          ∙ sym (ap (λ code. object_in v (slots_given c u slots) class code) at)
      of_test false is at =
          assign_other g p (record u { heap = v.heap; statics = v.statics }) slots class v.result a k.target fits.target (target_not k.target a is)
          ∙ of_name (name_of a) refl at

-- a slot that was given a name which has an object, where it is a slot
pub given_filled : (g : Setting) (p n : ℕ) (c : Choice) (u : State) (slots : Slots) → IsState g p n u slots → IsChoice g p n c → (class number a : ℕ) →
    c class number ≡ Some a → AtSlot (λ class number. slots class number ≢ 0) class (name_of a) → slots_given c u slots class number ≢ 0
given_filled g p n c u slots state choice class number a is at none =
    let given : IsGiven g p n class number a = choice.given class number a is in
    of_name (name_of a) refl given.kind at (state.objects class a given.named) (sym (ap (λ o. option_map_or (object_in u slots class) o 0) is) ∙ none)
  where
    of_name : (x : Name) → name_of a ≡ x → MayBeGiven x → AtSlot (λ class number. slots class number ≢ 0) class x →
        IsObject u.heap class (object_in u slots class a) x → object_in u slots class a ≡ 0 → ⊥
    of_name (Static j) named kind at object none = absurd kind
    of_name (Variable j) named kind at object none = is_there u.heap class (object_in u slots class a) object none
    of_name (Slot j) named kind at object none = at (sym (ap (object_named u slots class) named) ∙ none)
    of_name (Result j) named kind at object none = absurd kind
