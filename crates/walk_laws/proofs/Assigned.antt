-- States after an object was assigned, and exactness over what is done between two states.
use Rattle.std.proofs.Common.{◌≡◌, ◌≢◌, ℕ, Bool, true, false, List, length, refl, sym, ap, subst, ◌∙◌, arith}
use Rattle.std.proofs.Common.{eqb-true, length-set, get_or-set_same, get_or-set_other}
use Rattle.std.specs.Prelude.{◌==◌, Option, Some, None, IfSome}
use Rattle.client_facts.specs.FactSlots.{HasSlot, IsFilled}
use Rattle.client_facts.specs.Facts.{Holds, IsFact}
use Rattle.client_facts.specs.Flows.{FollowsDone}
use Rattle.client_facts.specs.Names.{IsNameAt, MayStand, Slots, object_in, object_named}
use Rattle.client_facts.specs.Setting.{Setting}
use Rattle.client_facts.specs.States.{IsObject, IsState}
use Rattle.client_facts.specs.declared.fact.Fact.{Fact}
use Rattle.client_facts.specs.declared.fact.Fact.TheVariants.{Of}
use Rattle.client_model.specs.Codes.{Name, Result, Slot, Static, Variable, name_of}
use Rattle.client_model.specs.declared.form.Point.{Point}
use Rattle.client_model.specs.declared.form.Point.TheVariants as point
use Rattle.client_steps.specs.Deeds.{Did, done}
use Rattle.client_steps.specs.States.{State, set_named, variable_count, with_object}
use Rattle.easl_heap.specs.Full.{KeepsClasses}
use Rattle.easl_heap.specs.Heap.{IsFull, IsObjectOf, Object}
use Rattle.walk_laws.specs.Points.{CalledFits, IsAssignable, KeepsNames}
use Rattle.walk_laws.specs.Premises.{MayBeAssigned}
use Rattle.walk_laws.proofs.Names.{name_once}
use Rattle.walk_laws.proofs.Objects.{assign_heap, target_not}
use Rattle.walk_laws.proofs.States.{stays}

-- the object that is assigned, and the others
pub assign_gives : (g : Setting) (p : ℕ) (s : State) (slots : Slots) (class object : ℕ) (x : Name) → length s.statics ≡ length g.client.statics →
    length s.variables ≡ variable_count g.client p → IsAssignable g p x → object_named (set_named x object s) slots class x ≡ object
assign_gives g p s slots class object (Static k) statics variables may = get_or-set_same s.statics k object 0 (omega arith)
assign_gives g p s slots class object (Variable j) statics variables may = get_or-set_same s.variables j object 0 (omega arith)
assign_gives g p s slots class object (Slot j) statics variables may = absurd may
assign_gives g p s slots class object (Result j) statics variables may = refl

pub assign_leaves : (g : Setting) (p m : ℕ) (s : State) (slots : Slots) (class object code : ℕ) (x y : Name) → IsAssignable g p x →
    MayStand g p m class code y → x ≢ y → object_named (set_named x object s) slots class y ≡ object_named s slots class y
assign_leaves g p m s slots class object code (Static k) (Static l) may named other = get_or-set_other s.statics k l object 0 (λ is. other (ap Static (sym is)))
assign_leaves g p m s slots class object code (Static k) (Variable j) may named other = refl
assign_leaves g p m s slots class object code (Static k) (Slot j) may named other = refl
assign_leaves g p m s slots class object code (Static k) (Result j) may named other = refl
assign_leaves g p m s slots class object code (Variable j) (Static k) may named other = refl
assign_leaves g p m s slots class object code (Variable j) (Variable l) may named other =
    get_or-set_other s.variables j l object 0 (λ is. other (ap Variable (sym is)))
assign_leaves g p m s slots class object code (Variable j) (Slot l) may named other = refl
assign_leaves g p m s slots class object code (Variable j) (Result l) may named other = refl
assign_leaves g p m s slots class object code (Slot j) y may named other = absurd may
assign_leaves g p m s slots class object code (Result j) (Static k) may named other = refl
assign_leaves g p m s slots class object code (Result j) (Variable l) may named other = refl
assign_leaves g p m s slots class object code (Result j) (Slot l) may named other = refl
assign_leaves g p m s slots class object code (Result j) (Result l) may named other = absurd (other (ap Result (may ∙ sym named.0)))

pub may_assign : (g : Setting) (p : ℕ) (x : Name) → MayBeAssigned g p x → IsAssignable g p x
may_assign g p (Static k) may = may
may_assign g p (Variable j) may = may
may_assign g p (Slot j) may = may
may_assign g p (Result j) may = absurd may

-- a name that is assigned has an object
one_object : (g : Setting) (p : ℕ) (heap : List Object) (class object : ℕ) (x : Name) → IsAssignable g p x → IsObjectOf heap class object →
    IsObject heap class object x
one_object g p heap class object (Static k) may is = is
one_object g p heap class object (Variable j) may is = is
one_object g p heap class object (Slot j) may is = absurd may
one_object g p heap class object (Result j) may is = is

statics_stay : (x : Name) (object : ℕ) (s : State) → length (set_named x object s).statics ≡ length s.statics
statics_stay (Static k) object s = length-set s.statics k object
statics_stay (Variable j) object s = refl
statics_stay (Slot j) object s = refl
statics_stay (Result j) object s = refl

variables_stay : (x : Name) (object : ℕ) (s : State) → length (set_named x object s).variables ≡ length s.variables
variables_stay (Static k) object s = refl
variables_stay (Variable j) object s = length-set s.variables j object
variables_stay (Slot j) object s = refl
variables_stay (Result j) object s = refl

pub same_named : (s : State) (heap : List Object) (slots : Slots) (class : ℕ) (x : Name) →
    object_named (record s { heap = heap }) slots class x ≡ object_named s slots class x
same_named s heap slots class (Static k) = refl
same_named s heap slots class (Variable j) = refl
same_named s heap slots class (Slot j) = refl
same_named s heap slots class (Result j) = refl

-- the state after an object was assigned on a heap in which the others stay what they were
pub assigned_state : (g : Setting) (p n m : ℕ) (s : State) (slots : Slots) (target : Option ℕ) (object : ℕ) (heap : List Object) → IsState g p n s slots →
    IsFull g.form heap → KeepsClasses s.heap heap → IfSome target (λ x. IsAssignable g p (name_of x)) → KeepsNames g p n m target →
    ((class x : ℕ) → target ≡ Some x → IsNameAt g p m class x → IsObjectOf heap class object) →
    IsState g p m (with_object target object (record s { heap = heap })) slots
assigned_state g p n m s slots target object heap state full keeps may names given = record {
  full = subst (IsFull g.form) (sym (assign_heap target object (record s { heap = heap }))) full;
  statics = lengths_statics target ∙ state.statics;
  variables = lengths_variables target ∙ state.variables;
  objects =
      λ class a named. subst (λ h. IsObject h class (object_in (with_object target object (record s { heap = heap })) slots class a) (name_of a))
      (sym (assign_heap target object (record s { heap = heap }))) (of_target target may names given class a named);
}
  where
    lengths_statics : (t : Option ℕ) → length (with_object t object (record s { heap = heap })).statics ≡ length s.statics
    lengths_statics None = refl
    lengths_statics (Some x) = statics_stay (name_of x) object (record s { heap = heap })

    lengths_variables : (t : Option ℕ) → length (with_object t object (record s { heap = heap })).variables ≡ length s.variables
    lengths_variables None = refl
    lengths_variables (Some x) = variables_stay (name_of x) object (record s { heap = heap })

    kept : (class a : ℕ) → IsNameAt g p n class a → IsObject heap class (object_in (record s { heap = heap }) slots class a) (name_of a)
    kept class a named =
        subst (λ o. IsObject heap class o (name_of a)) (sym (same_named s heap slots class (name_of a)))
        (stays s.heap heap keeps class (object_in s slots class a) (name_of a) (state.objects class a named))

    of_target : (t : Option ℕ) → IfSome t (λ x. IsAssignable g p (name_of x)) → KeepsNames g p n m t →
        ((class x : ℕ) → t ≡ Some x → IsNameAt g p m class x → IsObjectOf heap class object) → (class a : ℕ) → IsNameAt g p m class a →
        IsObject heap class (object_in (with_object t object (record s { heap = heap })) slots class a) (name_of a)
    of_target None may names given class a named = kept class a (names class a named (λ is. absurd (none is)))
      where
        none : None ≡ Some a → ⊥
        none is = absurd cc
    of_target (Some x) may names given class a named = of_test (x == a) refl
      where
        of_test : (b : Bool) → (x == a) ≡ b → IsObject heap class (object_in (with_object (Some x) object (record s { heap = heap })) slots class a) (name_of a)
        of_test true is =
            let same : x ≡ a = eqb-true x a is in
            let here : IsNameAt g p m class x = subst (IsNameAt g p m class) (sym same) named in
            let put : object_in (with_object (Some x) object (record s { heap = heap })) slots class x ≡ object = assign_gives g p (record s { heap = heap })
            slots class object (name_of x) state.statics state.variables may in
            subst (λ c. IsObject heap class (object_in (with_object (Some x) object (record s { heap = heap })) slots class c) (name_of c)) same
            (one_object g p heap class (object_in (with_object (Some x) object (record s { heap = heap })) slots class x) (name_of x) may
            (subst (IsObjectOf heap class) (sym put) (given class x refl here)))
        of_test false is =
            let other : Some x ≢ Some a = target_not (Some x) a is in
            let left : object_in (with_object (Some x) object (record s { heap = heap })) slots class a ≡ object_in (record s { heap = heap }) slots class a =
            assign_leaves g p m (record s { heap = heap }) slots class object a (name_of x) (name_of a) may named (λ e. other (ap Some (name_once x a e))) in
            subst (λ o. IsObject heap class o (name_of a)) (sym left) (kept class a (names class a named other))

-- a step over which each family follows from one that is true exactly where it is
pub record IsFlow (g : Setting) (p n m : ℕ) (s t : State) (slots : Slots) (flow : Fact → ℕ → List ℕ → Type 0) : Type 0 where
  pub back : (family : ℕ) (args : List ℕ) → IsFact g p m (Of family args) → IsFilled g slots (Of family args) → Holds g t slots (Of family args) →
      (d : Fact) × IsFact g p n d × flow d family args × Holds g s slots d
  pub forth : (d : Fact) (family : ℕ) (args : List ℕ) → IsFact g p n d → IsFact g p m (Of family args) → IsFilled g slots (Of family args) →
      flow d family args → Holds g s slots d → Holds g t slots (Of family args)
  pub state : IsState g p m t slots
  pub classes : KeepsClasses s.heap t.heap

-- what is done at a point is so, and no slot comes in
pub record IsFlowing (g : Setting) (p n m : ℕ) (x : Point) : Type 0 where
  pub each : (s t : State) (slots : Slots) (k : ℕ) → IsState g p n s slots → done g.form g.client x s ≡ Did t k → IsFlow g p n m s t slots (FollowsDone g x)
  pub keeps : (d : Fact) (family : ℕ) (args : List ℕ) → IsFact g p n d → IsFact g p m (Of family args) → FollowsDone g x d family args → (class number : ℕ) →
      HasSlot g d class number → HasSlot g (Of family args) class number

-- each component call is so
abbrev pub CallsFlow : Setting → Type 0
CallsFlow g = (p n m : ℕ) (target : Option ℕ) (call : ℕ) → CalledFits g p n m target call → IsFlowing g p n m (point.Component target call)
