-- What stands for the variables of a question on a component call, from `this` on.
use Rattle.std.proofs.Common.{◌≡◌, ℕ, Bool, true, false, List, [], ◌∷◌, drop, map, ap, refl, subst, sym}
use Rattle.std.specs.Prelude.{Option, Some, None, IfSome, if◌then◌else◌}
use Rattle.std.specs.List.{AllZip}
use Rattle.client_facts.specs.Names.{Slots, object_in}
use Rattle.client_facts.specs.Setting.{Setting}
use Rattle.client_facts.specs.States.{IsState}
use Rattle.client_model.specs.Codes.{name_of}
use Rattle.client_steps.specs.States.{State, object_of}
use Rattle.easl_heap.specs.{AreOfClasses, IsGiven, IsObjectOf, taken_by}
use Rattle.easl_model.specs.declared.form.Method.{Method}
use Rattle.walk_laws.specs.Points.{IsKnown, TakesName}
use Rattle.walk_laws.proofs.Objects.{is_there, plain_object}
use Rattle.walk_laws.proofs.Questions.{StandsIn, object_by, objects_for}
use Rattle.walk_laws.proofs.States.{plain_is}

module _ (g : Setting) (p n : ℕ) (s : State) (slots : Slots) (state : IsState g p n s slots) where
  given : (class name : Option ℕ) → TakesName g p n class name → IsGiven s.heap class (object_of s name)
  given None name is = ap (object_of s) is
  given (Some class) name is =
      let may = is.2.kind in
      let object : IsObjectOf s.heap class (object_in s slots class is.0) =
      plain_is g p s.heap class (object_in s slots class is.0) (name_of is.0) may (state.objects class is.0 is.2.named)
      in
      subst (λ x. IsObjectOf s.heap class (object_of s x)) (sym is.1)
      (subst (IsObjectOf s.heap class) (plain_object g p s slots class (name_of is.0) may) object)

  all_given : (classes names : List (Option ℕ)) → AllZip (TakesName g p n) classes names → AllZip (IsGiven s.heap) classes (map (object_of s) names)
  all_given [] [] all = tt
  all_given [] (name ∷ names) all = absurd all
  all_given (class ∷ classes) [] all = absurd all
  all_given (class ∷ classes) (name ∷ names) all = (given class name all.0, all_given classes names all.1)

  -- the receiver and the arguments are of their classes
  pub of_classes : (call : ℕ) (known : IsKnown g p n call) → AreOfClasses g.form known.at.site.method s.heap (map (object_of s) known.at.site.args)
  of_classes call known =
      subst (λ o. IfSome o (λ m. AllZip (IsGiven s.heap) (taken_by m) (map (object_of s) known.at.site.args))) (sym known.there)
      (all_given (taken_by known.method) known.at.site.args known.args)

  stands : (class name : Option ℕ) → TakesName g p n class name → StandsIn g p n s slots class name
  stands None name is = is
  stands (Some class) name is =
      let object = plain_is g p s.heap class (object_in s slots class is.0) (name_of is.0) is.2.kind (state.objects class is.0 is.2.named) in
      (is.0, is.1, is.2.named, is_there s.heap class (object_in s slots class is.0) object)

  all_stand : (classes names : List (Option ℕ)) → AllZip (TakesName g p n) classes names → AllZip (StandsIn g p n s slots) classes names
  all_stand [] [] all = tt
  all_stand [] (name ∷ names) all = absurd all
  all_stand (class ∷ classes) [] all = absurd all
  all_stand (class ∷ classes) (name ∷ names) all = (stands class name all.0, all_stand classes names all.1)

  same_object : (class name : Option ℕ) → TakesName g p n class name → object_by s slots class name ≡ object_of s name
  same_object None name is = sym (ap (object_of s) is)
  same_object (Some class) name is =
      subst (λ x. object_by s slots (Some class) x ≡ object_of s x) (sym is.1) (plain_object g p s slots class (name_of is.0) is.2.kind)

  same_objects : (classes names : List (Option ℕ)) → AllZip (TakesName g p n) classes names → objects_for s slots classes names ≡ map (object_of s) names
  same_objects [] [] all = refl
  same_objects [] (name ∷ names) all = absurd all
  same_objects (class ∷ classes) [] all = absurd all
  same_objects (class ∷ classes) (name ∷ names) all = λ i. same_object class name all.0 i ∷ same_objects classes names all.1 i

  module _ (m : Method) (args : List (Option ℕ)) where
    pub rest_stands : (b : Bool) → AllZip (TakesName g p n) (if b then m.params else Some m.class ∷ m.params) args →
        AllZip (StandsIn g p n s slots) ((if b then None else Some m.class) ∷ m.params) (if b then None ∷ args else args)
    rest_stands true all = (refl, all_stand m.params args all)
    rest_stands false all = all_stand (Some m.class ∷ m.params) args all

    -- the objects of the call, among those of all variables
    pub arguments_are : (b : Bool) (x y z u v w : Option ℕ) → AllZip (TakesName g p n) (if b then m.params else Some m.class ∷ m.params) args →
        drop (if b then 4 else 3)
        (objects_for s slots (x ∷ y ∷ z ∷ ((if b then None else Some m.class) ∷ m.params)) (u ∷ v ∷ w ∷ (if b then None ∷ args else args)))
        ≡ map (object_of s) args
    arguments_are true x y z u v w all = same_objects m.params args all
    arguments_are false x y z u v w all = same_objects (Some m.class ∷ m.params) args all
