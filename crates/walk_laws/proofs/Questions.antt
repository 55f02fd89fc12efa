-- The variables of a question on a component call: the names that stand for them, and their objects.
use Rattle.std.proofs.Common.{◌≡◌, ◌≢◌, ◌∙◌, ⊎_elim, ℕ, zero, suc, ◌<◌, List, [], ◌∷◌, map, length, true, false, ap, arith, refl, subst, sym}
use Rattle.std.specs.Prelude.{Option, Some, None, slice_get, slice_index}
use Rattle.std.specs.List.{AllZip}
use Rattle.std.specs.Option.{option_map_or}
use Rattle.access_paths.specs.{by_objects, cube_holds}
use Rattle.access_paths.specs.declared.term.Family.{Family}
use Rattle.access_paths.specs.declared.term.Var.{Var}
use Rattle.client_facts.specs.Facts.{HasObject, Holds, IsFact, classes_of, literals_of, objects_by}
use Rattle.client_facts.specs.Flows.{IsPut}
use Rattle.client_facts.specs.Names.{IsNameAt, Slots, object_in, object_named}
use Rattle.client_facts.specs.Setting.{Setting}
use Rattle.client_facts.specs.States.{IsObject, IsState}
use Rattle.client_facts.specs.declared.fact.Fact.{Fact}
use Rattle.client_facts.specs.declared.fact.Fact.TheVariants.{Always, Of}
use Rattle.client_model.specs.Codes.{Name, Result, Slot, Static, Variable, name_of}
use Rattle.client_steps.specs.States.{State}
use Rattle.easl_heap.specs.{IsGiven, IsObjectOf}
use Rattle.method_abstraction.specs.{IsDisjunctOf, disjunct_holds}
use Rattle.method_abstraction.specs.declared.entry.Disjunct.{Disjunct}
use Rattle.method_abstraction.specs.declared.entry.Disjunct.TheVariants as disjunct
use Rattle.walk_laws.proofs.Objects.{inner}

pub place_there : {A : Type 0} (xs : List A) (number : ℕ) (x : A) → slice_get xs number ≡ Some x → number < length xs
place_there [] number x at = absurd cc
place_there (y ∷ xs) zero x at = omega arith
place_there (y ∷ xs) (suc number) x at = let less : number < length xs = place_there xs number x at in omega arith

-- an object of the class, where there is one
pub is_object : (s : State) (slots : Slots) (class : ℕ) (x : Name) → IsObject s.heap class (object_named s slots class x) x →
    object_named s slots class x ≢ 0 → IsObjectOf s.heap class (object_named s slots class x)
is_object s slots class (Static k) is some = is
is_object s slots class (Variable j) is some = is
is_object s slots class (Slot j) is some =
    ⊎_elim (λ (none : slots class j ≡ 0). absurd (some none)) (λ (object : IsObjectOf s.heap class (slots class j)). object) is
is_object s slots class (Result j) is some = is

-- the object of the name that stands for a variable of this class, 0 where there is none
abbrev pub object_by : State → Slots → Option ℕ → Option ℕ → ℕ
object_by s slots None name = 0
object_by s slots (Some class) name = option_map_or (object_in s slots class) name 0

abbrev pub objects_for : State → Slots → List (Option ℕ) → List (Option ℕ) → List ℕ
objects_for s slots [] names = []
objects_for s slots (class ∷ classes) [] = []
objects_for s slots (class ∷ classes) (name ∷ names) = object_by s slots class name ∷ objects_for s slots classes names

-- the name stands for a variable of this class and has an object; for a variable that is not there stands nothing
abbrev pub StandsIn : (g : Setting) (p n : ℕ) → State → Slots → Option ℕ → Option ℕ → Type 0
StandsIn g p n s slots None name = name ≡ None
StandsIn g p n s slots (Some class) name = (a : ℕ) × (name ≡ Some a) × IsNameAt g p n class a × HasObject s slots class a

-- a name for the variable v, of this class
pub record IsVariable (g : Setting) (p n : ℕ) (s : State) (slots : Slots) (classes names : List (Option ℕ)) (v class : ℕ) : Type 0 where
  pub code : ℕ
  pub stands : slice_get names v ≡ Some (Some code)
  pub named : IsNameAt g p n class code
  pub some : HasObject s slots class code
  pub object : slice_index (objects_for s slots classes names) v ≡ object_in s slots class code

-- names of variables that are of these classes
pub record AreNames (g : Setting) (p n : ℕ) (s : State) (slots : Slots) (objects : List ℕ) (vars : List Var) (of codes : List ℕ) : Type 0 where
  pub named : AllZip (IsNameAt g p n) of codes
  pub some : AllZip (HasObject s slots) of codes
  pub same : map (λ v. slice_index objects v.0) vars ≡ objects_by (object_in s slots) of codes

module _ (g : Setting) (p n : ℕ) (s : State) (slots : Slots) where
  given : IsState g p n s slots → (class name : Option ℕ) → StandsIn g p n s slots class name → IsGiven s.heap class (object_by s slots class name)
  given state None name stands = refl
  given state (Some class) name stands =
      subst (λ o. IsObjectOf s.heap class (option_map_or (object_in s slots class) o 0)) (sym stands.1)
      (is_object s slots class (name_of stands.0) (state.objects class stands.0 stands.2) stands.3)

  -- each variable has an object of its class
  pub all_given : IsState g p n s slots → (classes names : List (Option ℕ)) → AllZip (StandsIn g p n s slots) classes names →
      AllZip (IsGiven s.heap) classes (objects_for s slots classes names)
  all_given state [] [] all = tt
  all_given state [] (name ∷ names) all = absurd all
  all_given state (class ∷ classes) [] all = absurd all
  all_given state (class ∷ classes) (name ∷ names) all = (given state class name all.0, all_given state classes names all.1)

  pub variable_is : (classes names : List (Option ℕ)) → AllZip (StandsIn g p n s slots) classes names → (v class : ℕ) →
      slice_get classes v ≡ Some (Some class) → IsVariable g p n s slots classes names v class
  variable_is [] names all v class at = absurd cc
  variable_is (c ∷ classes) [] all v class at = absurd all
  variable_is (c ∷ classes) (name ∷ names) all zero class at =
      let of_class : c ≡ Some class = inner at in
      let stands : StandsIn g p n s slots (Some class) name = subst (λ x. StandsIn g p n s slots x name) of_class all.0 in
      record {
        code = stands.0;
        stands = ap Some stands.1;
        named = stands.2;
        some = stands.3;
        object = λ i. object_by s slots (of_class i) (stands.1 i);
      }
  variable_is (c ∷ classes) (name ∷ names) all (suc v) class at =
      let rest : IsVariable g p n s slots classes names v class = variable_is classes names all.1 v class at in
      record { code = rest.code; stands = rest.stands; named = rest.named; some = rest.some; object = rest.object }

  module _ (classes names : List (Option ℕ)) (all : AllZip (StandsIn g p n s slots) classes names) where
    -- the names that stand for some variables
    codes_for : (vars : List Var) (of : List ℕ) → AllZip (λ v class. slice_get classes v.0 ≡ Some (Some class)) vars of →
        (codes : List ℕ) × AllZip (λ v code. slice_get names v.0 ≡ Some (Some code)) vars codes
    codes_for [] [] fit = ([], tt)
    codes_for [] (class ∷ of) fit = absurd fit
    codes_for (v ∷ vars) [] fit = absurd fit
    codes_for (v ∷ vars) (class ∷ of) fit =
        let one = variable_is classes names all v.0 class fit.0 in
        let rest = codes_for vars of fit.1 in
        (one.code ∷ rest.0, (one.stands, rest.1))

    are_names : (vars : List Var) (of codes : List ℕ) → AllZip (λ v class. slice_get classes v.0 ≡ Some (Some class)) vars of →
        AllZip (λ v code. slice_get names v.0 ≡ Some (Some code)) vars codes →
        AreNames g p n s slots (objects_for s slots classes names) vars of codes
    are_names [] [] [] fit put = record { named = tt; some = tt; same = refl }
    are_names [] [] (code ∷ codes) fit put = absurd put
    are_names [] (class ∷ of) codes fit put = absurd fit
    are_names (v ∷ vars) [] codes fit put = absurd fit
    are_names (v ∷ vars) (class ∷ of) [] fit put = absurd put
    are_names (v ∷ vars) (class ∷ of) (code ∷ codes) fit put =
        let one : IsVariable g p n s slots classes names v.0 class = variable_is classes names all v.0 class fit.0 in
        let same : one.code ≡ code = inner (inner (sym one.stands ∙ put.0)) in
        let rest : AreNames g p n s slots (objects_for s slots classes names) vars of codes = are_names vars of codes fit.1 put.1 in
        let object : slice_index (objects_for s slots classes names) v.0 ≡ object_in s slots class code =
        one.object ∙ ap (object_in s slots class) same
        in
        record {
          named = (subst (IsNameAt g p n class) same one.named, rest.named);
          some = (subst (HasObject s slots class) same one.some, rest.some);
          same = λ i. object i ∷ rest.same i;
        }

    -- of a disjunct over this family
    module _ (number : ℕ) (vars : List Var) (family : Family) (at : slice_get g.abstraction.families number ≡ Some family)
        (fit : AllZip (λ v class. slice_get classes v.0 ≡ Some (Some class)) vars family.classes) where
      abbrev objects : List ℕ
      objects = objects_for s slots classes names

      abbrev truth : Option Family → Type 0
      truth o = option_map_or (λ f. cube_holds (by_objects s.heap (map (λ v. slice_index objects v.0) vars)) f.cube.literals) o false ≡ true

      of_family : classes_of g number ≡ family.classes
      of_family = ap (λ o. option_map_or (λ f. f.classes) o []) at

      literals_are : literals_of g number ≡ family.cube.literals
      literals_are = ap (λ o. option_map_or (λ f. f.cube.literals) o []) at

      same_truth : (codes : List ℕ) → AreNames g p n s slots objects vars family.classes codes →
          cube_holds (by_objects s.heap (objects_by (object_in s slots) (classes_of g number) codes)) (literals_of g number)
          ≡ cube_holds (by_objects s.heap (map (λ v. slice_index objects v.0) vars)) family.cube.literals
      same_truth codes are =
          let same : objects_by (object_in s slots) (classes_of g number) codes ≡ map (λ v. slice_index objects v.0) vars =
          ap (λ cs. objects_by (object_in s slots) cs codes) of_family ∙ sym are.same
          in
          λ i. cube_holds (by_objects s.heap (same i)) (literals_are i)

      family_true : truth (slice_get g.abstraction.families number) →
          (d : Fact) × IsFact g p n d × IsPut names (disjunct.Of number vars) d × Holds g s slots d
      family_true holds =
          let codes = codes_for vars family.classes fit in
          let are : AreNames g p n s slots objects vars family.classes codes.0 = are_names vars family.classes codes.0 fit codes.1 in (
            Of number codes.0,
            (place_there g.abstraction.families number family at, subst (λ cs. AllZip (IsNameAt g p n) cs codes.0) (sym of_family) are.named),
            (codes.0, refl, codes.1),
            (subst (λ cs. AllZip (HasObject s slots) cs codes.0) (sym of_family) are.some, same_truth codes.0 are ∙ subst truth at holds),
          )

      true_family : (d : Fact) → IsPut names (disjunct.Of number vars) d → Holds g s slots d → truth (slice_get g.abstraction.families number)
      true_family d put holds =
          let are : AreNames g p n s slots objects vars family.classes put.0 = are_names vars family.classes put.0 fit put.2 in
          let true_of : Holds g s slots (Of number put.0) = subst (Holds g s slots) put.1 holds in
          subst truth (sym at) (sym (same_truth put.0 are) ∙ true_of.1)

    -- a disjunct is true of the objects where a fact that it gives is true
    pub disjunct_true : (x : Disjunct) → IsDisjunctOf g.abstraction.families classes x →
        disjunct_holds g.abstraction.families s.heap (objects_for s slots classes names) x ≡ true →
        (d : Fact) × IsFact g p n d × IsPut names x d × Holds g s slots d
    disjunct_true disjunct.Always fits holds = (Always, tt, refl, tt)
    disjunct_true (disjunct.Of number vars) fits holds = family_true number vars fits.0 fits.1 fits.2 holds

    pub true_disjunct : (x : Disjunct) → IsDisjunctOf g.abstraction.families classes x → (d : Fact) → IsPut names x d → Holds g s slots d →
        disjunct_holds g.abstraction.families s.heap (objects_for s slots classes names) x ≡ true
    true_disjunct disjunct.Always fits d put holds = refl
    true_disjunct (disjunct.Of number vars) fits d put holds = true_family number vars fits.0 fits.1 fits.2 d put holds
