-- A component call as a step: it is exact, and no slot comes in.
use Rattle.std.proofs.Common.{◌≡◌, ◌≢◌, ◌∙◌, ℕ, zero, suc, ◌<◌, ◌%◌, ◌/◌, ◌==◌, Bool, true, false, List, [], ◌∷◌, get_or, map, length, ap, inl, inr, refl}
use Rattle.std.proofs.Common.{subst, sym, ⊎_elim}
use Rattle.std.specs.Prelude.{Option, Some, None, IfSome, if◌then◌else◌, slice_get}
use Rattle.std.specs.List.{AllZip}
use Rattle.std.specs.Option.{option_map_or}
use Rattle.std.proofs.lemmas.Option.{slice_get-get_or, slice_get_within}
use Rattle.std.proofs.lemmas.List.Elements.{All-contains}
use Rattle.access_paths.specs.{Fits, before_call, family_classes, put, variables_of}
use Rattle.access_paths.specs.declared.term.Family.{Family}
use Rattle.access_paths.specs.declared.term.Var.{Var}
use Rattle.client_facts.specs.FactSlots.{AtSlot, HasSlot, IsAmong}
use Rattle.client_facts.specs.Facts.{IsFact, classes_of}
use Rattle.client_facts.specs.Flows.{FollowsCalled, FollowsMade, IsPut, names_of_update, positions}
use Rattle.client_facts.specs.Names.{IsNameAt, Slots}
use Rattle.client_facts.specs.Setting.{Setting}
use Rattle.client_facts.specs.States.{IsState}
use Rattle.client_facts.specs.declared.fact.Fact.{Fact}
use Rattle.client_facts.specs.declared.fact.Fact.TheVariants.{Of}
use Rattle.client_model.specs.Codes.{Name, Slot, name_of}
use Rattle.client_model.specs.declared.form.CallSite.{CallSite}
use Rattle.client_steps.specs.Deeds.{Broke, Deed, Did, answered, called, made}
use Rattle.client_steps.specs.States.{State, object_of, with_object}
use Rattle.easl_heap.proofs.Calls.{call_full, call_kept}
use Rattle.easl_heap.specs.{GivesClass, IsFull, IsGiven, IsObjectOf, KeepsClasses, body, requires_of}
use Rattle.easl_heap.specs.Body.{Outcome}
use Rattle.easl_model.specs.declared.form.Method.{Method}
use Rattle.method_abstraction.specs.{IsDisjunctOf}
use Rattle.method_abstraction.specs.declared.entry.Disjunct.{Disjunct}
use Rattle.method_abstraction.specs.declared.entry.Disjunct.TheVariants as disjunct
use Rattle.walk_laws.specs.Points.{CalledFits, IsAssignable, IsSound, StepsAreExact, TakesName}
use Rattle.walk_laws.specs.Premises.{MayBeAssigned}
use Rattle.walk_laws.proofs.Assigned.{CallsFlow, IsFlow, assigned_state, may_assign}
use Rattle.walk_laws.proofs.Heads.{heads, heads_three}
use Rattle.walk_laws.proofs.Known.{of_classes}
use Rattle.walk_laws.proofs.Made.{answers_of, back, forth}
use Rattle.walk_laws.proofs.Objects.{assign_heap, inner}
use Rattle.walk_laws.proofs.Steps.{steps_fit}

no_some : {A : Type 0} {x : A} → None ≡ Some x → ⊥
no_some is = absurd cc

abbrev left_in : State → Deed → State
left_in s (Broke call clause) = s
left_in s (Did u steps) = u

-- a slot that stands for a variable is one of the family's
abbrev Owns : List ℕ → List ℕ → Option ℕ → Option ℕ → Type 0
Owns classes codes class name = (c a number : ℕ) → class ≡ Some c → name ≡ Some a → name_of a ≡ Slot number → IsAmong classes codes c a

both_at : (R : Option ℕ → Option ℕ → Type 0) (xs ys : List (Option ℕ)) → AllZip R xs ys → (v : ℕ) (x y : Option ℕ) → slice_get xs v ≡ Some x →
    slice_get ys v ≡ Some y → R x y
both_at R [] ys all v x y at there = absurd cc
both_at R (w ∷ xs) [] all v x y at there = absurd all
both_at R (w ∷ xs) (z ∷ ys) all zero x y at there = subst (R x) (inner there) (subst (λ q. R q z) (inner at) all.0)
both_at R (w ∷ xs) (z ∷ ys) all (suc v) x y at there = both_at R xs ys all.1 v x y at there

module _ (whole codes : List ℕ) where
  nothing_owned : (b : Bool) → Owns whole codes (if b then None else None) (if b then None else None)
  nothing_owned true c a number class_is name_is slot = absurd (no_some class_is)
  nothing_owned false c a number class_is name_is slot = absurd (no_some class_is)

  none_own : (k r : ℕ) → AllZip (Owns whole codes) (put r None (heads k [])) (put r None (heads k []))
  none_own zero r = tt
  none_own (suc k) r = (nothing_owned (r % 2 == 1), none_own k (r / 2))

  one_own : (classes args : List ℕ) (class a : ℕ) → ((c x : ℕ) → IsAmong (class ∷ classes) (a ∷ args) c x → IsAmong whole codes c x) → (b : Bool) →
      Owns whole codes (if b then None else Some class) (if b then None else Some a)
  one_own classes args class a lift true c x number class_is name_is slot = absurd (no_some class_is)
  one_own classes args class a lift false c x number class_is name_is slot = lift c x (inl (inner class_is, inner name_is))

  heads_own : (P : ℕ → ℕ → Type 0) (k : ℕ) (classes args : List ℕ) → AllZip P classes args →
      ((c x : ℕ) → IsAmong classes args c x → IsAmong whole codes c x) → (r : ℕ) →
      AllZip (Owns whole codes) (put r None (heads k classes)) (put r None (heads k args))
  heads_own P zero classes args names lift r = tt
  heads_own P (suc k) [] [] names lift r = none_own (suc k) r
  heads_own P (suc k) [] (a ∷ args) names lift r = absurd names
  heads_own P (suc k) (class ∷ classes) [] names lift r = absurd names
  heads_own P (suc k) (class ∷ classes) (a ∷ args) names lift r =
      (one_own classes args class a lift (r % 2 == 1), heads_own P k classes args names.1 (λ c x among. lift c x (inr among)) (r / 2))

  module _ (g : Setting) (p n : ℕ) where
    argument_owns : (class name : Option ℕ) → TakesName g p n class name → Owns whole codes class name
    argument_owns None name is c a number class_is name_is slot = absurd (no_some class_is)
    argument_owns (Some class) name is c a number class_is name_is slot =
        let same : is.0 ≡ a = inner (sym is.1 ∙ name_is) in
        absurd (no_slot (name_of a) slot (subst (λ x. MayBeAssigned g p (name_of x)) same is.2.kind))
      where
        no_slot : (x : Name) → x ≡ Slot number → MayBeAssigned g p x → ⊥
        no_slot x is may = subst (MayBeAssigned g p) is may

    arguments_own : (classes names : List (Option ℕ)) → AllZip (TakesName g p n) classes names → AllZip (Owns whole codes) classes names
    arguments_own [] [] all = tt
    arguments_own [] (name ∷ names) all = absurd all
    arguments_own (class ∷ classes) [] all = absurd all
    arguments_own (class ∷ classes) (name ∷ names) all = (argument_owns class name all.0, arguments_own classes names all.1)

    rest_own : (m : Method) (args : List (Option ℕ)) (b : Bool) → AllZip (TakesName g p n) (if b then m.params else Some m.class ∷ m.params) args →
        AllZip (Owns whole codes) ((if b then None else Some m.class) ∷ m.params) (if b then None ∷ args else args)
    rest_own m args true all = ((λ c a number class_is name_is slot. absurd (no_some class_is)), arguments_own m.params args all)
    rest_own m args false all = arguments_own (Some m.class ∷ m.params) args all

  -- a slot of what is put in is one of the family's
  slot_owned : (variables names : List (Option ℕ)) → AllZip (Owns whole codes) variables names → (vars : List Var) (classes put_in : List ℕ) →
      AllZip (λ v class. slice_get variables v.0 ≡ Some (Some class)) vars classes →
      AllZip (λ v code. slice_get names v.0 ≡ Some (Some code)) vars put_in → (class code number : ℕ) → IsAmong classes put_in class code →
      name_of code ≡ Slot number → IsAmong whole codes class code
  slot_owned variables names own [] [] put_in fit put class code number among slot = absurd among
  slot_owned variables names own [] (c ∷ classes) put_in fit put class code number among slot = absurd fit
  slot_owned variables names own (v ∷ vars) [] put_in fit put class code number among slot = absurd fit
  slot_owned variables names own (v ∷ vars) (c ∷ classes) [] fit put class code number among slot = absurd put
  slot_owned variables names own (v ∷ vars) (c ∷ classes) (a ∷ put_in) fit put class code number among slot =
      ⊎_elim
      (λ (here : (c ≡ class) × (a ≡ code)).
      both_at (Owns whole codes) variables names own v.0 (Some c) (Some a) fit.0 put.0 class code number (ap Some here.0) (ap Some here.1) slot)
      (λ (later : IsAmong classes put_in class code). slot_owned variables names own vars classes put_in fit.1 put.1 class code number later slot)
      among

module _ (g : Setting) (sound : IsSound g) (p n m : ℕ) (target : Option ℕ) (call : ℕ) (fits : CalledFits g p n m target call) where
  abbrev here : CallSite
  here = fits.known.at.site

  abbrev no_family_there : Family
  no_family_there = record { classes = []; cube = record { literals = [] } }

  abbrev over_of : ℕ → Family
  over_of family = get_or g.abstraction.families family no_family_there

  over_at : (family : ℕ) → family < length g.abstraction.families → slice_get g.abstraction.families family ≡ Some (over_of family)
  over_at family there = slice_get-get_or g.abstraction.families family no_family_there there

  over_fits : (family : ℕ) → family < length g.abstraction.families → Fits g.form (over_of family)
  over_fits family there = sound.exact.fit family no_family_there there

  classes_are : (family : ℕ) → family < length g.abstraction.families → classes_of g family ≡ (over_of family).classes
  classes_are family there = ap (λ o. option_map_or (λ f. f.classes) o []) (over_at family there)

  of_family : (P : ℕ → ℕ → Type 0) (family : ℕ) (args : List ℕ) → family < length g.abstraction.families → AllZip P (classes_of g family) args →
      AllZip P (over_of family).classes args
  of_family P family args there all = subst (λ cs. AllZip P cs args) (classes_are family there) all

  made_of : (d : Fact) (family : ℕ) (args : List ℕ) → FollowsCalled g target call d family args →
      FollowsMade g target here fits.known.method d family args
  made_of d family args follows =
      let site_same : follows.site ≡ here = inner (sym follows.site_is ∙ fits.known.at.site_is) in
      let method_same : follows.method ≡ fits.known.method =
      inner (sym follows.method_is ∙ ap (λ (x : CallSite). slice_get g.form.methods x.method) site_same ∙ fits.known.there)
      in
      subst (λ x. FollowsMade g target here x d family args) method_same
      (subst (λ x. FollowsMade g target x follows.method d family args) site_same follows.made)

  module _ (s : State) (slots : Slots) (state : IsState g p n s slots) where
    abbrev left : Outcome
    left = body g.form here.method (map (object_of s) here.args) s.heap

    abbrev after : State
    after = with_object target left.result (record s { heap = left.heap })

    whole : IsFull g.form left.heap × GivesClass g.form here.method left.heap left.result
    whole =
        call_full g.form sound.checked here.method (map (object_of s) here.args) s.heap left.heap left.result left.steps
        (slice_get_within g.form.methods here.method fits.known.method fits.known.there) refl state.full (of_classes g p n s slots state call fits.known)

    kept : KeepsClasses s.heap left.heap
    kept = call_kept g.form here.method (map (object_of s) here.args) s.heap left.heap left.result left.steps refl

    later : IsState g p m after slots
    later = assigned_state g p n m s slots target left.result left.heap state whole.0 kept (assignable target fits.result.target_is) fits.result.after given
      where
        assignable : (x : Option ℕ) → IfSome x (λ y. MayBeAssigned g p (name_of y)) → IfSome x (λ y. IsAssignable g p (name_of y))
        assignable None may = tt
        assignable (Some y) may = may_assign g p (name_of y) may

        given : (class x : ℕ) → target ≡ Some x → IsNameAt g p m class x → IsObjectOf left.heap class left.result
        given class x is named =
            subst (λ o. IsGiven left.heap o left.result) (fits.result.result class x is named)
            (subst (λ o. IfSome o (λ y. IsGiven left.heap y.result left.result)) fits.known.there whole.1)

    flow : requires_of s.heap g.form here.method (map (object_of s) here.args) ≡ None → IsFlow g p n m s after slots (FollowsCalled g target call)
    flow none = record {
      back = λ family args fact filled holds.
          let d = back g sound p n m target call fits family (over_of family) (over_at family fact.0) (over_fits family fact.0) args
          (of_family (IsNameAt g p m) family args fact.0 fact.1) s slots state
          (of_family (λ class code. AtSlot (λ class number. slots class number ≢ 0) class (name_of code)) family args fact.0 filled) none holds in
          (d.0, d.1, record { site = here; site_is = fits.known.at.site_is; method = fits.known.method; method_is = fits.known.there; made = d.2 }, d.3);
      forth = λ d family args was fact filled follows holds.
          forth g sound p n m target call fits family (over_of family) (over_at family fact.0) (over_fits family fact.0) args
          (of_family (IsNameAt g p m) family args fact.0 fact.1) s slots state
          (of_family (λ class code. AtSlot (λ class number. slots class number ≢ 0) class (name_of code)) family args fact.0 filled) none later d
          (made_of d family args follows) holds;
      state = later;
      classes = subst (KeepsClasses s.heap) (sym (assign_heap target left.result (record s { heap = left.heap }))) kept;
    }

    called_flow : (t : State) (k : ℕ) → called g.form g.client target call s ≡ Did t k → IsFlow g p n m s t slots (FollowsCalled g target call)
    called_flow t k did =
        of_clauses (requires_of s.heap g.form here.method (map (object_of s) here.args)) refl
        (sym (ap (λ o. option_map_or (λ x. made g.form target call x s) o (Did s 0)) fits.known.at.site_is) ∙ did)
      where
        of_clauses : (c : Option ℕ) → requires_of s.heap g.form here.method (map (object_of s) here.args) ≡ c →
            made g.form target call here s ≡ Did t k → IsFlow g p n m s t slots (FollowsCalled g target call)
        of_clauses (Some clause) at is =
            absurd (broke (sym (ap (λ c. answered g.form target call here.method (map (object_of s) here.args) c s) at) ∙ is))
          where
            broke : Broke call clause ≡ Did t k → ⊥
            broke is = absurd cc
        of_clauses None at is =
            let done : Did after left.steps ≡ Did t k =
            sym (ap (λ c. answered g.form target call here.method (map (object_of s) here.args) c s) at) ∙ is
            in
            subst (λ x. IsFlow g p n m s x slots (FollowsCalled g target call)) (ap (left_in s) done) (flow at)

  module _ (family : ℕ) (args : List ℕ) (fact : IsFact g p m (Of family args)) where
    abbrev variables : List (Option ℕ)
    variables = variables_of fits.known.method (before_call (over_of family) (positions target args))

    abbrev standing : List (Option ℕ)
    standing = names_of_update (positions target args) args fits.known.method here

    all_own : AllZip (Owns (classes_of g family) args) variables standing
    all_own =
        let names = of_family (IsNameAt g p m) family args fact.0 fact.1 in
        let first = subst (λ hs. AllZip (Owns (classes_of g family) args) (put (positions target args) None (family_classes (over_of family)))
        (put (positions target args) None hs)) (heads_three args)
        (subst (λ hs. AllZip (Owns (classes_of g family) args) (put (positions target args) None hs) (put (positions target args) None (heads 3 args)))
        (heads_three (over_of family).classes)
        (heads_own (classes_of g family) args (IsNameAt g p m) 3 (over_of family).classes args names
        (λ c x among. subst (λ cs. IsAmong cs args c x) (sym (classes_are family fact.0)) among) (positions target args)))
        in (
          first.0,
          (first.1.0, (first.1.1.0, rest_own (classes_of g family) args g p n fits.known.method here.args fits.known.method.constructor fits.known.args)),
        )

    put_keeps : (x : Disjunct) → IsDisjunctOf g.abstraction.families variables x → (d : Fact) → IsPut standing x d → (class number : ℕ) →
        HasSlot g d class number → HasSlot g (Of family args) class number
    put_keeps disjunct.Always fit d is class number has = absurd (subst (λ e. HasSlot g e class number) is has)
    put_keeps (disjunct.Of other vars) fit d is class number has =
        let there : HasSlot g (Of other is.0) class number = subst (λ e. HasSlot g e class number) is.1 has in
        let of_other : classes_of g other ≡ fit.0.classes = ap (λ o. option_map_or (λ f. f.classes) o []) fit.1 in
        let among : IsAmong fit.0.classes is.0 class there.0 = subst (λ cs. IsAmong cs is.0 class there.0) of_other there.1 in (
          there.0,
          slot_owned (classes_of g family) args variables standing all_own vars fit.0.classes is.0 fit.2 is.2 class there.0 number among there.2,
          there.2,
        )

    made_keeps : (d : Fact) → FollowsMade g target here fits.known.method d family args → (class number : ℕ) → HasSlot g d class number →
        HasSlot g (Of family args) class number
    made_keeps d follows class number has =
        let names = of_family (IsNameAt g p m) family args fact.0 fact.1 in
        let answers = answers_of g sound p n m target call fits family (over_of family) (over_at family fact.0) (over_fits family fact.0) args names
        follows.update follows.answers in
        put_keeps follows.chosen
        (All-contains (IsDisjunctOf g.abstraction.families variables) follows.update.disjuncts follows.chosen answers.names follows.among)
        d follows.put_in class number has

-- each component call is exact, and brings no slot in
pub calls_flow : (g : Setting) → IsSound g → CallsFlow g
calls_flow g sound p n m target call fits = record {
  each = λ s t slots k state did. called_flow g sound p n m target call fits s slots state t k did;
  keeps = λ d family args was fact follows class number has.
      made_keeps g sound p n m target call fits family args fact d (made_of g sound p n m target call fits d family args follows) class number has;
}

pub steps_are_exact : StepsAreExact
steps_are_exact g sound p n b m is = steps_fit g (calls_flow g sound) p n b m is (sound.points.steps p n b m is)
