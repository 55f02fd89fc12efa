-- Exactness over one component call.
use Rattle.std.proofs.Common.{◌≡◌, ◌≢◌, ◌∙◌, ℕ, ◌<◌, ◌≤◌, ◌%◌, ◌/◌, ◌==◌, ◌||◌, All, Bool, true, false, Contains, List, [], ◌∷◌, ◌++◌, map, length}
use Rattle.std.proofs.Common.{ap, arith, refl, subst, sym, ⊎_elim}
use Rattle.std.specs.Prelude.{Option, Some, None, if◌then◌else◌, slice_get, slice_index}
use Rattle.std.specs.List.{AllZip, list_any}
use Rattle.std.specs.Option.{option_map_or}
use Rattle.std.proofs.lemmas.List.Elements.{All-contains, length_all_zip}
use Rattle.access_paths.proofs.Members.{head_member, no_member, tail_member, which_member}
use Rattle.access_paths.specs.{Fits, arguments_in, before_call, by_objects, cube_holds, family_classes, put, variables_of}
use Rattle.access_paths.specs.declared.term.Family.{Family}
use Rattle.client_facts.specs.FactSlots.{AtSlot}
use Rattle.client_facts.specs.Facts.{HasObject, Holds, IsFact, classes_of, literals_of, objects_by}
use Rattle.client_facts.specs.Flows.{FollowsMade, IsUpdateFor, names_of_update, positions}
use Rattle.client_facts.specs.Names.{IsNameAt, Slots, object_in}
use Rattle.client_facts.specs.Setting.{Setting}
use Rattle.client_facts.specs.States.{IsState}
use Rattle.client_facts.specs.declared.fact.Fact.{Fact}
use Rattle.client_facts.specs.declared.fact.Fact.TheVariants.{Of}
use Rattle.client_model.specs.Codes.{name_of}
use Rattle.client_model.specs.declared.form.CallSite.{CallSite}
use Rattle.client_steps.specs.States.{State, object_of, with_object}
use Rattle.easl_heap.specs.{body, requires_of}
use Rattle.easl_heap.specs.Body.{Outcome}
use Rattle.easl_model.specs.declared.form.Method.{Method}
use Rattle.method_abstraction.specs.{IsDisjunctOf, IsExactUpdate, IsUpdateEntry, disjunct_holds}
use Rattle.method_abstraction.specs.Asking.{gives, may_stand, so_at, update_questions}
use Rattle.method_abstraction.specs.declared.entry.Disjunct.{Disjunct}
use Rattle.method_abstraction.specs.declared.entry.Question.{Question}
use Rattle.method_abstraction.specs.declared.entry.Question.TheVariants as question
use Rattle.method_abstraction.specs.declared.entry.Update.{Update}
use Rattle.walk_laws.specs.Points.{CalledFits, IsSound}
use Rattle.walk_laws.proofs.Asked.{beside, opposite, update_asked}
use Rattle.walk_laws.proofs.Cubes.{cube_same}
use Rattle.walk_laws.proofs.Heads.{few_positions, have_objects, heads, heads_stand, heads_three, may_be_at, objects_placed}
use Rattle.walk_laws.proofs.Known.{arguments_are, rest_stands}
use Rattle.walk_laws.proofs.Objects.{assign_heap, inner}
use Rattle.walk_laws.proofs.Questions.{StandsIn, all_given, disjunct_true, objects_for, true_disjunct}

-- some item passes where one is known to, and the other way round
pub any_passes : {X : Type 0} (t : X → Bool) (xs : List X) → list_any t xs ≡ true → (x : X) × Contains xs x × (t x ≡ true)
any_passes t [] is = absurd cc
any_passes {X} t (x ∷ xs) is = of_test (t x) refl is (λ later. any_passes t xs later)
  where
    of_test : (b : Bool) → t x ≡ b → (b || list_any t xs) ≡ true → (list_any t xs ≡ true → (y : X) × Contains xs y × (t y ≡ true)) →
        (y : X) × Contains (x ∷ xs) y × (t y ≡ true)
    of_test true passes is later = (x, head_member x xs, passes)
    of_test false passes is later = let found = later is in (found.0, tail_member x xs found.0 found.1, found.2)

pub passes_any : {X : Type 0} (t : X → Bool) (xs : List X) (x : X) → Contains xs x → t x ≡ true → list_any t xs ≡ true
passes_any t [] x has passes = absurd (no_member x has)
passes_any {X} t (y ∷ xs) x has passes =
    ⊎_elim (λ (same : y ≡ x). here (ap t same ∙ passes)) (λ (later : Contains xs x). of_test (t y) (passes_any t xs x later passes)) (which_member y xs x has)
  where
    here : t y ≡ true → list_any t (y ∷ xs) ≡ true
    here is = λ i. is i || list_any t xs

    of_test : (b : Bool) → list_any t xs ≡ true → (b || list_any t xs) ≡ true
    of_test true later = refl
    of_test false later = later

-- the entry that answers a question of these, and its disjuncts
pub record Answers (g : Setting) (number results : ℕ) (method : Method) (over : Family) (u : Update) : Type 0 where
  pub names : All (IsDisjunctOf g.abstraction.families (variables_of method (before_call over results))) u.disjuncts
  pub exact : IsExactUpdate g.form g.abstraction.families number method results over u.disjuncts

module _ (g : Setting) (sound : IsSound g) (p n m : ℕ) (target : Option ℕ) (call : ℕ) (fits : CalledFits g p n m target call) where
  abbrev pub site : CallSite
  site = fits.known.at.site

  abbrev pub method : Method
  method = fits.known.method

  module _ (family : ℕ) (over : Family) (at : slice_get g.abstraction.families family ≡ Some over) (fit : Fits g.form over) (args : List ℕ)
      (names : AllZip (IsNameAt g p m) over.classes args) where
    abbrev results : ℕ
    results = positions target args

    abbrev classes : List (Option ℕ)
    classes = variables_of method (before_call over results)

    abbrev standing : List (Option ℕ)
    standing = names_of_update results args method site

    pub answers_of : (u : Update) → IsUpdateFor g site.method results family u → Answers g site.method results method over u
    answers_of u is =
        let found = opposite (IsUpdateEntry g.form g.abstraction.families) (update_questions g.form g.abstraction.families) g.abstraction.updates
        sound.exact.updates u is.there in
        let entry : IsUpdateEntry g.form g.abstraction.families found.0 u = found.1 in
        let of_same : entry.of ≡ method = inner (sym entry.found ∙ ap (slice_get g.form.methods) is.method_is ∙ fits.known.there) in
        let over_same : entry.over ≡ over = inner (sym entry.numbered ∙ ap (slice_get g.abstraction.families) is.family_is ∙ at) in
        let of_method : Answers g u.method u.results method entry.over u =
        subst (λ x. Answers g u.method u.results x entry.over u) of_same (record { names = entry.names; exact = entry.exact })
        in
        let of_over : Answers g u.method u.results method over u = subst (λ x. Answers g u.method u.results method x u) over_same of_method in
        let of_results : Answers g u.method results method over u = subst (λ x. Answers g u.method x method over u) is.results_are of_over in
        subst (λ x. Answers g x results method over u) is.method_is of_results

    few : length args ≤ 3
    few =
        let same : length over.classes ≡ length args = length_all_zip (IsNameAt g p m) over.classes args names in
        let short : length over.classes ≤ 3 = fit.few in
        omega (arith, same, short)

    may : may_stand method over (positions target args) ≡ true
    may = subst (λ hs. so_at (positions target args) (map (gives method) hs) ≡ true) (heads_three over.classes)
        (may_be_at g p n m target method fits.result 3 over.classes args names (positions target args) refl)

    pub has_answer : (u : Update) × IsUpdateFor g site.method results family u
    has_answer =
        let asked = update_asked g.form g.abstraction.families family over site.method method results at fits.known.there (few_positions target args few) may in
        let found = beside (IsUpdateEntry g.form g.abstraction.families) (update_questions g.form g.abstraction.families) g.abstraction.updates
        sound.exact.updates (question.Update site.method results family) asked in (
          found.0,
          record {
            there = found.1;
            method_is = sym (ap method_in found.2.asked);
            results_are = sym (ap results_in found.2.asked);
            family_is = sym
                (ap family_in found.2.asked);
          },
        )
      where
        method_in : Question → ℕ
        method_in (question.Update a b c) = a
        method_in (question.Clause a b) = a

        results_in : Question → ℕ
        results_in (question.Update a b c) = b
        results_in (question.Clause a b) = a

        family_in : Question → ℕ
        family_in (question.Update a b c) = c
        family_in (question.Clause a b) = a

    module _ (s : State) (slots : Slots) (state : IsState g p n s slots)
        (filled : AllZip (λ class code. AtSlot (λ class number. slots class number ≢ 0) class (name_of code)) over.classes args) where
      all_stand : AllZip (StandsIn g p n s slots) classes standing
      all_stand =
          let first = subst
          (λ hs. AllZip (StandsIn g p n s slots) (put (positions target args) None (family_classes over)) (put (positions target args) None hs))
          (heads_three args)
          (subst (λ hs. AllZip (StandsIn g p n s slots) (put (positions target args) None hs) (put (positions target args) None (heads 3 args)))
          (heads_three over.classes)
          (heads_stand g p n m target method fits.result s slots state 3 over.classes args names filled (positions target args) refl)) in
          (first.0, (first.1.0, (first.1.1.0, rest_stands g p n s slots state method site.args method.constructor fits.known.args)))

      abbrev objects : List ℕ
      objects = objects_for s slots classes standing

      abbrev left : Outcome
      left = body g.form site.method (map (object_of s) site.args) s.heap

      abbrev after : State
      after = with_object target left.result (record s { heap = left.heap })

      same_args : arguments_in method objects ≡ map (object_of s) site.args
      same_args =
          arguments_are g p n s slots state method site.args method.constructor
          (if results % 2 == 1 then None else slice_get over.classes 0)
          (if results / 2 % 2 == 1 then None else slice_get over.classes 1)
          (if results / 2 / 2 % 2 == 1 then None else slice_get over.classes 2)
          (if results % 2 == 1 then None else slice_get args 0)
          (if results / 2 % 2 == 1 then None else slice_get args 1)
          (if results / 2 / 2 % 2 == 1 then None else slice_get args 2)
          fits.known.args

      abbrev Behind : List ℕ → List Disjunct → Type 0
      Behind xs ds =
          requires_of s.heap g.form site.method xs ≡ None →
          cube_holds (by_objects (body g.form site.method xs s.heap).heap (put results (body g.form site.method xs s.heap).result objects)) over.cube.literals
          ≡ list_any (disjunct_holds g.abstraction.families s.heap objects) ds

      -- after the call the family is true of these objects
      abbrev IsTrueAfter : Type 0
      IsTrueAfter = cube_holds (by_objects left.heap (put results left.result objects)) over.cube.literals ≡ true

      law : (u : Update) → IsUpdateFor g site.method results family u → Behind (map (object_of s) site.args) u.disjuncts
      law u is =
          subst (λ xs. Behind xs u.disjuncts) same_args
          (λ none. (answers_of u is).exact s.heap objects state.full (all_given g p n s slots state classes standing all_stand) none)

      -- the family's own objects are among them
      same_cube : cube_holds (by_objects left.heap (put results left.result objects)) over.cube.literals
          ≡ cube_holds (by_objects left.heap (objects_by (object_in after slots) over.classes args)) over.cube.literals
      same_cube =
          cube_same g.form left.heap (put results left.result objects) (objects_by (object_in after slots) over.classes args) over.classes each
          over.cube.literals fit.literals
        where
          others : List (Option ℕ)
          others = (if method.constructor then None else Some method.class) ∷ method.params

          behind : List (Option ℕ)
          behind = if method.constructor then None ∷ site.args else site.args

          each : (v : ℕ) → v < length over.classes →
              slice_index (put results left.result objects) v ≡ slice_index (objects_by (object_in after slots) over.classes args) v
          each v less =
              subst
              (λ hs. slice_index
              (put results left.result (objects_for s slots (put results None (family_classes over) ++ others) (put results None hs ++ behind))) v
              ≡ slice_index (objects_by (object_in after slots) over.classes args) v) (heads_three args)
              (subst
              (λ hs. slice_index (put results left.result (objects_for s slots (put results None hs ++ others) (put results None (heads 3 args) ++ behind))) v
              ≡ slice_index (objects_by (object_in after slots) over.classes args) v) (heads_three over.classes)
              (objects_placed g p n m target method fits.result s slots state left.heap left.result others behind 3 over.classes args names results refl
              fit.few v less))

      same_heap : after.heap ≡ left.heap
      same_heap = assign_heap target left.result (record s { heap = left.heap })

      of_classes : classes_of g family ≡ over.classes
      of_classes = ap (λ o. option_map_or (λ f. f.classes) o []) at

      of_literals : literals_of g family ≡ over.cube.literals
      of_literals = ap (λ o. option_map_or (λ f. f.cube.literals) o []) at

      same_truth : cube_holds (by_objects after.heap (objects_by (object_in after slots) (classes_of g family) args)) (literals_of g family)
          ≡ cube_holds (by_objects left.heap (put results left.result objects)) over.cube.literals
      same_truth =
          (λ i. cube_holds (by_objects (same_heap i) (objects_by (object_in after slots) (of_classes i) args)) (of_literals i)) ∙ sym same_cube

      pub back : requires_of s.heap g.form site.method (map (object_of s) site.args) ≡ None → Holds g after slots (Of family args) →
          (d : Fact) × IsFact g p n d × FollowsMade g target site method d family args × Holds g s slots d
      back none holds =
          let u = has_answer in
          let true_before : list_any (disjunct_holds g.abstraction.families s.heap objects) u.0.disjuncts ≡ true =
          sym (law u.0 u.1 none) ∙ sym same_truth ∙ holds.1
          in
          let x = any_passes (disjunct_holds g.abstraction.families s.heap objects) u.0.disjuncts true_before in
          let fits_x = All-contains (IsDisjunctOf g.abstraction.families classes) u.0.disjuncts x.0 (answers_of u.0 u.1).names x.1 in
          let d = disjunct_true g p n s slots classes standing all_stand x.0 fits_x x.2 in
          (d.0, d.1, record { update = u.0; answers = u.1; chosen = x.0; among = x.1; put_in = d.2 }, d.3)

      pub forth : requires_of s.heap g.form site.method (map (object_of s) site.args) ≡ None → IsState g p m after slots → (d : Fact) →
          FollowsMade g target site method d family args → Holds g s slots d → Holds g after slots (Of family args)
      forth none later d follows holds =
          let fits_x = All-contains (IsDisjunctOf g.abstraction.families classes) follows.update.disjuncts follows.chosen
          (answers_of follows.update follows.answers).names follows.among
          in
          let x_true = true_disjunct g p n s slots classes standing all_stand follows.chosen fits_x d follows.put_in holds in
          let any = passes_any (disjunct_holds g.abstraction.families s.heap objects) follows.update.disjuncts follows.chosen follows.among x_true in
          let objects_there : AllZip (HasObject after slots) over.classes args = have_objects g p m after slots later over.classes args names filled in
          (subst (λ cs. AllZip (HasObject after slots) cs args) (sym of_classes) objects_there, same_truth ∙ law follows.update follows.answers none ∙ any)
