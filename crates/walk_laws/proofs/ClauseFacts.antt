-- Clause facts are true exactly where a clause is false.
use Rattle.std.proofs.Common.{◌≡◌, ◌∙◌, ℕ, zero, suc, ◌-◌, ◌≤◌, ◌<◌, Bool, true, false, not, List, [], ◌∷◌, ◌++◌, Contains, map, length}
use Rattle.std.proofs.Common.{ap, arith, refl, subst, sym}
use Rattle.std.specs.Prelude.{Option, Some, None, if◌then◌else◌, slice_get}
use Rattle.std.specs.List.{AllZip, list_any}
use Rattle.std.specs.Option.{option_map_or}
use Rattle.std.proofs.lemmas.List.Elements.{All-contains}
use Rattle.std.proofs.lemmas.Option.{slice_get_within}
use Rattle.access_paths.specs.{AreObjects, arguments_in, no_family, variables_of}
use Rattle.access_paths.specs.declared.term.Var.{Var}
use Rattle.client_facts.specs.FactSlots.{AtSlot, IsSlotless}
use Rattle.client_facts.specs.Facts.{Holds, IsFact, classes_of}
use Rattle.client_facts.specs.Flows.{IsClauseFact, IsPut, names_of_clause}
use Rattle.client_facts.specs.Names.{IsNameAt, no_slots}
use Rattle.client_facts.specs.Setting.{Setting}
use Rattle.client_facts.specs.States.{IsState}
use Rattle.client_facts.specs.declared.fact.Fact.{Fact}
use Rattle.client_model.specs.Codes.{Name, Result, Slot, Static, Variable, name_of}
use Rattle.client_model.specs.declared.form.CallSite.{CallSite}
use Rattle.client_steps.specs.States.{State, object_of}
use Rattle.client_walks.specs.PathPrograms.{StandsAt}
use Rattle.easl_heap.specs.Clause.{first_failing, holds, requires_of}
use Rattle.easl_heap.specs.Full.{taken_by}
use Rattle.easl_model.specs.{condition_of}
use Rattle.easl_model.specs.declared.form.Method.{Method}
use Rattle.method_abstraction.specs.{HasExactEntries, IsDisjunctOf, clause_count, disjunct_holds}
use Rattle.method_abstraction.specs.declared.entry.ClauseFacts.{ClauseFacts}
use Rattle.method_abstraction.specs.declared.entry.Disjunct.{Disjunct}
use Rattle.method_abstraction.specs.declared.entry.Disjunct.TheVariants as disjunct
use Rattle.walk_laws.specs.Points.{IsKnown, KeepsPoints, TakesName}
use Rattle.walk_laws.specs.Premises.{ClauseFactsFit, ClausesFit, IsArgument, MayBeAssigned}
use Rattle.walk_laws.proofs.Broken.{IsBroken, breaks_at, broken_at}
use Rattle.walk_laws.proofs.ClauseEntries.{IsAnswer, entry_for, entry_of}
use Rattle.walk_laws.proofs.FalseClauses.{IsFalse, failing_false, false_failing}
use Rattle.walk_laws.proofs.Known.{arguments_are, rest_stands}
use Rattle.walk_laws.proofs.Made.{any_passes, passes_any}
use Rattle.walk_laws.proofs.Objects.{inner}
use Rattle.walk_laws.proofs.Questions.{StandsIn, all_given, disjunct_true, objects_for, true_disjunct}
use Rattle.walk_laws.proofs.Three.{zip_all}

-- the names of a component call
module _ (g : Setting) (p n : ℕ) where
  names_taken : (m : Method) (site : CallSite) → AllZip (TakesName g p n) (taken_by m) site.args →
      AllZip (TakesName g p n) (variables_of m no_family) (names_of_clause m site)
  names_taken m site all = of_kind m.constructor all
    where
      of_kind : (b : Bool) → AllZip (TakesName g p n) (if b then m.params else Some m.class ∷ m.params) site.args →
          AllZip (TakesName g p n) (no_family ++ ((if b then None else Some m.class) ∷ m.params)) (no_family ++ (if b then None ∷ site.args else site.args))
      of_kind true all = (refl, (refl, (refl, (refl, all))))
      of_kind false all = (refl, (refl, (refl, all)))

  -- a name that stands for a variable
  argument_is : (classes names : List (Option ℕ)) → AllZip (TakesName g p n) classes names → (v class code : ℕ) →
      slice_get classes v ≡ Some (Some class) → slice_get names v ≡ Some (Some code) → IsArgument g p n class code
  argument_is [] names all v class code at named = absurd (no_class at)
    where
      no_class : None ≡ Some (Some class) → ⊥
      no_class is = absurd cc
  argument_is (c ∷ classes) [] all v class code at named = absurd all
  argument_is (c ∷ classes) (name ∷ names) all zero class code at named =
      let takes : TakesName g p n (Some class) name = subst (λ x. TakesName g p n x name) (inner at) all.0 in
      subst (IsArgument g p n class) (inner (sym takes.1 ∙ inner named)) takes.2
  argument_is (c ∷ classes) (name ∷ names) all (suc v) class code at named = argument_is classes names all.1 v class code at named

  all_arguments : (classes names : List (Option ℕ)) → AllZip (TakesName g p n) classes names → (vars : List Var) (of codes : List ℕ) →
      AllZip (λ v class. slice_get classes v.0 ≡ Some (Some class)) vars of → AllZip (λ v code. slice_get names v.0 ≡ Some (Some code)) vars codes →
      AllZip (IsArgument g p n) of codes
  all_arguments classes names all [] [] [] fit put = tt
  all_arguments classes names all [] [] (code ∷ codes) fit put = absurd put
  all_arguments classes names all [] (class ∷ of) codes fit put = absurd fit
  all_arguments classes names all (v ∷ vars) [] codes fit put = absurd fit
  all_arguments classes names all (v ∷ vars) (class ∷ of) [] fit put = absurd put
  all_arguments classes names all (v ∷ vars) (class ∷ of) (code ∷ codes) fit put =
      (argument_is classes names all v.0 class code fit.0 put.0, all_arguments classes names all vars of codes fit.1 put.1)

  -- what a disjunct gives with these names is a fact without slots
  put_fits : (classes names : List (Option ℕ)) → AllZip (TakesName g p n) classes names → (x : Disjunct) → IsDisjunctOf g.abstraction.families classes x →
      (d : Fact) → IsPut names x d → IsFact g p n d × IsSlotless g d
  put_fits classes names all disjunct.Always fits d put = (subst (IsFact g p n) (sym put) tt, subst (IsSlotless g) (sym put) tt)
  put_fits classes names all (disjunct.Of number vars) fits d put =
      let of_family : classes_of g number ≡ fits.0.classes = ap (λ o. option_map_or (λ f. f.classes) o []) fits.1 in
      let are : AllZip (IsArgument g p n) (classes_of g number) put.0 =
      subst (λ cs. AllZip (IsArgument g p n) cs put.0) (sym of_family) (all_arguments classes names all vars fits.0.classes put.0 fits.2 put.2)
      in (
        subst (IsFact g p n) (sym put.1) (
          slice_get_within g.abstraction.families number fits.0 fits.1,
          zip_all (IsArgument g p n) (IsNameAt g p n) (λ class code argument. argument.named) (classes_of g number) put.0 are,
        ),
        subst (IsSlotless g) (sym put.1)
            (zip_all (IsArgument g p n) (λ class code. AtSlot (λ class number. ⊥) class (name_of code))
            (λ class code argument. no_slot class (name_of code) argument.kind) (classes_of g number) put.0 are),
      )
    where
      no_slot : (class : ℕ) (x : Name) → MayBeAssigned g p x → AtSlot (λ class number. ⊥) class x
      no_slot class (Static k) may = tt
      no_slot class (Variable j) may = tt
      no_slot class (Slot j) may = may
      no_slot class (Result j) may = tt

  module _ (s : State) (state : IsState g p n s no_slots) where
    stand : (m : Method) (site : CallSite) → AllZip (TakesName g p n) (taken_by m) site.args →
        AllZip (StandsIn g p n s no_slots) (variables_of m no_family) (names_of_clause m site)
    stand m site all = (refl, (refl, (refl, rest_stands g p n s no_slots state m site.args m.constructor all)))

    same_arguments : (m : Method) (site : CallSite) → AllZip (TakesName g p n) (taken_by m) site.args →
        arguments_in m (objects_for s no_slots (variables_of m no_family) (names_of_clause m site)) ≡ map (object_of s) site.args
    same_arguments m site all = arguments_are g p n s no_slots state m site.args m.constructor None None None None None None all

clauses_within : (m : Method) (clause : ℕ) → m.constructor ≡ false → clause ≤ length m.clauses → clause ≤ clause_count m
clauses_within m clause plain few = subst (λ b. clause ≤ (if b then 0 else length m.clauses)) (sym plain) few

no_constructor : (m : Method) (clause : ℕ) → 1 ≤ clause → clause ≤ clause_count m → m.constructor ≡ false
no_constructor m clause some within = of_kind m.constructor within
  where
    of_kind : (b : Bool) → clause ≤ (if b then 0 else length m.clauses) → b ≡ false
    of_kind true few = absurd (omega (arith, some, few))
    of_kind false few = refl

not_false : (b : Bool) → not b ≡ true → b ≡ false
not_false true is = absurd cc
not_false false is = refl

module _ (g : Setting) (exact : HasExactEntries g.form g.abstraction) (p n call : ℕ) (known : IsKnown g p n call) where
  abbrev m : Method
  m = known.method

  abbrev variables : List (Option ℕ)
  variables = variables_of known.method no_family

  abbrev names : List (Option ℕ)
  names = names_of_clause known.method known.at.site

  taken : AllZip (TakesName g p n) variables names
  taken = names_taken g p n m known.at.site known.args

  -- a fact of the call's clause comes from an entry that answers for it
  record IsOf (clause : ℕ) (d : Fact) : Type 0 where
    facts : ClauseFacts
    answer : IsAnswer g.form g.abstraction.families m clause facts
    chosen : Disjunct
    among : Contains facts.disjuncts chosen
    fits : IsDisjunctOf g.abstraction.families variables chosen
    put_in : IsPut names chosen d

  fact_of : (clause : ℕ) (d : Fact) → IsClauseFact g call clause d → IsOf clause d
  fact_of clause d f =
      let same_site : f.site ≡ known.at.site = inner (sym f.site_is ∙ known.at.site_is) in
      let same_method : f.method ≡ m = inner (sym f.method_is ∙ ap (λ (x : CallSite). slice_get g.form.methods x.method) same_site ∙ known.there) in
      let of_method : f.facts.method ≡ known.at.site.method = f.of_method ∙ ap (λ (x : CallSite). x.method) same_site in
      let answer : IsAnswer g.form g.abstraction.families m f.facts.clause f.facts =
      entry_of g.form g.abstraction exact known.at.site.method m known.there f.facts f.there of_method
      in
      record {
        facts = f.facts;
        answer = subst (λ c. IsAnswer g.form g.abstraction.families m c f.facts) f.of_clause answer;
        chosen = f.chosen;
        among = f.among;
        fits = All-contains (IsDisjunctOf g.abstraction.families variables) f.facts.disjuncts f.chosen answer.names f.among;
        put_in = subst (λ x. IsPut (names_of_clause x known.at.site) f.chosen d) same_method
            (subst (λ x. IsPut (names_of_clause f.method x) f.chosen d) same_site f.put_in);
      }

  fact_fits : (clause : ℕ) (d : Fact) → IsClauseFact g call clause d → ClauseFactsFit g p n call clause d
  fact_fits clause d f =
      let of : IsOf clause d = fact_of clause d f in
      let fits = put_fits g p n variables names taken of.chosen of.fits d of.put_in in
      record { fact = fits.0; bare = fits.1 }

  module _ (s : State) (state : IsState g p n s no_slots) where
    abbrev objects : List ℕ
    objects = objects_for s no_slots variables names

    abbrev args : List ℕ
    args = map (object_of s) known.at.site.args

    standing : AllZip (StandsIn g p n s no_slots) variables names
    standing = stand g p n s state m known.at.site known.args

    same_args : arguments_in m objects ≡ args
    same_args = same_arguments g p n s state m known.at.site known.args

    -- a clause is false where one of its entry's disjuncts is true
    same_truth : (clause : ℕ) (facts : ClauseFacts) → (answer : IsAnswer g.form g.abstraction.families m clause facts) →
        not (holds s.heap args (condition_of answer.test)) ≡ list_any (disjunct_holds g.abstraction.families s.heap objects) facts.disjuncts
    same_truth clause facts answer =
        let given : AreObjects s.heap variables objects = all_given g p n s no_slots state variables names standing in
        ap (λ os. not (holds s.heap os (condition_of answer.test))) (sym same_args) ∙ answer.exact s.heap objects state.full given

    requires_is : requires_of s.heap g.form known.at.site.method args ≡ first_failing m s.heap args
    requires_is = ap (λ o. option_map_or (λ x. first_failing x s.heap args) o None) known.there

    breaks : (clause : ℕ) (d : Fact) → IsClauseFact g call clause d → Holds g s no_slots d → (first : ℕ) × (first ≤ clause) × IsBroken g s call first
    breaks clause d f true_fact =
        let of : IsOf clause d = fact_of clause d f in
        let answer : IsAnswer g.form g.abstraction.families m clause of.facts = of.answer in
        let true_one = true_disjunct g p n s no_slots variables names standing of.chosen of.fits d of.put_in true_fact in
        let some_true = passes_any (disjunct_holds g.abstraction.families s.heap objects) of.facts.disjuncts of.chosen of.among true_one in
        let is_false : IsFalse m s.heap args clause = record {
          plain = no_constructor m clause answer.some answer.within;
          some = answer.some;
          test = answer.test;
          at = answer.at;
          is_false = not_false (holds s.heap args (condition_of answer.test)) (same_truth clause of.facts answer ∙ some_true);
        } in
        let first = false_failing m s.heap args clause is_false in
        (first.0, first.1, record { site = known.at.site; site_is = known.at.site_is; requires = requires_is ∙ first.2 })

    -- a disjunct of an entry that is true gives a fact that is
    fact_from : (clause : ℕ) (e : ClauseFacts) → Contains g.abstraction.clauses e → e.method ≡ known.at.site.method → e.clause ≡ clause →
        IsAnswer g.form g.abstraction.families m clause e → (x : Disjunct) → Contains e.disjuncts x →
        disjunct_holds g.abstraction.families s.heap objects x ≡ true → (d : Fact) × IsClauseFact g call clause d × Holds g s no_slots d
    fact_from clause e there of_method of_clause answer x among true_one =
        let fits = All-contains (IsDisjunctOf g.abstraction.families variables) e.disjuncts x answer.names among in
        let found = disjunct_true g p n s no_slots variables names standing x fits true_one in (
          found.0,
          record {
            site = known.at.site;
            site_is = known.at.site_is;
            method = m;
            method_is = known.there;
            facts = e;
            there = there;
            of_method = of_method;
            of_clause = of_clause;
            chosen = x;
            among = among;
            put_in = found.2;
          },
          found.3,
        )

    one_true : (clause : ℕ) (e : ClauseFacts) → IsAnswer g.form g.abstraction.families m clause e → IsFalse m s.heap args clause →
        list_any (disjunct_holds g.abstraction.families s.heap objects) e.disjuncts ≡ true
    one_true clause e answer f =
        let same_test : f.test ≡ answer.test = inner (sym f.at ∙ answer.at) in
        let is_false : holds s.heap args (condition_of answer.test) ≡ false =
        subst (λ t. holds s.heap args (condition_of t) ≡ false) same_test f.is_false
        in
        sym (subst (λ b. not b ≡ list_any (disjunct_holds g.abstraction.families s.heap objects) e.disjuncts) is_false (same_truth clause e answer))

    broken_fact : (clause : ℕ) → IsBroken g s call clause → (d : Fact) × IsClauseFact g call clause d × Holds g s no_slots d
    broken_fact clause broken =
        let f : IsFalse m s.heap args clause = failing_false m s.heap args clause (sym requires_is ∙ requires) in
        let there : clause - 1 < length m.clauses = slice_get_within m.clauses (clause - 1) f.test f.at in
        let some : 1 ≤ clause = f.some in
        let few : clause ≤ length m.clauses = omega (arith, there, some) in
        let entry = entry_for g.form g.abstraction exact known.at.site.method m known.there clause some (clauses_within m clause f.plain few) in
        let one = any_passes (disjunct_holds g.abstraction.families s.heap objects) entry.0.disjuncts (one_true clause entry.0 entry.4 f) in
        fact_from clause entry.0 entry.1 entry.2 entry.3 entry.4 one.0 one.1 one.2
      where
        same_site : broken.site ≡ known.at.site
        same_site = inner (sym broken.site_is ∙ known.at.site_is)

        requires : requires_of s.heap g.form known.at.site.method args ≡ Some clause
        requires = subst (λ (x : CallSite). requires_of s.heap g.form x.method (map (object_of s) x.args) ≡ Some clause) same_site broken.requires

pub clauses_fit : (g : Setting) → HasExactEntries g.form g.abstraction → KeepsPoints g → (p n : ℕ) → ClausesFit g p n
clauses_fit g exact points p n = record {
  at = λ s call clause is. (points.known p n call (broken_at g s p n call clause is).0).at;
  facts = λ call clause d at f. fact_fits g exact p n call (known_at call at) clause d f;
  broke = λ s call clause state is.
      let broken = broken_at g s p n call clause is in
      broken_fact g exact p n call (points.known p n call broken.0) s state clause broken.1;
  holds = λ s call clause d state at f true_fact.
      let first = breaks g exact p n call (known_at call at) s state clause d f true_fact in
      (first.0, first.1, breaks_at g s p n call first.0 (points.back p n call at) first.2);
}
  where
    known_at : (call : ℕ) → StandsAt g call p n → IsKnown g p n call
    known_at call at = points.known p n call (points.back p n call at)
