-- Where the derivation closes, its families fit and its entries are exact.
use Rattle.std.proofs.Common.{◌≡◌, ℕ, zero, suc, ◌<◌, ◌≤◌, Bool, true, false, List, [], ◌∷◌, ◌++◌, All, Contains, Option, Some, None, Ok, if◌then◌else◌, length, slice_get, sym, subst, arith, ⊎_elim, IfSome}
use Rattle.std.specs.List.{AllZip}
use Rattle.std.proofs.lemmas.List.Elements.{Contains-append_cases}
use Rattle.std.proofs.lemmas.Option.{get_or_from_slice_get, slice_get_within}
use Rattle.easl_model.specs.{IsChecked, MethodInRange, condition_of}
use Rattle.easl_model.specs.Form.{Form}
use Rattle.easl_model.specs.declared.form.Method.{Method}
use Rattle.easl_model.proofs.InRange.{checked_in_range}
use Rattle.access_paths.specs.{Fits, HasKnownVariables, before_call, no_family, variables_of}
use Rattle.access_paths.specs.Trees.{Tree}
use Rattle.access_paths.specs.declared.term.Family.{Family}
use Rattle.access_paths.specs.declared.term.Instance.{Instance}
use Rattle.access_paths.proofs.Members.{head_member, no_member, tail_member, which_member}
use Rattle.access_paths.proofs.Substituted.{all_members}
use Rattle.case_model.specs.{HaveClasses, IsConfiguration, by_blocks, clauses_hold, question_variables, terms_asked}
use Rattle.question_model.proofs.AskedTerms.{update_asks_terms}
use Rattle.question_model.specs.{IsTree, update}
use Rattle.weakest_pre.specs.Running.{most}
use Rattle.cube_search.specs.Lists.{Each}
use Rattle.cube_cover.proofs.Named.{each_get}
use Rattle.method_abstraction.specs.{HasExactEntries, IsClauseEntry, IsDisjunctOf, IsUpdateEntry, clause_questions, questions, update_questions}
use Rattle.method_abstraction.specs.declared.entry.Abstraction.{Abstraction}
use Rattle.method_abstraction.specs.declared.entry.ClauseFacts.{ClauseFacts}
use Rattle.method_abstraction.specs.declared.entry.Disjunct.{Disjunct}
use Rattle.method_abstraction.specs.declared.entry.Disjunct.TheVariants as disjunct
use Rattle.method_abstraction.specs.declared.entry.Question.{Question}
use Rattle.method_abstraction.specs.declared.entry.Question.TheVariants.{Clause, Update}
use Rattle.method_abstraction.specs.declared.entry.Update as entry
use Rattle.derivation.specs.Closing.{Asked, none, next, Closes, Comes, IsClauseReply, IsUpdateReply, Meets}
use Rattle.derivation.specs.Laws.{IsNumbered}
use Rattle.derivation.specs.Replies.{IsPredicateOf, IsReply, classes_by_number, counted}
use Rattle.derivation.specs.declared.reply.Predicate.{Predicate}
use Rattle.derivation.specs.declared.reply.Predicate.TheVariants.{Always, Of}
use Rattle.derivation.specs.declared.reply.Reply.{Reply}
use Rattle.derivation.proofs.Exactness.{clause_replies_are_exact, update_replies_are_exact}
use Rattle.derivation.proofs.Fitting.{family_fits, names_fit}
use Rattle.derivation.proofs.OneClass.{of_all, one_class}
use Rattle.derivation.proofs.Questions.{of_filter}
use Rattle.derivation.proofs.Replying.{chosen_known}
use Rattle.derivation.proofs.Rounds.{zip_so}
use Rattle.derivation.proofs.Scopes.{classes_before, known_before, update_typed}

zip_second : {X Y : Type 0} (R : X → Y → Type 0) (xs : List X) (ys : List Y) (y : Y) → AllZip R xs ys → Contains ys y → (x : X) × Contains xs x × R x y
zip_second R [] [] y all has = absurd (no_member y has)
zip_second R [] (z ∷ ys) y all has = absurd all
zip_second R (x ∷ xs) [] y all has = absurd all
zip_second R (x ∷ xs) (z ∷ ys) y all has =
    ⊎_elim (λ (e : z ≡ y). (x, head_member x xs, subst (R x) e all.0))
    (λ (h : Contains ys y). let s = zip_second R xs ys y all.1 h in (s.0, tail_member x xs s.0 s.1, s.2)) (which_member z ys y has)

-- the variables of a question are of classes that are there
variables_there : (classes : ℕ) (m : Method) (a b c : Option ℕ) → MethodInRange classes m
    → ((n : ℕ) → a ≡ Some n → n < classes) → ((n : ℕ) → b ≡ Some n → n < classes) → ((n : ℕ) → c ≡ Some n → n < classes)
    → (v start : ℕ) → slice_get (variables_of m (a ∷ b ∷ c ∷ [])) v ≡ Some (Some start) → start < classes
variables_there classes m a b c is x y z = by
  where
    receiver : (made : Bool) (start : ℕ) → Some (if made then None else Some m.class) ≡ Some (Some start) → start < classes
    receiver true start h = absurd (cc)
    receiver false start h = let e : m.class ≡ start = cc in subst (λ n. n < classes) e is.of

    by : (v start : ℕ) → slice_get (variables_of m (a ∷ b ∷ c ∷ [])) v ≡ Some (Some start) → start < classes
    by zero start h = x start (let e : a ≡ Some start = cc in e)
    by (suc zero) start h = y start (let e : b ≡ Some start = cc in e)
    by (suc (suc zero)) start h = z start (let e : c ≡ Some start = cc in e)
    by (suc (suc (suc zero))) start h = receiver m.constructor start h
    by (suc (suc (suc (suc k)))) start h =
        let within = slice_get_within m.params k (Some start) h in
        subst (λ p. IfSome p (λ n. n < classes)) (get_or_from_slice_get m.params k (Some start) (Some start) h) (is.params k (Some start) within)

family_there : (form : Form) (family : Family) → Fits form family → (k n : ℕ) → slice_get family.classes k ≡ Some n → n < length form.classes
family_there form family fits k n at =
    subst (λ c. c < length form.classes) (get_or_from_slice_get family.classes k n n at) (fits.classes k n (slice_get_within family.classes k n at))

-- Each family of a reply fits, and its variables are of its classes, where these are known.
module _ (form : Form) (m : Method) (family : Option Family) (tree : Tree) (r : Reply) (is : IsReply form m family tree r) (variables_known : List (Option ℕ))
    (wider : (v start : ℕ) → slice_get variables_known v ≡ Some (Some start) → slice_get (question_variables m family) v ≡ Some (Some start))
    (there : (v start : ℕ) → slice_get (question_variables m family) v ≡ Some (Some start) → start < length form.classes)
    (typed : HaveClasses form variables_known is.ts is.classes) (few : length m.params ≤ 4)
    (are : (bs : List ℕ) → Contains (counted m family is.ts is.all) bs → IsConfiguration is.ts is.classes bs) where
  abbrev NamesFit : Instance → Type 0
  NamesFit i = AllZip (λ v class. slice_get variables_known v.0 ≡ Some (Some class)) i.args i.family.classes

  predicate_fits : (i : Instance) → Contains r.disjuncts (Of i) → Fits form i.family × NamesFit i
  predicate_fits i has =
      let of = zip_second (IsPredicateOf (classes_by_number m family)) is.cubes r.disjuncts (Of i) is.disjuncts has in
      let c = of.0 in
      let implicant = ((is.chosen.are c).0 of.1).0.implicant in
      let care = counted m family is.ts is.all in
      let known = of_all HasKnownVariables is.cubes c
      (chosen_known form m family is.ts is.classes few is.cases.list.typed care tree is.cubes is.chosen) of.1 in
      let class = one_class form variables_known is.ts is.classes typed care are tree is.cubes is.chosen c of.1 in (
        family_fits form variables_known (question_variables m family) wider there is.ts is.classes typed c implicant.over implicant.few_variables known class
            of.2.0 i of.2.1,
        names_fit form variables_known (question_variables m family) wider there is.ts is.classes typed c implicant.over implicant.few_variables known class
            of.2.0 i of.2.1,
      )

  disjuncts_fit : (families : List Family) (ps : List Predicate) (ds : List Disjunct) → ((p : Predicate) → Contains ps p → Contains r.disjuncts p)
      → AllZip (IsNumbered families) ps ds → Each (IsDisjunctOf families variables_known) ds
  disjuncts_fit families [] [] among all = tt
  disjuncts_fit families [] (d ∷ ds) among all = absurd all
  disjuncts_fit families (p ∷ ps) [] among all = absurd all
  disjuncts_fit families (p ∷ ps) (d ∷ ds) among all =
      (by p d (among p (head_member p ps)) all.0, disjuncts_fit families ps ds (λ q h. among q (tail_member p ps q h)) all.1)
    where
      by : (p : Predicate) (d : Disjunct) → Contains r.disjuncts p → IsNumbered families p d → IsDisjunctOf families variables_known d
      by Always disjunct.Always has is_d = tt
      by Always (disjunct.Of n vars) has is_d = absurd is_d
      by (Of i) disjunct.Always has is_d = absurd is_d
      by (Of i) (disjunct.Of n vars) has is_d =
          let fit = (predicate_fits i has).1 in
          (i.family, is_d.0, subst (λ vs. AllZip (λ v class. slice_get variables_known v.0 ≡ Some (Some class)) vs i.family.classes) (sym is_d.1) fit)

  all_fit : (families : List Family) (ds : List Disjunct) → AllZip (IsNumbered families) r.disjuncts ds → All (IsDisjunctOf families variables_known) ds
  all_fit families ds all = each_get (IsDisjunctOf families variables_known) ds (disjuncts_fit families r.disjuncts ds (λ p h. h) all)

module _ (form : Form) (checked : IsChecked form) where
  method_there : (n : ℕ) (m : Method) → slice_get form.methods n ≡ Some m → MethodInRange (length form.classes) m
  method_there n m at =
      subst (MethodInRange (length form.classes)) (get_or_from_slice_get form.methods n m m at)
      ((checked_in_range form checked).methods n m (slice_get_within form.methods n m at))

  -- a clause question's reply
  module _ (n : ℕ) (m : Method) (at : slice_get form.methods n ≡ Some m) (tree : Tree) (r : Reply) (is : IsReply form m None tree r) where
    clause_there : (v start : ℕ) → slice_get (question_variables m None) v ≡ Some (Some start) → start < length form.classes
    clause_there = variables_there (length form.classes) m None None None (method_there n m at) (λ k e. absurd (cc)) (λ k e. absurd (cc)) (λ k e. absurd (cc))

    clause_fits : (i : Instance) → Contains r.disjuncts (Of i) → Fits form i.family
    clause_fits i has =
        (predicate_fits form m None tree r is (question_variables m None) (λ v start h. h) clause_there is.cases.list.typed (method_there n m at).few
        (λ bs h. (is.cases.whole.holds bs).0 h) i has).0

    clause_names : (families : List Family) (ds : List Disjunct) → AllZip (IsNumbered families) r.disjuncts ds
        → All (IsDisjunctOf families (variables_of m no_family)) ds
    clause_names =
        all_fit form m None tree r is (question_variables m None) (λ v start h. h) clause_there is.cases.list.typed (method_there n m at).few
        (λ bs h. (is.cases.whole.holds bs).0 h)

  -- an update question's reply
  module _ (n : ℕ) (m : Method) (at : slice_get form.methods n ≡ Some m) (family : Family) (fits : Fits form family) (results : ℕ) (tree : Tree) (r : Reply)
      (is_tree : IsTree (λ answers. update form most answers m family results) tree) (is : IsReply form m (Some family) tree r) where
    update_there : (v start : ℕ) → slice_get (question_variables m (Some family)) v ≡ Some (Some start) → start < length form.classes
    update_there =
        variables_there (length form.classes) m (slice_get family.classes 0) (slice_get family.classes 1) (slice_get family.classes 2) (method_there n m at)
        (family_there form family fits 0) (family_there form family fits 1) (family_there form family fits 2)

    typed_known : HaveClasses form (variables_of m (before_call family results)) is.ts is.classes
    typed_known =
        classes_before form m family results (terms_asked m tree true) is.ts is.classes is.cases.list.terms
        (update_typed form n m family results most tree checked at (update_asks_terms form most m family results tree is_tree)) is.cases.list.typed

    care_are : (bs : List ℕ) → Contains (counted m (Some family) is.ts is.all) bs → IsConfiguration is.ts is.classes bs
    care_are bs h = (is.cases.whole.holds bs).0 (of_filter (λ cs. clauses_hold m (by_blocks is.ts cs)) is.all bs h).0

    update_fits : (i : Instance) → Contains r.disjuncts (Of i) → Fits form i.family
    update_fits i has =
        (predicate_fits form m (Some family) tree r is (variables_of m (before_call family results)) (known_before m family results) update_there typed_known
        (method_there n m at).few care_are i has).0

    update_names : (families : List Family) (ds : List Disjunct) → AllZip (IsNumbered families) r.disjuncts ds
        → All (IsDisjunctOf families (variables_of m (before_call family results))) ds
    update_names =
        all_fit form m (Some family) tree r is (variables_of m (before_call family results)) (known_before m family results) update_there typed_known
        (method_there n m at).few care_are

  -- families that are met fit
  meets_fit : (ps : List Predicate) (known after : List Family) → ((f : Family) → Contains known f → Fits form f)
      → ((i : Instance) → Contains ps (Of i) → Fits form i.family) → Meets known ps after → (f : Family) → Contains after f → Fits form f
  meets_fit [] known after fit new meets f has = fit f (subst (λ l. Contains l f) meets has)
  meets_fit (Always ∷ ps) known after fit new meets f has = meets_fit ps known after fit (λ i h. new i (tail_member Always ps (Of i) h)) meets f has
  meets_fit (Of i ∷ ps) known after fit new meets f has =
      ⊎_elim (λ h. meets_fit ps known after fit (λ j g. new j (tail_member (Of i) ps (Of j) g)) h.1 f has)
      (λ h. meets_fit ps (known ++ i.family ∷ []) after
      (λ x g. ⊎_elim (fit x) (λ (k : Contains (i.family ∷ []) x). ⊎_elim
      (λ (e : i.family ≡ x). subst (Fits form) e (new i (head_member (Of i) ps))) (λ n. absurd (no_member x n)) (which_member i.family [] x k))
      (Contains-append_cases known (i.family ∷ []) x g))
      (λ j g. new j (tail_member (Of i) ps (Of j) g)) h.1 f has) meets

  contained : {X : Type 0} (xs : List X) (n : ℕ) (x : X) → slice_get xs n ≡ Some x → Contains xs x
  contained xs n x at = (n, slice_get_within xs n x at, get_or_from_slice_get xs n x x at)

  reply_fits : (known : List Family) → ((f : Family) → Contains known f → Fits form f) → (q : Question) (r : Reply) → Comes form known q (Ok r)
      → (i : Instance) → Contains r.disjuncts (Of i) → Fits form i.family
  reply_fits known fit (Clause n k) r comes = clause_fits n comes.0 comes.2.found comes.3.0 r comes.3.2
  reply_fits known fit (Update n results number) r comes =
      update_fits n comes.0 comes.2 comes.1 (fit comes.1 (contained known number comes.1 comes.3)) results comes.4.0 r comes.4.1 comes.4.2

  asked_fit : (n : ℕ) (families : List Family) → Asked form n families → (f : Family) → Contains families f → Fits form f
  asked_fit n families none f has = absurd (no_member f has)
  asked_fit n families (next k known after q r asked at comes meets few) f has =
      meets_fit r.disjuncts known after (asked_fit k known asked) (reply_fits known (asked_fit k known asked) q r comes) meets f has

  pub all_asked_fit : (n : ℕ) (families : List Family) → Asked form n families → All (Fits form) families
  all_asked_fit n families asked = all_members (Fits form) families (asked_fit n families asked)

  asked_few : (n : ℕ) (families : List Family) → Asked form n families → length families ≤ 64
  asked_few n families none = omega arith
  asked_few n families (next k known after q r asked at comes meets few) = few

  -- Below, the families fit.
  module _ (families : List Family) (fit : (f : Family) → Contains families f → Fits form f) where
    clause_exact : (q : Question) (e : ClauseFacts) → IsClauseReply form families q e → IsClauseEntry form families q e
    clause_exact q e is =
        let r = is.1.0 in
        let comes = subst (λ x. Comes form families x (Ok r)) is.0 is.1.1 in
        record {
          asked = is.0;
          of = comes.0;
          found = comes.2.found;
          test = comes.1;
          at = comes.2.at;
          names = clause_names e.method comes.0 comes.2.found comes.3.0 r comes.3.2 families e.disjuncts is.1.2;
          exact = clause_replies_are_exact form comes.0 (condition_of comes.1) r families e.disjuncts comes.3 is.1.2;
        }

    update_exact : (q : Question) (e : entry.Update) → IsUpdateReply form families q e → IsUpdateEntry form families q e
    update_exact q e is =
        let r = is.1.0 in
        let comes = subst (λ x. Comes form families x (Ok r)) is.0 is.1.1 in
        let fits = fit comes.1 (contained families e.family comes.1 comes.3) in
        record {
          asked = is.0;
          of = comes.0;
          found = comes.2;
          over = comes.1;
          numbered = comes.3;
          names = update_names e.method comes.0 comes.2 comes.1 fits e.results comes.4.0 r comes.4.1 comes.4.2 families e.disjuncts is.1.2;
          exact = update_replies_are_exact form e.method comes.0 comes.1 e.results r families e.disjuncts checked comes.2 fits comes.4 is.1.2;
        }

  pub closed_is_exact : (a : Abstraction) → Closes form a → HasExactEntries form a
  closed_is_exact a closes =
      let n = length (questions form a.families) in
      let fit = asked_fit n a.families closes.asked in
      record {
        few = asked_few n a.families closes.asked;
        fit = all_asked_fit n a.families closes.asked;
        clauses = zip_so (IsClauseReply form a.families) (IsClauseEntry form a.families) (clause_exact a.families fit) (clause_questions form) a.clauses
            closes.clauses;
        updates = zip_so (IsUpdateReply form a.families) (IsUpdateEntry form a.families) (update_exact a.families fit) (update_questions form a.families)
            a.updates closes.updates;
      }
