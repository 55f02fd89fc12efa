-- A question comes to one reply or to one fault.
use Rattle.std.proofs.Common.{◌≡◌, ◌≢◌, ◌⊎◌, ℕ, ◌-◌, Bool, List, [], ◌∷◌, ◌++◌, AllPairs, Contains, Option, Some, None, Result, Ok, Err, length, slice_get, refl, ap, sym, subst, ◌∙◌, arith, append_assoc, ⊎_elim}
use Rattle.std.specs.Cmp.{IsTotalOrder}
use Rattle.std.specs.Cmp.Lexicographic.{slice_cmp}
use Rattle.std.specs.List.{AllZip}
use Rattle.std.specs.Ordering.{nat_cmp, ordering_reverse, ordering_then}
use Rattle.std.specs.declared.cmp.Ordering.{Ordering}
use Rattle.std.specs.declared.cmp.Ordering.TheVariants.{Less, Equal, Greater}
use Rattle.std.proofs.lemmas.Cmp.{nat_list_cmp_total, tied_itself}
use Rattle.std.proofs.lemmas.List.Elements.{Contains-append_cases, Contains-append_left, Contains-append_right}
use Rattle.easl_model.specs.Form.{Form}
use Rattle.easl_model.specs.declared.form.Method.{Method}
use Rattle.easl_heap.specs.{FieldsLead}
use Rattle.access_paths.specs.{compare_cubes, compare_terms}
use Rattle.access_paths.specs.Trees.{Tree}
use Rattle.access_paths.specs.declared.term.Cube.{Cube}
use Rattle.access_paths.specs.declared.term.Family.{Family}
use Rattle.access_paths.specs.declared.term.Instance.{Instance}
use Rattle.access_paths.specs.declared.term.Term.{Term}
use Rattle.access_paths.proofs.Exact.{instances_exact}
use Rattle.access_paths.proofs.Instances.{one_family}
use Rattle.access_paths.proofs.Members.{head_member, no_member, tail_member, which_member}
use Rattle.access_paths.proofs.Orders.{cubes_total, terms_total}
use Rattle.case_model.specs.{Adds, AreConfigurations, AreDisjuncts, FallsShort, HaveClasses, IsConfiguration, question_variables}
use Rattle.question_model.specs.{IsTree, fails, update}
use Rattle.question_model.specs.Split.{IsLong}
use Rattle.question_model.specs.Stage.{Stage}
use Rattle.question_model.specs.declared.answer.Answer.{Answer}
use Rattle.question_model.proofs.TreeLaws.{one_tree, tree_or_long}
use Rattle.cube_search.specs.Lists.{Each, Rises}
use Rattle.cube_search.proofs.Lists.{each-in}
use Rattle.cube_cover.proofs.Named.{contains_in, pairs_rises}
use Rattle.easl_model.specs.{condition_of}
use Rattle.weakest_pre.specs.Running.{most}
use Rattle.method_abstraction.specs.declared.entry.Question.{Question}
use Rattle.method_abstraction.specs.declared.entry.Question.TheVariants.{Clause, Update}
use Rattle.derivation.specs.Closing.{Comes}
use Rattle.derivation.specs.Replies.{AreItsCases, ClauseReplies, ComesTo, HasLongClause, HasManyCases, UpdateReplies, IsItsList, IsPredicateOf, IsReply, IsUncovered, Replies, classes_by_number, counted}
use Rattle.derivation.specs.declared.reply.AskFault.{AskFault}
use Rattle.derivation.specs.declared.reply.AskFault.TheVariants.{Path, Cases, Cover, Memory}
use Rattle.derivation.specs.declared.reply.Predicate.{Predicate}
use Rattle.derivation.specs.declared.reply.Predicate.TheVariants.{Always, Of}
use Rattle.derivation.specs.declared.reply.Reply.{Reply}
use Rattle.derivation.proofs.Fitting.{no_more}

-- lists in order with the same items are one
module _ {X : Type 0} (compare : X → X → Ordering) (total : IsTotalOrder compare) where
  abbrev Before : X → X → Type 0
  Before x y = compare x y ≡ Less

  not_before_itself : (x : X) → Before x x → ⊥
  not_before_itself x less = let tied : compare x x ≡ Equal = tied_itself total x in cc

  same_rest : (x : X) (xs ys : List X) → Each (Before x) xs → ((z : X) → Contains (x ∷ xs) z → Contains (x ∷ ys) z) → (z : X) → Contains xs z → Contains ys z
  same_rest x xs ys after among z has =
      ⊎_elim
      (λ (e : x ≡ z). absurd (not_before_itself x (subst (Before x) (sym e) (each-in (Before x) xs z after (contains_in z xs has)))))
      (λ h. h) (which_member x ys z (among z (tail_member x xs z has)))

  same_sorted : (xs ys : List X) → Rises Before xs → Rises Before ys → ((z : X) → Contains xs z → Contains ys z) → ((z : X) → Contains ys z → Contains xs z)
      → xs ≡ ys
  same_sorted [] [] up down to from = refl
  same_sorted [] (y ∷ ys) up down to from = absurd (no_member y (from y (head_member y ys)))
  same_sorted (x ∷ xs) [] up down to from = absurd (no_member x (to x (head_member x xs)))
  same_sorted (x ∷ xs) (y ∷ ys) up down to from =
      let one : y ≡ x =
      ⊎_elim (λ (e : y ≡ x). e)
      (λ (h : Contains ys x).
      ⊎_elim (λ (e : x ≡ y). sym e)
      (λ (k : Contains xs y).
      absurd (not_before_itself x (total.trans x y x
      (each-in (Before x) xs y up.0 (contains_in y xs k)) (each-in (Before y) ys x down.0 (contains_in x ys h)))))
      (which_member x xs y (from y (head_member y ys))))
      (which_member y ys x (to x (head_member x xs))) in
      let to_x = subst (λ w. (z : X) → Contains (x ∷ xs) z → Contains (w ∷ ys) z) one to in
      let from_x = subst (λ w. (z : X) → Contains (w ∷ ys) z → Contains (x ∷ xs) z) one from in
      let down_x = subst (λ w. Each (Before w) ys) one down.0 in
      let rest = same_sorted xs ys up.1 down.1 (same_rest x xs ys up.0 to_x) (same_rest x ys xs down_x from_x) in
      λ i. sym one i ∷ rest i

  one_sorted : (xs ys : List X) → AllPairs Before xs → AllPairs Before ys → ((z : X) → Contains xs z → Contains ys z)
      → ((z : X) → Contains ys z → Contains xs z) → xs ≡ ys
  one_sorted xs ys up down to from = same_sorted xs ys (pairs_rises Before xs up) (pairs_rises Before ys down) to from

  front_before : (done : List X) (y : X) (ys : List X) (d : X) → Rises Before (done ++ y ∷ ys) → Contains done d → Before d y
  front_before [] y ys d up has = absurd (no_member d has)
  front_before (x ∷ done) y ys d up has =
      ⊎_elim
      (λ (e : x ≡ d). subst (λ w. Before w y) e
      (each-in (Before x) (done ++ y ∷ ys) y up.0 (contains_in y (done ++ y ∷ ys) (Contains-append_right done (y ∷ ys) y (head_member y ys)))))
      (λ (h : Contains done d). front_before done y ys d up.1 h) (which_member x done d has)

  rest_after : (done : List X) (y : X) (ys : List X) → Rises Before (done ++ y ∷ ys) → Each (Before y) ys
  rest_after [] y ys up = up.0
  rest_after (x ∷ done) y ys up = rest_after done y ys up.1

leads_once : (form : Form) (class : ℕ) (ps : List ℕ) (a b : ℕ) → FieldsLead form class ps a → FieldsLead form class ps b → a ≡ b
leads_once form class [] a b x y = sym x ∙ y
leads_once form class (p ∷ ps) a b x y =
    let same_some : Some x.0 ≡ Some y.0 = sym x.1 ∙ y.1 in
    let same : x.0 ≡ y.0 = cc in
    leads_once form y.0 ps a b (subst (λ n. FieldsLead form n ps a) same x.2) y.2

one_class_each : (form : Form) (vs : List (Option ℕ)) (ts : List Term) (cs ds : List ℕ) → HaveClasses form vs ts cs → HaveClasses form vs ts ds → cs ≡ ds
one_class_each form vs [] [] [] x y = refl
one_class_each form vs [] (c ∷ cs) ds x y = absurd x
one_class_each form vs [] [] (d ∷ ds) x y = absurd y
one_class_each form vs (t ∷ ts) [] ds x y = absurd x
one_class_each form vs (t ∷ ts) (c ∷ cs) [] x y = absurd y
one_class_each form vs (t ∷ ts) (c ∷ cs) (d ∷ ds) x y =
    let same_some : Some (Some x.0.start) ≡ Some (Some y.0.start) = sym x.0.variable ∙ y.0.variable in
    let same : x.0.start ≡ y.0.start = cc in
    let one = leads_once form y.0.start t.fields c d (subst (λ n. FieldsLead form n t.fields c) same x.0.leads) y.0.leads in
    let rest = one_class_each form vs ts cs ds x.1 y.1 in
    λ i. one i ∷ rest i

-- cubes that compare as equal are one
cubes_exact : (c d : Cube) → compare_cubes c d ≡ Equal → c ≡ d
cubes_exact c d e =
    let with : Cube → Instance = λ x. record { family = record { classes = []; cube = x }; args = [] } in
    ap (λ (i : Instance). i.family.cube) (instances_exact (with c) (with d) (ap (λ o. ordering_then o Equal) e))

-- the chosen cubes are one list
module _ (ts : List Term) (care : List (List ℕ)) (tree : Tree) where
  Chosen : List Cube → Type 0
  Chosen cubes = AreDisjuncts ts care tree cubes

  abbrev Earlier : Cube → Cube → Type 0
  Earlier c d = compare_cubes c d ≡ Less

  -- none is chosen that comes before what is left of the other list
  none_more : (done rest : List Cube) (y : Cube) (ys : List Cube) → Each (Earlier y) rest → AreDisjuncts ts care tree (done ++ rest)
      → AreDisjuncts ts care tree (done ++ y ∷ ys) → ⊥
  none_more done rest y ys after first second =
      let has : Contains (done ++ y ∷ ys) y = Contains-append_right done (y ∷ ys) y (head_member y ys) in
      let of = (second.are y).0 has in
      let adds = of.1 in
      let up = pairs_rises Earlier (done ++ y ∷ ys) second.ordered in
      let late : (d : Cube) → Contains rest d → Earlier y d = λ d h. each-in (Earlier y) rest d after (contains_in d rest h) in
      let new : Adds ts care tree (done ++ rest) y = (
        adds.0,
        adds.1,
        adds.2,
        adds.3,
        (
          adds.4.0,
          λ d in_d before.
              ⊎_elim (λ (h : Contains done d). adds.4.1 d (Contains-append_left done (y ∷ ys) d h) before)
              (λ (h : Contains rest d). absurd (not_before_itself compare_cubes cubes_total y (cubes_total.trans y d y (late d h) before)))
              (Contains-append_cases done rest d in_d),
        ),
      ) in
      ⊎_elim (λ (h : Contains done y). not_before_itself compare_cubes cubes_total y (front_before compare_cubes cubes_total done y ys y up h))
      (λ (h : Contains rest y). not_before_itself compare_cubes cubes_total y (late y h)) (Contains-append_cases done rest y ((first.are y).1 (of.0, new)))

  later : (y x : Cube) (done xs : List Cube) → Earlier y x → AreDisjuncts ts care tree (done ++ x ∷ xs) → Each (Earlier y) (x ∷ xs)
  later y x done xs before chosen = (before, all xs (rest_after compare_cubes cubes_total done x xs (pairs_rises Earlier (done ++ x ∷ xs) chosen.ordered)))
    where
      all : (ds : List Cube) → Each (Earlier x) ds → Each (Earlier y) ds
      all [] after = tt
      all (d ∷ ds) after = (cubes_total.trans y x d before after.0, all ds after.1)

  chosen_rest : (done xs ys : List Cube) → AreDisjuncts ts care tree (done ++ xs) → AreDisjuncts ts care tree (done ++ ys) → xs ≡ ys
  chosen_rest done [] [] first second = refl
  chosen_rest done [] (y ∷ ys) first second = absurd (none_more done [] y ys tt first second)
  chosen_rest done (x ∷ xs) [] first second = absurd (none_more done [] x xs tt second first)
  chosen_rest done (x ∷ xs) (y ∷ ys) first second = by (compare_cubes x y) refl (chosen_rest (done ++ x ∷ []) xs ys)
    where
      by : (o : Ordering) → compare_cubes x y ≡ o
          → (AreDisjuncts ts care tree ((done ++ x ∷ []) ++ xs) → AreDisjuncts ts care tree ((done ++ x ∷ []) ++ ys) → xs ≡ ys) → x ∷ xs ≡ y ∷ ys
      by Less e rest = absurd (none_more done (y ∷ ys) x xs (later x y done ys e second) second first)
      by Greater e rest =
          let less : compare_cubes y x ≡ Less = cubes_total.antisymm y x ∙ ap ordering_reverse e in
          absurd (none_more done (x ∷ xs) y ys (later y x done xs less first) first second)
      by Equal e rest =
          let one = cubes_exact x y e in
          let again = subst (AreDisjuncts ts care tree) (sym (append_assoc done (x ∷ []) xs)) first in
          let other = subst (AreDisjuncts ts care tree) (sym (append_assoc done (x ∷ []) ys))
          (subst (λ z. AreDisjuncts ts care tree (done ++ z ∷ ys)) (sym one) second) in
          let same = rest again other in
          λ i. one i ∷ same i

  chosen_once : (xs ys : List Cube) → AreDisjuncts ts care tree xs → AreDisjuncts ts care tree ys → xs ≡ ys
  chosen_once xs ys first second = chosen_rest [] xs ys first second

one_predicate : (classes : List ℕ) (c : Cube) (p q : Predicate) → IsPredicateOf classes c p → IsPredicateOf classes c q → p ≡ q
one_predicate classes c Always Always x y = refl
one_predicate classes c Always (Of j) x y = absurd (y.0 x)
one_predicate classes c (Of i) Always x y = absurd (x.0 y)
one_predicate classes c (Of i) (Of j) x y = ap Of (one_family c classes i j x.1 y.1)

one_predicate_each : (classes : List ℕ) (cs : List Cube) (ps qs : List Predicate) → AllZip (IsPredicateOf classes) cs ps
    → AllZip (IsPredicateOf classes) cs qs → ps ≡ qs
one_predicate_each classes [] [] [] x y = refl
one_predicate_each classes [] (p ∷ ps) qs x y = absurd x
one_predicate_each classes [] [] (q ∷ qs) x y = absurd y
one_predicate_each classes (c ∷ cs) [] qs x y = absurd x
one_predicate_each classes (c ∷ cs) (p ∷ ps) [] x y = absurd y
one_predicate_each classes (c ∷ cs) (p ∷ ps) (q ∷ qs) x y =
    let one = one_predicate classes c p q x.0 y.0 in
    let rest = one_predicate_each classes cs ps qs x.1 y.1 in
    λ i. one i ∷ rest i

-- Below, this is the tree of a question.
module _ (form : Form) (m : Method) (family : Option Family) (tree : Tree) where
  one_list : (ts us : List Term) (cs ds : List ℕ) → IsItsList form m family tree ts cs → IsItsList form m family tree us ds → (ts ≡ us) × (cs ≡ ds)
  one_list ts us cs ds x y =
      let same : ts ≡ us =
      one_sorted compare_terms terms_total ts us x.terms.ordered y.terms.ordered (λ t h. (y.terms.holds t).1 ((x.terms.holds t).0 h))
      (λ t h. (x.terms.holds t).1 ((y.terms.holds t).0 h)) in
      (same, one_class_each form (question_variables m family) us cs ds (subst (λ l. HaveClasses form (question_variables m family) l cs) same x.typed) y.typed)

  one_cases : (ts us : List Term) (cs ds : List ℕ) (all more : List (List ℕ)) → AreItsCases form m family tree ts cs all
      → AreItsCases form m family tree us ds more → (ts ≡ us) × (all ≡ more)
  one_cases ts us cs ds all more x y =
      let list = one_list ts us cs ds x.list y.list in
      let here : AreConfigurations us ds all = subst (λ l. AreConfigurations us l all) list.1 (subst (λ l. AreConfigurations l cs all) list.0 x.whole) in (
        list.0,
        one_sorted (slice_cmp nat_cmp) nat_list_cmp_total all more here.ordered y.whole.ordered (λ bs h. (y.whole.holds bs).1 ((here.holds bs).0 h))
            (λ bs h. (here.holds bs).1 ((y.whole.holds bs).0 h)),
      )

  one_choice : (ts us : List Term) (cs ds : List ℕ) (all more : List (List ℕ)) (xs ys : List Cube) → AreItsCases form m family tree ts cs all
      → AreItsCases form m family tree us ds more → AreDisjuncts ts (counted m family ts all) tree xs → AreDisjuncts us (counted m family us more) tree ys
      → (ts ≡ us) × (all ≡ more) × (xs ≡ ys)
  one_choice ts us cs ds all more xs ys x y first second =
      let same = one_cases ts us cs ds all more x y in
      let here = subst (λ l. AreDisjuncts us (counted m family us l) tree xs) same.1
      (subst (λ l. AreDisjuncts l (counted m family l all) tree xs) same.0 first) in
      (same.0, same.1, chosen_once us (counted m family us more) tree xs ys here second)

  one_reply : (r s : Reply) → IsReply form m family tree r → IsReply form m family tree s → r ≡ s
  one_reply r s x y =
      let same = one_choice x.ts y.ts x.classes y.classes x.all y.all x.cubes y.cubes x.cases y.cases x.chosen y.chosen in
      let of = classes_by_number m family in
      let disjuncts = one_predicate_each of y.cubes r.disjuncts s.disjuncts
      (subst (λ l. AllZip (IsPredicateOf of) l r.disjuncts) same.2 x.disjuncts) y.disjuncts in
      let term_count : r.term_count ≡ s.term_count = x.term_count ∙ ap length same.0 ∙ sym y.term_count in
      let case_count : r.case_count ≡ s.case_count = x.case_count ∙ ap length same.1 ∙ sym y.case_count in
      λ i. record { term_count = term_count i; case_count = case_count i; disjuncts = disjuncts i }

  few_or_many : (ts : List Term) (cs : List ℕ) (all : List (List ℕ)) → AreItsCases form m family tree ts cs all → HasManyCases form m family tree → ⊥
  few_or_many ts cs all x y =
      let list = one_list y.ts ts y.classes cs y.list x.list in
      let are : (bs : List ℕ) → Contains y.many.some bs → IsConfiguration ts cs bs =
      λ bs h. subst (λ l. IsConfiguration ts l bs) list.1
      (subst (λ l. IsConfiguration l y.classes bs) list.0 (subst (IsConfiguration y.ts y.classes) h.2 (y.many.are h.0 bs h.1))) in
      let most = no_more y.many.some all y.many.different (λ bs h. (x.whole.holds bs).1 (are bs h)) in
      omega (arith, most, x.few, y.many.many)

  covers_or_not : (r : Reply) → IsReply form m family tree r → IsUncovered form m family tree → ⊥
  covers_or_not r x y =
      let same = one_choice y.ts x.ts y.classes x.classes y.all x.all y.cubes x.cubes y.cases x.cases y.chosen x.chosen in
      x.covers (subst (FallsShort x.ts (counted m family x.ts x.all) tree) same.2
      (subst (λ l. FallsShort x.ts (counted m family x.ts l) tree y.cubes) same.1
      (subst (λ l. FallsShort l (counted m family l y.all) tree y.cubes) same.0 y.short)))

  one_outcome : (a b : Result Reply AskFault) → a ≢ Err Memory → b ≢ Err Memory → ComesTo form m family tree a → ComesTo form m family tree b → a ≡ b
  one_outcome (Ok r) (Ok s) told also x y = ap Ok (one_reply r s x y)
  one_outcome (Ok r) (Err Path) told also x y = absurd (x.cases.list.short y)
  one_outcome (Ok r) (Err Cases) told also x y = absurd (few_or_many x.ts x.classes x.all x.cases y)
  one_outcome (Ok r) (Err Cover) told also x y = absurd (covers_or_not r x y)
  one_outcome (Err Path) (Ok s) told also x y = absurd (y.cases.list.short x)
  one_outcome (Err Path) (Err Path) told also x y = refl
  one_outcome (Err Path) (Err Cases) told also x y = absurd (y.list.short x)
  one_outcome (Err Path) (Err Cover) told also x y = absurd (y.cases.list.short x)
  one_outcome (Err Cases) (Ok s) told also x y = absurd (few_or_many y.ts y.classes y.all y.cases x)
  one_outcome (Err Cases) (Err Path) told also x y = absurd (x.list.short y)
  one_outcome (Err Cases) (Err Cases) told also x y = refl
  one_outcome (Err Cases) (Err Cover) told also x y = absurd (few_or_many y.ts y.classes y.all y.cases x)
  one_outcome (Err Cover) (Ok s) told also x y = absurd (covers_or_not s y x)
  one_outcome (Err Cover) (Err Path) told also x y = absurd (x.cases.list.short y)
  one_outcome (Err Cover) (Err Cases) told also x y = absurd (few_or_many x.ts x.classes x.all x.cases y)
  one_outcome (Err Cover) (Err Cover) told also x y = refl
  one_outcome (Err Memory) b told also x y = absurd (told refl)
  one_outcome (Ok r) (Err Memory) told also x y = absurd (also refl)
  one_outcome (Err Path) (Err Memory) told also x y = absurd (also refl)
  one_outcome (Err Cases) (Err Memory) told also x y = absurd (also refl)
  one_outcome (Err Cover) (Err Memory) told also x y = absurd (also refl)

abbrev IsPath : Result Reply AskFault → Type 0
IsPath (Err Path) = Unit {0}
IsPath r = ⊥

-- what a question comes to
one_answer : (form : Form) (m : Method) (family : Option Family) (question : List Answer → Stage Bool) (a b : Result Reply AskFault) → a ≢ Err Memory
    → b ≢ Err Memory → Replies form m family question a → Replies form m family question b → a ≡ b
one_answer form m family question a b told also = by a b told also
  where
    with_tree : (a b : Result Reply AskFault) → a ≢ Err Memory → b ≢ Err Memory → (x : Tree) → IsTree question x → ComesTo form m family x a
        → (y : Tree) → IsTree question y → ComesTo form m family y b → a ≡ b
    with_tree a b told also x is_x comes_x y is_y comes_y =
        let same : x ≡ y = one_tree question x y is_x is_y in
        one_outcome form m family y a b told also (subst (λ t. ComesTo form m family t a) same comes_x) comes_y

    with_long : (b : Result Reply AskFault) → b ≢ Err Memory → IsLong question ⊎ HasLongClause m family → (y : Tree) → IsTree question y
        → ComesTo form m family y b → Err Path ≡ b
    with_long b also long y is_y comes_y =
        ⊎_elim (λ (h : IsLong question). absurd (tree_or_long question y is_y h))
        (λ (h : HasLongClause m family). one_outcome form m family y (Err Path) b (λ e. subst IsPath e tt) also h comes_y) long

    by : (a b : Result Reply AskFault) → a ≢ Err Memory → b ≢ Err Memory → Replies form m family question a → Replies form m family question b → a ≡ b
    by (Err Memory) b told also x y = absurd (told refl)
    by a (Err Memory) told also x y = absurd (also refl)
    by (Err Path) (Err Path) told also x y = refl
    by (Err Path) (Ok s) told also x y = with_long (Ok s) also x y.0 y.1 y.2
    by (Err Path) (Err Cases) told also x y = with_long (Err Cases) also x y.0 y.1 y.2
    by (Err Path) (Err Cover) told also x y = with_long (Err Cover) also x y.0 y.1 y.2
    by (Ok r) (Err Path) told also x y = sym (with_long (Ok r) told y x.0 x.1 x.2)
    by (Err Cases) (Err Path) told also x y = sym (with_long (Err Cases) told y x.0 x.1 x.2)
    by (Err Cover) (Err Path) told also x y = sym (with_long (Err Cover) told y x.0 x.1 x.2)
    by (Ok r) (Ok s) told also x y = with_tree (Ok r) (Ok s) told also x.0 x.1 x.2 y.0 y.1 y.2
    by (Ok r) (Err Cases) told also x y = with_tree (Ok r) (Err Cases) told also x.0 x.1 x.2 y.0 y.1 y.2
    by (Ok r) (Err Cover) told also x y = with_tree (Ok r) (Err Cover) told also x.0 x.1 x.2 y.0 y.1 y.2
    by (Err Cases) (Ok s) told also x y = with_tree (Err Cases) (Ok s) told also x.0 x.1 x.2 y.0 y.1 y.2
    by (Err Cases) (Err Cases) told also x y = refl
    by (Err Cases) (Err Cover) told also x y = with_tree (Err Cases) (Err Cover) told also x.0 x.1 x.2 y.0 y.1 y.2
    by (Err Cover) (Ok s) told also x y = with_tree (Err Cover) (Ok s) told also x.0 x.1 x.2 y.0 y.1 y.2
    by (Err Cover) (Err Cases) told also x y = with_tree (Err Cover) (Err Cases) told also x.0 x.1 x.2 y.0 y.1 y.2
    by (Err Cover) (Err Cover) told also x y = refl

pub comes_once : (form : Form) (known : List Family) (q : Question) (a b : Result Reply AskFault) → a ≢ Err Memory → b ≢ Err Memory → Comes form known q a
    → Comes form known q b → a ≡ b
comes_once form known (Clause n k) a b told also x y =
    let same_some : Some x.0 ≡ Some y.0 = sym x.2.found ∙ y.2.found in
    let same : x.0 ≡ y.0 = cc in
    let at : slice_get y.0.clauses (k - 1) ≡ Some x.1 = subst (λ m. slice_get m.clauses (k - 1) ≡ Some x.1) same x.2.at in
    let same_test_some : Some x.1 ≡ Some y.1 = sym at ∙ y.2.at in
    let same_test : x.1 ≡ y.1 = cc in
    let here = subst (λ t. ClauseReplies form y.0 (condition_of t) a) same_test (subst (λ m. ClauseReplies form m (condition_of x.1) a) same x.3) in
    one_answer form y.0 None (λ answers. fails form most answers y.0 (condition_of y.1)) a b told also here y.3
comes_once form known (Update n results number) a b told also x y =
    let same_some : Some x.0 ≡ Some y.0 = sym x.2 ∙ y.2 in
    let same : x.0 ≡ y.0 = cc in
    let same_family_some : Some x.1 ≡ Some y.1 = sym x.3 ∙ y.3 in
    let same_family : x.1 ≡ y.1 = cc in
    let here = subst (λ f. UpdateReplies form y.0 f results a) same_family (subst (λ m. UpdateReplies form m x.1 results a) same x.4) in
    one_answer form y.0 (Some y.1) (λ answers. update form most answers y.0 y.1 results) a b told also here y.4
