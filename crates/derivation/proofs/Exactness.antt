-- The disjuncts of a reply are exact.
use Rattle.std.proofs.Common.{◌≡◌, ℕ, ⊎_elim, map, slice_index, Bool, true, false, cond, List, [], ◌∷◌, All, Contains, Some, None, arith, refl, ap, sym, subst, ◌∙◌, append-nil}
use Rattle.std.specs.List.{AllZip, filter}
use Rattle.std.specs.Option.{option_map_or}
use Rattle.std.proofs.lemmas.List.Elements.{Contains-append_left, Contains-append_right}
use Rattle.std.proofs.lemmas.List.Folds.{Any-from_list_any, list_any-from_Any}
use Rattle.access_paths.specs.{answer, by_objects, cube_holds}
use Rattle.access_paths.specs.Trees.{Tree}
use Rattle.access_paths.specs.declared.term.Cube.{Cube}
use Rattle.access_paths.specs.declared.term.Family.{Family}
use Rattle.access_paths.specs.declared.term.Term.{Term}
use Rattle.access_paths.proofs.Instances.{family_keeps_truth}
use Rattle.access_paths.proofs.Members.{head_member, tail_member, which_member}
use Rattle.access_paths.proofs.Substituted.{all_members}
use Rattle.case_model.specs.{AreDisjuncts, FallsShort, HasTerms, IsTrueAt, by_blocks, clauses_hold, terms_asked, terms_of_clauses, terms_of_cube}
use Rattle.case_model.specs.{terms_of_tree}
use Rattle.case_model.proofs.Terms.{asked_are_there}
use Rattle.question_model.proofs.AskedTerms.{update_asks_terms}
use Rattle.question_model.proofs.Truths.{clause_law, update_law}
use Rattle.weakest_pre.specs.Running.{most}
use Rattle.method_abstraction.specs.{SaysSame, disjunct_holds, one_holds}
use Rattle.method_abstraction.specs.declared.entry.Disjunct.{Disjunct}
use Rattle.method_abstraction.specs.declared.entry.Disjunct.TheVariants as disjunct
use Rattle.method_abstraction.proofs.Exactness.{clauses_are_exact, updates_are_exact}
use Rattle.derivation.specs.Laws.{ClauseRepliesAreExact, IsNumbered, UpdateRepliesAreExact}
use Rattle.derivation.specs.Replies.{IsPredicateOf, classes_by_number}
use Rattle.derivation.specs.declared.reply.Predicate.{Predicate}
use Rattle.derivation.specs.declared.reply.Predicate.TheVariants.{Always, Of}
use Rattle.derivation.proofs.Scopes.{classes_before, update_typed}

-- On the care list one of the disjuncts is true exactly where the tree is.
module _ (ts : List Term) (care : List (List ℕ)) (tree : Tree) (cubes : List Cube) (chosen : AreDisjuncts ts care tree cubes)
    (covers : ¬ FallsShort ts care tree cubes) where
  pub decides : (bs : List ℕ) → Contains care bs → answer (by_blocks ts bs) tree ≡ one_holds (by_blocks ts bs) cubes
  decides bs has = by (answer (by_blocks ts bs) tree) refl (one_holds (by_blocks ts bs) cubes) refl
    where
      by : (b : Bool) → answer (by_blocks ts bs) tree ≡ b → (d : Bool) → one_holds (by_blocks ts bs) cubes ≡ d → b ≡ d
      by true e true f = refl
      by false e false f = refl
      by true e false f =
          absurd (covers (
            has.0,
            bs,
            has.1,
            has.2,
            (
              e,
              all_members (λ c. ¬ IsTrueAt ts care tree c bs) cubes (λ c there is.
                  let yes : one_holds (by_blocks ts bs) cubes ≡ true =
                  list_any-from_Any (λ c. cube_holds (by_blocks ts bs) c.literals) cubes (there.0, c, there.1, there.2, is) in
                  cc),
            ),
          ))
      by false e true f =
          let one = Any-from_list_any (λ c. cube_holds (by_blocks ts bs) c.literals) cubes f in
          let of = ((chosen.are one.1).0 (one.0, one.2, one.3)).0 in
          let so : answer (by_blocks ts bs) tree ≡ true =
          subst (λ x. IsTrueAt ts care tree one.1 x → answer (by_blocks ts x) tree ≡ true) has.2 (of.implicant.none has.0 bs has.1) one.4 in
          absurd (cc)

  pub over_list : All (λ c. HasTerms ts (terms_of_cube c.literals)) cubes
  over_list = all_members (λ c. HasTerms ts (terms_of_cube c.literals)) cubes (λ c has. ((chosen.are c).0 has).0.implicant.over)

  -- numbered predicates say what the cubes say
  pub numbered_same : (classes : List ℕ) (families : List Family) (cs : List Cube) (ps : List Predicate) (ds : List Disjunct)
      → ((c : Cube) → Contains cs c → Contains cubes c)
      → AllZip (IsPredicateOf classes) cs ps → AllZip (IsNumbered families) ps ds → AllZip (SaysSame families) cs ds
  numbered_same classes families [] [] [] among are numbered = tt
  numbered_same classes families [] [] (d ∷ ds) among are numbered = absurd numbered
  numbered_same classes families [] (p ∷ ps) ds among are numbered = absurd are
  numbered_same classes families (c ∷ cs) [] ds among are numbered = absurd are
  numbered_same classes families (c ∷ cs) (p ∷ ps) [] among are numbered = absurd numbered
  numbered_same classes families (c ∷ cs) (p ∷ ps) (d ∷ ds) among are numbered = (
    by p d are.0 numbered.0,
    numbered_same classes families cs ps ds (λ x has. among x (tail_member c cs x has)) are.1 numbered.1,
  )
    where
      by : (p : Predicate) (d : Disjunct) → IsPredicateOf classes c p → IsNumbered families p d → SaysSame families c d
      by Always disjunct.Always is number heap objects = sym (ap (cube_holds (by_objects heap objects)) is)
      by Always (disjunct.Of n vars) is number heap objects = absurd number
      by (Of i) disjunct.Always is number heap objects = absurd number
      by (Of i) (disjunct.Of n vars) is number heap objects =
          ap (λ vs. disjunct_holds families heap objects (disjunct.Of n vs)) number.1
          ∙ ap
          (λ o. option_map_or (λ (f : Family). cube_holds (by_objects heap (map (λ v. slice_index objects v.0) i.args)) f.cube.literals) o false)
          number.0
          ∙ sym (family_keeps_truth heap objects c classes i ((chosen.are c).0 (among c (head_member c cs))).0.implicant.cube is.1.instance)

-- what passes a test is kept
in_filter : {X : Type 0} (test : X → Bool) (xs : List X) (x : X) → Contains xs x → test x ≡ true → Contains (filter test xs) x
in_filter test [] x has pass = absurd (omega (arith, has.1))
in_filter test (y ∷ xs) x has pass =
    ⊎_elim
    (λ (e : y ≡ x). subst (λ b. Contains (cond b (y ∷ filter test xs) (filter test xs)) x) (sym (ap test e ∙ pass))
    (subst (Contains (y ∷ filter test xs)) e (head_member y (filter test xs))))
    (λ (h : Contains xs x). by (test y) (in_filter test xs x h pass))
    (which_member y xs x has)
  where
    by : (b : Bool) → Contains (filter test xs) x → Contains (cond b (y ∷ filter test xs) (filter test xs)) x
    by true h = tail_member y (filter test xs) x h
    by false h = h

pub clause_replies_are_exact : ClauseRepliesAreExact
clause_replies_are_exact form m clause r families ds reply numbered =
    let tree = reply.0 in
    let is = reply.2 in
    let list = is.cases.list in
    let asked : HasTerms is.ts (terms_of_tree tree) =
    subst (HasTerms is.ts) (append-nil (terms_of_tree tree)) (asked_are_there (terms_asked m tree false) is.ts list.terms) in
    clauses_are_exact form families m clause is.ts is.classes tree is.cubes ds
    (record {
      typed = list.typed;
      asked = asked;
      over = over_list is.ts is.all tree is.cubes is.chosen is.covers;
      same = numbered_same is.ts is.all tree is.cubes is.chosen is.covers (classes_by_number m None)
          families is.cubes r.disjuncts ds (λ c has. has) is.disjuncts numbered;
    })
    (clause_law form most m clause tree reply.1)
    (λ bs one. decides is.ts is.all tree is.cubes is.chosen is.covers bs ((is.cases.whole.holds bs).1 one))

pub update_replies_are_exact : UpdateRepliesAreExact
update_replies_are_exact form n m family results r families ds checked at fits reply numbered =
    let tree = reply.0 in
    let is = reply.2 in
    let list = is.cases.list in
    let ts = is.ts in
    let care = filter (λ bs. clauses_hold m (by_blocks ts bs)) is.all in
    let there : HasTerms ts (terms_asked m tree true) = asked_are_there (terms_asked m tree true) ts list.terms in
    let typed = update_typed form n m family results most tree checked at (update_asks_terms form most m family results tree reply.1) in
    updates_are_exact form families n m results family ts is.classes tree is.cubes ds at
    (record {
      typed = classes_before form m family results (terms_asked m tree true) ts is.classes list.terms typed list.typed;
      asked = λ t has. there t (Contains-append_left (terms_of_tree tree) (terms_of_clauses m) t has);
      over = over_list ts care tree is.cubes is.chosen is.covers;
      same = numbered_same ts care tree is.cubes is.chosen is.covers (classes_by_number m (Some family))
          families is.cubes r.disjuncts ds (λ c has. has) is.disjuncts numbered;
    })
    (λ t has. there t (Contains-append_right (terms_of_tree tree) (terms_of_clauses m) t has))
    (update_law form most m family results tree fits reply.1)
    (λ bs one hold. decides ts care tree is.cubes is.chosen is.covers bs
    (in_filter (λ cs. clauses_hold m (by_blocks ts cs)) is.all bs ((is.cases.whole.holds bs).1 one) hold))
