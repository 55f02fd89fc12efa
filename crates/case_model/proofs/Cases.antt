-- The configuration of a heap, and truth in it.
use Rattle.std.proofs.Common.{◌≡◌, ℕ, zero, suc, ◌+◌, ◌<◌, ◌&&◌, ◌||◌, not, cond, Bool, true, false, is_none, nat_eq, List, [], ◌∷◌, ◌++◌, map, drop, length, Contains, Option, Some, None, fold, flat_map, refl, ap, sym, subst, ◌∙◌, arith, ⊎_elim, eq-eqb, ne_eqb, get_or-drop, if◌then◌else◌}
use Rattle.std.specs.Prelude.{slice_get, slice_index, ◌==◌}
use Rattle.std.specs.List.{list_all, position_or_len, position_from}
use Rattle.std.specs.Option.{option_map}
use Rattle.std.proofs.lemmas.Bool.{cases_eq}
use Rattle.std.proofs.lemmas.List.{length-map}
use Rattle.std.proofs.lemmas.List.Elements.{Contains-append_left, Contains-append_right}
use Rattle.std.proofs.lemmas.Option.{get_or_from_slice_get, slice_get-map}
use Rattle.easl_model.specs.{Condition, condition_of}
use Rattle.easl_model.specs.Conditions.{Conditions, Same, Differ, All, Any, none, ◌▸◌}
use Rattle.easl_model.specs.Form.{Form}
use Rattle.easl_model.specs.declared.form.Method.{Method}
use Rattle.easl_model.specs.declared.form.Reach.{Reach}
use Rattle.easl_model.proofs.Items.{item_at, zip_from}
use Rattle.easl_heap.specs.{IsObjectOf, Object, first_failing, get, holds, reached}
use Rattle.easl_heap.specs.Clause as clause
use Rattle.easl_heap.proofs.Writes.{one_class}
use Rattle.access_paths.specs.{Ask, Equals, IsTermOf, Leaf, answer, arguments_in, by_objects, cube_holds, field, literal_holds, object_of}
use Rattle.access_paths.specs.Trees.{Tree}
use Rattle.access_paths.specs.declared.term.Literal.{Literal}
use Rattle.access_paths.specs.declared.term.Term.{Term}
use Rattle.case_model.specs.{HasTerms, HeapsHaveCases, IsConfiguration, IsState, Joined, all_hold, any_holds, by_blocks, case_of, clauses_hold, clauses_of}
use Rattle.case_model.specs.{condition_holds, first_variable, place_of, term_of, terms_of_condition, terms_of_conditions, terms_of_cube, terms_of_tree}
use Rattle.case_model.proofs.Numbers.{all_met, are_numbered, length-numbers, number_at, one_object}
use Rattle.case_model.proofs.Terms.{found_at, leads_to, object_of-field}

-- two tests of numbers agree where the equalities do
tests_agree : (a b c d : ℕ) → (a ≡ b → c ≡ d) → (c ≡ d → a ≡ b) → (a == b) ≡ (c == d)
tests_agree a b c d to from =
    ⊎_elim
    (λ (e : a ≡ b). eq-eqb a b e ∙ sym (eq-eqb c d (to e)))
    (λ (n : a ≡ b → ⊥). ne_eqb a b n ∙ sym (ne_eqb c d (λ e. n (from e))))
    (cases_eq a b)

module _ (heap : List Object) (objects : List ℕ) (ts : List Term) where
  there : (i : ℕ) (t : Term) → slice_get ts i ≡ Some t → slice_get (map (object_of heap objects) ts) i ≡ Some (object_of heap objects t)
  there i t at = slice_get-map (object_of heap objects) ts i ∙ ap (option_map (object_of heap objects)) at

  -- the block of a term is the place of its object among all that are met
  block : (i : ℕ) (t : Term) → slice_get ts i ≡ Some t
      → slice_index (case_of heap objects ts) i ≡ position_or_len (nat_eq (object_of heap objects t)) (all_met [] (map (object_of heap objects) ts))
  block i t at =
      let n = number_at [] (map (object_of heap objects) ts) i (object_of heap objects t) (there i t at) in
      get_or_from_slice_get (case_of heap objects ts) i (position_or_len (nat_eq (object_of heap objects t)) (all_met [] (map (object_of heap objects) ts))) 0 n.0

  joined_same : (i j : ℕ) (t u : Term) → slice_get ts i ≡ Some t → slice_get ts j ≡ Some u → Joined (case_of heap objects ts) i j
      → object_of heap objects t ≡ object_of heap objects u
  joined_same i j t u at at' joined =
      let all = map (object_of heap objects) ts in
      one_object (all_met [] all) (object_of heap objects t) (object_of heap objects u)
      (number_at [] all i (object_of heap objects t) (there i t at)).1
      (number_at [] all j (object_of heap objects u) (there j u at')).1
      (sym (block i t at) ∙ joined ∙ block j u at')

  same_joined : (i j : ℕ) (t u : Term) → slice_get ts i ≡ Some t → slice_get ts j ≡ Some u → object_of heap objects t ≡ object_of heap objects u
      → Joined (case_of heap objects ts) i j
  same_joined i j t u at at' same =
      block i t at ∙ ap (λ o. position_or_len (nat_eq o) (all_met [] (map (object_of heap objects) ts))) same ∙ sym (block j u at')

  is_configuration : (form : Form) (variables : List (Option ℕ)) (classes : List ℕ) → IsState form variables ts classes heap objects
      → IsConfiguration ts classes (case_of heap objects ts)
  is_configuration form variables classes state = record {
    as_many = length-numbers [] (map (object_of heap objects) ts) ∙ length-map ts (object_of heap objects);
    numbered = are_numbered [] (map (object_of heap objects) ts);
    one_class = λ i j h h' joined. classes_same i j (item_at ts i h) (item_at ts j h') joined;
    along_fields = λ i j k l f t u ti uj tk ul joined.
        same_joined k l (field t f) (field u f) tk ul
        (object_of-field heap objects t f ∙ ap (λ o. get heap o f) (joined_same i j t u ti uj joined) ∙ sym (object_of-field heap objects u f));
  }
    where
      classes_same : (i j : ℕ) → ((t : Term) × (slice_get ts i ≡ Some t)) → ((t : Term) × (slice_get ts j ≡ Some t))
          → Joined (case_of heap objects ts) i j → slice_index classes i ≡ slice_index classes j
      classes_same i j t u joined =
          let c = zip_from (IsTermOf form variables) ts classes i t.0 state.typed t.1 in
          let d = zip_from (IsTermOf form variables) ts classes j u.0 state.typed u.1 in
          let o = leads_to form variables heap objects t.0 c.0 state.full state.given c.2 in
          let p = leads_to form variables heap objects u.0 d.0 state.full state.given d.2 in
          let same = joined_same i j t.0 u.0 t.1 u.1 joined in
          get_or_from_slice_get classes i c.0 0 c.1 ∙ one_class heap c.0 d.0 (object_of heap objects u.0) (subst (IsObjectOf heap c.0) same o) p ∙ sym (get_or_from_slice_get classes j d.0 0 d.1)

  -- terms of the list are equal in the configuration where their objects are
  equal_there : (t u : Term) → Contains ts t → Contains ts u → by_blocks ts (case_of heap objects ts) t u ≡ by_objects heap objects t u
  equal_there t u has has' =
      let i = place_of ts t in
      let j = place_of ts u in
      tests_agree (slice_index (case_of heap objects ts) i) (slice_index (case_of heap objects ts) j) (object_of heap objects t) (object_of heap objects u)
      (joined_same i j t u (found_at ts t has) (found_at ts u has'))
      (same_joined i j t u (found_at ts t has) (found_at ts u has'))

-- What asks for terms of a list alone is as true where these are equal alike.
module _ (ts : List Term) (e f : Equals) (agree : (t u : Term) → Contains ts t → Contains ts u → e t u ≡ f t u) where
  first_two : (t u : Term) (rest : List Term) → HasTerms ts (t ∷ u ∷ rest) → e t u ≡ f t u
  first_two t u rest has = agree t u (has t (0, omega arith, refl)) (has u (1, omega arith, refl))

  after_two : (t u : Term) (rest : List Term) → HasTerms ts (t ∷ u ∷ rest) → HasTerms ts rest
  after_two t u rest has x there = has x (suc (suc there.0), omega (arith, there.1), there.2)

  in_left : (us rest : List Term) → HasTerms ts (us ++ rest) → HasTerms ts us
  in_left us rest has x there = has x (Contains-append_left us rest x there)

  in_right : (us rest : List Term) → HasTerms ts (us ++ rest) → HasTerms ts rest
  in_right us rest has x there = has x (Contains-append_right us rest x there)

  same_answer : (tree : Tree) → HasTerms ts (terms_of_tree tree) → answer e tree ≡ answer f tree
  same_answer (Leaf b) has = refl
  same_answer (Ask t u x y) has =
      let xs = terms_of_tree x in
      let ys = terms_of_tree y in
      let below = after_two t u (xs ++ ys) has in
      ap (λ b. if b then answer e x else answer e y) (first_two t u (xs ++ ys) has)
      ∙ ap (λ r. if f t u then r else answer e y) (same_answer x (in_left xs ys below))
      ∙ ap (λ r. if f t u then answer f x else r) (same_answer y (in_right xs ys below))

  same_cube : (ls : List Literal) → HasTerms ts (terms_of_cube ls) → cube_holds e ls ≡ cube_holds f ls
  same_cube [] has = refl
  same_cube (l ∷ ls) has =
      ap (λ b. (if l.same then b else not b) && cube_holds e ls) (first_two l.less l.more (terms_of_cube ls) has)
      ∙ ap (λ b. literal_holds f l && b) (same_cube ls (after_two l.less l.more (terms_of_cube ls) has))

  module _ (first : ℕ) where
    mutual
      same_condition : (c : Condition) → HasTerms ts (terms_of_condition first c) → condition_holds first e c ≡ condition_holds first f c
      same_condition (Same left right) has = first_two (term_of first left) (term_of first right) [] has
      same_condition (Differ left right) has = ap not (first_two (term_of first left) (term_of first right) [] has)
      same_condition (All cs) has = same_all cs has
      same_condition (Any cs) has = same_any cs has

      same_all : (cs : Conditions) → HasTerms ts (terms_of_conditions first cs) → all_hold first e cs ≡ all_hold first f cs
      same_all none has = refl
      same_all (c ▸ cs) has = λ i.
          same_condition c (in_left (terms_of_condition first c) (terms_of_conditions first cs) has) i
          && same_all cs (in_right (terms_of_condition first c) (terms_of_conditions first cs) has) i

      same_any : (cs : Conditions) → HasTerms ts (terms_of_conditions first cs) → any_holds first e cs ≡ any_holds first f cs
      same_any none has = refl
      same_any (c ▸ cs) has = λ i.
          same_condition c (in_left (terms_of_condition first c) (terms_of_conditions first cs) has) i
          || same_any cs (in_right (terms_of_condition first c) (terms_of_conditions first cs) has) i

    same_clauses : (cs : List Condition) → HasTerms ts (flat_map (terms_of_condition first) cs)
        → list_all (condition_holds first e) cs ≡ list_all (condition_holds first f) cs
    same_clauses [] has = refl
    same_clauses (c ∷ cs) has = λ i.
        same_condition c (in_left (terms_of_condition first c) (flat_map (terms_of_condition first) cs) has) i
        && same_clauses cs (in_right (terms_of_condition first c) (flat_map (terms_of_condition first) cs) has) i

-- A condition on slots is the condition on variables.
module _ (heap : List Object) (objects : List ℕ) (first : ℕ) where
  same_end : (r : Reach) → object_of heap objects (term_of first r) ≡ reached heap (drop first objects) r
  same_end r = ap (λ o. fold (get heap) o r.fields) (sym (get_or-drop first objects r.slot 0))

  mutual
    condition_there : (c : Condition) → condition_holds first (by_objects heap objects) c ≡ holds heap (drop first objects) c
    condition_there (Same left right) = λ i. same_end left i == same_end right i
    condition_there (Differ left right) = λ i. not (same_end left i == same_end right i)
    condition_there (All cs) = all_there cs
    condition_there (Any cs) = any_there cs

    all_there : (cs : Conditions) → all_hold first (by_objects heap objects) cs ≡ clause.all_hold heap (drop first objects) cs
    all_there none = refl
    all_there (c ▸ cs) = λ i. condition_there c i && all_there cs i

    any_there : (cs : Conditions) → any_holds first (by_objects heap objects) cs ≡ clause.any_holds heap (drop first objects) cs
    any_there none = refl
    any_there (c ▸ cs) = λ i. condition_there c i || any_there cs i

  none_false : (cs : List Condition) (n : ℕ)
      → list_all (condition_holds first (by_objects heap objects)) cs ≡ is_none (position_from (λ c. not (holds heap (drop first objects) c)) n cs)
  none_false [] n = refl
  none_false (c ∷ cs) n = by (condition_holds first (by_objects heap objects) c) (holds heap (drop first objects) c) (condition_there c) (none_false cs (n + 1))
    where
      by : (b d : Bool) → b ≡ d
          → list_all (condition_holds first (by_objects heap objects)) cs ≡ is_none (position_from (λ c. not (holds heap (drop first objects) c)) (n + 1) cs)
          → (b && list_all (condition_holds first (by_objects heap objects)) cs) ≡ is_none (cond (not d) (Some n) (position_from (λ c. not (holds heap (drop first objects) c)) (n + 1) cs))
      by true true e rest = rest
      by true false e rest = absurd (cc)
      by false true e rest = absurd (cc)
      by false false e rest = refl

clauses_there : (heap : List Object) (objects : List ℕ) (m : Method)
    → clauses_hold m (by_objects heap objects) ≡ is_none (first_failing m heap (arguments_in m objects))
clauses_there heap objects m = by m.constructor
  where
    by : (b : Bool) → list_all (condition_holds (cond b 4 3) (by_objects heap objects)) (cond b [] (map condition_of m.clauses))
        ≡ is_none (cond b None (position_from (λ c. not (holds heap (drop (cond b 4 3) objects) c)) 1 (map condition_of m.clauses)))
    by true = refl
    by false = none_false heap objects 3 (map condition_of m.clauses) 1

pub heaps_have_cases : HeapsHaveCases
heaps_have_cases form variables ts classes heap objects state =
    let there = by_blocks ts (case_of heap objects ts) in
    let here = by_objects heap objects in
    let agree = equal_there heap objects ts in
    record {
      is = is_configuration heap objects ts form variables classes state;
      trees = λ tree has. same_answer ts there here agree tree has;
      cubes = λ ls has. same_cube ts there here agree ls has;
      conditions = λ m c has. same_condition ts there here agree (first_variable m) c has ∙ condition_there heap objects (first_variable m) c;
      clauses = λ m has. same_clauses ts there here agree (first_variable m) (clauses_of m) has ∙ clauses_there heap objects m;
    }
