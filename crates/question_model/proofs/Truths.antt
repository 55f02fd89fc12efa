-- The law on bodies.
use Rattle.std.proofs.Common.{◌≡◌, ℕ, zero, suc, ◌<◌, ◌==◌, ◌/◌, ◌%◌, Bool, true, false, not, if◌then◌else◌, List, [], ◌∷◌, ◌++◌, map, Option, Some, None, slice_get, slice_index, arith, refl, ap, sym, subst, ◌∙◌}
use Rattle.std.specs.Prelude.{All}
use Rattle.easl_model.specs.{Condition}
use Rattle.easl_model.specs.Form.{Form}
use Rattle.easl_model.specs.declared.form.Method.{Method}
use Rattle.easl_heap.specs.Body as told
use Rattle.easl_heap.specs.Clause as clauses
use Rattle.easl_heap.specs.{IsFull, Object}
use Rattle.access_paths.specs.{AreObjects, Ask, Fits, IsLiteralOf, Leaf, answer, arguments_in, before_call, by_objects, cube_holds, no_family, put}
use Rattle.access_paths.specs.{variables_of}
use Rattle.access_paths.specs.Trees.{Tree}
use Rattle.access_paths.specs.declared.term.Family.{Family}
use Rattle.access_paths.specs.declared.term.Literal.{Literal}
use Rattle.access_paths.specs.declared.term.Term.{Term}
use Rattle.question_model.specs.{ClauseLaw, Done, IsTreeBehind, Outcome, UpdateLaw, after_call, arguments_of, called, cube_after, fails, holds, said, state}
use Rattle.question_model.specs.{update, variable}
use Rattle.question_model.specs.Stage.{Stage}
use Rattle.question_model.specs.declared.answer.Answer.{Answer}
use Rattle.question_model.specs.declared.value.Value.{Value}
use Rattle.question_model.proofs.Asking.{Agree, agree_more, bound}
use Rattle.question_model.proofs.Calls.{Begins, begins, called_so, start_matches, starts}
use Rattle.question_model.proofs.Conditions.{holds_so}
use Rattle.question_model.proofs.Cubes.{AllKnown, IsKnown, cube_so}
use Rattle.question_model.proofs.Following.{Follows, Leaves}
use Rattle.std.proofs.lemmas.Option.{slice_get_within}
use Rattle.question_model.proofs.Meaning.{IsGood, Start, denote}

-- where each answer that is done is right, the tree's answer is
module _ (question : List Answer → Stage Bool) (heap : List Object) (objects : List ℕ) (truth : Bool)
    (right : (answers : List Answer) → Agree heap objects answers → (b : Bool) → question answers ≡ Done b → b ≡ truth) where
  chosen : (t u : Term) (x y : Tree) (one : Bool) → one ≡ by_objects heap objects t u
      → (true ≡ by_objects heap objects t u → answer (by_objects heap objects) x ≡ truth)
      → (false ≡ by_objects heap objects t u → answer (by_objects heap objects) y ≡ truth)
      → (if one then answer (by_objects heap objects) x else answer (by_objects heap objects) y) ≡ truth
  chosen t u x y true is first second = first is
  chosen t u x y false is first second = second is

  pub tree_right : (tree : Tree) (answers : List Answer) → Agree heap objects answers → IsTreeBehind question answers tree
      → answer (by_objects heap objects) tree ≡ truth
  tree_right (Leaf b) answers agree is = right answers agree b is
  tree_right (Ask t u x y) answers agree is =
      chosen t u x y (by_objects heap objects t u) refl
      (λ e. tree_right x (answers ++ said t u true ∷ []) (agree_more heap objects answers t u true agree e) is.1)
      (λ e. tree_right y (answers ++ said t u false ∷ []) (agree_more heap objects answers t u false agree e) is.2)

unmapped : (xs : List ℕ) (n class : ℕ) → slice_get (map (λ c. Some c) xs) n ≡ Some (Some class) → slice_get xs n ≡ Some class
unmapped [] n class at = absurd (cc)
unmapped (x ∷ xs) zero class at = cc
unmapped (x ∷ xs) (suc n) class at = unmapped xs n class at

-- an update question
module _ (form : Form) (m : Method) (family : Family) (results : ℕ) (before : List Object) (x1 x2 x3 : ℕ) (others : List ℕ) where
  abbrev objects : List ℕ
  objects = x1 ∷ x2 ∷ x3 ∷ others

  module _ (fits : Fits form family) (full : IsFull form before)
      (are : AreObjects before (variables_of m (before_call family results)) objects)
      (most : Option ℕ) (answers : List Answer) (agree : Agree before objects answers) where
    abbrev variables : List (Option ℕ)
    variables = variables_of m (before_call family results)

    begun : Start form (variables_of m (before_call family results)) before objects
    begun = starts form (variables_of m (before_call family results)) before objects full are

    args_are : Begins form m (before_call family results) before objects
    args_are = begins form m _ _ _ before objects are

    -- the object of a variable after the call
    pick : (now : List Object) (result : Value) (r : ℕ) → IsGood form (variables_of m (before_call family results)) before objects now result
        → denote before objects result ≡ r → (bit : Bool) (n : ℕ) (c : Option ℕ) (class : ℕ) → c ≡ Some class
        → slice_get (variables_of m (before_call family results)) n ≡ Some (if bit then None else c)
        → IsGood form (variables_of m (before_call family results)) before objects now (if bit then result else variable n c)
        × (denote before objects (if bit then result else variable n c) ≡ (if bit then r else slice_index objects n))
    pick now result r good is true n c class some at = (good, is)
    pick now result r good is false n None class some at = absurd (cc)
    pick now result r good is false n (Some k) class some at = (record { start = k; variable = at; leads = refl }, refl)

    module _ (x : Outcome) (left : told.Outcome) (l : Leaves form (variables_of m (before_call family results)) before objects x before left) where
      abbrev Known : ℕ → Type 0
      Known n = IsKnown form (variables_of m (before_call family results)) before objects begun most answers agree x.writes x.count left.heap l.matches
          (after_call family results x.result) (put results left.result objects) n

      known_at : (n class : ℕ) → n < 3 → slice_get family.classes n ≡ Some class → Known n
      known_at zero class few at =
          let p = pick left.heap x.result left.result l.good (sym l.result) (results % 2 == 1) 0 (slice_get family.classes 0) class at refl in
          record { good = p.0; is = p.1 }
      known_at (suc zero) class few at =
          let p = pick left.heap x.result left.result l.good (sym l.result) ((results / 2) % 2 == 1) 1 (slice_get family.classes 1) class at refl in
          record { good = p.0; is = p.1 }
      known_at (suc (suc zero)) class few at =
          let p = pick left.heap x.result left.result l.good (sym l.result) ((results / 2 / 2) % 2 == 1) 2 (slice_get family.classes 2) class at refl in
          record { good = p.0; is = p.1 }
      known_at (suc (suc (suc n))) class few at = absurd (omega arith)

      both_known : (ls : List Literal) → All (IsLiteralOf form (map (λ c. Some c) family.classes)) ls
          → AllKnown form variables before objects begun most answers agree x.writes x.count left.heap l.matches (after_call family results x.result)
          (put results left.result objects) ls
      both_known [] all = tt
      both_known (k ∷ ls) all =
          let is : IsLiteralOf form (map (λ c. Some c) family.classes) k = all 0 k (omega arith) in
          let less = unmapped family.classes k.less.var.0 is.less.start is.less.variable in
          let more = unmapped family.classes k.more.var.0 is.more.start is.more.variable in (
            record {
              less = known_at k.less.var.0 is.less.start (omega (arith, fits.few, slice_get_within family.classes k.less.var.0 is.less.start less)) less;
              more = known_at k.more.var.0 is.more.start (omega (arith, fits.few, slice_get_within family.classes k.more.var.0 is.more.start more)) more;
            },
            both_known ls (λ n d within. all (suc n) d (omega arith)),
          )

    update_so : (b : Bool) → update form most answers m family results ≡ Done b
        → b ≡ cube_holds (by_objects (told.called form m (arguments_in m objects) before).heap
        (put results (told.called form m (arguments_in m objects) before).result objects)) family.cube.literals
    update_so b done =
        let two = bound (called form most answers m (arguments_of m))
        (λ x. cube_after form most answers x.writes (after_call family results x.result) family.cube.literals) b done in
        let x : Outcome = two.0 in
        let left : told.Outcome = told.called form m (arguments_in m objects) before in
        let l : Leaves form variables before objects x before left = subst
        (λ ns. Leaves form variables before objects x before (told.called form m ns before)) (sym args_are.are)
        (called_so form variables before objects begun most answers agree m (arguments_of m) args_are.good x two.1) in
        cube_so form variables before objects begun most answers agree x.writes x.count left.heap l.matches (after_call family results x.result)
        (put results left.result objects)
        family.cube.literals (both_known x left l family.cube.literals fits.literals) b two.2

pub update_law : UpdateLaw
update_law form most m family results tree fits is before [] full are = absurd are
update_law form most m family results tree fits is before (x1 ∷ []) full are = absurd are.1
update_law form most m family results tree fits is before (x1 ∷ x2 ∷ []) full are = absurd are.1.1
update_law form most m family results tree fits is before (x1 ∷ x2 ∷ x3 ∷ others) full are =
    let objects : List ℕ = x1 ∷ x2 ∷ x3 ∷ others in
    let left : told.Outcome = told.called form m (arguments_in m objects) before in
    tree_right (λ answers. update form most answers m family results) before objects
    (cube_holds (by_objects left.heap (put results left.result objects)) family.cube.literals)
    (λ answers agree b done. update_so form m family results before x1 x2 x3 others fits full are most answers agree b done)
    tree [] tt is

-- a clause question
module _ (form : Form) (m : Method) (c : Condition) (before : List Object) (objects : List ℕ) (full : IsFull form before)
    (are : AreObjects before (variables_of m no_family) objects) (most : Option ℕ) (answers : List Answer)
    (agree : Agree before objects answers) where
  started : Start form (variables_of m no_family) before objects
  started = starts form (variables_of m no_family) before objects full are

  follows : Follows form (variables_of m no_family) before objects (state (arguments_of m) [] 0) before (arguments_in m objects)
  follows =
      let args = begins form m None None None before objects are in
      record {
        matches = start_matches form (variables_of m no_family) before objects started;
        slots_are = args.are;
        good = args.good;
      }

  fails_so : (b : Bool) → fails form most answers m c ≡ Done b → b ≡ not (clauses.holds before (arguments_in m objects) c)
  fails_so b done =
      let two = bound (holds form most answers (state (arguments_of m) [] 0) c) (λ s. Done (not s)) b done in
      let so : not two.0 ≡ b = let e = two.2 in cc in
      sym so
      ∙ ap not (holds_so form (variables_of m no_family) before objects started most answers agree
      (state (arguments_of m) [] 0) before (arguments_in m objects) follows c two.0 two.1)

pub clause_law : ClauseLaw
clause_law form most m c tree is before objects full are =
    tree_right (λ answers. fails form most answers m c) before objects (not (clauses.holds before (arguments_in m objects) c))
    (λ answers agree b done. fails_so form m c before objects full are most answers agree b done)
    tree [] tt is
