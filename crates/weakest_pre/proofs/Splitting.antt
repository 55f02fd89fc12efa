-- What a tree that was grown tells.
use Rattle.std.proofs.Common.{◌≡◌, ℕ, ◌-◌, ◌≤◌, List, [], ◌∷◌, ◌++◌, Some, length, take, slice_get, arith, ap, sym, subst, ◌∙◌}
use Rattle.std.specs.Prelude.{Result, Ok, Err, IfOk}
use Rattle.std.proofs.Math.Seq.{take-append_seam}
use Rattle.std.proofs.lemmas.Option.{slice_get_within}
use Rattle.easl_model.specs.{Condition, condition_of}
use Rattle.easl_model.specs.Form.{Form}
use Rattle.easl_model.specs.declared.form.Method.{Method}
use Rattle.easl_model.specs.declared.form.Test.{Test}
use Rattle.access_paths.specs.{Fits, tree_of}
use Rattle.access_paths.specs.declared.term.Family.{Family}
use Rattle.access_paths.specs.declared.tree.SplitFault.{SplitFault}
use Rattle.access_paths.specs.declared.tree.Tree.{Tree}
use Rattle.question_model.specs.{TellsAfter, TellsFalse}
use Rattle.question_model.specs.declared.answer.Answer.{Answer}
use Rattle.question_model.proofs.Truths.{clause_law, update_law}
use Rattle.weakest_pre.specs.{HasClause, IsClauseAt, IsClauseSplit, IsSplit}
use Rattle.weakest_pre.specs.Running.{most}

-- an answer that was added last is taken back
pub taken_back : (answers : List Answer) (a : Answer) (n : ℕ) → n ≡ length answers → take n (answers ++ a ∷ []) ≡ answers
taken_back answers a n is = rw is (take-append_seam answers (a ∷ []))

pub split_tells : (form : Form) (m : Method) (family : Family) (results : ℕ) (r : Result Tree SplitFault) → Fits form family
    → IsSplit form m family results r → IfOk r (λ t. TellsAfter form m family results (tree_of t))
split_tells form m family results (Ok t) fits is = update_law form most m family results (tree_of t) fits is
split_tells form m family results (Err e) fits is = tt

pub clause_tells : (form : Form) (m : Method) (c : Condition) (r : Result Tree SplitFault) → IsClauseSplit form m c r
    → IfOk r (λ t. TellsFalse form m c (tree_of t))
clause_tells form m c (Ok t) is = clause_law form most m c (tree_of t) is
clause_tells form m c (Err e) is = tt

-- one of a place is what stands there
pub only : {X : Type 0} (xs : List X) (n : ℕ) (x y : X) → slice_get xs n ≡ Some x → slice_get xs n ≡ Some y → x ≡ y
only xs n x y at also = let e : Some x ≡ Some y = sym at ∙ also in cc

pub clause_split : (form : Form) (method clause : ℕ) (m : Method) (t : Test) (r : Result Tree SplitFault) → slice_get form.methods method ≡ Some m
    → slice_get m.clauses (clause - 1) ≡ Some t → (n : Method) (test : Test) → IsClauseAt form method clause n test
    → IsClauseSplit form m (condition_of t) r → IsClauseSplit form n (condition_of test) r
clause_split form method clause m t r found at n test is split =
    let same = only form.methods method m n found is.found in
    let here : slice_get n.clauses (clause - 1) ≡ Some t = subst (λ (x : Method). slice_get x.clauses (clause - 1) ≡ Some t) same at in
    let one = only n.clauses (clause - 1) t test here is.at in
    subst (λ x. IsClauseSplit form n (condition_of x) r) one (subst (λ (x : Method). IsClauseSplit form x (condition_of t) r) same split)

pub clause_there : (form : Form) (method clause : ℕ) (m : Method) → slice_get form.methods method ≡ Some m → HasClause form method clause
    → clause ≤ length m.clauses
clause_there form method clause m found has =
    let same = only form.methods method has.0 m has.2.found found in
    omega (arith, has.2.some, slice_get_within has.0.clauses (clause - 1) has.1 has.2.at, ap (λ (x : Method). length x.clauses) same)
