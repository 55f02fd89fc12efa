-- Each question has one tree, and none where a term would be too long.
use Rattle.std.proofs.Common.{◌≡◌, Bool, true, false, List, [], ◌∷◌, ◌++◌, ap, sym, subst, ◌∙◌}
use Rattle.access_paths.specs.{Ask, Leaf}
use Rattle.access_paths.specs.Trees.{Tree}
use Rattle.access_paths.specs.declared.term.Term.{Term}
use Rattle.question_model.specs.{Done, IsLongBehind, IsTreeBehind, Long, Needs, OneTree, TreeOrLong, further, here, said}
use Rattle.question_model.specs.Stage.{Stage}
use Rattle.question_model.specs.declared.answer.Answer.{Answer}

module _ (question : List Answer → Stage Bool) where
  same_tree : (x y : Tree) (answers : List Answer) → IsTreeBehind question answers x → IsTreeBehind question answers y → x ≡ y
  same_tree (Leaf a) (Leaf b) answers is also =
      let e : Done a ≡ Done b = sym is ∙ also in
      let s : a ≡ b = cc in
      ap Leaf s
  same_tree (Leaf a) (Ask t u x y) answers is also = let e : Done a ≡ Needs t u = sym is ∙ also.0 in absurd (cc)
  same_tree (Ask t u x y) (Leaf b) answers is also = let e : Needs t u ≡ Done b = sym is.0 ∙ also in absurd (cc)
  same_tree (Ask t u x y) (Ask v w p q) answers is also =
      let e : Needs t u ≡ Needs v w = sym is.0 ∙ also.0 in
      let first : v ≡ t = cc in
      let second : w ≡ u = cc in
      let yes = same_tree x p (answers ++ said t u true ∷ []) is.1
      (subst (λ a. IsTreeBehind question (answers ++ said a u true ∷ []) p) first
      (subst (λ a. IsTreeBehind question (answers ++ said v a true ∷ []) p) second also.1)) in
      let no = same_tree y q (answers ++ said t u false ∷ []) is.2
      (subst (λ a. IsTreeBehind question (answers ++ said a u false ∷ []) q) first
      (subst (λ a. IsTreeBehind question (answers ++ said v a false ∷ []) q) second also.2)) in
      λ i. Ask (sym first i) (sym second i) (yes i) (no i)

  branch : (t u : Term) (x y : Tree) (answers : List Answer) (same : Bool) → IsTreeBehind question (answers ++ said t u true ∷ []) x
      → IsTreeBehind question (answers ++ said t u false ∷ []) y → (z : Tree) × IsTreeBehind question (answers ++ said t u same ∷ []) z
  branch t u x y answers true is also = (x, is)
  branch t u x y answers false is also = (y, also)

  not_long : (answers : List Answer) → IsLongBehind question answers → (x : Tree) → IsTreeBehind question answers x → ⊥
  not_long answers (here now at) (Leaf b) is = let e : Done b ≡ Long = sym is ∙ at in cc
  not_long answers (here now at) (Ask t u x y) is = let e : Needs t u ≡ Long = sym is.0 ∙ at in cc
  not_long answers (further now v w same at long) (Leaf b) is = let e : Done b ≡ Needs v w = sym is ∙ at in cc
  not_long answers (further now v w same at long) (Ask t u x y) is =
      let e : Needs t u ≡ Needs v w = sym is.0 ∙ at in
      let first : t ≡ v = cc in
      let second : u ≡ w = cc in
      let z = branch t u x y answers same is.1 is.2 in
      not_long (answers ++ said v w same ∷ []) long z.0
      (subst (λ a. IsTreeBehind question (answers ++ said a w same ∷ []) z.0) first
      (subst (λ a. IsTreeBehind question (answers ++ said t a same ∷ []) z.0) second z.1))

pub one_tree : OneTree
one_tree question x y is also = same_tree question x y [] is also

pub tree_or_long : TreeOrLong
tree_or_long question x is long = not_long question [] long x is

-- where a term is too long on a branch, it is so before
pub long_on : (question : List Answer → Stage Bool) (answers : List Answer) (t u : Term) (same : Bool) → question answers ≡ Needs t u
    → IsLongBehind question (answers ++ said t u same ∷ []) → IsLongBehind question answers
long_on question answers t u same is long = further answers t u same is long

pub long_here : (question : List Answer → Stage Bool) (answers : List Answer) → question answers ≡ Long → IsLongBehind question answers
long_here question answers is = here answers is
