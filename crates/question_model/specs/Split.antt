-- The tree of a question, which is given by what each list of answers comes to.
use Rattle.std.specs.Prelude.{◌≡◌, Bool, true, false, List, [], ◌∷◌, ◌++◌}
use Rattle.access_paths.specs.{Ask, Leaf}
use Rattle.access_paths.specs.Trees.{Tree}
use Rattle.access_paths.specs.declared.term.Term.{Term}
use Rattle.question_model.specs.Stage.{Stage, Done, Needs, Long}
use Rattle.question_model.specs.declared.answer.Answer.{Answer}

abbrev pub said : Term → Term → Bool → Answer
said t u same = record { less = t; more = u; same = same }

module _ (question : List Answer → Stage Bool) where
  -- behind these answers the tree asks what is needed, and goes on with each answer
  abbrev pub IsTreeBehind : List Answer → Tree → Type 0
  IsTreeBehind answers (Leaf b) = question answers ≡ Done b
  IsTreeBehind answers (Ask t u x y) = (question answers ≡ Needs t u) × IsTreeBehind (answers ++ said t u true ∷ []) x
      × IsTreeBehind (answers ++ said t u false ∷ []) y

  -- on a branch behind these answers a term would be too long
  pub data IsLongBehind : List Answer → Type 0 where
    here : (answers : List Answer) → question answers ≡ Long → IsLongBehind answers
    further : (answers : List Answer) (t u : Term) (same : Bool) → question answers ≡ Needs t u → IsLongBehind (answers ++ said t u same ∷ [])
        → IsLongBehind answers

  abbrev pub IsTree : Tree → Type 0
  IsTree tree = IsTreeBehind [] tree

  abbrev pub IsLong : Type 0
  IsLong = IsLongBehind []
