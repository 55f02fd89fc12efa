-- Laws on the trees of questions: how many there are, and which terms they ask.
use Rattle.std.specs.Prelude.{◌≡◌, ℕ, ◌≤◌, Bool, List, Option, IfSome, length}
use Rattle.std.specs.declared.cmp.Ordering.TheVariants.{Less}
use Rattle.easl_model.specs.{Condition}
use Rattle.easl_model.specs.Form.{Form}
use Rattle.easl_model.specs.declared.form.Method.{Method}
use Rattle.access_paths.specs.{Ask, IsTermOf, Leaf, before_call, compare_terms, no_family, variables_of}
use Rattle.access_paths.specs.Trees.{Tree}
use Rattle.access_paths.specs.declared.term.Family.{Family}
use Rattle.access_paths.specs.declared.term.Term.{Term}
use Rattle.question_model.specs.Questions.{fails, update}
use Rattle.question_model.specs.Split.{IsLong, IsTree}
use Rattle.question_model.specs.Stage.{Stage}
use Rattle.question_model.specs.declared.answer.Answer.{Answer}

-- a question has one tree, or none, where a term would be too long
abbrev pub OneTree : Type 0
OneTree = (question : List Answer → Stage Bool) (x y : Tree) → IsTree question x → IsTree question y → x ≡ y

abbrev pub TreeOrLong : Type 0
TreeOrLong = (question : List Answer → Stage Bool) (x : Tree) → IsTree question x → IsLong question → ⊥

-- a term of these variables, within the limit of fields, where there is one
pub record IsTerm (form : Form) (most : Option ℕ) (variables : List (Option ℕ)) (t : Term) : Type 0 where
  pub class : ℕ
  pub is : IsTermOf form variables t class
  pub short : IfSome most (λ n. length t.fields ≤ n)

-- each two terms that are asked, the lesser first, are terms of these variables
abbrev pub AsksTerms : Form → Option ℕ → List (Option ℕ) → Tree → Type 0
AsksTerms form most variables (Leaf b) = Unit {0}
AsksTerms form most variables (Ask t u x y) =
    IsTerm form most variables t × IsTerm form most variables u × (compare_terms t u ≡ Less)
    × AsksTerms form most variables x × AsksTerms form most variables y

abbrev pub UpdateAsksTerms : Type 0
UpdateAsksTerms = (form : Form) (most : Option ℕ) (m : Method) (family : Family) (results : ℕ) (tree : Tree)
    → IsTree (λ answers. update form most answers m family results) tree
    → AsksTerms form most (variables_of m (before_call family results)) tree

abbrev pub ClauseAsksTerms : Type 0
ClauseAsksTerms = (form : Form) (most : Option ℕ) (m : Method) (c : Condition) (tree : Tree)
    → IsTree (λ answers. fails form most answers m c) tree → AsksTerms form most (variables_of m no_family) tree
