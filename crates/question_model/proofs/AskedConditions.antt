-- Conditions compare terms of the question's variables.
use Rattle.std.proofs.Common.{ℕ, Bool, true, false, not, if◌then◌else◌, List, Option}
use Rattle.easl_model.specs.{Condition}
use Rattle.easl_model.specs.Conditions.{Conditions, Same, Differ, All, Any, none, ◌▸◌}
use Rattle.easl_model.specs.Form.{Form}
use Rattle.question_model.specs.{Done, State, all_hold, any_holds, compared, holds}
use Rattle.question_model.specs.declared.answer.Answer.{Answer}
use Rattle.question_model.proofs.AskedValues.{Comes, FineState, SomeAnswer, compared_comes, comes_if, comes_on}

module _ (form : Form) (most : Option ℕ) (variables : List (Option ℕ)) (answers : List Answer) (s : State)
    (fine : FineState form most variables answers s) where
  abbrev some : Bool → Type 0
  some = SomeAnswer form most variables

  mutual
    pub holds_comes : (c : Condition) → Comes form most variables some (holds form most answers s c)
    holds_comes (Same left right) = compared_comes form most variables answers s fine left right
    holds_comes (Differ left right) =
        comes_on form most variables some some (compared form most answers s left right) (λ same. Done (not same))
        (compared_comes form most variables answers s fine left right) (λ same any. tt)
    holds_comes (All cs) = all_come cs
    holds_comes (Any cs) = any_comes cs

    all_come : (cs : Conditions) → Comes form most variables some (all_hold form most answers s cs)
    all_come none = tt
    all_come (c ▸ cs) =
        comes_on form most variables some some (holds form most answers s c) (λ b. if b then all_hold form most answers s cs else Done false)
        (holds_comes c)
        (λ b any. comes_if form most variables some b (all_hold form most answers s cs) (Done false) (all_come cs) tt)

    any_comes : (cs : Conditions) → Comes form most variables some (any_holds form most answers s cs)
    any_comes none = tt
    any_comes (c ▸ cs) =
        comes_on form most variables some some (holds form most answers s c) (λ b. if b then Done true else any_holds form most answers s cs)
        (holds_comes c)
        (λ b any. comes_if form most variables some b (Done true) (any_holds form most answers s cs) tt (any_comes cs))
