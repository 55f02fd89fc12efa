-- A body under way on symbolic values, and what its paths and conditions come to there.
use Rattle.std.specs.Prelude.{ℕ, Bool, true, false, not, List, Option, if◌then◌else◌, length, slice_index_or, take}
use Rattle.easl_model.specs.{Condition}
use Rattle.easl_model.specs.Conditions.{Conditions, Same, Differ, All, Any, none, ◌▸◌}
use Rattle.easl_model.specs.Form.{Form}
use Rattle.easl_model.specs.declared.form.Reach.{Reach}
use Rattle.question_model.specs.Stage.{Stage, Done, ◌>>=◌}
use Rattle.question_model.specs.Values.{are_same, led}
use Rattle.question_model.specs.declared.answer.Answer.{Answer}
use Rattle.question_model.specs.declared.value.Value.TheVariants.{Nothing}
use Rattle.question_model.specs.declared.value.Value.{Value}
use Rattle.question_model.specs.declared.value.Write.{Write}

-- the slots, the writes so far, the newest first, and how many objects were made
pub record State : Type 0 where
  pub slots : List Value
  pub writes : List Write
  pub count : ℕ

abbrev pub state : List Value → List Write → ℕ → State
state slots writes count = record { slots = slots; writes = writes; count = count }

-- locals of a list of statements end with it
abbrev pub ended : State → State → State
ended before after = state (take (length before.slots) after.slots) after.writes after.count

module _ (form : Form) (most : Option ℕ) (answers : List Answer) where
  abbrev pub reached : State → Reach → Stage Value
  reached s path = led form most answers s.writes (slice_index_or s.slots path.slot Nothing) path.fields

  -- whether two paths lead to one object
  abbrev pub compared : State → Reach → Reach → Stage Bool
  compared s left right = reached s left >>= λ v. reached s right >>= λ w. are_same answers v w

  abbrev mutual
    -- whether a condition is true: its comparisons from left to right, up to where its value is known
    pub holds : State → Condition → Stage Bool
    holds s (Same left right) = compared s left right
    holds s (Differ left right) = compared s left right >>= λ same. Done (not same)
    holds s (All cs) = all_hold s cs
    holds s (Any cs) = any_holds s cs

    pub all_hold : State → Conditions → Stage Bool
    all_hold s none = Done true
    all_hold s (c ▸ cs) = holds s c >>= λ b. if b then all_hold s cs else Done false

    pub any_holds : State → Conditions → Stage Bool
    any_holds s none = Done false
    any_holds s (c ▸ cs) = holds s c >>= λ b. if b then Done true else any_holds s cs
