-- What an alarm promises: the first failure along its path, told in few segments.
use Rattle.std.specs.Prelude.{◌≡◌, ℕ, suc, ◌+◌, ◌*◌, ◌<◌, ◌≤◌, Bool, Contains, Option, Some, None, length, sum_by}
use Rattle.std.specs.List.{range_with_len}
use Rattle.client_facts.specs.Counts.{count_facts}
use Rattle.client_walks.specs.Failures.{IsFirstTrue, IsTrueAt, NoneBefore}
use Rattle.client_walks.specs.PathPrograms.{IsSegment, IsWellBuilt}
use Rattle.client_facts.specs.Setting.{Setting, exit_of}
use Rattle.client_walks.specs.declared.alarm.Alarm.{Alarm}
use Rattle.client_walks.specs.declared.alarm.Item.TheVariants.{Inside}
use Rattle.client_walks.specs.declared.alarm.PathProgram.{PathProgram}
use Rattle.client_walks.specs.declared.alarm.Segment.{Segment}

-- a segment with a lower number names this one
pub record IsNamed (program : PathProgram) (number : ℕ) : Type 0 where
  pub by : ℕ
  pub lower : by < number
  pub segment : Segment
  pub there : IsSegment program by segment
  pub point : ℕ
  pub returned : Bool
  pub item : Contains segment.items (Inside point number returned)

-- so many pairs of a point, the exit counted, and a fact or none has a procedure
abbrev pub nodes_of : Setting → ℕ → ℕ
nodes_of g p = (exit_of g p + 1) * (count_facts g p + 1)

-- so many edges there are at the most
abbrev pub most_edges : Setting → ℕ
most_edges g = sum_by (λ p. nodes_of g p * (count_facts g p + 1)) (range_with_len 0 (length g.client.procedures))

-- no segment is superfluous, long, or there twice, and they are not many
pub record IsShort (g : Setting) (program : PathProgram) : Type 0 where
  pub named : (number : ℕ) (s : Segment) → IsSegment program (suc number) s → IsNamed program (suc number)
  pub few_items : (number : ℕ) (s : Segment) → IsSegment program number s → length s.items ≤ nodes_of g s.procedure
  pub different : (one other : ℕ) (s : Segment) → IsSegment program one s → IsSegment program other s → one ≡ other
  pub few : length program.segments ≤ 3 * most_edges g

-- the alarm's path leads to the named call. Along it no clause's fact is true at an earlier call, and the named clause is the first with a true fact
pub record IsFirstFailure (g : Setting) (a : Alarm) : Type 0 where
  pub built : IsWellBuilt g a
  pub there_first : NoneBefore g built.procedure built.point built.path
  pub true_there : IsFirstTrue g built.procedure built.point built.path a.call a.clause
  pub short : IsShort g a.path

-- no alarm exactly where along no path a clause's fact is true at its call
abbrev pub IsFailureOf : Setting → Option Alarm → Type 0
IsFailureOf g None = (call clause : ℕ) → IsTrueAt g call clause → ⊥
IsFailureOf g (Some a) = IsFirstFailure g a
