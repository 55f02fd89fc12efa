-- Where facts of clauses are true along paths, and where such a fact is the first.
use Rattle.std.specs.Prelude.{ℕ, ◌<◌}
use Rattle.client_facts.specs.Flows.{IsClauseFact}
use Rattle.client_walks.specs.PathPrograms.{StandsAt}
use Rattle.client_walks.specs.Paths.{Entry, IsTrueAlong, Path, inside, start}
use Rattle.client_facts.specs.Setting.{Setting, exit_of}
use Rattle.client_walks.specs.Walks.{Walk}
use Rattle.client_walks.specs.Walks as walk
use Rattle.client_facts.specs.declared.fact.Fact.{Fact}

-- a fact of the call's clause is true along some path to the call
pub record IsTrueAt (g : Setting) (call clause : ℕ) : Type 0 where
  pub procedure : ℕ
  pub point : ℕ
  pub at : StandsAt g call procedure point
  pub path : Path g procedure point
  pub fact : Fact
  pub of_clause : IsClauseFact g call clause fact
  pub true_along : IsTrueAlong g procedure point path fact

-- one of its clauses has such a fact
abbrev pub IsFlagged : Setting → ℕ → Type 0
IsFlagged g call = (clause : ℕ) × IsTrueAt g call clause

-- no clause's fact is true along the path at a call at its end
abbrev pub NoneAt : (g : Setting) (p n : ℕ) → Path g p n → Type 0
NoneAt g p n path = (call clause : ℕ) (d : Fact) → StandsAt g call p n → IsClauseFact g call clause d → IsTrueAlong g p n path d → ⊥

-- nor at a call on the walk of a procedure that is entered so, before its end
abbrev pub NoneOn : (g : Setting) (p n : ℕ) → Walk g p n → Entry g p → Type 0
NoneOn g p n (walk.begin q) into = Unit {0}
NoneOn g p n (walk.step q l m b w is) into = NoneOn g q l w into × NoneAt g q l (record { entry = into; walk = w })
NoneOn g p n (walk.call q l m k w is inner) into = NoneOn g q l w into × NoneOn g k.callee (exit_of g k.callee) inner (inside q l m k into w is)

-- nor at a call before the procedure is entered so
abbrev pub NoneIn : (g : Setting) (p : ℕ) → Entry g p → Type 0
NoneIn g p start = Unit {0}
NoneIn g p (inside q n m k into w is) = NoneIn g q into × NoneOn g q n w into

-- along the path no clause's fact is true at an earlier call
abbrev pub NoneBefore : (g : Setting) (p n : ℕ) → Path g p n → Type 0
NoneBefore g p n path = NoneIn g p path.entry × NoneOn g p n path.walk path.entry

-- a fact of this clause of the call is true along the path, and none of a lower clause
pub record IsFirstTrue (g : Setting) (p n : ℕ) (path : Path g p n) (call clause : ℕ) : Type 0 where
  pub fact : Fact
  pub of_clause : IsClauseFact g call clause fact
  pub true_along : IsTrueAlong g p n path fact
  pub lower : (other : ℕ) (d : Fact) → other < clause → IsClauseFact g call other d → IsTrueAlong g p n path d → ⊥
