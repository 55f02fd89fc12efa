-- What the code has come to, in the words of the bodies' meaning.
use Rattle.std.specs.Prelude.{Vec, vec_len, vec_capacity, ◌^◌, ◌<◌, ◌≡◌, ℕ, ◌+◌, ◌≤◌, List, length}
use Rattle.easl_model.specs.{ActsHaveFewArguments, written_in}
use Rattle.easl_model.specs.Statements.{Statements}
use Rattle.easl_heap.specs.Body.{Moment, Outcome}

-- it is as told, where that is within the limit on statements
abbrev pub Comes : Moment → Moment → Type 0
Comes now told = told.steps ≤ 1024 → now ≡ told

abbrev pub Gives : Outcome → Outcome → Type 0
Gives done told = told.steps ≤ 1024 → done ≡ told

-- there is room for a slot for each statement that is written, and for the arguments of constructions
pub record Fits (slots : List ℕ) (xs : Statements) : Type 0 where
  pub room : length slots + written_in xs ≤ 69
  pub arguments : ActsHaveFewArguments xs

-- there is room for so many more objects, and a number for each
pub record HasRoom {X Z : Type 0} (objects : Vec X Z) (more : ℕ) : Type 0 where
  pub room : vec_len objects + more ≤ vec_capacity objects
  pub numbers : vec_len objects + more < 2 ^ 32

-- statements were executed, within the limit, and each has made an object at the most; so many could be made besides
pub record Grows {X Z : Type 0} (besides : ℕ) (old : Vec X Z) (steps : ℕ) (new : Vec X Z) (after : ℕ) : Type 0 where
  pub more : steps ≤ after
  pub most : after ≤ 1024
  pub capacity : vec_capacity new ≡ vec_capacity old
  pub grown : vec_len new + steps ≤ vec_len old + after + besides
