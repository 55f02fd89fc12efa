-- What terms lead to in a heap, and which literals and cubes are true where it is known which terms are one.
use Rattle.std.specs.Prelude.{◌==◌, ℕ, Bool, not, List, if◌then◌else◌, slice_index}
use Rattle.std.specs.List.{fold, list_all}
use Rattle.easl_heap.specs.{Object, get}
use Rattle.access_paths.specs.declared.term.Literal.{Literal}
use Rattle.access_paths.specs.declared.term.Term.{Term}

-- whether two terms lead to one object
abbrev pub Equals : Type 0
Equals = Term → Term → Bool

-- the object of a term, given the object of each variable by number
abbrev pub object_of : List Object → List ℕ → Term → ℕ
object_of heap objects t = fold (get heap) (slice_index objects t.var.0) t.fields

-- as a heap has it, with an object for each variable
abbrev pub by_objects : List Object → List ℕ → Equals
by_objects heap objects t u = object_of heap objects t == object_of heap objects u

abbrev pub literal_holds : Equals → Literal → Bool
literal_holds equal l = if l.same then equal l.less l.more else not (equal l.less l.more)

-- a cube is true where all its literals are
abbrev pub cube_holds : Equals → List Literal → Bool
cube_holds equal ls = list_all (literal_holds equal) ls
