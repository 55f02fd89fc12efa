-- The literals between two terms of one class, in order.
use Rattle.std.specs.Prelude.{ℕ, ◌==◌, Bool, true, false, List, [], ◌∷◌, ◌++◌, if◌then◌else◌, get_or, map}
use Rattle.access_paths.specs.{term}
use Rattle.access_paths.specs.declared.term.Cube.{Cube}
use Rattle.access_paths.specs.declared.term.Literal.{Literal}
use Rattle.access_paths.specs.declared.term.Term.{Term}
use Rattle.cube_search.specs.declared.searching.Candidate.{Candidate}

abbrev pub literal : Bool → Term → Term → Literal
literal same less more = record { same = same; less = less; more = more }

-- `==` and `!=` of two terms, if it is so
abbrev pub both_if : Bool → Term → Term → List Literal
both_if so less more = if so then literal true less more ∷ literal false less more ∷ [] else []

-- `==` and `!=` of a term of this class and each of these that is of its class
abbrev pub literals_with : Term → ℕ → List Term → List ℕ → List Literal
literals_with t class [] classes = []
literals_with t class (u ∷ us) [] = []
literals_with t class (u ∷ us) (k ∷ ks) = both_if (k == class) t u ++ literals_with t class us ks

-- those of each of these terms and a later one, where the terms are of these classes
abbrev pub literals_over : List Term → List ℕ → List Literal
literals_over [] classes = []
literals_over (t ∷ ts) [] = []
literals_over (t ∷ ts) (k ∷ ks) = literals_with t k ts ks ++ literals_over ts ks

-- what stands for the literal of a number that is not there
abbrev pub none_such : Literal
none_such = literal true (term 0 []) (term 0 [])

-- the cube of the literals of these numbers
abbrev pub cube_of : List Literal → List ℕ → Cube
cube_of ls numbers = record { literals = map (λ n. get_or ls n none_such) numbers }

abbrev pub cubes_of : List Literal → List Candidate → List Cube
cubes_of ls candidates = map (λ c. cube_of ls c.cube) candidates
