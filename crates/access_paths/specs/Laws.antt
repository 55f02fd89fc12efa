-- Laws on terms and cubes.
use Rattle.std.specs.Prelude.{◌≡◌, ℕ, List, map, slice_index}
use Rattle.std.specs.Cmp.{IsTotalOrder}
use Rattle.easl_heap.specs.{Object}
use Rattle.access_paths.specs.Families.{HasVariable, IsFamilyOf, IsInstance}
use Rattle.access_paths.specs.Renaming.{IsRenamed, variable_in}
use Rattle.access_paths.specs.Terms.{IsCube, compare_cubes}
use Rattle.access_paths.specs.Truth.{by_objects, cube_holds}
use Rattle.access_paths.specs.declared.term.Cube.{Cube}
use Rattle.access_paths.specs.declared.term.Instance.{Instance}

abbrev pub CubesAreOrdered : Type 0
CubesAreOrdered = IsTotalOrder compare_cubes

-- a renamed cube is true of the objects of the new variables where the old one is of those of the old variables
abbrev pub RenamingKeepsTruth : Type 0
RenamingKeepsTruth = (heap : List Object) (objects others : List ℕ) (other : ℕ → ℕ) (c d : Cube) → IsRenamed other c d
    → ((v : ℕ) → HasVariable c v → slice_index objects (other v) ≡ slice_index others v)
    → cube_holds (by_objects heap objects) d.literals ≡ cube_holds (by_objects heap others) c.literals

-- a cube has one family, with one list of arguments
abbrev pub OneFamily : Type 0
OneFamily = (c : Cube) (of : List ℕ) (i j : Instance) → IsFamilyOf c of i → IsFamilyOf c of j → i ≡ j

-- the family's cube with the arguments put in is the cube
abbrev pub FamilyReturns : Type 0
FamilyReturns = (c : Cube) (of : List ℕ) (i : Instance) → IsCube c → IsInstance c of i → IsRenamed (variable_in i.args) i.family.cube c

-- the family's cube is true of the arguments' objects where the cube is true
abbrev pub FamilyKeepsTruth : Type 0
FamilyKeepsTruth = (heap : List Object) (objects : List ℕ) (c : Cube) (of : List ℕ) (i : Instance) → IsCube c → IsInstance c of i
    → cube_holds (by_objects heap objects) c.literals ≡ cube_holds (by_objects heap (map (λ a. slice_index objects a.0) i.args)) i.family.cube.literals
