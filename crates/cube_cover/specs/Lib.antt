pub mod Chosen
pub mod Literals
pub mod Table
pub use Rattle.cube_cover.specs.Chosen.{AreCases, AreTogether, DisjunctsFallShort, configurations_at}
pub use Rattle.cube_cover.specs.Literals.{both_if, cube_of, cubes_of, literal, literals_over, literals_with, none_such}
pub use Rattle.cube_cover.specs.Table.{IsTaskOf, answers_of, everywhere, truths_of}
