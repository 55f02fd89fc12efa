-- Conditions as plain trees, with a list type of their own.
use Rattle.std.specs.Prelude.{List, [], ◌∷◌}
use Rattle.easl_model.specs.declared.form.Reach.{Reach}
use Rattle.easl_model.specs.declared.form.Test.{Test, fold-Test}
use Rattle.easl_model.specs.declared.form.Test.TheOpen.{Test-F}
use Rattle.easl_model.specs.declared.form.Test.TheOpen as layer

infixr 20 ◌▸◌
mutual
  pub data Condition : Type 0 where
    Same : Reach → Reach → Condition
    Differ : Reach → Reach → Condition
    All : Conditions → Condition
    Any : Conditions → Condition

  pub data Conditions : Type 0 where
    none : Conditions
    ◌▸◌ : Condition → Conditions → Conditions

abbrev pub conditions : List Condition → Conditions
conditions [] = none
conditions (c ∷ cs) = c ▸ conditions cs

abbrev pub rooted : Test-F Condition → Condition
rooted (layer.Same left right) = Same left right
rooted (layer.Differ left right) = Differ left right
rooted (layer.All tests) = All (conditions tests)
rooted (layer.Any tests) = Any (conditions tests)

abbrev pub condition_of : Test → Condition
condition_of = fold-Test Condition rooted
