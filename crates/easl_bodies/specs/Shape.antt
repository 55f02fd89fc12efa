-- What members are.
use Rattle.std.specs.Prelude.{Bool, true, false}
use Rattle.easl_model.specs.declared.tree.Code.{Code}
use Rattle.easl_model.specs.declared.tree.Member.{Member}
use Rattle.easl_model.specs.declared.tree.Member.TheVariants.{Field, Constructor, Method}

abbrev pub is_field : Member → Bool
is_field (Field f) = true
is_field (Constructor code) = false
is_field (Method code) = false
