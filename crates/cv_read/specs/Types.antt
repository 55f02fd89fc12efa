-- How types and parameters are read from the left, which are those of both languages.
use Rattle.std.specs.Prelude.{ℕ, Bool, true, false, ◌||◌, List}
use Rattle.easl_model.specs.declared.place.Place.{Place}
use Rattle.easl_model.specs.declared.token.Key.TheVariants as key
use Rattle.easl_model.specs.declared.token.Kind.{Kind}
use Rattle.easl_model.specs.declared.token.Kind.TheVariants as kind
use Rattle.easl_model.specs.declared.token.Token.{Token}
use Rattle.easl_model.specs.declared.tree.Opaque.{Opaque}
use Rattle.easl_model.specs.declared.tree.Opaque.TheVariants as opaque
use Rattle.easl_model.specs.declared.tree.Param.{Param}
use Rattle.easl_model.specs.declared.tree.Sort.{Sort}
use Rattle.easl_model.specs.declared.tree.Sort.TheVariants as sort
use Rattle.cv_read.specs.Read.{Read, Got, ◌>>=◌, take_at, choose, is_name, name_at, listed_at, parens_at}

-- the words for values that are not modelled
abbrev pub is_opaque : Kind → Bool
is_opaque (kind.Key key.Object) = true
is_opaque (kind.Key key.Int) = true
is_opaque (kind.Key key.Boolean) = true
is_opaque (kind.Key key.String) = true
is_opaque k = false

-- the type that an opaque keyword names
abbrev pub opaque_in : Kind → Opaque
opaque_in (kind.Key key.Int) = opaque.Int
opaque_in (kind.Key key.Boolean) = opaque.Boolean
opaque_in (kind.Key key.String) = opaque.String
opaque_in k = opaque.Object

abbrev pub opaque_of : Token → Opaque
opaque_of t = opaque_in t.kind

-- the same with its place
abbrev pub placed_opaque : Token → Place × Opaque
placed_opaque t = (t.place, opaque_in t.kind)

abbrev pub opaque_at : List Token → Read Sort
opaque_at ts = take_at is_opaque opaque_of ts >>= λ o us. Got (sort.Opaque o) us

abbrev pub class_type_at : List ℕ → List Token → Read Sort
class_type_at text ts = name_at text ts >>= λ w us. Got (sort.Class w) us

abbrev pub type_at : List ℕ → List Token → Read Sort
type_at text = choose is_opaque opaque_at (class_type_at text)

abbrev pub type_starts : Kind → Bool
type_starts k = is_name k || is_opaque k

-- a parameter behind its type, which begins at the place
abbrev pub param_behind : List ℕ → Place → Sort → List Token → Read Param
param_behind text at x ts = name_at text ts >>= λ n us. Got (record { place = at; sort = x; name = n }) us

abbrev pub opaque_param_at : List ℕ → List Token → Read Param
opaque_param_at text ts = take_at is_opaque placed_opaque ts >>= λ o us. param_behind text o.0 (sort.Opaque o.1) us

abbrev pub class_param_at : List ℕ → List Token → Read Param
class_param_at text ts = name_at text ts >>= λ c us. param_behind text c.place (sort.Class c) us

unfoldable pub param_at : List ℕ → List Token → Read Param
param_at text = choose is_opaque (opaque_param_at text) (class_param_at text)

unfoldable pub params_at : List ℕ → List Token → Read (List Param)
params_at text = parens_at (listed_at type_starts (param_at text))
