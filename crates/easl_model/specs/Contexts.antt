-- What stands before a statement of a body.
use Rattle.std.specs.Prelude.{ℕ, Bool, true, false, ◌==◌, ◌||◌, not, List, [], ◌∷◌, ◌++◌, Option, if◌then◌else◌, is_some, length, map}
use Rattle.std.specs.List.{filter, list_any, position_from, range_with_len}
use Rattle.easl_model.specs.Bodies.{Body}
use Rattle.easl_model.specs.Names.{fields_in, members_of}
use Rattle.easl_model.specs.declared.tree.Param.{Param}
use Rattle.easl_model.specs.declared.tree.Spec.{Spec}
use Rattle.easl_model.specs.declared.tree.Word.{Word}
use Rattle.easl_model.specs.Names.{class_named, class_of, is_same}
use Rattle.easl_model.specs.declared.scope.Context.{Context}
use Rattle.easl_model.specs.declared.scope.Variable.{Variable}

abbrev pub variable_of : Spec → Param → Variable
variable_of spec p = record { name = p.name.name; class = class_of spec p.sort }

-- the positions of the class's fields
abbrev pub positions_of : Spec → ℕ → List ℕ
positions_of spec class = range_with_len 0 (length (fields_in (members_of spec class)))

-- before the first statement: the parameters are in scope, and a constructor has assigned no field
abbrev pub start_in : Spec → ℕ → Bool → List Param → Context
start_in spec class constructor params = record {
  class = class;
  variables = map (variable_of spec) params;
  unset = if constructor then positions_of spec class else [];
}

abbrev pub start_of : Spec → Body → Context
start_of spec b = start_in spec b.class b.constructor b.code.params

-- which of the variables in scope has the name
abbrev pub variable_named : Context → List ℕ → Option ℕ
variable_named c name = position_from (λ v. is_same v.name name) 0 c.variables

abbrev pub is_declared : Context → List ℕ → Bool
is_declared c name = is_some (variable_named c name)

abbrev pub is_empty : List ℕ → Bool
is_empty [] = true
is_empty (n ∷ ns) = false

abbrev pub is_unset : Context → ℕ → Bool
is_unset c position = list_any (λ p. p == position) c.unset

-- behind the declaration of a local
abbrev pub declared : Spec → Word → Word → Context → Context
declared spec class name c = record c { variables = c.variables ++ record { name = name.name; class = class_named spec class.name } ∷ [] }

-- behind the assignment of the field of `this` at the position
abbrev pub assigned : ℕ → Context → Context
assigned position c = record c { unset = filter (λ p. not (p == position)) c.unset }

-- behind a conditional: the locals of its branches are no longer in scope, and a field is assigned that both assign
abbrev pub behind_both : Context → Context → Context → Context
behind_both before one other = record before { unset = filter (λ p. is_unset one p || is_unset other p) before.unset }
