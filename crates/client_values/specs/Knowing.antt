-- What the code's contexts know of what stands before a statement.
use Rattle.std.specs.Prelude.{◌≡◌, ◌||◌, ℕ, Bool, false, true}
use Rattle.client_values.specs.declared.context.Assigned.{Assigned}
use Rattle.client_values.specs.declared.context.Context.{Context}
use Rattle.client_model.specs.Contexts as told
use Rattle.set_names.specs.Names.{is_assigned}

-- whether the name of this code is assigned
abbrev pub is_marked : Assigned → ℕ → Bool
is_marked a code = a.everything || is_assigned a.names code

abbrev pub is_everything : told.Assigned → Bool
is_everything (told.These codes) = false
is_everything told.Everything = true

-- the code's context is this one, but for the order in which names were assigned
pub record Knows (c : told.Context) (known : Context) : Type 0 where
  pub scope : c.scope ≡ known.scope
  pub assigned : (code : ℕ) → told.has c.assigned code ≡ is_marked known.assigned code
  pub everything : is_everything c.assigned ≡ known.assigned.everything
  pub reached : c.reached ≡ known.reached
  pub looped : c.looped ≡ known.looped
  pub variables : c.variables ≡ known.variables
  pub declared : c.variables ≡ known.assigned.names.variables
  pub points : c.points ≡ known.points
  pub calls : c.calls ≡ known.calls
