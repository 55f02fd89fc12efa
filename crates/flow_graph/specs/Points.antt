-- The points of a client's procedures and where they go on (own).
use Rattle.std.specs.Prelude.{ℕ, List, Option, length, map, option_and_then, slice_get}
use Rattle.std.specs.Option.{option_map_or}
use Rattle.client_model.specs.CheckedForm.{ClientForm, ProcedureForm}
use Rattle.client_model.specs.Ways.{next_of}

-- the number behind that of a procedure's last point
abbrev pub exit_of : ProcedureForm → ℕ
exit_of x = length x.points

-- where each of its points goes on, on T and on F
abbrev pub next_in : ProcedureForm → List (ℕ × ℕ)
next_in x = next_of (exit_of x) x.shape

abbrev pub exit_at : ClientForm → ℕ → ℕ
exit_at client p = option_map_or exit_of (slice_get client.procedures p) 0

-- where this point of the procedure goes on; its exit goes nowhere
abbrev pub ways_at : ClientForm → ℕ → ℕ → Option (ℕ × ℕ)
ways_at client p number = option_and_then (λ x. slice_get (next_in x) number) (slice_get client.procedures p)

-- procedure by procedure, where each point goes on
abbrev pub graph_of : ClientForm → List (List (ℕ × ℕ))
graph_of client = map next_in client.procedures
