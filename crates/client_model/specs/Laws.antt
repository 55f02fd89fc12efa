-- Laws on the definitions.
use Rattle.std.specs.Prelude.{◌≡◌, ℕ, ◌+◌, length, map}
use Rattle.std.specs.List.{range_with_len}
use Rattle.client_model.specs.Contexts.{Context, situated}
use Rattle.client_model.specs.Nodes.{count, shape_from}
use Rattle.client_model.specs.Settings.{Setting}
use Rattle.client_model.specs.Statements.{Statements}
use Rattle.client_model.specs.Ways.{Ways, first_point, ways_of}

-- the points of statements are numbered in text order, from the number that their context has
abbrev pub PointsAreNumbered : Type 0
PointsAreNumbered = (s : Setting) (c : Context) (xs : Statements) → map (λ x. x.context.points) (situated s c xs) ≡ range_with_len c.points (count xs)

-- each point goes on somewhere
abbrev pub EachHasWays : Type 0
EachHasWays = (w : Ways) (point : ℕ) (xs : Statements) → length (ways_of w (shape_from point xs)) ≡ count xs

-- a body is entered at its first point, or is at its exit where it is empty
abbrev pub FirstIsFirst : Type 0
FirstIsFirst = (point : ℕ) (xs : Statements) → first_point (shape_from point xs) (point + count xs) ≡ point
