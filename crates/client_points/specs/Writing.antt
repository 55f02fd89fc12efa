-- What is written of statements.
use Rattle.std.specs.Prelude.{◌≡◌, ◌++◌, List, Option, filter_map, map}
use Rattle.std.specs.List.{flat_map}
use Rattle.client_model.specs.Statements.{Statement}
use Rattle.client_model.specs.declared.form.CallSite.{CallSite}
use Rattle.client_model.specs.declared.tree.Rhs.{Rhs}
use Rattle.client_points.specs.declared.written.Written.{Written}
use Rattle.client_model.specs.Bodies.{bodies_of}
use Rattle.client_model.specs.CheckedForm.{in_start}
use Rattle.client_model.specs.Contexts.{Context, Situated}
use Rattle.client_model.specs.Points.{declared_at, point_of, site_at, value_in}
use Rattle.client_model.specs.Settings.{Setting}
use Rattle.client_model.specs.Trees.{Client}
use Rattle.easl_model.specs.Form.{Form}

-- a statement where it stands
abbrev pub at : Setting → Context → Statement → Situated
at s c x = record { setting = s; context = c; statement = x }

-- a statement that evaluates this there makes this call
abbrev pub Makes : Setting → Context → Option Rhs → Option CallSite → Type 0
Makes s c v site = (x : Statement) → value_in x ≡ v → site ≡ site_at (at s c x)

-- what was written, and what these statements come to
abbrev pub written_with : List Situated → Written → Written
written_with xs w = record {
  points = w.points ++ map point_of xs;
  variables = w.variables ++ filter_map declared_at xs;
  calls = w.calls ++ filter_map site_at xs;
}

-- the statements of the start, which are the initialisers
abbrev pub initial_of : Form → Client → List Situated
initial_of form client = flat_map (λ b. in_start b b.item) (bodies_of form client)
