-- What a statement that breaks no rule reads is set.
use Rattle.std.specs.Prelude.{◌≡◌, ℕ, true, List, [], ◌∷◌, Option, Some}
use Rattle.std.specs.List.{AllByRecursion}
use Rattle.client_model.specs.declared.form.CallSite.{CallSite}
use Rattle.client_model.specs.declared.form.Point.{Point}
use Rattle.client_model.specs.declared.form.Point.TheVariants as point
use Rattle.client_model.specs.BodyFaults.{faults_at}
use Rattle.client_model.specs.Contexts.{Context, Situated, has}
use Rattle.client_model.specs.Points.{point_of, site_at}

-- a name is surely assigned; what is opaque has none
abbrev pub IsSet : Context → Option ℕ → Type 0
IsSet c name = (code : ℕ) → name ≡ Some code → has c.assigned code ≡ true

-- the names that a point reads, those of its component call aside
abbrev pub names_read : Point → List (Option ℕ)
names_read (point.Copy target source) = source ∷ []
names_read (point.Call target procedure args place) = args
names_read other = []

abbrev pub ReadsAreSet : Type 0
ReadsAreSet = (x : Situated) → faults_at x ≡ [] → AllByRecursion (IsSet x.context) (names_read (point_of x))

abbrev pub ArgumentsAreSet : Type 0
ArgumentsAreSet = (x : Situated) (site : CallSite) → faults_at x ≡ [] → site_at x ≡ Some site → AllByRecursion (IsSet x.context) site.args
