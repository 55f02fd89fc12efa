-- How the code leaves a frame.
use Rattle.std.specs.Prelude.{◌≡◌, List, [], ◌∷◌, Option, Some, None}
use Rattle.client_run.specs.Places.{Frames, Waiting}
use Rattle.client_run.specs.declared.frames.Behind.{Behind}

-- the frame is that of the procedure that waited first, if there was one
abbrev pub Returns : List Waiting → Frames → Option Behind → Type 0
Returns [] new result = result ≡ None
Returns (w ∷ behind) new result =
    (result ≡ Some (record { procedure = w.procedure; point = w.point; target = w.target }))
    × (new ≡ record { variables = w.variables; result = w.result; behind = behind })
