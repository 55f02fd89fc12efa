-- Frames that stand in one list.
use Rattle.std.proofs.Common.{◌≡◌, ℕ, ◌+◌, List, drop, take, arith}
use Rattle.std.specs.Prelude.{slice_set}
use Rattle.std.proofs.lemmas.List.{drop-set-add, take-set-le}
use Rattle.client_run.specs.Code.{waiting_in}
use Rattle.client_run.specs.Places.{Frames}
use Rattle.client_run.specs.declared.frames.Caller.{Caller}

abbrev pub frames_in : List Caller → ℕ → ℕ → List ℕ → Frames
frames_in callers base result variables =
    record { variables = drop base variables; result = result; behind = waiting_in callers (take base variables) }

-- a variable of the last frame takes an object
pub put_last : (callers : List Caller) (base result number object : ℕ) (variables : List ℕ) →
    frames_in callers base result (slice_set variables (base + number) object)
    ≡ record (frames_in callers base result variables) { variables = slice_set (drop base variables) number object }
put_last callers base result number object variables =
    λ i. record {
      variables = drop-set-add base variables number object i;
      result = result;
      behind = waiting_in callers (take-set-le base variables (base + number) object (omega arith) i);
    }
