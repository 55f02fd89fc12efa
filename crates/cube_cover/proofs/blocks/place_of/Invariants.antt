use Rattle.std.proofs.Common.{◌≡◌, ◌+◌, drop}
use Rattle.access_paths.specs.Terms as told
use Rattle.case_model.specs.{place_of}
use Rattle.cube_cover.proofs.blocks.place_of.Given as goal

-- it stands in the rest, if anywhere
abbrev pub invariant-each : goal.invariant-each
invariant-each l = l.place + place_of (drop l.place l.terms) (told.term l.variable l.fields) ≡ place_of l.terms (told.term l.variable l.fields)
