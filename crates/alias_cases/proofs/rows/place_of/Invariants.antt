use Rattle.std.proofs.Common.{◌≡◌, ◌+◌, drop}
use Rattle.case_model.specs.{place_of}
use Rattle.alias_cases.proofs.rows.place_of.Given as goal

-- it stands in the rest, if anywhere
abbrev pub invariant-each : goal.invariant-each
invariant-each l = l.place + place_of (drop l.place l.terms) l.term ≡ place_of l.terms l.term
