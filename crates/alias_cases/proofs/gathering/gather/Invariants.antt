use Rattle.std.proofs.Common.{◌≡◌, [], ◌∷◌, take}
use Rattle.access_paths.specs.{term}
use Rattle.alias_cases.specs.{Gathers}
use Rattle.alias_cases.proofs.gathering.gather.Given as goal

-- the prefix so far is gathered
abbrev pub invariant-each : goal.invariant-each
invariant-each l = record {
  prefix : l.prefix ≡ term l.term.var.0 (take l.field-index l.term.fields);
  gathers : Gathers (l.prefix ∷ []) l.fn.list.items l.list.items;
}
