use Rattle.std.proofs.Common.{◌≡◌, ◌<◌, ℕ}
use Rattle.set_names.specs.Names.{is_in, is_left}
use Rattle.set_names.proofs.exit.bring.Given as goal

abbrev pub invariant-each : goal.invariant-each
invariant-each l = record {
  now : (k : ℕ) → k < l.variable → is_in l.sets.now k ≡ is_left l.left k;
  before : l.sets.before ≡ l.fn.sets.before;
  many : l.sets.variables ≡ l.variables;
}
