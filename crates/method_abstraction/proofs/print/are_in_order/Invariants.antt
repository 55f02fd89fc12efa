use Rattle.std.proofs.Common.{◌≡◌, drop}
use Rattle.method_abstraction.specs.Texts as told
use Rattle.method_abstraction.proofs.print.are_in_order.Given as goal

abbrev pub invariant-each : goal.invariant-each
invariant-each l = record {
  number : l.number ≡ l.var-index;
  rest : told.are_in_order l.number (drop l.var-index l.vars) ≡ told.are_in_order 0 l.vars;
}
