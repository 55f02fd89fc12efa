use Rattle.std.proofs.Common.{◌≡◌, ◌+◌, ◌-◌, ◌≤◌, List, length, take}
use Rattle.cv_fix.specs.Closure.{IsSoFar, HaveCauses}
use Rattle.cv_fix.proofs.closure.close.Given as goal

abbrev pub invariant-each : goal.invariant-each
invariant-each g l = record {
  so_far : IsSoFar (g.R.Rules.follows l.fn.rules) g.R.Item.PartialEq.eq l.fn.starts.items l.known.items.keys l.at;
  causes : HaveCauses (g.R.Rules.follows l.fn.rules) l.fn.starts.items l.known.items.keys l.known.causes.items;
  within : l.at ≤ length l.known.items.keys;
  room : length l.known.items.keys ≤ g.R.Rules.most l.fn.rules;
  ready : g.R.Rules.ready l.rules (take l.at l.known.items.keys);
  follows : (xs : List g.row.R-Item.Denot) → g.R.Rules.follows l.rules xs ≡ g.R.Rules.follows l.fn.rules xs;
  most : g.R.Rules.most l.rules ≡ g.R.Rules.most l.fn.rules;
  steps : l.steps ≡ l.fn.steps + l.at;
}

abbrev pub decreases-each : goal.decreases-each
decreases-each g l = g.R.Rules.most l.fn.rules - l.at
