use Rattle.std.proofs.Common.{◌≡◌, rules, sym, length, ◌<◌}
use Rattle.std.specs.Prelude.{IfSome, Option, Some, None}
use Rattle.name_table.specs.Firsts.{position_of}
use Rattle.name_table.proofs.Positions.{first_below}
use Rattle.name_table.proofs.table.NameTable.first.Goals as goal

pub returns-clause-within : goal.returns-clause-within
returns-clause-within c = by c.copied.result (search rules)
  where
    by : (found : Option _) → found ≡ position_of c.args.name.now c.args.self.now → IfSome found (λ k. k < length c.args.self.now)
    by None is = _
    by (Some k) is = first_below c.args.name.now c.args.self.now k (sym is)
