use Rattle.cube_search.proofs.BitsSet.{IsRowUpto}
use Rattle.cube_search.proofs.setting.row_of.Given as goal

abbrev pub invariant-each : goal.invariant-each
invariant-each l = IsRowUpto l.truths l.place l.words.items
