use Rattle.client_model.proofs.Numbering.{each_has_ways, first_is_first, points_numbered}
use Rattle.client_model.proofs.laws.points_are_numbered.Goals as goal

pub returns-clause-numbered : goal.returns-clause-numbered
returns-clause-numbered c = points_numbered

pub returns-clause-ways : goal.returns-clause-ways
returns-clause-ways c = each_has_ways

pub returns-clause-first : goal.returns-clause-first
returns-clause-first c = first_is_first
