use Rattle.client_model.proofs.OnlyNames as only
use Rattle.client_model.proofs.SetNumbers as numbers
use Rattle.client_model.proofs.laws.sets_are_by_number.Goals as goal

pub returns-clause-only : goal.returns-clause-only
returns-clause-only c = only.nothing_is_everything

pub returns-clause-by_number : goal.returns-clause-by_number
returns-clause-by_number c = numbers.sets_are_by_number
