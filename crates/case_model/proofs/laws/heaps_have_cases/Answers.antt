use Rattle.case_model.proofs.Cases.{heaps_have_cases}
use Rattle.case_model.proofs.laws.heaps_have_cases.Goals as goal

pub returns : goal.returns
returns c = λ form variables ts classes heap objects state. heaps_have_cases form variables ts classes heap objects state
