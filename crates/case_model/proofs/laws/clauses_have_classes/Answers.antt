use Rattle.case_model.proofs.Clauses.{clauses_have_classes}
use Rattle.case_model.proofs.laws.clauses_have_classes.Goals as goal

pub returns : goal.returns
returns c = λ form n m xs checked at three t there. clauses_have_classes form n m xs checked at three t there
