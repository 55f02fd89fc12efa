use Rattle.derivation.proofs.OneEnd.{first_answer, whole_answer}
use Rattle.derivation.proofs.closure.derive.Goals as goal

pub returns-clause-whole : goal.returns-clause-whole
returns-clause-whole c = whole_answer c.args.spec.now c.closed.result c.closed.ensures.closes c.closed.ensures.stops

pub returns-clause-first : goal.returns-clause-first
returns-clause-first c = first_answer c.args.spec.now c.closed.result c.closed.ensures.closes c.closed.ensures.stops
