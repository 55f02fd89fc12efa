use Rattle.std.proofs.Common.{sym, ◌∙◌}
use Rattle.client_bodies.proofs.Coded.{is_name}
use Rattle.client_bodies.proofs.Marked.{knows_assigned, knows_unassigned}
use Rattle.client_bodies.proofs.steps.assign.Goals as goal

pub returns-in_ok-mark-in-Some-clause-behind : goal.returns-in_ok-mark-in-Some-clause-behind
returns-in_ok-mark-in-Some-clause-behind c d walks =
    let there = c.code_of.ensures d walks.knows in
    knows_assigned c.args.setting.now d c.args.word.now _ c.code_of.result c.in-Some.code there c.in-Some.is
    (c.in_ok-mark-in-Some.ensures.behind d walks.knows (is_name c.args.setting.now d c.args.word.now.name c.in-Some.code walks.coded (sym c.in-Some.is ∙ there)))

pub returns-in-None-clause-behind : goal.returns-in-None-clause-behind
returns-in-None-clause-behind c d walks =
    knows_unassigned c.args.setting.now d c.args.word.now c.args.context.now (sym c.in-None.is ∙ c.code_of.ensures d walks.knows) walks.knows
