use Rattle.tabulation.proofs.Inserted.{as_they_are}
use Rattle.tabulation.proofs.solution.Solution.new.Goals as goal

pub returns : goal.returns
returns c =
    as_they_are c.empty-solution.result c.args.edges.items c.add_all.new.self c.empty-solution.ensures c.requires c.in_ok-add_all.ensures
