use Rattle.std.proofs.Common.{[]}
use Rattle.access_paths.specs.{tree_of}
use Rattle.case_model.specs.{terms_of_tree}
use Rattle.alias_cases.proofs.Asked.{none_asked}
use Rattle.alias_cases.proofs.asking.asked_terms.Goals as goal

pub returns : goal.returns
returns c = c.in_ok-gather_clauses.ensures (terms_of_tree (tree_of c.args.tree.now)) (c.in_ok-gather_tree.ensures [] (rw c.new-list.ensures.items none_asked))
