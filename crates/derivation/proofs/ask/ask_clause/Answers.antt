use Rattle.std.proofs.Common.{None}
use Rattle.access_paths.specs.{tree_of}
use Rattle.easl_model.specs.{condition_of}
use Rattle.derivation.proofs.Replying.{clause_there, clause_typed, replied}
use Rattle.derivation.proofs.ask.ask_clause.Goals as goal

pub reply-requires-clause-typed : goal.reply-requires-clause-typed
reply-requires-clause-typed c m at =
    let there = clause_there c.args.spec.now c.args.method c.args.clause m c.requires.clause at in
    clause_typed c.args.spec.now m (condition_of there.0) (tree_of c.in_ok-tree.tree) (c.in_ok-tree.ensures.tree m there.0 there.1)

pub returns : goal.returns
returns c m test at =
    replied c.args.spec.now m None _ (tree_of c.in_ok-tree.tree) c.reply.result (c.in_ok-tree.ensures.tree m test at) (c.reply.ensures m at.found)
