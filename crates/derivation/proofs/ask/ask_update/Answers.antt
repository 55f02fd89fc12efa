use Rattle.access_paths.specs.{tree_of}
use Rattle.derivation.proofs.Replying.{update_tree_typed}
use Rattle.derivation.proofs.ask.ask_update.Goals as goal

pub reply-requires-clause-typed : goal.reply-requires-clause-typed
reply-requires-clause-typed c m at =
    update_tree_typed c.args.spec.now m c.args.family.now c.args.results (tree_of c.in_ok-tree.tree) (c.in_ok-tree.ensures.tree m at)
