-- What the plain tree of each kind of condition and question is.
use Rattle.std.proofs.Common.{◌≡◌, List, map, ap, sym, ◌∙◌}
use Rattle.easl_model.specs.{Condition, condition_of, conditions}
use Rattle.easl_model.specs.Conditions.{Same, Differ, All, Any}
use Rattle.easl_model.specs.Conditions as conditions_of
use Rattle.easl_model.specs.declared.form.Reach.{Reach}
use Rattle.easl_model.specs.declared.form.Test.{Test}
use Rattle.easl_model.specs.declared.form.Test.TheFolds.{fold-roll-Test}
use Rattle.easl_model.specs.declared.form.Test.TheOpen as layer
use Rattle.easl_model.specs.declared.form.Test.TheVariants as test
use Rattle.access_paths.specs.{Ask, tree_of}
use Rattle.access_paths.specs.Trees as trees
use Rattle.access_paths.specs.declared.term.Term.{Term}
use Rattle.access_paths.specs.declared.tree.Tree.{Tree}
use Rattle.access_paths.specs.declared.tree.Tree.TheFolds.{fold-roll-Tree}
use Rattle.access_paths.specs.declared.tree.Tree.TheOpen as level
use Rattle.access_paths.specs.declared.tree.Tree.TheVariants as tree

pub plain_same : (l r : Reach) → condition_of (test.Same l r) ≡ Same l r
plain_same l r = ap condition_of (sym (test.rolls-Same l r)) ∙ fold-roll-Test Condition conditions_of.rooted (layer.Same l r)

pub plain_differ : (l r : Reach) → condition_of (test.Differ l r) ≡ Differ l r
plain_differ l r = ap condition_of (sym (test.rolls-Differ l r)) ∙ fold-roll-Test Condition conditions_of.rooted (layer.Differ l r)

pub plain_all : (ts : List Test) → condition_of (test.All ts) ≡ All (conditions (map condition_of ts))
plain_all ts = ap condition_of (sym (test.rolls-All ts)) ∙ fold-roll-Test Condition conditions_of.rooted (layer.All ts)

pub plain_any : (ts : List Test) → condition_of (test.Any ts) ≡ Any (conditions (map condition_of ts))
plain_any ts = ap condition_of (sym (test.rolls-Any ts)) ∙ fold-roll-Test Condition conditions_of.rooted (layer.Any ts)

pub plain_ask : (t u : Term) (x y : Tree) → tree_of (tree.Ask t u x y) ≡ Ask t u (tree_of x) (tree_of y)
plain_ask t u x y = ap tree_of (sym (tree.rolls-Ask t u x y)) ∙ fold-roll-Tree trees.Tree trees.rooted (level.Ask t u x y)
