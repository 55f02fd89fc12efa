-- Tests and acts at a variant, as plain trees.
use Rattle.std.proofs.Common.{◌≡◌, ℕ, List, map, ap, sym, ◌∙◌}
use Rattle.easl_model.specs.{Condition, Statement, condition_of, conditions, statement_of, statements_of}
use Rattle.easl_model.specs.Conditions as condition
use Rattle.easl_model.specs.Statements as statement
use Rattle.easl_model.specs.declared.form.Act.{Act}
use Rattle.easl_model.specs.declared.form.Act.TheFolds.{fold-roll-Act}
use Rattle.easl_model.specs.declared.form.Act.TheOpen as act_layer
use Rattle.easl_model.specs.declared.form.Act.TheVariants as act
use Rattle.easl_model.specs.declared.form.Reach.{Reach}
use Rattle.easl_model.specs.declared.form.Source.{Source}
use Rattle.easl_model.specs.declared.form.Test.{Test}
use Rattle.easl_model.specs.declared.form.Test.TheFolds.{fold-roll-Test}
use Rattle.easl_model.specs.declared.form.Test.TheOpen as layer
use Rattle.easl_model.specs.declared.form.Test.TheVariants as test

-- tests as plain trees
pub same_test : (left right : Reach) → condition_of (test.Same left right) ≡ condition.Same left right
same_test left right = ap condition_of (sym (test.rolls-Same left right)) ∙ fold-roll-Test Condition condition.rooted (layer.Same left right)

pub differ_test : (left right : Reach) → condition_of (test.Differ left right) ≡ condition.Differ left right
differ_test left right = ap condition_of (sym (test.rolls-Differ left right)) ∙ fold-roll-Test Condition condition.rooted (layer.Differ left right)

pub all_test : (ts : List Test) → condition_of (test.All ts) ≡ condition.All (conditions (map condition_of ts))
all_test ts = ap condition_of (sym (test.rolls-All ts)) ∙ fold-roll-Test Condition condition.rooted (layer.All ts)

pub any_test : (ts : List Test) → condition_of (test.Any ts) ≡ condition.Any (conditions (map condition_of ts))
any_test ts = ap condition_of (sym (test.rolls-Any ts)) ∙ fold-roll-Test Condition condition.rooted (layer.Any ts)

-- acts as plain trees
pub local_act : (v : Source) → statement_of (act.Local v) ≡ statement.Local v
local_act v = ap statement_of (sym (act.rolls-Local v)) ∙ fold-roll-Act Statement statement.rooted (act_layer.Local v)

pub change_act : (slot : ℕ) (v : Source) → statement_of (act.Change slot v) ≡ statement.Change slot v
change_act slot v = ap statement_of (sym (act.rolls-Change slot v)) ∙ fold-roll-Act Statement statement.rooted (act_layer.Change slot v)

pub write_act : (target : Reach) (field : ℕ) (v : Source) → statement_of (act.Write target field v) ≡ statement.Write target field v
write_act target field v =
    ap statement_of (sym (act.rolls-Write target field v)) ∙ fold-roll-Act Statement statement.rooted (act_layer.Write target field v)

pub if_act : (t : Test) (first second : List Act) → statement_of (act.If t first second) ≡ statement.If (condition_of t) (statements_of first) (statements_of second)
if_act t first second = ap statement_of (sym (act.rolls-If t first second)) ∙ fold-roll-Act Statement statement.rooted (act_layer.If t first second)
