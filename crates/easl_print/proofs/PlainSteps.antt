-- What the plain tree of each kind of condition and of step is.
use Rattle.std.proofs.Common.{◌≡◌, Bool, List, map, ap, sym, ◌∙◌}
use Rattle.easl_model.specs.{Assign, Clause, Declare, Written, block_of, clause_of, clauses, written_of}
use Rattle.easl_model.specs.Clauses as clause
use Rattle.easl_model.specs.Steps.{If}
use Rattle.easl_model.specs.Steps as steps
use Rattle.easl_model.specs.declared.place.Place.{Place}
use Rattle.easl_model.specs.declared.tree.Cond.{Cond}
use Rattle.easl_model.specs.declared.tree.Cond.TheFolds.{fold-roll-Cond}
use Rattle.easl_model.specs.declared.tree.Cond.TheOpen as layer
use Rattle.easl_model.specs.declared.tree.Cond.TheVariants as cond
use Rattle.easl_model.specs.declared.tree.Path.{Path}
use Rattle.easl_model.specs.declared.tree.Step.{Step}
use Rattle.easl_model.specs.declared.tree.Step.TheFolds.{fold-roll-Step}
use Rattle.easl_model.specs.declared.tree.Step.TheOpen as step_layer
use Rattle.easl_model.specs.declared.tree.Step.TheVariants as step
use Rattle.easl_model.specs.declared.tree.Value.{Value}
use Rattle.easl_model.specs.declared.tree.Word.{Word}

pub same_is : (p q : Path) → clause_of (cond.Same p q) ≡ clause.Same p q
same_is p q = ap clause_of (sym (cond.rolls-Same p q)) ∙ fold-roll-Cond Clause clause.rooted (layer.Same p q)

pub differ_is : (p q : Path) → clause_of (cond.Differ p q) ≡ clause.Differ p q
differ_is p q = ap clause_of (sym (cond.rolls-Differ p q)) ∙ fold-roll-Cond Clause clause.rooted (layer.Differ p q)

pub all_is : (xs : List Cond) → clause_of (cond.All xs) ≡ clause.All (clauses (map clause_of xs))
all_is xs = ap clause_of (sym (cond.rolls-All xs)) ∙ fold-roll-Cond Clause clause.rooted (layer.All xs)

pub any_is : (xs : List Cond) → clause_of (cond.Any xs) ≡ clause.Any (clauses (map clause_of xs))
any_is xs = ap clause_of (sym (cond.rolls-Any xs)) ∙ fold-roll-Cond Clause clause.rooted (layer.Any xs)

pub declare_is : (class name : Word) (v : Value) → written_of (step.Declare class name v) ≡ Declare class name v
declare_is class name v = ap written_of (sym (step.rolls-Declare class name v)) ∙ fold-roll-Step Written steps.rooted (step_layer.Declare class name v)

pub assign_is : (target : Path) (v : Value) → written_of (step.Assign target v) ≡ Assign target v
assign_is target v = ap written_of (sym (step.rolls-Assign target v)) ∙ fold-roll-Step Written steps.rooted (step_layer.Assign target v)

pub if_is : (place : Place) (test : Cond) (xs ys : List Step) (has_else : Bool) → written_of (step.If place test xs ys has_else) ≡ If place (clause_of test)
    (block_of xs) (block_of ys) has_else
if_is place test xs ys has_else =
    ap written_of (sym (step.rolls-If place test xs ys has_else)) ∙ fold-roll-Step Written steps.rooted (step_layer.If place test xs ys has_else)
