-- Nodes that are put behind one another.
use Rattle.std.proofs.Common.{◌≡◌, ℕ, suc, ◌+◌, ◌<◌, ◌≤◌, List, [], ◌∷◌, ◌++◌, ap, arith, drop, get_or, length, map, refl, sym, ◌∙◌}
use Rattle.client_model.proofs.PlainStatements.{plain}
use Rattle.client_model.specs.Nodes.{Step, Tree, Trees, count, count_in, end, node_at, rooted, shape_from, tree_of, trees, ◌▹◌}
use Rattle.client_model.specs.Statements.{statement_of}
use Rattle.client_model.specs.declared.form.Node.{Node}
use Rattle.client_model.specs.declared.form.Node.TheFolds.{fold-roll-Node}
use Rattle.client_model.specs.declared.form.Node.TheOpen as layer
use Rattle.client_model.specs.declared.form.Node.TheVariants as node
use Rattle.client_model.specs.declared.tree.Stmt.{Stmt}
use Rattle.client_points.proofs.Adding.{all_dropped, rest_is}
use Rattle.client_model.specs.CheckedForm.{steps_from}

-- these trees, and then those
abbrev pub both_trees : Trees → Trees → Trees
both_trees end us = us
both_trees (t ▹ ts) us = t ▹ both_trees ts us

node_added : (nodes : List Node) (last : Node) (rest : Trees) → both_trees (trees (map tree_of (nodes ++ last ∷ []))) rest ≡ both_trees (trees (map tree_of nodes)) (tree_of last ▹ rest)
node_added [] last rest = refl
node_added (n ∷ ns) last rest = ap (λ ts. tree_of n ▹ ts) (node_added ns last rest)

all_added : (ts : Trees) → both_trees ts end ≡ ts
all_added end = refl
all_added (t ▹ ts) = ap (λ us. t ▹ us) (all_added ts)

-- one more statement of these
pub node_passed : (xs : List Stmt) (k : ℕ) (x : Stmt) (nodes more : List Node) (last : Node) (here next : ℕ) (all : Trees)
    → k < length xs → x ≡ get_or xs k x → tree_of last ≡ node_at here (statement_of x) → next ≡ here + count_in (statement_of x) → more ≡ nodes ++ last ∷ []
    → both_trees (trees (map tree_of nodes)) (shape_from here (plain (drop k xs))) ≡ all
    → both_trees (trees (map tree_of more)) (shape_from next (plain (drop (k + 1) xs))) ≡ all
node_passed xs k x nodes more last here next all within is same counted pushed left =
    let rest = plain (drop (k + 1) xs) in
    let before = trees (map tree_of nodes) in
    ap (λ ns. both_trees (trees (map tree_of ns)) (shape_from next rest)) pushed
    ∙ node_added nodes last (shape_from next rest)
    ∙ ap (λ t. both_trees before (t ▹ shape_from next rest)) same
    ∙ ap (λ n. both_trees before (node_at here (statement_of x) ▹ shape_from n rest)) counted
    ∙ sym (ap (λ ys. both_trees before (shape_from here (plain ys))) (rest_is xs k x within is))
    ∙ left

pub points_passed : (xs : List Stmt) (k : ℕ) (x : Stmt) (here next all : ℕ) → k < length xs → x ≡ get_or xs k x → next ≡ here + count_in (statement_of x)
    → here + count (plain (drop k xs)) ≡ all → next + count (plain (drop (k + 1) xs)) ≡ all
points_passed xs k x here next all within is counted left =
    let more : count (plain (drop k xs)) ≡ count_in (statement_of x) + count (plain (drop (k + 1) xs)) = ap (λ ys. count (plain ys)) (rest_is xs k x within is) in
    omega (arith, more, counted, left)

pub nodes_in_end : (xs : List Stmt) (k : ℕ) (nodes : List Node) (here : ℕ) (all : Trees) → length xs ≤ k
    → both_trees (trees (map tree_of nodes)) (shape_from here (plain (drop k xs))) ≡ all → trees (map tree_of nodes) ≡ all
nodes_in_end xs k nodes here all few left =
    let before = trees (map tree_of nodes) in
    sym (all_added before) ∙ sym (ap (λ ys. both_trees before (shape_from here (plain ys))) (all_dropped xs k few)) ∙ left

pub points_in_end : (xs : List Stmt) (k here all : ℕ) → length xs ≤ k → here + count (plain (drop k xs)) ≡ all → here ≡ all
points_in_end xs k here all few left =
    let none : count (plain (drop k xs)) ≡ 0 = ap (λ ys. count (plain ys)) (all_dropped xs k few) in
    omega (arith, none, left)

-- one more step
tree_step : (point : ℕ) → tree_of (node.Step point) ≡ Step point
tree_step point = ap tree_of (sym (node.rolls-Step point)) ∙ fold-roll-Node Tree rooted (layer.Step point)

pub step_passed : (point more : ℕ) (nodes longer : List Node) (all : Trees) → longer ≡ nodes ++ node.Step point ∷ []
    → both_trees (trees (map tree_of nodes)) (steps_from point (suc more)) ≡ all → both_trees (trees (map tree_of longer)) (steps_from (point + 1) more) ≡ all
step_passed point more nodes longer all pushed left =
    let next : point + 1 ≡ suc point = omega arith in
    let before = trees (map tree_of nodes) in
    ap (λ ns. both_trees (trees (map tree_of ns)) (steps_from (point + 1) more)) pushed
    ∙ node_added nodes (node.Step point) (steps_from (point + 1) more)
    ∙ ap (λ t. both_trees before (t ▹ steps_from (point + 1) more)) (tree_step point)
    ∙ ap (λ n. both_trees before (Step point ▹ steps_from n more)) next
    ∙ left

pub steps_in_end : (point count : ℕ) (nodes : List Node) (all : Trees) → point ≡ count
    → ((more : ℕ) → point + more ≡ count → both_trees (trees (map tree_of nodes)) (steps_from point more) ≡ all) → trees (map tree_of nodes) ≡ all
steps_in_end point count nodes all ends left = sym (all_added (trees (map tree_of nodes))) ∙ left 0 (omega (arith, ends))
