-- What the code walks over, in the words of the definitions.
use Rattle.std.specs.Prelude.{List, map}
use Rattle.flow_graph.specs.declared.walk.Ways as made
use Rattle.client_model.specs.Nodes.{Trees, tree_of, trees}
use Rattle.client_model.specs.declared.form.Node.{Node}
use Rattle.client_model.specs.Ways.{Ways}

abbrev pub row : List Node → Trees
row nodes = trees (map tree_of nodes)

abbrev pub ways_told : made.Ways → Ways
ways_told w = record { on = w.on; broken = w.broken; again = w.again; exit = w.exit }
