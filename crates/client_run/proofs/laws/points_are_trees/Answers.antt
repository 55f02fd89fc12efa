use Rattle.client_run.proofs.ByTrees as trees
use Rattle.client_run.proofs.Forms as forms
use Rattle.client_run.proofs.laws.points_are_trees.Goals as goal

pub returns-clause-trees : goal.returns-clause-trees
returns-clause-trees c = trees.points_are_trees

pub returns-clause-agree : goal.returns-clause-agree
returns-clause-agree c = forms.forms_agree
