-- What is read can be checked.
use Rattle.std.proofs.Common.{ℕ, ◌≤◌, List, Ok, length}
use Rattle.easl_model.specs.Checked.{IsReadable}
use Rattle.easl_model.specs.declared.tree.Spec.{Spec}
use Rattle.easl_parser.specs.Answers.{SpecAnswers}

pub readable : (text : List ℕ) (tree : Spec) → length text ≤ 65536 → SpecAnswers text (Ok tree) → IsReadable tree
readable text tree few read = record {
  text = text;
  few_bytes = few;
  spells = record { tokens = read.0.0; cut = read.0.1; shallow = read.0.2; spelled = read.0.3 };
  limits = read.1;
}
