use Rattle.std.proofs.Common.{◌≡◌, ◌++◌, take, drop}
use Rattle.cv_base.specs.Memory.{text_under, count_under, raised}
use Rattle.cv_base.proofs.mem_shelf.count_fault.Given as goal

-- no entry passed so far has the name
abbrev pub invariant-loop-entry : goal.invariant-loop-entry
invariant-loop-entry l = record {
  same : l.files ≡ l.fn.files;
  text : text_under (drop l.entry-index l.files) l.name ≡ text_under l.fn.files l.name;
  count : count_under (drop l.entry-index l.files) l.missing l.name ≡ count_under l.fn.files l.missing l.name;
  raises : take l.entry-index l.files ++ raised (drop l.entry-index l.files) l.name ≡ raised l.fn.files l.name;
}
