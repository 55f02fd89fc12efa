use Rattle.std.proofs.Common.{◌≡◌, drop}
use Rattle.cv_base.specs.Memory.{text_under}
use Rattle.cv_base.proofs.mem_shelf.text_of.Given as goal

-- no entry passed so far has the name
abbrev pub invariant-loop-entry : goal.invariant-loop-entry
invariant-loop-entry l = text_under (drop l.entry-index l.files) l.name ≡ text_under l.fn.files l.name
