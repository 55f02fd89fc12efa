use Rattle.std.proofs.Common.{◌≡◌, take}
use Rattle.easl_model.specs.{byte_len}
use Rattle.cv_lex.proofs.spot.byte_len.Given as goal

abbrev pub invariant-loop-character : goal.invariant-loop-character
invariant-loop-character l = l.size ≡ byte_len (take l.character-index l.characters)
