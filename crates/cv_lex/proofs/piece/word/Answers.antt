use Rattle.std.proofs.Common.{sym, subst, ◌+◌, arith}
use Rattle.std.proofs.lemmas.List.{length-take-le}
use Rattle.cv_lex.specs.Reading.{IsFront}
use Rattle.cv_lex.proofs.Words.{key_front}
use Rattle.cv_lex.proofs.Bytes.{front_within}
use Rattle.cv_lex.proofs.piece.word.Goals as goal

pub byte_len-requires : goal.byte_len-requires
byte_len-requires c = omega (arith, front_within c.args.characters.now c.args.bytes.now (1 + c.word_length-length.result) c.requires.bytes)

pub slice_bounds-key-end : goal.slice_bounds-key-end
slice_bounds-key-end c = sym (length-take-le c.byte_len.result c.args.bytes.now (omega (arith, c.byte_len.ensures, front_within c.args.characters.now c.args.bytes.now (1 + c.word_length-length.result) c.requires.bytes)))

pub returns-in-Some : goal.returns-in-Some
returns-in-Some c =
    subst (IsFront c.args.characters.now) (sym c.token.ensures)
    (key_front c.args.characters.now c.args.bytes.now c.word_length-length.result c.byte_len.result c.in-Some.key c.requires.bytes c.requires.word c.word_length-length.ensures c.byte_len.ensures c.in-Some.ensures)
