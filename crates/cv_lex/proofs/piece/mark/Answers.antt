use Rattle.std.proofs.Common.{sym, subst}
use Rattle.cv_lex.specs.Reading.{IsFront}
use Rattle.cv_lex.proofs.Fronts.{short_front}
use Rattle.cv_lex.proofs.piece.mark.Goals as goal

pub returns-in-Some-short_mark : goal.returns-in-Some-short_mark
returns-in-Some-short_mark c =
    subst (IsFront c.args.characters.now) (sym c.token-in-Some-short_mark.ensures)
    (short_front c.args.characters.now c.in-Some-short_mark.mark c.index-characters-0.result c.requires.other c.in-None.ensures c.index-characters-0.is c.in-Some-short_mark.ensures)
