use Rattle.std.proofs.Common.{◌++◌, ap, ◌∙◌, arith}
use Rattle.std.proofs.lemmas.List.{take_all}
use Rattle.easl_model.specs.{place_after}
use Rattle.cv_lex.proofs.Along.{further}
use Rattle.cv_lex.proofs.spot.place_behind.Goals as goal

pub loop-character-preserved : goal.loop-character-preserved
loop-character-preserved c = record {
  line = omega arith;
  col = omega arith;
  place = further c.args.characters.now c.loop-character.character-index c.character-item.result c.args.place c.loop-character.place c.next_place-place.result c.loop-character-test.true c.character-item.is c.loop-character.invariant.place c.next_place-place.ensures.place;
}

pub returns : goal.returns
returns c = λ before e.
    c.loop-character.invariant.place before e ∙ ap (λ cs. place_after (before ++ cs)) (take_all _ c.args.characters.now c.loop-character-test.false)
