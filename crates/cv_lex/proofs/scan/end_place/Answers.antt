use Rattle.std.proofs.Common.{◌≡◌, [], length, chars, refl, ap, ◌∙◌, arith}
use Rattle.easl_model.specs.{place_after}
use Rattle.cv_lex.proofs.Decoding.{chars_short}
use Rattle.cv_lex.proofs.scan.end_place.Goals as goal

same : (c : goal.After-deref) → c.deref.result.now ≡ chars c.args.text.now
same c = c.deref.ensures.value ∙ c.in_ok-characters.ensures ∙ ap chars c.as_text.ensures

pub place_behind-requires-clause-line : goal.place_behind-requires-clause-line
place_behind-requires-clause-line c = omega (arith, ap length (same c), chars_short c.args.text.now c.requires.utf8)

pub place_behind-requires-clause-col : goal.place_behind-requires-clause-col
place_behind-requires-clause-col c = omega (arith, ap length (same c), chars_short c.args.text.now c.requires.utf8)

pub returns : goal.returns
returns c = c.place_behind.ensures [] refl ∙ ap place_after (c.deref.ensures.value ∙ c.in_ok-characters.ensures ∙ ap chars c.as_text.ensures)
