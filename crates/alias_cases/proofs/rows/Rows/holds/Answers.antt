use Rattle.std.proofs.Common.{slice_index, [], ◌/◌, ◌%◌, ◌==◌, ap, ◌∙◌}
use Rattle.std.proofs.lemmas.Nat.Bits.{shr_and_one}
use Rattle.std.specs.Int.{bit_at}
use Rattle.alias_cases.proofs.Marked.{any_default, bit_tells}
use Rattle.alias_cases.proofs.rows.Rows.holds.Goals as goal

pub returns : goal.returns
returns c = λ cases literals of.
    ap (λ b. b == 1) (shr_and_one c.word_at-word.result (c.args.case % 64))
    ∙ ap (λ w. bit_at w (c.args.case % 64) == 1) c.word_at-word.ensures
    ∙ ap (λ row. bit_at (slice_index row (c.args.case / 64)) (c.args.case % 64) == 1)
    (c.index.ensures ∙ any_default c.args.self.now.rows.items c.args.literal c.index.result.now [] c.requires.literal)
    ∙ bit_tells cases literals c.args.self.now c.args.literal c.args.case of c.requires.literal c.requires.case
