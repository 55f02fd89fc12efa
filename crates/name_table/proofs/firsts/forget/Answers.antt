use Rattle.std.proofs.Common.{ap, sym, ◌∙◌, ◌≡◌, ◌≢◌, arith, chars}
use Rattle.std.specs.Option.{option_copied}
use Rattle.std.specs.Prelude.{Some, None}
use Rattle.std.specs.BTreeMap.{get_by_text}
use Rattle.name_table.proofs.Positions.{forgotten, forgotten_second}
use Rattle.name_table.proofs.firsts.forget.Goals as goal
use Rattle.name_table.proofs.firsts.forget.Goals.{in-Some, in-None}

pub returns-then-is_first : goal.returns-then-is_first
returns-then-is_first c names has count =
    let first : get_by_text c.args.firsts.now c.as_str-text.result.now ≡ Some c.args.position = elim c.match-get.branch [
      | in-Some w ↦
          let same : w.in-Some.first.now ≡ c.args.position = grind arith in
          sym c.get.ensures.value ∙ ap option_copied w.in-Some.is ∙ ap Some same
      | in-None w ↦ absurd cc
    ] in
    forgotten names c.args.name.now c.as_str-text.result.now c.args.firsts.now c.remove.new.self c.args.position c.as_str-text.utf8
    (ap chars c.as_str-text.ensures.value ∙ c.name.view_is) first c.remove.ensures.updates has count

pub returns-else-is_first : goal.returns-else-is_first
returns-else-is_first c names has count =
    let second : get_by_text c.args.firsts.now c.as_str-text.result.now ≢ Some c.args.position = elim c.match-get.branch [
      | in-Some w ↦ λ first.
          let same : Some w.in-Some.first.now ≡ Some c.args.position = ap option_copied (sym w.in-Some.is) ∙ c.get.ensures.value ∙ first in
          let here : w.in-Some.first.now ≡ c.args.position = cc in grind arith
      | in-None w ↦ λ first. let none : None ≡ Some c.args.position = ap option_copied (sym w.in-None.is) ∙ c.get.ensures.value ∙ first in cc
    ] in
    forgotten_second names c.args.name.now c.as_str-text.result.now c.args.firsts.now c.args.position c.as_str-text.utf8
    (ap chars c.as_str-text.ensures.value ∙ c.name.view_is) second has count
