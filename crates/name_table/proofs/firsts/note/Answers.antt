use Rattle.std.proofs.Common.{rules, ap, sym, ◌∙◌, ◌≡◌, false, IsUtf8, chars, string_bytes, subst}
use Rattle.std.specs.BTreeMap.{get_by_text}
use Rattle.std.specs.Prelude.{is_some}
use Rattle.name_table.proofs.Positions.{noted_already, noted_now}
use Rattle.name_table.proofs.firsts.note.Goals as goal
use Rattle.name_table.proofs.firsts.note.Goals.{in-Ok-insert, in-Err}

pub returns-then-contains_key-clause-noted : goal.returns-then-contains_key-clause-noted
returns-then-contains_key-clause-noted c names has count =
    noted_already names c.args.name.now c.as_str-text.result.now c.args.firsts.now c.as_str-text.utf8 (ap chars c.as_str-text.ensures.value ∙ c.name.view_is)
    (sym c.contains_key.ensures ∙ c.if-contains_key.true) has

pub returns-clause-noted : goal.returns-clause-noted
returns-clause-noted c =
    let bytes = string_bytes c.in-Ok-from_str.copy in
    let key_is : bytes ≡ c.as_str-text.result.now = c.in-Ok-from_str.ensures.ok in
    let spell : chars bytes ≡ c.args.name.now = ap chars key_is ∙ ap chars c.as_str-text.ensures.value ∙ c.name.view_is in
    let text : IsUtf8 bytes = subst IsUtf8 (sym key_is) c.as_str-text.utf8 in
    let absent : is_some (get_by_text c.args.firsts.now bytes) ≡ false = ap (λ b. is_some (get_by_text c.args.firsts.now b)) key_is ∙ sym c.contains_key.ensures ∙ c.if-contains_key.false in
    elim c.match-insert.branch [
      | in-Ok-insert w ↦ rw (w.result-is) (λ names has count.
          noted_now names c.args.name.now bytes c.args.firsts.now c.insert.new.self c.in-Ok.position text spell absent (search rules) has (count ∙ search rules))
      | in-Err w ↦ search rules
    ]
