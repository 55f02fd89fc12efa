-- Spans behind a point.
use Rattle.std.proofs.Common.{◌≡◌, ℕ, ◌+◌, ◌≤◌, ◌||◌, not, ap, refl, subst, sym, ◌∙◌, arith}
use Rattle.std.proofs.lemmas.Bool.{le-ltb}
use Rattle.std.proofs.Math.Bool.{or-true}
use Rattle.std.specs.List.{list_any}
use Rattle.std.specs.Prelude.{Option, Some, None, is_some, unwrap_or}
use Rattle.set_names.proofs.Ascending.{past_end}
use Rattle.set_names.specs.Sets.{AreSpans, end_of, holds, holds_since, within}
use Rattle.set_names.specs.declared.spans.Spans.{Spans}

-- at the point the variable is set where a span goes on
pub holds_now : (point : ℕ) (s : Spans) → AreSpans point s → holds point s ≡ is_some s.since
holds_now point s are = by s.since refl
  where
    by : (since : Option ℕ) → s.since ≡ since → holds point s ≡ is_some since
    by None is =
        let behind : end_of 0 s.ended.items ≤ point = subst (λ o. end_of 0 s.ended.items ≤ unwrap_or o point) is are.ended in
        ap (λ b. b || holds_since point s.since) (past_end 0 s.ended.items point are.order behind) ∙ ap (holds_since point) is
    by (Some first) is =
        let begun : first ≤ point = subst (λ o. unwrap_or o point ≤ point) is are.since in
        ap (λ o. list_any (within point) s.ended.items || holds_since point o) is
        ∙ ap (λ b. list_any (within point) s.ended.items || not b) (le-ltb point first begun) ∙ or-true (list_any (within point) s.ended.items)

pub next : (point : ℕ) (s : Spans) → AreSpans point s → AreSpans (point + 1) s
next point s are = by s.since refl
  where
    by : (since : Option ℕ) → s.since ≡ since → AreSpans (point + 1) s
    by None is =
        let behind : end_of 0 s.ended.items ≤ point = subst (λ o. end_of 0 s.ended.items ≤ unwrap_or o point) is are.ended in
        record {
          order = are.order;
          ended = subst (λ o. end_of 0 s.ended.items ≤ unwrap_or o (point + 1)) (sym is) (omega arith);
          since = subst (λ o. unwrap_or o (point + 1) ≤ point + 1) (sym is) (omega arith);
        }
    by (Some first) is =
        let begun : first ≤ point = subst (λ o. unwrap_or o point ≤ point) is are.since in
        record {
          order = are.order;
          ended = subst (λ o. end_of 0 s.ended.items ≤ unwrap_or o (point + 1)) (sym is) (subst (λ o. end_of 0 s.ended.items ≤ unwrap_or o point) is are.ended);
          since = subst (λ o. unwrap_or o (point + 1) ≤ point + 1) (sym is) (omega arith);
        }

pub holds_next : (point : ℕ) (s : Spans) → AreSpans point s → holds (point + 1) s ≡ holds point s
holds_next point s are = holds_now (point + 1) s (next point s are) ∙ sym (holds_now point s are)
