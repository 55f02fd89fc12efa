-- How the search ends at an item.
use Rattle.std.proofs.Common.{◌≡◌, ℕ, ◌+◌, ◌<◌, Bool, List, [], length, take, Result, Ok, Err, sym, ap, ◌∙◌, add-one, arith}
use Rattle.std.specs.Result.{result_unwrap_or}
use Rattle.indexmap.specs.IndexSet.{insert_all}
use Rattle.cv_fix.specs.declared.closure.CloseFault.{CloseFault}
use Rattle.cv_fix.specs.Closure.{IsAsked, Refuses, Exceeds}
use Rattle.cv_fix.specs.Faults.{AtStop, AtOver}
use Rattle.cv_fix.proofs.Faults.{AtStop-weaker, AtOver-weaker}
use Rattle.cv_fix.proofs.SoFar.{found-suc}

module _ {T S : Type 0} (follows : List T → Result (List T) S) (eq : T → T → Bool) (starts : List T) (limit : ℕ) where
  -- What a refusal says, where the counter went from `before` to `after`.
  pub record IsEnd (before after : ℕ) (f : CloseFault S) : Type 0 where
    pub stop : AtStop f (λ stop. (n : ℕ) × Refuses follows eq starts limit n stop × (after ≡ before + n + 1))
    pub over : AtOver f (λ n. Exceeds follows eq starts limit n × (after ≡ before + n + 1))

  -- The item at place n is asked. The rules are `now` as they were, and the counter stood at `before + n`.
  module _ (items : List T) (n : ℕ) (asked : IsAsked follows eq starts limit items n) (now : List T → Result (List T) S) (kept : (xs : List T) → now xs ≡ follows xs) (most : ℕ) (same_most : most ≡ limit) (before counted after : ℕ) (count : counted ≡ before + n) where
    Refuses-here : (stop : S) → now (take (n + 1) items) ≡ Err stop → Refuses follows eq starts limit n stop
    Refuses-here stop is = record { items = items; asked = asked; refused = rw add-one at (sym (kept (take (n + 1) items)) ∙ is) }

    Exceeds-here : (xs : List T) → now (take (n + 1) items) ≡ Ok xs → most < length (insert_all eq items xs) → Exceeds follows eq starts limit n
    Exceeds-here xs is over =
        let gives = ap (λ r. result_unwrap_or r []) (rw add-one at (sym (kept (take (n + 1) items)) ∙ is)) in
        record { items = items; asked = asked; beyond = rw (found-suc follows eq starts items n, gives, ← asked.so_far.order, ← same_most) over }

    pub IsEnd-here : (f : CloseFault S)
        → AtStop f (λ stop. (now (take (n + 1) items) ≡ Err stop) × (after ≡ counted + 1))
        → AtOver f (λ k. (k ≡ n) × (after ≡ counted + 1) × ((xs : List T) × (now (take (n + 1) items) ≡ Ok xs) × (most < length (insert_all eq items xs))))
        → IsEnd before after f
    IsEnd-here f stop over = record {
      stop = AtStop-weaker f _ _ (λ s h. (n, Refuses-here s h.0, omega (arith, h.1, count))) stop;
      over = AtOver-weaker f _ _ (λ k h. rw h.0 (Exceeds-here h.2.0 h.2.1 h.2.2, omega (arith, h.1, count))) over;
    }
