-- Conditions and steps with one level less to go.
use Rattle.std.proofs.Common.{◌≡◌, ℕ, zero, suc, ◌-◌, ◌<◌, List, refl, arith}
use Rattle.easl_model.specs.declared.token.Token.{Token}
use Rattle.cv_read.specs.{Deep, items_at}
use Rattle.easl_parser.specs.Reading.{any_at, any_by, all_at, steps_at, maybe_step_at}

pub any_none : (text : List ℕ) (d : ℕ) (ts : List Token) → d ≡ 0 → any_at text d ts ≡ Deep
unfolding any_at
any_none text d ts e = rw e refl

pub any_some : (text : List ℕ) (d : ℕ) (ts : List Token) → 0 < d → any_at text d ts ≡ any_by (all_at text (d - 1)) ts
unfolding any_at
any_some text zero ts h = absurd (omega arith)
any_some text (suc d) ts h = let e : suc d - 1 ≡ d = omega arith in rw e refl

pub steps_none : (text : List ℕ) (d : ℕ) (ts : List Token) → d ≡ 0 → steps_at text d ts ≡ Deep
unfolding steps_at
steps_none text d ts e = rw e refl

pub steps_some : (text : List ℕ) (d : ℕ) (ts : List Token) → 0 < d → steps_at text d ts ≡ items_at (maybe_step_at text (d - 1)) ts
unfolding steps_at
steps_some text zero ts h = absurd (omega arith)
steps_some text (suc d) ts h = let e : suc d - 1 ≡ d = omega arith in rw e refl
