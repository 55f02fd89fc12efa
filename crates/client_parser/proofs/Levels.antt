-- Statements with one level less to go.
use Rattle.std.proofs.Common.{◌≡◌, ℕ, zero, suc, ◌-◌, ◌<◌, List, refl, arith}
use Rattle.easl_model.specs.declared.token.Token.{Token}
use Rattle.cv_read.specs.Read.{Deep, items_at}
use Rattle.client_parser.specs.Reading.{stmts_at, maybe_stmt_at}

pub stmts_none : (text : List ℕ) (d : ℕ) (ts : List Token) → d ≡ 0 → stmts_at text d ts ≡ Deep
unfolding stmts_at
stmts_none text d ts e = rw e refl

pub stmts_some : (text : List ℕ) (d : ℕ) (ts : List Token) → 0 < d → stmts_at text d ts ≡ items_at (maybe_stmt_at text (d - 1)) ts
unfolding stmts_at
stmts_some text zero ts h = absurd (omega arith)
stmts_some text (suc d) ts h = let e : suc d - 1 ≡ d = omega arith in rw e refl
