-- What is answered for a text.
use Rattle.std.specs.Prelude.{◌≡◌, ◌≢◌, List, ℕ, Result, Ok, Err}
use Rattle.easl_model.specs.declared.token.Tokens.{Tokens}
use Rattle.easl_model.specs.{AreTokens, IsBadTokenAt, IsNotUtf8At}
use Rattle.cv_lex.specs.declared.fault.TextFault.{TextFault}
use Rattle.cv_lex.specs.declared.fault.TextFault.TheVariants.{NotUtf8, BadToken, Syntax, Limit, Memory}

abbrev pub Answers : List ℕ → Result Tokens TextFault → Type 0
Answers text (Ok x) = AreTokens text x
Answers text (Err (NotUtf8 place)) = IsNotUtf8At text place
Answers text (Err (BadToken place)) = IsBadTokenAt text place
Answers text (Err Memory) = Unit {0}
Answers text (Err (Syntax place)) = ⊥
Answers text (Err (Limit which place)) = ⊥

-- a text has one answer, want of memory aside
abbrev pub OneAnswer : Type 0
OneAnswer = (text : List ℕ) (r s : Result Tokens TextFault) → r ≢ Err Memory → s ≢ Err Memory → Answers text r → Answers text s → r ≡ s
