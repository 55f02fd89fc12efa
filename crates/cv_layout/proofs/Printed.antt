-- What is printed, and what it spells when it is read again.
use Rattle.std.proofs.Common.{◌≡◌, ℕ, true, List}
use Rattle.std.specs.List.{AllByRecursion}
use Rattle.std.specs.Str.{all_scalars}
use Rattle.easl_model.specs.{IsToken, word_of}
use Rattle.easl_model.specs.declared.token.Token.{Token}
use Rattle.cv_layout.specs.{AreOf, IsProper, Lexeme}

-- the token has the characters that it was cut from
pub record IsWritten (text : List ℕ) (t : Token) : Type 0 where
  pub is_token : IsToken t.kind (word_of text t).name
  pub scalars : all_scalars (word_of text t).name ≡ true

abbrev pub AreWritten : List ℕ → List Token → Type 0
AreWritten text ts = AllByRecursion (IsWritten text) ts

-- tokens of any text that are written so spell, in the language, a tree that is this one with other places
pub record Prints {A B : Type 0} (S : List ℕ → List Token → A → Type 0) (bare : A → B) (same : B) (xs : List Lexeme) : Type 0 where
  pub proper : AllByRecursion IsProper xs
  pub again : (text : List ℕ) (ts : List Token) → AreOf text ts xs → (y : A) × S text ts y × (bare y ≡ same)
