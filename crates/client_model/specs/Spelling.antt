-- What the spellings of clients are told to have.
use Rattle.std.specs.Prelude.{◌≡◌, ℕ, List}
use Rattle.easl_model.specs.Brackets.{Shallow}
use Rattle.easl_model.specs.Tokens.{AreTokens}
use Rattle.easl_model.specs.declared.place.Place.{Place}
use Rattle.easl_model.specs.declared.token.Token.{Token}
use Rattle.easl_model.specs.declared.token.Tokens.{Tokens}
use Rattle.client_model.specs.Grammar.{IsClient}
use Rattle.client_model.specs.declared.tree.Client.{Client}

-- the whole text spells the client, with at most 64 brackets unclosed at once
pub record Spells (text : List ℕ) (client : Client) : Type 0 where
  pub tokens : Tokens
  pub cut : AreTokens text tokens
  pub shallow : Shallow tokens.list
  pub spelled : IsClient text tokens.end tokens.list client

-- tokens spell at most one client
abbrev pub OneClient : Type 0
OneClient = (text : List ℕ) (end : Place) (tokens : List Token) (x y : Client) → IsClient text end tokens x → IsClient text end tokens y → x ≡ y
