-- Clients that a reader can give.
use Rattle.std.specs.Prelude.{ℕ, ◌≤◌, List, length}
use Rattle.client_model.specs.Spelling.{Spells}
use Rattle.client_model.specs.TreeLimits.{IsWithinLimits}
use Rattle.client_model.specs.declared.tree.Client.{Client}

-- some text within its limit spells the client, and it is within the limits
pub record IsReadable (client : Client) : Type 0 where
  pub text : List ℕ
  pub few_bytes : length text ≤ 1048576
  pub spells : Spells text client
  pub limits : IsWithinLimits client
