-- What is printed and read again is the same tree, places aside.
use Rattle.std.specs.Prelude.{◌≡◌, ℕ, List}
use Rattle.client_model.specs.Spelling.{Spells}
use Rattle.client_model.specs.TreeLimits.{IsWithinLimits}
use Rattle.client_model.specs.declared.tree.Client.{Client}
use Rattle.client_print.specs.Bare.{bare_client}
use Rattle.client_print.specs.Lines.{client_text}

-- the canonical layout of the client spells this one, which is the same client, places aside, keeps the limit where the
-- first one does, and has the same canonical layout
pub record IsReadAgain (client again : Client) : Type 0 where
  pub spells : Spells (client_text client) again
  pub same : bare_client again ≡ bare_client client
  pub limits : IsWithinLimits client → IsWithinLimits again
  pub text : client_text again ≡ client_text client

-- whatever client a text spells is read again from its canonical layout
abbrev pub ClientsAreReadAgain : Type 0
ClientsAreReadAgain = (text : List ℕ) (client : Client) → Spells text client → (again : Client) × IsReadAgain client again
