-- What is answered for the text of a client.
use Rattle.std.specs.Prelude.{◌≡◌, ◌≢◌, ◌⊎◌, ℕ, List, Some, Result, Ok, Err}
use Rattle.client_model.specs.Grammar.{IsClient}
use Rattle.client_model.specs.TreeLimits.{IsWithinLimits, first_excess}
use Rattle.client_model.specs.declared.tree.Client.{Client}
use Rattle.cv_lex.specs.declared.fault.TextFault.{TextFault}
use Rattle.cv_lex.specs.declared.fault.TextFault.TheVariants.{Limit, Memory}
use Rattle.cv_read.specs.Answers as read
use Rattle.easl_model.specs.declared.fault.Which.{Which}
use Rattle.easl_model.specs.declared.place.Place.{Place}

-- the text's tokens spell a client, and here begins the first of what it has beyond the limit
abbrev pub IsFirstBeyond : List ℕ → Which → Place → Type 0
IsFirstBeyond text which place =
    (client : Client) × read.Answers IsClient text (Ok client) × (first_excess client ≡ Some (record { which = which; place = place }))

-- the client that the text's tokens spell, where it keeps the limit, and else its first excess; or the first fault of the text
abbrev pub ClientAnswers : List ℕ → Result Client TextFault → Type 0
ClientAnswers text (Ok client) = read.Answers IsClient text (Ok client) × IsWithinLimits client
ClientAnswers text (Err (Limit which place)) = read.Answers IsClient text (Err (Limit which place)) ⊎ IsFirstBeyond text which place
ClientAnswers text (Err e) = read.Answers IsClient text (Err e)

-- a text has one answer, want of memory aside
abbrev pub OneAnswer : Type 0
OneAnswer = (text : List ℕ) (r s : Result Client TextFault) → r ≢ Err Memory → s ≢ Err Memory → ClientAnswers text r → ClientAnswers text s → r ≡ s
