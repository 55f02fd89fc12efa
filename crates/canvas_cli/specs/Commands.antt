-- What the words of a command line ask.
use Rattle.std.specs.Prelude.{◌≡◌, ℕ, Bool, true, false, List, [], ◌∷◌, String, codes, map, string_bytes}
use Rattle.std.specs.declared.alloc.Global.{Global}
use Rattle.canvas_cli.specs.declared.command.Command.{Command}
use Rattle.canvas_cli.specs.declared.command.Command.TheVariants.{Certify, Run}
use Rattle.canvas_cli.specs.declared.command.Single.{Single}
use Rattle.canvas_cli.specs.declared.command.Single.TheVariants.{Show, Derive}

-- what is asked, and the names of its texts in the order of the words
pub data Request : Type 0 where
  One : Single → List ℕ → Request
  Pair : Command → List ℕ → List ℕ → Request

-- a choice is written T or F
abbrev pub letter_of : Bool → ℕ
letter_of true = 84
letter_of false = 70

abbrev pub letters : List Bool → List ℕ
letters choices = map letter_of choices

-- the words of a command on a specification of this name alone
abbrev pub single_words : Single → List ℕ → List (List ℕ)
single_words Show spec = codes "show" ∷ spec ∷ []
single_words Derive spec = codes "derive" ∷ spec ∷ []

-- the words of a command on a specification and a client of these names
abbrev pub pair_words : Command → List ℕ → List ℕ → List (List ℕ)
pair_words Certify spec client = codes "certify" ∷ spec ∷ client ∷ []
pair_words (Run choices) spec client = codes "run" ∷ spec ∷ client ∷ letters choices ∷ []

abbrev pub words_of : Request → List (List ℕ)
words_of (One single spec) = single_words single spec
words_of (Pair command spec client) = pair_words command spec client

-- the name of the specification
abbrev pub specification_of : Request → List ℕ
specification_of (One single spec) = spec
specification_of (Pair command spec client) = spec

-- the words are these
abbrev pub AreWords : List (String Global) → List (List ℕ) → Type 0
AreWords words list = map string_bytes words ≡ list

-- the words ask the request
abbrev pub IsAsked : List (String Global) → Request → Type 0
IsAsked words request = AreWords words (words_of request)

-- the words ask something
abbrev pub IsCommand : List (String Global) → Type 0
IsCommand words = (request : Request) × IsAsked words request
