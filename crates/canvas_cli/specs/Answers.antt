-- Which answers are allowed, by what the shelf tells and counts; and how an answer is written.
use Rattle.std.specs.Prelude.{◌≡◌, ℕ, ◌<◌, ◌≤◌, List, length, take, Option, String}
use Rattle.std.specs.declared.alloc.Global.{Global}
use Rattle.cv_base.specs.Causes.{Appends, Begins}
use Rattle.cv_base.specs.declared.status.Status.{Status}
use Rattle.cv_base.specs.declared.status.Status.TheVariants as s
use Rattle.canvas_cli.specs.Commands.{IsAsked, IsCommand, Request, One, Pair}
use Rattle.canvas_cli.specs.Refusals.{most_bytes}
use Rattle.canvas_cli.specs.Texts.{status_of, text_of}
use Rattle.canvas_cli.specs.Verdicts.{Decides, DecidesOne}
use Rattle.canvas_cli.specs.declared.answer.Role.{Role}
use Rattle.canvas_cli.specs.declared.answer.Role.TheVariants.{Specification, Client}
use Rattle.canvas_cli.specs.declared.answer.Answer.{Answer}
use Rattle.canvas_cli.specs.declared.answer.Answer.TheVariants.{Usage, ReadFault, TooLong, Memory}
use Rattle.canvas_cli.specs.declared.command.Command.{Command}

-- these bytes are the text of the role, as far as it is told, and within its limit
abbrev pub IsLoaded : Role → Option (List ℕ) → List ℕ → Type 0
IsLoaded role held text = Begins held (most_bytes role) text × (length text ≤ most_bytes role)

-- the text of the role is longer than its limit, as far as it is told
abbrev pub IsTooLong : Role → Option (List ℕ) → Type 0
IsTooLong role held = (text : List ℕ) × Begins held (most_bytes role) text × (most_bytes role < length text)

-- the specification was loaded
abbrev pub SpecificationLoaded : (List ℕ → Option (List ℕ)) → List ℕ → Type 0
SpecificationLoaded held spec = (text : List ℕ) × IsLoaded Specification (held spec) text

-- the client was loaded too, and the two texts decide the answer
abbrev pub ClientDecides : Command → List ℕ → Option (List ℕ) → Answer → Type 0
ClientDecides command spec held answer = (text : List ℕ) × IsLoaded Client held text × Decides command spec text answer

-- what may be answered to a command on a pair once the specification is loaded, by what is held under the client's name
abbrev pub ClientAnswers : Command → List ℕ → Option (List ℕ) → Type 0 → Answer → Type 0
ClientAnswers command spec held rose (ReadFault Specification) = ⊥
ClientAnswers command spec held rose (ReadFault Client) = rose
ClientAnswers command spec held rose (TooLong Specification) = ⊥
ClientAnswers command spec held rose (TooLong Client) = IsTooLong Client held
ClientAnswers command spec held rose Memory = Unit {0}
ClientAnswers command spec held rose answer = ClientDecides command spec held answer

-- the count of a text's name rose, and the texts named before it were loaded
abbrev pub FailsToLoad : (List ℕ → Option (List ℕ)) → (List ℕ → Type 0) → Request → Role → Type 0
FailsToLoad held rose (One single spec) Specification = rose spec
FailsToLoad held rose (One single spec) Client = ⊥
FailsToLoad held rose (Pair command spec client) Specification = rose spec
FailsToLoad held rose (Pair command spec client) Client = SpecificationLoaded held spec × rose client

-- a text is longer than its limit, and the texts named before it were loaded
abbrev pub IsLoadedTooLong : (List ℕ → Option (List ℕ)) → Request → Role → Type 0
IsLoadedTooLong held (One single spec) Specification = IsTooLong Specification (held spec)
IsLoadedTooLong held (One single spec) Client = ⊥
IsLoadedTooLong held (Pair command spec client) Specification = IsTooLong Specification (held spec)
IsLoadedTooLong held (Pair command spec client) Client = SpecificationLoaded held spec × IsTooLong Client (held client)

-- all texts were loaded, and they decide the answer
abbrev pub TextsDecide : (List ℕ → Option (List ℕ)) → Request → Answer → Type 0
TextsDecide held (One single spec) answer = (text : List ℕ) × IsLoaded Specification (held spec) text × DecidesOne single text answer
TextsDecide held (Pair command spec client) answer = (text : List ℕ) × IsLoaded Specification (held spec) text × ClientDecides command text (held client) answer

-- What may be answered to the request, by what is held under each name and whose counts rose. The texts come first, in
-- the order of the words, each with its load and its length; what is wrong in them, and the answer, follow.
abbrev pub MayAnswer : (List ℕ → Option (List ℕ)) → (List ℕ → Type 0) → Request → Answer → Type 0
MayAnswer held rose request (ReadFault role) = FailsToLoad held rose request role
MayAnswer held rose request (TooLong role) = IsLoadedTooLong held request role
MayAnswer held rose request Memory = Unit {0}
MayAnswer held rose request answer = TextsDecide held request answer

-- an allowed answer to the words
abbrev pub IsAllowed : (List ℕ → Option (List ℕ)) → (List ℕ → Type 0) → List (String Global) → Answer → Type 0
IsAllowed held rose words Usage = IsCommand words → ⊥
IsAllowed held rose words answer = (request : Request) × IsAsked words request × MayAnswer held rose request answer

-- the text is taken whole, or the sink failed in it
abbrev pub IsWritten : Option (List ℕ) → Option (List ℕ) → Type 0 → Answer → Status → Type 0
IsWritten old new rose answer s.WriteFault = rose × (n : ℕ) × (n < length (text_of answer)) × Appends old new (take n (text_of answer))
IsWritten old new rose answer status = (status ≡ status_of answer) × Appends old new (text_of answer)

-- an allowed answer is written
abbrev pub WritesAllowed : (List ℕ → Option (List ℕ)) → (List ℕ → Type 0) → List (String Global) → Option (List ℕ) → Option (List ℕ) → Type 0 → Status → Type 0
WritesAllowed held rose words old new failed status = (answer : Answer) × IsAllowed held rose words answer × IsWritten old new failed answer status

-- some text that the words name could not be loaded
abbrev pub CouldNotLoad : (List ℕ → Option (List ℕ)) → (List ℕ → Type 0) → List (String Global) → Type 0
CouldNotLoad held rose words = (request : Request) × (role : Role) × IsAsked words request × FailsToLoad held rose request role
