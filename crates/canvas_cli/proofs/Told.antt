-- What is told of an answer by the texts that are held, and by what is written.
use Rattle.std.proofs.Common.{◌≡◌, ◌≢◌, ℕ, ◌+◌, ◌<◌, ◌≤◌, List, ap, arith, length, length-take, refl, subst, sym, take, ◌∙◌}
use Rattle.std.proofs.lemmas.List.{take_all}
use Rattle.std.specs.Prelude.{Option, Some, String}
use Rattle.std.specs.declared.alloc.Global.{Global}
use Rattle.cv_base.specs.Causes.{Appends, Begins}
use Rattle.cv_base.specs.declared.status.Status.{Status}
use Rattle.cv_base.specs.declared.status.Status.TheVariants as s
use Rattle.canvas_cli.proofs.Letters.{one_asked}
use Rattle.canvas_cli.specs.Answers.{IsAllowed, IsLoaded, IsLoadedTooLong, IsTooLong, IsWritten, MayAnswer, TextsDecide, WritesAllowed}
use Rattle.canvas_cli.specs.Commands.{IsAsked, IsCommand, Request, One, Pair, specification_of}
use Rattle.canvas_cli.specs.Refusals.{most_bytes}
use Rattle.canvas_cli.specs.Texts.{status_of, text_of}
use Rattle.canvas_cli.specs.Verdicts.{Decides}
use Rattle.canvas_cli.specs.declared.answer.Answer.{Answer}
use Rattle.canvas_cli.specs.declared.answer.Answer.TheVariants.{Usage}
use Rattle.canvas_cli.specs.declared.answer.Role.{Role}
use Rattle.canvas_cli.specs.declared.answer.Role.TheVariants.{Specification, Client}
use Rattle.canvas_cli.specs.declared.command.Command.{Command}

-- what is loaded of a text within its limit is the text
pub loaded_is : (role : Role) (held : Option (List ℕ)) (text loaded : List ℕ) → held ≡ Some text → IsLoaded role held loaded → loaded ≡ text
loaded_is role held text loaded is (begins, few) =
    let start : loaded ≡ take (most_bytes role + 1) text = subst (λ h. Begins h (most_bytes role) loaded) is begins in
    let short : length text ≤ most_bytes role + 1 = omega (arith, few, ap length start, length-take (most_bytes role + 1) text) in
    start ∙ take_all (most_bytes role + 1) text short

-- a text that is too long was not loaded, and one within its limit is not too long
pub loaded_few : (role : Role) (held : Option (List ℕ)) (text loaded : List ℕ) → held ≡ Some text → IsLoaded role held loaded → length text ≤ most_bytes role
loaded_few role held text loaded is load = subst (λ t. length t ≤ most_bytes role) (loaded_is role held text loaded is load) load.1

pub long_is : (role : Role) (held : Option (List ℕ)) (text : List ℕ) → held ≡ Some text → IsTooLong role held → most_bytes role < length text
long_is role held text is (loaded, begins, many) =
    let start : loaded ≡ take (most_bytes role + 1) text = subst (λ h. Begins h (most_bytes role) loaded) is begins in
    omega (arith, many, ap length start, length-take (most_bytes role + 1) text)

pub not_long : (role : Role) (held : Option (List ℕ)) (text : List ℕ) → held ≡ Some text → length text ≤ most_bytes role → IsTooLong role held → ⊥
not_long role held text is few long =
    let many = long_is role held text is long in
    omega (arith, few, many)

-- the specification is too long, or it was loaded
pub long_spec : (held : List ℕ → Option (List ℕ)) (request : Request) → IsLoadedTooLong held request Specification
    → IsTooLong Specification (held (specification_of request))
long_spec held (One single spec) long = long
long_spec held (Pair command spec client) long = long

pub short_spec : (held : List ℕ → Option (List ℕ)) (request : Request) (spec : List ℕ) → held (specification_of request) ≡ Some spec
    → IsLoadedTooLong held request Client → length spec ≤ most_bytes Specification
short_spec held (One single name) spec is long = absurd long
short_spec held (Pair command name client) spec is ((text, loaded), long) = loaded_few Specification (held name) spec text is loaded

pub decided_few : (held : List ℕ → Option (List ℕ)) (request : Request) (spec : List ℕ) (a : Answer) → held (specification_of request) ≡ Some spec
    → TextsDecide held request a → length spec ≤ most_bytes Specification
decided_few held (One single name) spec a is (text, loaded, decides) = loaded_few Specification (held name) spec text is loaded
decided_few held (Pair command name client) spec a is (text, loaded, decides) = loaded_few Specification (held name) spec text is loaded

-- an answer whose text is written whole
abbrev pub IsWhole : Option (List ℕ) → Option (List ℕ) → Answer → Status → Type 0
IsWhole old new answer status = (status ≡ status_of answer) × Appends old new (text_of answer)

pub whole : (old new : Option (List ℕ)) (failed : Type 0) (answer : Answer) (status : Status) → IsWritten old new failed answer status → status ≢ s.WriteFault
    → IsWhole old new answer status
whole old new failed answer s.Fine written no_fault = written
whole old new failed answer s.Alarm written no_fault = written
whole old new failed answer s.Rejected written no_fault = written
whole old new failed answer s.Refused written no_fault = written
whole old new failed answer s.Usage written no_fault = written
whole old new failed answer s.ReadFault written no_fault = written
whole old new failed answer s.WriteFault written no_fault = absurd (no_fault refl)
whole old new failed answer s.Memory written no_fault = written
whole old new failed answer s.Open written no_fault = written
whole old new failed answer s.Limit written no_fault = written
whole old new failed answer s.NotBuilt written no_fault = written

-- where the sink did not fail, it was
pub unfailed : (old new : Option (List ℕ)) (failed : Type 0) (answer : Answer) (status : Status) → IsWritten old new failed answer status → (failed → ⊥)
    → status ≢ s.WriteFault
unfailed old new failed answer s.WriteFault written none is = none written.0
unfailed old new failed answer s.Fine written none is = absurd cc
unfailed old new failed answer s.Alarm written none is = absurd cc
unfailed old new failed answer s.Rejected written none is = absurd cc
unfailed old new failed answer s.Refused written none is = absurd cc
unfailed old new failed answer s.Usage written none is = absurd cc
unfailed old new failed answer s.ReadFault written none is = absurd cc
unfailed old new failed answer s.Memory written none is = absurd cc
unfailed old new failed answer s.Open written none is = absurd cc
unfailed old new failed answer s.Limit written none is = absurd cc
unfailed old new failed answer s.NotBuilt written none is = absurd cc

-- only what the words ask is answered with a status of its own
pub known : (held : List ℕ → Option (List ℕ)) (rose : List ℕ → Type 0) (words : List (String Global)) (old new : Option (List ℕ)) (failed : Type 0)
    (status : Status) → WritesAllowed held rose words old new failed status → status ≢ s.Usage → status ≢ s.WriteFault → IsCommand words
known held rose words old new failed status (Usage, may, written) other no_fault = absurd (other (whole old new failed Usage status written no_fault).0)
known held rose words old new failed status (answer, (request, are, may), written) other no_fault = (request, are)

-- what is answered to the request that the words ask
asked : (held : List ℕ → Option (List ℕ)) (rose : List ℕ → Type 0) (words : List (String Global)) (request : Request) (answer : Answer)
    → IsAsked words request → (other : Request) × IsAsked words other × MayAnswer held rose other answer → MayAnswer held rose request answer
asked held rose words request answer words_are (other, are, may) = subst (λ r. MayAnswer held rose r answer) (one_asked other request (sym are ∙ words_are)) may

pub allowed : (held : List ℕ → Option (List ℕ)) (rose : List ℕ → Type 0) (words : List (String Global)) (request : Request) (answer : Answer)
    → IsAsked words request → IsAllowed held rose words answer → MayAnswer held rose request answer
allowed held rose words request Usage words_are is = absurd (is (request, words_are))
allowed held rose words request answer words_are is = asked held rose words request answer words_are is

-- the texts that were loaded are those that are held
pub texts_are : (held : List ℕ → Option (List ℕ)) (command : Command) (a b spec client : List ℕ) (answer : Answer) → held a ≡ Some spec → held b ≡ Some client
    → TextsDecide held (Pair command a b) answer → Decides command spec client answer
texts_are held command a b spec client answer spec_is client_is decide =
    let first = loaded_is Specification (held a) spec decide.0 spec_is decide.1 in
    let second = loaded_is Client (held b) client decide.2.0 client_is decide.2.1 in
    subst (λ x. Decides command spec x answer) second (subst (λ x. Decides command x decide.2.0 answer) first decide.2.2)
