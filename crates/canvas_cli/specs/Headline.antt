-- The headlines: certified exactly where no run breaks a clause, the outcome of a run, the layout, how a specification closes; and where a text is refused.
use Rattle.std.specs.Prelude.{◌≡◌, ◌≢◌, ℕ, ◌<◌, ◌≤◌, Bool, true, false, List, Option, Some, String, length, ◌⊎◌}
use Rattle.std.specs.declared.alloc.Global.{Global}
use Rattle.cv_base.specs.Causes.{Appends}
use Rattle.cv_base.specs.declared.status.Status.{Status}
use Rattle.cv_base.specs.declared.status.Status.TheVariants.{Alarm, Fine, Limit, Memory, NotBuilt, Open, ReadFault, Refused, WriteFault}
use Rattle.canvas_cli.specs.Answers.{IsLoaded, IsLoadedTooLong}
use Rattle.canvas_cli.specs.Commands.{IsAsked, Request, One, Pair, specification_of}
use Rattle.canvas_cli.specs.Refusals.{IsClientRefusal, IsRefusal, IsTree, most_bytes}
use Rattle.canvas_cli.specs.Texts.{certified_text, ends_text, long_text, not_built_text, refusal_text, short_text, too_long_text}
use Rattle.canvas_cli.specs.Verdicts.{HasManyCases, IsAlarm, IsClient, IsClosed, IsFailure, IsOpen, IsPair, IsSpecification, most_units}
use Rattle.canvas_cli.specs.declared.answer.Role.{Role}
use Rattle.canvas_cli.specs.declared.answer.Role.TheVariants.{Specification, Client}
use Rattle.canvas_cli.specs.declared.command.Command.{Command}
use Rattle.canvas_cli.specs.declared.command.Command.TheVariants.{Certify, Run}
use Rattle.canvas_cli.specs.declared.command.Single.{Single}
use Rattle.canvas_cli.specs.declared.command.Single.TheVariants.{Show, Derive}
use Rattle.canvas_cli.specs.declared.refusal.Refusal.{Refusal}
use Rattle.client_run.specs.Straight.{is_straight}
use Rattle.client_model.specs.CheckedForm.{ClientForm}
use Rattle.client_steps.specs.Runs.{Cut, Ends, Fails, IsRun, IsSafe, Outcome, Short}
use Rattle.easl_model.specs.CheckedForm.{form_of}
use Rattle.easl_model.specs.Form.{Form}
use Rattle.easl_model.specs.declared.tree.Spec.{Spec}
use Rattle.easl_print.specs.Lines.{spec_text}

-- the words ask the command of two names, under which these two texts are held
pub record AreHeld (held : List ℕ → Option (List ℕ)) (words : List (String Global)) (command : Command) (spec client : List ℕ) : Type 0 where
  pub spec_name : List ℕ
  pub client_name : List ℕ
  pub words_are : IsAsked words (Pair command spec_name client_name)
  pub spec_is : held spec_name ≡ Some spec
  pub client_is : held client_name ≡ Some client

-- the words ask the command on the specification of a name alone, under which this text is held
pub record IsHeld (held : List ℕ → Option (List ℕ)) (words : List (String Global)) (single : Single) (spec : List ℕ) : Type 0 where
  pub spec_name : List ℕ
  pub words_are : IsAsked words (One single spec_name)
  pub spec_is : held spec_name ≡ Some spec

-- the words ask the request, under whose specification's name this text is held
pub record IsGiven (held : List ℕ → Option (List ℕ)) (words : List (String Global)) (request : Request) (spec : List ℕ) : Type 0 where
  pub words_are : IsAsked words request
  pub spec_is : held (specification_of request) ≡ Some spec

-- nothing failed outside, and no memory was wanted
pub record IsDone (status : Status) : Type 0 where
  pub read : status ≢ ReadFault
  pub write : status ≢ WriteFault
  pub memory : status ≢ Memory

-- `certified` is written, or the alarm
abbrev pub WritesCertified : Option (List ℕ) → Option (List ℕ) → Status → Type 0
WritesCertified old new status = (status ≡ Fine) × Appends old new certified_text

abbrev pub WritesAlarm : Form → ClientForm → Option (List ℕ) → Option (List ℕ) → Status → Type 0
WritesAlarm form client old new status = (text : List ℕ) × IsAlarm form client text × (status ≡ Alarm) × Appends old new text

-- Where the specification is well-formed and the client well-formed for it and straight: `certified` is written where no list of
-- choices and no budget makes the run break a clause. Else the alarm is, whose call and clause are those where the run on its
-- choices fails.
abbrev pub Headline : (List ℕ → Option (List ℕ)) → List (String Global) → Option (List ℕ) → Option (List ℕ) → Status → Type 0
Headline held words old new status = (spec text : List ℕ) (form : Form) (client : ClientForm) → AreHeld held words Certify spec text → IsPair spec text form client
    → is_straight client ≡ true → IsDone status
    → (IsSafe form client × WritesCertified old new status) ⊎ ((IsSafe form client → ⊥) × WritesAlarm form client old new status)

-- the line of the outcome is written, with its status
abbrev pub WritesOutcome : Form → ClientForm → Outcome → Option (List ℕ) → Option (List ℕ) → Status → Type 0
WritesOutcome form client (Ends left) old new status = (status ≡ Fine) × Appends old new (ends_text left)
WritesOutcome form client Short old new status = (status ≡ Fine) × Appends old new short_text
WritesOutcome form client (Fails call clause left) old new status = (text : List ℕ) × IsFailure form client call clause left text × (status ≡ Alarm)
    × Appends old new text
WritesOutcome form client Cut old new status = (status ≡ Limit) × Appends old new long_text

-- what the run on the choices comes to is written
abbrev pub RunsExactly : (List ℕ → Option (List ℕ)) → List (String Global) → Option (List ℕ) → Option (List ℕ) → Status → Type 0
RunsExactly held words old new status = (spec text : List ℕ) (choices : List Bool) (form : Form) (client : ClientForm) → AreHeld held words (Run choices) spec text
    → IsPair spec text form client → IsDone status → (o : Outcome) → IsRun form client choices most_units o → WritesOutcome form client o old new status

-- the layout of the tree that the text spells is written
abbrev pub ShowsExactly : (List ℕ → Option (List ℕ)) → List (String Global) → Option (List ℕ) → Option (List ℕ) → Status → Type 0
ShowsExactly held words old new status = (spec : List ℕ) (tree : Spec) → IsHeld held words Show spec → IsTree spec tree → IsDone status → (status ≡ Fine)
    × Appends old new (spec_text tree)

-- the text of the families, facts and updates with which the specification closes is written
abbrev pub WritesClosed : Form → Option (List ℕ) → Option (List ℕ) → Status → Type 0
WritesClosed form old new status = (text : List ℕ) × IsClosed form text × (status ≡ Fine) × Appends old new text

-- the line of the question that stops it is
abbrev pub WritesOpen : Form → Option (List ℕ) → Option (List ℕ) → Status → Type 0
WritesOpen form old new status = (line : List ℕ) × IsOpen form line × (status ≡ Open) × Appends old new line

abbrev pub WritesManyCases : Form → Option (List ℕ) → Option (List ℕ) → Status → Type 0
WritesManyCases form old new status = (line : List ℕ) × HasManyCases form line × (status ≡ Limit) × Appends old new line

-- one of these
abbrev pub WritesDerivation : Form → Option (List ℕ) → Option (List ℕ) → Status → Type 0
WritesDerivation form old new status = WritesClosed form old new status ⊎ (WritesOpen form old new status ⊎ WritesManyCases form old new status)

-- Where a well-formed specification is to be derived, it closes, and the text of what it closes with is written; or it
-- stops, and the line of the first question that stops it is written, with the status of the reason.
abbrev pub DerivesExactly : (List ℕ → Option (List ℕ)) → List (String Global) → Option (List ℕ) → Option (List ℕ) → Status → Type 0
DerivesExactly held words old new status = (spec : List ℕ) (tree : Spec) → IsHeld held words Derive spec → IsTree spec tree → IsDone status
    → WritesDerivation (form_of tree) old new status

-- only a derivation is open, and its specification does not close for what is written
abbrev pub StaysOpen : Request → List ℕ → Option (List ℕ) → Option (List ℕ) → Status → Type 0
StaysOpen (One Show name) spec old new status = ⊥
StaysOpen (One Derive name) spec old new status = (tree : Spec) × IsTree spec tree × WritesOpen (form_of tree) old new status
StaysOpen (Pair command name client) spec old new status = ⊥

abbrev pub OpensExactly : (List ℕ → Option (List ℕ)) → List (String Global) → Option (List ℕ) → Option (List ℕ) → Status → Type 0
OpensExactly held words old new status = (request : Request) (spec : List ℕ) → IsGiven held words request spec → status ≡ Open
    → StaysOpen request spec old new status

-- the text is told, and within its limit
abbrev pub IsWithin : Role → Option (List ℕ) → Type 0
IsWithin role held = (text : List ℕ) × (held ≡ Some text) × (length text ≤ most_bytes role)

-- and so are all texts of the request
abbrev pub AreWithin : (List ℕ → Option (List ℕ)) → Request → Type 0
AreWithin held (One single spec) = IsWithin Specification (held spec)
AreWithin held (Pair command spec client) = IsWithin Specification (held spec) × IsWithin Client (held client)

-- the text is that of the request's client, as far as it is told
abbrev pub IsOfClient : (List ℕ → Option (List ℕ)) → Request → List ℕ → Type 0
IsOfClient held (One single name) text = ⊥
IsOfClient held (Pair command name client) text = IsLoaded Client (held client) text

-- this is the first that is wrong with the text of the role. A client is read for a well-formed specification alone
abbrev pub IsFirstWrong : (List ℕ → Option (List ℕ)) → Request → List ℕ → Role → Refusal → Type 0
IsFirstWrong held request spec Specification refusal = IsRefusal spec refusal
IsFirstWrong held request spec Client refusal =
    (text : List ℕ) × (form : Form) × IsOfClient held request text × IsSpecification spec form × IsClientRefusal form text refusal

-- the text of the role is none that is well-formed
abbrev pub IsNone : (List ℕ → Option (List ℕ)) → Request → List ℕ → Role → Type 0
IsNone held request spec Specification = (tree : Spec) → IsTree spec tree → ⊥
IsNone held request spec Client =
    (text : List ℕ) × (form : Form) × IsOfClient held request text × IsSpecification spec form × ((client : ClientForm) → IsClient form text client → ⊥)

-- the refusal of the text of the role is written
abbrev pub WritesRefused : Role → Refusal → Option (List ℕ) → Option (List ℕ) → Status → Type 0
WritesRefused role refusal old new status = (status ≡ Refused) × Appends old new (refusal_text role refusal)

-- Where all texts are within their limits, one is refused for exactly what is first wrong with it, and where it is none that
-- is well-formed. Nothing else is refused.
pub record NamesRefused (held : List ℕ → Option (List ℕ)) (request : Request) (spec : List ℕ) (old new : Option (List ℕ)) (status : Status) : Type 0 where
  pub cause : AreWithin held request → (role : Role) (refusal : Refusal) → IsFirstWrong held request spec role refusal → WritesRefused role refusal old new status
  pub no_tree : AreWithin held request → (role : Role) → IsNone held request spec role → status ≡ Refused
  pub only : status ≡ Refused → (role : Role) × (refusal : Refusal) × IsFirstWrong held request spec role refusal × WritesRefused role refusal old new status

abbrev pub RefusedExactly : (List ℕ → Option (List ℕ)) → List (String Global) → Option (List ℕ) → Option (List ℕ) → Status → Type 0
RefusedExactly held words old new status = (request : Request) (spec : List ℕ) → IsGiven held words request spec → IsDone status
    → NamesRefused held request spec old new status

-- the run on the choices asks for one unit more than the limit
pub record IsCut (held : Option (List ℕ)) (choices : List Bool) (spec : List ℕ) : Type 0 where
  pub text : List ℕ
  pub loaded : IsLoaded Client held text
  pub form : Form
  pub client : ClientForm
  pub pair : IsPair spec text form client
  pub cut : IsRun form client choices most_units Cut

-- a question of the specification has too many configurations
pub record StopsByCases (spec : List ℕ) : Type 0 where
  pub tree : Spec
  pub is : IsTree spec tree
  pub line : List ℕ
  pub many : HasManyCases (form_of tree) line

abbrev pub PassesLimit : (List ℕ → Option (List ℕ)) → Request → List ℕ → Type 0
PassesLimit held (One Show name) spec = ⊥
PassesLimit held (One Derive name) spec = StopsByCases spec
PassesLimit held (Pair Certify name client) spec = ⊥
PassesLimit held (Pair (Run choices) name client) spec = IsCut (held client) choices spec

-- the text of the request's client is told, and longer than its limit
abbrev pub IsOverClient : (List ℕ → Option (List ℕ)) → Request → Type 0
IsOverClient held (One single name) = ⊥
IsOverClient held (Pair command name client) = (text : List ℕ) × (held client ≡ Some text) × (most_bytes Client < length text)

-- a limit is named exactly where the specification is longer than its limit, or else the client is, a question of a derivation has
-- too many configurations, or a run would take one unit more
pub record NamesLimit (held : List ℕ → Option (List ℕ)) (request : Request) (spec : List ℕ) (old new : Option (List ℕ)) (status : Status) : Type 0 where
  pub cause : most_bytes Specification < length spec → (status ≡ Limit) × Appends old new (too_long_text Specification)
  pub client : length spec ≤ most_bytes Specification → IsOverClient held request → (status ≡ Limit) × Appends old new (too_long_text Client)
  pub only : status ≡ Limit → (most_bytes Specification < length spec) ⊎ (IsLoadedTooLong held request Client ⊎ PassesLimit held request spec)

abbrev pub LimitsExactly : (List ℕ → Option (List ℕ)) → List (String Global) → Option (List ℕ) → Option (List ℕ) → Status → Type 0
LimitsExactly held words old new status = (request : Request) (spec : List ℕ) → IsGiven held words request spec → IsDone status
    → NamesLimit held request spec old new status

-- `not built client` is written
abbrev pub WritesNotBuilt : Option (List ℕ) → Option (List ℕ) → Status → Type 0
WritesNotBuilt old new status = (status ≡ NotBuilt) × Appends old new not_built_text

-- the text of a client is well-formed for this specification, and is not straight
pub record IsNotStraight (spec text : List ℕ) : Type 0 where
  pub form : Form
  pub client : ClientForm
  pub pair : IsPair spec text form client
  pub more : is_straight client ≡ false

-- so far such a client is not certified
abbrev pub IsUnbuilt : (List ℕ → Option (List ℕ)) → Request → List ℕ → Type 0
IsUnbuilt held (One single name) spec = ⊥
IsUnbuilt held (Pair Certify name client) spec = (text : List ℕ) × IsLoaded Client (held client) text × IsNotStraight spec text
IsUnbuilt held (Pair (Run choices) name client) spec = ⊥

-- and exactly there it is answered that it is not built
pub record NamesNotBuilt (held : List ℕ → Option (List ℕ)) (request : Request) (spec : List ℕ) (old new : Option (List ℕ)) (status : Status) : Type 0 where
  pub cause : AreWithin held request → IsUnbuilt held request spec → WritesNotBuilt old new status
  pub only : status ≡ NotBuilt → IsUnbuilt held request spec

abbrev pub NotBuiltExactly : (List ℕ → Option (List ℕ)) → List (String Global) → Option (List ℕ) → Option (List ℕ) → Status → Type 0
NotBuiltExactly held words old new status = (request : Request) (spec : List ℕ) → IsGiven held words request spec → IsDone status
    → NamesNotBuilt held request spec old new status

-- the command is answered for the client, or memory was wanted
abbrev pub IsAnswered : Command → ClientForm → Status → Type 0
IsAnswered Certify client status =
    ((is_straight client ≡ true) × ((status ≡ Fine) ⊎ (status ≡ Alarm))) ⊎ (((is_straight client ≡ false) × (status ≡ NotBuilt)) ⊎ (status ≡ Memory))
IsAnswered (Run choices) client status = (status ≡ Fine) ⊎ ((status ≡ Alarm) ⊎ ((status ≡ Limit) ⊎ (status ≡ Memory)))

-- where no count of a named text or of the sink rose, a well-formed specification with a client that is well-formed for it is answered
abbrev pub IsComplete : (List ℕ → Option (List ℕ)) → (List ℕ → Type 0) → Type 0 → List (String Global) → Status → Type 0
IsComplete held rose failed words status = (command : Command) (spec text : List ℕ) (form : Form) (client : ClientForm)
    → (texts : AreHeld held words command spec text)
    → IsPair spec text form client → (rose texts.spec_name → ⊥) → (rose texts.client_name → ⊥) → (failed → ⊥) → IsAnswered command client status

-- and so it is where it is to be shown
abbrev pub IsShown : (List ℕ → Option (List ℕ)) → (List ℕ → Type 0) → Type 0 → List (String Global) → Status → Type 0
IsShown held rose failed words status = (spec : List ℕ) (tree : Spec) → (text : IsHeld held words Show spec) → IsTree spec tree → (rose text.spec_name → ⊥)
    → (failed → ⊥) → (status ≡ Fine) ⊎ (status ≡ Memory)

-- or derived
abbrev pub IsDerived : (List ℕ → Option (List ℕ)) → (List ℕ → Type 0) → Type 0 → List (String Global) → Status → Type 0
IsDerived held rose failed words status = (spec : List ℕ) (tree : Spec) → (text : IsHeld held words Derive spec) → IsTree spec tree
    → (rose text.spec_name → ⊥) → (failed → ⊥)
    → (status ≡ Fine) ⊎ ((status ≡ Open) ⊎ ((status ≡ Limit) ⊎ (status ≡ Memory)))
