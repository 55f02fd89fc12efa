-- What is refused, what is shown or derived, and which limits are named, from the answer that is written.
use Rattle.std.proofs.Common.{inl, inr, ◌≡◌, ℕ, ◌<◌, ◌≤◌, List, arith, length, subst, sym, ◌∙◌}
use Rattle.std.specs.Prelude.{Bool, Option, Some, String, Vec, ◌⊎◌}
use Rattle.std.specs.declared.alloc.Global.{Global}
use Rattle.cv_base.specs.Causes.{Appends}
use Rattle.cv_base.specs.declared.status.Status.{Status}
use Rattle.cv_base.specs.declared.status.Status.TheVariants as s
use Rattle.canvas_cli.proofs.Pairs.{forms_one}
use Rattle.canvas_cli.proofs.Told.{IsWhole, allowed, decided_few, loaded_few, loaded_is, long_is, long_spec, not_long, short_spec, unfailed, whole}
use Rattle.canvas_cli.proofs.Trees.{client_not_wrong, not_wrong, one_client_refusal, one_refusal, one_tree}
use Rattle.canvas_cli.specs.Answers.{IsLoaded, IsLoadedTooLong, MayAnswer, TextsDecide, WritesAllowed}
use Rattle.canvas_cli.specs.Commands.{Request, One, Pair, specification_of}
use Rattle.canvas_cli.specs.Headline.{AreWithin, IsDone, IsFirstWrong, IsNone, IsOfClient, IsOverClient, IsShown, LimitsExactly, PassesLimit, RefusedExactly}
use Rattle.canvas_cli.specs.Headline.{ShowsExactly, WritesRefused}
use Rattle.canvas_cli.specs.Refusals.{IsClientRefusal, IsClientRefused, IsRefused, IsTree, most_bytes}
use Rattle.canvas_cli.specs.Texts.{status_of, too_long_text}
use Rattle.canvas_cli.specs.Verdicts.{IsClient, IsSpecification, Tells, most_units}
use Rattle.canvas_cli.specs.declared.answer.Answer.{Answer}
use Rattle.canvas_cli.specs.declared.answer.Answer.TheVariants.{ReadFault, TooLong, Refused, Memory, Shown, ManyCases, Long}
use Rattle.canvas_cli.specs.declared.answer.Role.{Role}
use Rattle.canvas_cli.specs.declared.answer.Role.TheVariants.{Specification, Client}
use Rattle.canvas_cli.specs.declared.command.Command.{Command}
use Rattle.canvas_cli.specs.declared.command.Command.TheVariants.{Certify, Run}
use Rattle.canvas_cli.specs.declared.command.Single.{Single}
use Rattle.canvas_cli.specs.declared.command.Single.TheVariants.{Show, Derive}
use Rattle.canvas_cli.specs.declared.refusal.Refusal.{Refusal}
use Rattle.client_model.specs.CheckedForm.{ClientForm}
use Rattle.client_steps.specs.Runs as runs
use Rattle.client_steps.specs.Runs.{IsRun, Outcome}
use Rattle.easl_model.specs.Form.{Form}
use Rattle.easl_model.specs.declared.tree.Spec.{Spec}
use Rattle.easl_print.specs.Lines.{spec_text}

-- what is refused of the specification is wrong with it
pub refused_in : (held : List ℕ → Option (List ℕ)) (request : Request) (spec : List ℕ) (line : Vec ℕ Global) → held (specification_of request) ≡ Some spec
    → TextsDecide held request (Refused Specification line) → IsRefused spec line.items
refused_in held (One single name) spec line is (text, loaded, refused) =
    subst (λ t. IsRefused t line.items) (loaded_is Specification (held name) spec text is loaded) refused
refused_in held (Pair command name client) spec line is (text, loaded, (more, loaded_too, refused)) =
    subst (λ t. IsRefused t line.items) (loaded_is Specification (held name) spec text is loaded) refused

-- and what is refused of a client is wrong with that
pub no_client : (held : List ℕ → Option (List ℕ)) (single : Single) (name : List ℕ) (line : Vec ℕ Global)
    → TextsDecide held (One single name) (Refused Client line) → ⊥
no_client held Show name line (text, loaded, (tree, is, layout)) = layout
no_client held Derive name line (text, loaded, (tree, is, layout)) = layout

abbrev ClientRefused : (List ℕ → Option (List ℕ)) → Request → List ℕ → List ℕ → Type 0
ClientRefused held request spec line = (text : List ℕ) × (form : Form) × IsOfClient held request text × IsSpecification spec form × IsClientRefused form text line

refused_client : (held : List ℕ → Option (List ℕ)) (request : Request) (spec : List ℕ) (line : Vec ℕ Global) → held (specification_of request) ≡ Some spec
    → TextsDecide held request (Refused Client line) → ClientRefused held request spec line.items
refused_client held (One single name) spec line is decide = absurd (no_client held single name line decide)
refused_client held (Pair command name client) spec line is (text, loaded, (more, loaded_too, (form, found, wrong))) =
    (more, form, loaded_too, subst (λ t. IsSpecification t form) (loaded_is Specification (held name) spec text is loaded) found, wrong)

-- the specification has a tree wherever the texts decide anything else
abbrev pub Treed : List ℕ → Type 0
Treed spec = (tree : Spec) × IsTree spec tree

shown_tree : (held : List ℕ → Option (List ℕ)) (name spec text : List ℕ) → held name ≡ Some spec → IsLoaded Specification (held name) text → (tree : Spec)
    → IsTree text tree → Treed spec
shown_tree held name spec text is loaded tree tree_is = subst Treed (loaded_is Specification (held name) spec text is loaded) (tree, tree_is)

-- what is named where the status says that a text is refused
abbrev Names : (List ℕ → Option (List ℕ)) → Request → List ℕ → Option (List ℕ) → Option (List ℕ) → Status → Type 0
Names held request spec old new status = (role : Role) × (refusal : Refusal) × IsFirstWrong held request spec role refusal
    × WritesRefused role refusal old new status

by_refusal : (held : List ℕ → Option (List ℕ)) (request : Request) (spec : List ℕ) (old new : Option (List ℕ)) (status : Status) (line : Vec ℕ Global)
    → IsRefused spec line.items → IsWhole old new (Refused Specification line) status → Names held request spec old new status
by_refusal held request spec old new status line (refusal, is, line_is) written =
    (Specification, refusal, is, (written.0, subst (Appends old new) line_is written.1))

by_client : (held : List ℕ → Option (List ℕ)) (request : Request) (spec : List ℕ) (old new : Option (List ℕ)) (status : Status) (line : Vec ℕ Global)
    → ClientRefused held request spec line.items → IsWhole old new (Refused Client line) status → Names held request spec old new status
by_client held request spec old new status line (text, form, its, found, (refusal, is, line_is)) written =
    (Client, refusal, (text, form, its, found, is), (written.0, subst (Appends old new) line_is written.1))

only : (held : List ℕ → Option (List ℕ)) (rose : List ℕ → Type 0) (request : Request) (spec : List ℕ) (old new : Option (List ℕ)) (status : Status)
    (a : Answer) → held (specification_of request) ≡ Some spec → MayAnswer held rose request a → IsWhole old new a status → status ≡ s.Refused
    → Names held request spec old new status
only held rose request spec old new status (Refused Specification line) is may written refused =
    by_refusal held request spec old new status line (refused_in held request spec line is may) written
only held rose request spec old new status (Refused Client line) is may written refused =
    by_client held request spec old new status line (refused_client held request spec line is may) written
only held rose request spec old new status a is may written refused = let e : status_of a ≡ s.Refused = sym written.0 ∙ refused in absurd cc

-- texts within their limits are not too long
within_spec : (held : List ℕ → Option (List ℕ)) (request : Request) (spec : List ℕ) → held (specification_of request) ≡ Some spec → AreWithin held request
    → length spec ≤ most_bytes Specification
within_spec held (One single name) spec is (text, told, few) =
    let same : ◌≡◌ {A = Option (List ℕ)} (Some text) (Some spec) = sym told ∙ is in
    let one : text ≡ spec = cc in
    subst (λ t. length t ≤ most_bytes Specification) one few
within_spec held (Pair command name client) spec is ((text, told, few), rest) =
    let same : ◌≡◌ {A = Option (List ℕ)} (Some text) (Some spec) = sym told ∙ is in
    let one : text ≡ spec = cc in
    subst (λ t. length t ≤ most_bytes Specification) one few

-- nor is a client that the request has
within_client : (held : List ℕ → Option (List ℕ)) (request : Request) → AreWithin held request → IsLoadedTooLong held request Client → ⊥
within_client held (One single name) within long = long
within_client held (Pair command name client) (first, (text, told, few)) long = not_long Client (held client) text told few long.1

too_long : (held : List ℕ → Option (List ℕ)) (role : Role) (request : Request) (spec : List ℕ) → held (specification_of request) ≡ Some spec
    → AreWithin held request → IsLoadedTooLong held request role → ⊥
too_long held Specification request spec is within long =
    not_long Specification (held (specification_of request)) spec is (within_spec held request spec is within) (long_spec held request long)
too_long held Client request spec is within long = within_client held request within long

-- the text of a client that is told is one
one_client : (held : List ℕ → Option (List ℕ)) (request : Request) (x y : List ℕ) → AreWithin held request → IsOfClient held request x
    → IsOfClient held request y → x ≡ y
one_client held (One single name) x y within a b = absurd a
one_client held (Pair command name client) x y (first, (text, told, few)) a b =
    loaded_is Client (held client) text x told a ∙ sym (loaded_is Client (held client) text y told b)

-- where no tree is spelled, what is answered is that the specification is refused
no_tree_alone : (held : List ℕ → Option (List ℕ)) (single : Single) (name spec : List ℕ) (old new : Option (List ℕ)) (status : Status) (a : Answer)
    → held name ≡ Some spec → ((tree : Spec) → IsTree spec tree → ⊥) → IsDone status → TextsDecide held (One single name) a → IsWhole old new a status
    → status ≡ s.Refused
no_tree_alone held single name spec old new status (Refused Specification line) is none done decide written = written.0
no_tree_alone held single name spec old new status Memory is none done decide written = absurd (done.memory written.0)
no_tree_alone held single name spec old new status a is none done (text, loaded, (tree, tree_is, layout)) written =
    let found = shown_tree held name spec text is loaded tree tree_is in
    absurd (none found.0 found.1)

no_tree_paired : (held : List ℕ → Option (List ℕ)) (command : Command) (name client spec : List ℕ) (old new : Option (List ℕ)) (status : Status) (a : Answer)
    → held name ≡ Some spec → ((tree : Spec) → IsTree spec tree → ⊥) → IsDone status → TextsDecide held (Pair command name client) a
    → IsWhole old new a status → status ≡ s.Refused
no_tree_paired held command name client spec old new status (Refused Specification line) is none done decide written = written.0
no_tree_paired held command name client spec old new status Memory is none done decide written = absurd (done.memory written.0)
no_tree_paired held command name client spec old new status a is none done (text, loaded, (more, loaded_too, (form, found, verdict))) written =
    let tree = shown_tree held name spec text is loaded found.tree found.is in
    absurd (none tree.0 tree.1)

no_tree : (held : List ℕ → Option (List ℕ)) (request : Request) (spec : List ℕ) (old new : Option (List ℕ)) (status : Status) (a : Answer)
    → held (specification_of request) ≡ Some spec → ((tree : Spec) → IsTree spec tree → ⊥) → IsDone status → TextsDecide held request a
    → IsWhole old new a status → status ≡ s.Refused
no_tree held (One single name) spec old new status a is none done decide written = no_tree_alone held single name spec old new status a is none done decide written
no_tree held (Pair command name client) spec old new status a is none done decide written =
    no_tree_paired held command name client spec old new status a is none done decide written

-- nor a well-formed client
no_client_of : (held : List ℕ → Option (List ℕ)) (command : Command) (name client spec text : List ℕ) (form : Form) (old new : Option (List ℕ))
    (status : Status) (a : Answer) → held name ≡ Some spec → AreWithin held (Pair command name client)
    → IsLoaded Client (held client) text → IsSpecification spec form → ((c : ClientForm) → IsClient form text c → ⊥) → IsDone status
    → TextsDecide held (Pair command name client) a → IsWhole old new a status → status ≡ s.Refused
no_client_of held command name client spec text form old new status (Refused role line) is within its found none done decide written = written.0
no_client_of held command name client spec text form old new status Memory is within its found none done decide written = absurd (done.memory written.0)
no_client_of held command name client spec text form old new status a is within its found none done
    (other, loaded, (more, loaded_too, (f, f_is, (c, client_is, answer)))) written =
    let here = subst (λ t. IsSpecification t f) (loaded_is Specification (held name) spec other is loaded) f_is in
    let one : f ≡ form = forms_one spec f form here found in
    let same : more ≡ text = one_client held (Pair command name client) more text within loaded_too its in
    absurd (none c (subst (λ t. IsClient form t c) same (subst (λ g. IsClient g more c) one client_is)))

-- so a text that is none that is well-formed is refused, or one before it is
none_of : (held : List ℕ → Option (List ℕ)) (role : Role) (request : Request) (spec : List ℕ) (old new : Option (List ℕ)) (status : Status) (a : Answer)
    → held (specification_of request) ≡ Some spec → AreWithin held request → IsNone held request spec role → IsDone status → TextsDecide held request a
    → IsWhole old new a status → status ≡ s.Refused
none_of held Specification request spec old new status a is within none done decide written = no_tree held request spec old new status a is none done decide written
none_of held Client (One single name) spec old new status a is within (text, form, its, found, none) done decide written = absurd its
none_of held Client (Pair command name client) spec old new status a is within (text, form, its, found, none) done decide written =
    no_client_of held command name client spec text form old new status a is within its found none done decide written

treeless : (held : List ℕ → Option (List ℕ)) (rose : List ℕ → Type 0) (request : Request) (spec : List ℕ) (old new : Option (List ℕ)) (status : Status)
    (a : Answer) → held (specification_of request) ≡ Some spec → AreWithin held request → (role : Role) → IsNone held request spec role → IsDone status
    → MayAnswer held rose request a → IsWhole old new a status → status ≡ s.Refused
treeless held rose request spec old new status (ReadFault by) is within role none done may written = absurd (done.read written.0)
treeless held rose request spec old new status Memory is within role none done may written = absurd (done.memory written.0)
treeless held rose request spec old new status (TooLong by) is within role none done may written = absurd (too_long held by request spec is within may)
treeless held rose request spec old new status a is within role none done may written =
    none_of held role request spec old new status a is within none done may written

-- where something is wrong with a text, it is none that is well-formed
wrong_none : (held : List ℕ → Option (List ℕ)) (request : Request) (spec : List ℕ) (role : Role) (refusal : Refusal)
    → IsFirstWrong held request spec role refusal → IsNone held request spec role
wrong_none held request spec Specification refusal is = λ tree tree_is. not_wrong spec tree refusal tree_is is
wrong_none held request spec Client refusal (text, form, its, found, is) =
    (text, form, its, found, λ c c_is. client_not_wrong form text c_is.tree refusal c_is.is is)

-- what is wrong is what is written
cause : (held : List ℕ → Option (List ℕ)) (request : Request) (spec : List ℕ) (old new : Option (List ℕ)) (status : Status) → AreWithin held request
    → (role by : Role) (refusal other : Refusal) → IsFirstWrong held request spec role refusal → IsFirstWrong held request spec by other
    → WritesRefused by other old new status → WritesRefused role refusal old new status
cause held request spec old new status within Specification Specification refusal other is other_is written =
    subst (λ r. WritesRefused Specification r old new status) (one_refusal spec other refusal other_is is) written
cause held request spec old new status within Specification Client refusal other is (text, form, its, found, other_is) written =
    absurd (not_wrong spec found.tree refusal found.is is)
cause held request spec old new status within Client Specification refusal other (text, form, its, found, is) other_is written =
    absurd (not_wrong spec found.tree other found.is other_is)
cause held request spec old new status within Client Client refusal other (text, form, its, found, is) (text_too, form_too, its_too, found_too, other_is) written =
    let one : form_too ≡ form = forms_one spec form_too form found_too found in
    let same : text_too ≡ text = one_client held request text_too text within its_too its in
    let here = subst (λ t. IsClientRefusal form t other) same (subst (λ g. IsClientRefusal g text_too other) one other_is) in
    subst (λ r. WritesRefused Client r old new status) (one_client_refusal form text other refusal here is) written

pub refused : (held : List ℕ → Option (List ℕ)) (rose : List ℕ → Type 0) (words : List (String Global)) (old new : Option (List ℕ)) (failed : Type 0)
    (status : Status) → WritesAllowed held rose words old new failed status → RefusedExactly held words old new status
refused held rose words old new failed status (answer, may, written) request spec given done =
    let allows = allowed held rose words request answer given.words_are may in
    let full = whole old new failed answer status written done.write in
    let names = only held rose request spec old new status answer given.spec_is allows full in
    let unread = λ (within : AreWithin held request) (role : Role) (none : IsNone held request spec role). treeless held rose request spec old new status
    answer given.spec_is within role none done allows full in
    record {
      cause = λ within role refusal is.
          let named = names (unread within role (wrong_none held request spec role refusal is)) in
          cause held request spec old new status within role named.0 refusal named.1 is named.2 named.3;
      no_tree = unread;
      only = names;
    }

-- a question has too many configurations only where a specification is derived
many_cases : (held : List ℕ → Option (List ℕ)) (request : Request) (spec : List ℕ) (line : Vec ℕ Global) → held (specification_of request) ≡ Some spec
    → TextsDecide held request (ManyCases line) → PassesLimit held request spec
many_cases held (One Show name) spec line is (text, loaded, (tree, tree_is, answer)) = absurd answer
many_cases held (One Derive name) spec line is (text, loaded, (tree, tree_is, answer)) =
    record { tree = tree; is = subst (λ t. IsTree t tree) (loaded_is Specification (held name) spec text is loaded) tree_is; line = line.items; many = answer }
many_cases held (Pair Certify name client) spec line is (text, loaded, (more, loaded_too, (form, found, (c, client_is, answer)))) = absurd answer
many_cases held (Pair (Run choices) name client) spec line is (text, loaded, (more, loaded_too, (form, found, (c, client_is, (o, run, told))))) = absurd told

-- limits
long_only : (held : List ℕ → Option (List ℕ)) (rose : List ℕ → Type 0) (request : Request) (spec : List ℕ) (old new : Option (List ℕ)) (status : Status)
    (a : Answer) → held (specification_of request) ≡ Some spec → MayAnswer held rose request a → IsWhole old new a status → status ≡ s.Limit
    → (most_bytes Specification < length spec) ⊎ (IsLoadedTooLong held request Client ⊎ PassesLimit held request spec)
long_only held rose request spec old new status (TooLong Specification) is may written limit =
    inl (long_is Specification (held (specification_of request)) spec is (long_spec held request may))
long_only held rose request spec old new status (TooLong Client) is may written limit = inr (inl may)
long_only held rose request spec old new status (ManyCases line) is may written limit = inr (inr (many_cases held request spec line is may))
long_only held rose request spec old new status Long is may written limit = inr (inr (runs_over held request spec is may))
  where
    over : (form : Form) (c : ClientForm) (choices : List Bool) (o : Outcome) → IsRun form c choices most_units o → Tells form c Long o
        → IsRun form c choices most_units runs.Cut
    over form c choices runs.Cut run told = run
    over form c choices o run told = absurd told

    runs_over : (held : List ℕ → Option (List ℕ)) (request : Request) (spec : List ℕ) → held (specification_of request) ≡ Some spec
        → TextsDecide held request Long → PassesLimit held request spec
    runs_over held (One single name) spec is (text, loaded, (tree, tree_is, answer)) = absurd answer
    runs_over held (Pair Certify name client) spec is (text, loaded, (more, loaded_too, (form, found, (c, client_is, answer)))) = answer
    runs_over held (Pair (Run choices) name client) spec is (text, loaded, (more, loaded_too, (form, found, (c, client_is, (o, run, told))))) = record {
      text = more;
      loaded = loaded_too;
      form = form;
      client = c;
      pair = record { specification = subst (λ t. IsSpecification t form) (loaded_is Specification (held name) spec text is loaded) found; client_text = client_is };
      cut = over form c choices o run told;
    }
long_only held rose request spec old new status a is may written limit = let e : status_of a ≡ s.Limit = sym written.0 ∙ limit in absurd cc

-- a specification that is too long is never read
never_read : (held : List ℕ → Option (List ℕ)) (request : Request) (spec : List ℕ) (a : Answer) → held (specification_of request) ≡ Some spec
    → most_bytes Specification < length spec → TextsDecide held request a → ⊥
never_read held request spec a is many decide =
    let few = decided_few held request spec a is decide in
    omega (arith, few, many)

long_cause : (held : List ℕ → Option (List ℕ)) (rose : List ℕ → Type 0) (request : Request) (spec : List ℕ) (old new : Option (List ℕ)) (status : Status)
    (a : Answer) → held (specification_of request) ≡ Some spec → IsDone status → most_bytes Specification < length spec → MayAnswer held rose request a
    → IsWhole old new a status → (status ≡ s.Limit) × Appends old new (too_long_text Specification)
long_cause held rose request spec old new status (ReadFault role) is done many may written = absurd (done.read written.0)
long_cause held rose request spec old new status Memory is done many may written = absurd (done.memory written.0)
long_cause held rose request spec old new status (TooLong Specification) is done many may written = written
long_cause held rose request spec old new status (TooLong Client) is done many may written =
    let few = short_spec held request spec is may in
    absurd (omega (arith, few, many))
long_cause held rose request spec old new status a is done many may written = absurd (never_read held request spec a is many may)

-- where the specification is within its limit, a client that is too long is named
decided_client : (held : List ℕ → Option (List ℕ)) (request : Request) (a : Answer) → IsOverClient held request → TextsDecide held request a → ⊥
decided_client held (One single name) a over decide = over
decided_client held (Pair command name client) a (text, told, many) decide =
    let few = loaded_few Client (held client) text decide.2.0 told decide.2.1 in
    omega (arith, few, many)

client_cause : (held : List ℕ → Option (List ℕ)) (rose : List ℕ → Type 0) (request : Request) (spec : List ℕ) (old new : Option (List ℕ)) (status : Status)
    (a : Answer) → held (specification_of request) ≡ Some spec → IsDone status → length spec ≤ most_bytes Specification → IsOverClient held request
    → MayAnswer held rose request a → IsWhole old new a status → (status ≡ s.Limit) × Appends old new (too_long_text Client)
client_cause held rose request spec old new status (ReadFault role) is done few over may written = absurd (done.read written.0)
client_cause held rose request spec old new status Memory is done few over may written = absurd (done.memory written.0)
client_cause held rose request spec old new status (TooLong Specification) is done few over may written =
    absurd (not_long Specification (held (specification_of request)) spec is few (long_spec held request may))
client_cause held rose request spec old new status (TooLong Client) is done few over may written = written
client_cause held rose request spec old new status a is done few over may written = absurd (decided_client held request a over may)

pub limits : (held : List ℕ → Option (List ℕ)) (rose : List ℕ → Type 0) (words : List (String Global)) (old new : Option (List ℕ)) (failed : Type 0)
    (status : Status) → WritesAllowed held rose words old new failed status → LimitsExactly held words old new status
limits held rose words old new failed status (answer, may, written) request spec given done =
    let allows = allowed held rose words request answer given.words_are may in
    let full = whole old new failed answer status written done.write in
    record {
      cause = λ many. long_cause held rose request spec old new status answer given.spec_is done many allows full;
      client = λ few over. client_cause held rose request spec old new status answer given.spec_is done few over allows full;
      only = long_only held rose request spec old new status answer given.spec_is allows full;
    }

-- what is written where a specification is to be shown, unless it could not be loaded or memory was wanted
abbrev pub Written : List ℕ → Spec → Type 0 → Option (List ℕ) → Option (List ℕ) → Status → Type 0
Written name tree rose old new status = ((status ≡ s.ReadFault) × rose) ⊎ ((status ≡ s.Memory) ⊎ ((status ≡ s.Fine) × Appends old new (spec_text tree)))

shown_of : (held : List ℕ → Option (List ℕ)) (rose : List ℕ → Type 0) (name spec : List ℕ) (tree : Spec) (old new : Option (List ℕ)) (status : Status)
    (a : Answer) → held name ≡ Some spec → IsTree spec tree → MayAnswer held rose (One Show name) a → IsWhole old new a status
    → Written name tree (rose name) old new status
shown_of held rose name spec tree old new status (ReadFault Specification) is tree_is may written = inl (written.0, may)
shown_of held rose name spec tree old new status (ReadFault Client) is tree_is may written = absurd may
shown_of held rose name spec tree old new status Memory is tree_is may written = inr (inl written.0)
shown_of held rose name spec tree old new status (TooLong Specification) is tree_is may written = absurd (not_long Specification (held name) spec is tree_is.few may)
shown_of held rose name spec tree old new status (TooLong Client) is tree_is may written = absurd may
shown_of held rose name spec tree old new status (Refused Specification line) is tree_is may written =
    let wrong = refused_in held (One Show name) spec line is may in
    absurd (not_wrong spec tree wrong.0 tree_is wrong.1)
shown_of held rose name spec tree old new status (Refused Client line) is tree_is may written = absurd (no_client held Show name line may)
shown_of held rose name spec tree old new status (Shown layout) is tree_is (text, loaded, (found, found_is, layout_is)) written =
    let read = subst (λ t. IsTree t found) (loaded_is Specification (held name) spec text is loaded) found_is in
    let one = one_tree spec found tree read.spells tree_is.spells in
    let lines : layout.items ≡ spec_text tree = subst (λ t. layout.items ≡ spec_text t) one layout_is in
    inr (inr (written.0, subst (Appends old new) lines written.1))
shown_of held rose name spec tree old new status a is tree_is (text, loaded, (found, found_is, layout)) written = absurd layout

pub shows : (held : List ℕ → Option (List ℕ)) (rose : List ℕ → Type 0) (words : List (String Global)) (old new : Option (List ℕ)) (failed : Type 0)
    (status : Status) → WritesAllowed held rose words old new failed status → ShowsExactly held words old new status
shows held rose words old new failed status (answer, may, written) spec tree text tree_is done =
    elim (shown_of held rose text.spec_name spec tree old new status answer text.spec_is tree_is
    (allowed held rose words (One Show text.spec_name) answer text.words_are may) (whole old new failed answer status written done.write)) [
      | inl read ↦ absurd (done.read read.0)
      | inr other ↦ elim other [ inl memory ↦ absurd (done.memory memory) | inr full ↦ full ]
    ]

pub shown : (held : List ℕ → Option (List ℕ)) (rose : List ℕ → Type 0) (words : List (String Global)) (old new : Option (List ℕ)) (failed : Type 0)
    (status : Status) → WritesAllowed held rose words old new failed status → IsShown held rose failed words status
shown held rose words old new failed status (answer, may, written) spec tree text tree_is no_spec no_write =
    elim (shown_of held rose text.spec_name spec tree old new status answer text.spec_is tree_is
    (allowed held rose words (One Show text.spec_name) answer text.words_are may)
    (whole old new failed answer status written (unfailed old new failed answer status written no_write))) [
      | inl read ↦ absurd (no_spec read.1)
      | inr other ↦ elim other [ inl memory ↦ inr memory | inr full ↦ inl full.0 ]
    ]
