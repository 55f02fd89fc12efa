-- The headlines of commands on a pair, from the answer that is written.
use Rattle.std.proofs.Common.{inl, inr, ◌≡◌, ℕ, List, [], true, false, subst, sym, ◌∙◌}
use Rattle.std.specs.Prelude.{Option, Some, String, Vec, ◌⊎◌}
use Rattle.std.specs.declared.alloc.Global.{Global}
use Rattle.cv_base.specs.declared.status.Status.{Status}
use Rattle.cv_base.specs.declared.status.Status.TheVariants as s
use Rattle.canvas_cli.proofs.Pairs.{answer_of, forms_one}
use Rattle.canvas_cli.proofs.Told.{IsWhole, allowed, loaded_is, not_long, texts_are, unfailed, whole}
use Rattle.canvas_cli.proofs.Trees.{client_not_wrong, not_wrong}
use Rattle.canvas_cli.specs.Answers.{IsLoaded, MayAnswer, TextsDecide, WritesAllowed}
use Rattle.canvas_cli.specs.Commands.{Request, One, Pair, specification_of}
use Rattle.canvas_cli.specs.Headline.{AreHeld, AreWithin, Headline, IsAnswered, IsComplete, IsDone, IsNotStraight, IsUnbuilt, NotBuiltExactly, WritesAlarm}
use Rattle.canvas_cli.specs.Headline.{WritesCertified, WritesNotBuilt}
use Rattle.canvas_cli.specs.Refusals.{IsClientRefused, IsRefused}
use Rattle.canvas_cli.specs.Texts.{status_of}
use Rattle.canvas_cli.specs.Verdicts.{Decides, IsAnswer, IsClient, IsPair, IsSpecification}
use Rattle.canvas_cli.specs.declared.answer.Answer.{Answer}
use Rattle.canvas_cli.specs.declared.answer.Answer.TheVariants.{ReadFault, TooLong, Refused, NotBuilt, Memory, Certified, Alarm, Ends, Short, Fails, Long}
use Rattle.canvas_cli.specs.declared.answer.Role.{Role}
use Rattle.canvas_cli.specs.declared.answer.Role.TheVariants.{Specification, Client}
use Rattle.canvas_cli.specs.declared.command.Command.{Command}
use Rattle.canvas_cli.specs.declared.command.Command.TheVariants.{Certify, Run}
use Rattle.canvas_cli.specs.declared.command.Single.{Single}
use Rattle.canvas_cli.specs.declared.command.Single.TheVariants.{Show, Derive}
use Rattle.client_run.specs.Straight.{is_straight}
use Rattle.client_model.specs.CheckedForm.{ClientForm}
use Rattle.client_steps.specs.Runs.{IsSafe}
use Rattle.easl_model.specs.Form.{Form}

-- two names of a shelf, the texts that are held under them, and what they are
module _ (held : List ℕ → Option (List ℕ)) (rose : List ℕ → Type 0) (command : Command) (a b spec text : List ℕ) (form : Form) (client : ClientForm)
    (spec_is : held a ≡ Some spec) (text_is : held b ≡ Some text) (pair : IsPair spec text form client) where
  -- no text is too long
  no_length : (role : Role) → MayAnswer held rose (Pair command a b) (TooLong role) → ⊥
  no_length Specification may = not_long Specification (held a) spec spec_is pair.specification.is.few may
  no_length Client may = not_long Client (held b) text text_is pair.client_text.is.few may.1

  -- nor is anything wrong with it
  refused_client : (line : Vec ℕ Global) → (f : Form) × IsSpecification spec f × IsClientRefused f text line.items → ⊥
  refused_client line (f, is, wrong) =
      let same = forms_one spec f form is pair.specification in
      let here = subst (λ g. IsClientRefused g text line.items) same wrong in
      client_not_wrong form text pair.client_text.tree here.0 pair.client_text.is here.1

  unrefused : (role : Role) (line : Vec ℕ Global) → MayAnswer held rose (Pair command a b) (Refused role line) → ⊥
  unrefused Specification line may =
      let wrong : IsRefused spec line.items = texts_are held command a b spec text (Refused Specification line) spec_is text_is may in
      not_wrong spec pair.specification.tree wrong.0 pair.specification.is wrong.1
  unrefused Client line may = refused_client line (texts_are held command a b spec text (Refused Client line) spec_is text_is may)

  -- what the texts of a pair decide is the answer for the pair
  told : (answer : Answer) → (Decides command spec text answer → (f : Form) × IsSpecification spec f
      × ((c : ClientForm) × IsClient f text c × IsAnswer command f c answer))
      → TextsDecide held (Pair command a b) answer → IsAnswer command form client answer
  told answer opened decide =
      let found = opened (texts_are held command a b spec text answer spec_is text_is decide) in
      answer_of command spec text found.0 form found.2.0 client answer found.1 found.2.1 pair found.2.2

  -- what is answered where both texts are well-formed
  pub answered : (old new : Option (List ℕ)) (status : Status) (answer : Answer) → IsDone status → MayAnswer held rose (Pair command a b) answer
      → IsWhole old new answer status
      → IsAnswer command form client answer
  answered old new status (ReadFault role) done may written = absurd (done.read written.0)
  answered old new status Memory done may written = absurd (done.memory written.0)
  answered old new status (TooLong role) done may written = absurd (no_length role may)
  answered old new status (Refused role line) done may written = absurd (unrefused role line may)
  answered old new status answer done may written = told answer (λ decides. decides) may

  -- where nothing failed outside, both texts are answered, or memory was wanted
  rises : (role : Role) → MayAnswer held rose (Pair command a b) (ReadFault role) → (rose a → ⊥) → (rose b → ⊥) → ⊥
  rises Specification fails no_spec no_client = no_spec fails
  rises Client fails no_spec no_client = no_client fails.1

  pub complete_by : (old new : Option (List ℕ)) (status : Status) (answer : Answer) → (rose a → ⊥) → (rose b → ⊥)
      → MayAnswer held rose (Pair command a b) answer → IsWhole old new answer status
      → (status ≡ s.Memory) ⊎ (IsAnswer command form client answer × (status ≡ status_of answer))
  complete_by old new status (ReadFault role) no_spec no_client may written = absurd (rises role may no_spec no_client)
  complete_by old new status Memory no_spec no_client may written = inl written.0
  complete_by old new status (TooLong role) no_spec no_client may written = absurd (no_length role may)
  complete_by old new status (Refused role line) no_spec no_client may written = absurd (unrefused role line may)
  complete_by old new status answer no_spec no_client may written = inr (told answer (λ decides. decides) may, written.0)

-- the answer to the command for the pair, which is written whole
abbrev pub WritesAnswer : Command → Form → ClientForm → Option (List ℕ) → Option (List ℕ) → Status → Type 0
WritesAnswer command form client old new status = (answer : Answer) × IsAnswer command form client answer × IsWhole old new answer status

pub writes_answer : (held : List ℕ → Option (List ℕ)) (rose : List ℕ → Type 0) (words : List (String Global)) (old new : Option (List ℕ)) (failed : Type 0)
    (status : Status) (command : Command) (spec text : List ℕ) (form : Form) (client : ClientForm)
    → WritesAllowed held rose words old new failed status → AreHeld held words command spec text → IsPair spec text form client → IsDone status
    → WritesAnswer command form client old new status
writes_answer held rose words old new failed status command spec text form client (answer, may, written) texts pair done =
    let full = whole old new failed answer status written done.write in (
      answer,
      answered held rose command texts.spec_name texts.client_name spec text form client texts.spec_is texts.client_is pair old new status answer done
          (allowed held rose words (Pair command texts.spec_name texts.client_name) answer texts.words_are may) full,
      full,
    )

-- what each answer of `certify` says of a straight client
abbrev Verdict : Form → ClientForm → Option (List ℕ) → Option (List ℕ) → Status → Type 0
Verdict form client old new status = (IsSafe form client × WritesCertified old new status) ⊎ ((IsSafe form client → ⊥) × WritesAlarm form client old new status)

verdict : (form : Form) (client : ClientForm) (old new : Option (List ℕ)) (status : Status) (answer : Answer) → is_straight client ≡ true
    → IsAnswer Certify form client answer → IsWhole old new answer status
    → Verdict form client old new status
verdict form client old new status NotBuilt straight is written = let e : true ≡ false = sym straight ∙ is in absurd cc
verdict form client old new status Certified straight (so, safe) written = inl (safe, written)
verdict form client old new status (Alarm v) straight (so, alarm) written =
    inr (λ safe. safe [] alarm.budget alarm.call alarm.clause 0 alarm.fails, (v.items, alarm, written.0, written.1))
verdict form client old new status answer straight is written = absurd is

pub headline : (held : List ℕ → Option (List ℕ)) (rose : List ℕ → Type 0) (words : List (String Global)) (old new : Option (List ℕ)) (failed : Type 0)
    (status : Status) → WritesAllowed held rose words old new failed status → Headline held words old new status
headline held rose words old new failed status writes spec text form client texts pair straight done =
    let (answer, is, written) = writes_answer held rose words old new failed status Certify spec text form client writes texts pair done in
    verdict form client old new status answer straight is written

-- a client that is not straight is not built
not_straight : (form : Form) (client : ClientForm) (old new : Option (List ℕ)) (status : Status) (answer : Answer) → is_straight client ≡ false
    → IsAnswer Certify form client answer → IsWhole old new answer status
    → WritesNotBuilt old new status
not_straight form client old new status NotBuilt more is written = written
not_straight form client old new status Certified more (straight, safe) written = let e : true ≡ false = sym straight ∙ more in absurd cc
not_straight form client old new status (Alarm v) more (straight, alarm) written = let e : true ≡ false = sym straight ∙ more in absurd cc
not_straight form client old new status answer more is written = absurd is

unbuilt : (held : List ℕ → Option (List ℕ)) (rose : List ℕ → Type 0) (request : Request) (spec : List ℕ) (old new : Option (List ℕ)) (status : Status)
    (answer : Answer) → held (specification_of request) ≡ Some spec
    → IsDone status → MayAnswer held rose request answer → IsWhole old new answer status → AreWithin held request → IsUnbuilt held request spec
    → WritesNotBuilt old new status
unbuilt held rose (One single name) spec old new status answer is done may written within more = absurd more
unbuilt held rose (Pair (Run choices) name client) spec old new status answer is done may written within more = absurd more
unbuilt held rose (Pair Certify name client) spec old new status answer is done may written (first, (told_text, told_is, few)) (text, loaded, found) =
    let same : text ≡ told_text = loaded_is Client (held client) told_text text told_is loaded in
    let here : IsNotStraight spec told_text = subst (IsNotStraight spec) same found in
    not_straight here.form here.client old new status answer here.more
    (answered held rose Certify name client spec told_text here.form here.client is told_is here.pair old new status answer done may written) written

-- and nothing else is
built_only : (held : List ℕ → Option (List ℕ)) (request : Request) (spec : List ℕ) → held (specification_of request) ≡ Some spec
    → TextsDecide held request NotBuilt → IsUnbuilt held request spec
built_only held (One Show name) spec is (text, loaded, (tree, tree_is, answer)) = absurd answer
built_only held (One Derive name) spec is (text, loaded, (tree, tree_is, answer)) = absurd answer
built_only held (Pair (Run choices) name client) spec is (text, loaded, (more, loaded_too, (form, found, (c, client_is, (o, run, told))))) = absurd told
built_only held (Pair Certify name client) spec is (text, loaded, (more, loaded_too, (form, found, (c, client_is, answer)))) = (
  more,
  loaded_too,
  record {
    form = form;
    client = c;
    pair = record { specification = subst (λ t. IsSpecification t form) (loaded_is Specification (held name) spec text is loaded) found; client_text = client_is };
    more = answer;
  },
)

only : (held : List ℕ → Option (List ℕ)) (rose : List ℕ → Type 0) (request : Request) (spec : List ℕ) (old new : Option (List ℕ)) (status : Status)
    (answer : Answer) → held (specification_of request) ≡ Some spec
    → MayAnswer held rose request answer → IsWhole old new answer status → status ≡ s.NotBuilt → IsUnbuilt held request spec
only held rose request spec old new status NotBuilt is may written named = built_only held request spec is may
only held rose request spec old new status answer is may written named = let e : status_of answer ≡ s.NotBuilt = sym written.0 ∙ named in absurd cc

pub not_built : (held : List ℕ → Option (List ℕ)) (rose : List ℕ → Type 0) (words : List (String Global)) (old new : Option (List ℕ)) (failed : Type 0)
    (status : Status) → WritesAllowed held rose words old new failed status → NotBuiltExactly held words old new status
not_built held rose words old new failed status (answer, may, written) request spec given done =
    let allows = allowed held rose words request answer given.words_are may in
    let full = whole old new failed answer status written done.write in
    record {
      cause = unbuilt held rose request spec old new status answer given.spec_is done allows full;
      only = only held rose request spec old new status answer given.spec_is allows full;
    }

-- the status of what is answered for a pair
of_memory : (command : Command) (client : ClientForm) (status : Status) → status ≡ s.Memory → IsAnswered command client status
of_memory Certify client status is = inr (inr is)
of_memory (Run choices) client status is = inr (inr (inr is))

of_answer : (command : Command) (form : Form) (client : ClientForm) (status : Status) (answer : Answer) → IsAnswer command form client answer
    → status ≡ status_of answer → IsAnswered command client status
of_answer Certify form client status NotBuilt more is = inr (inl (more, is))
of_answer Certify form client status Certified answers is = inl (answers.0, inl is)
of_answer Certify form client status (Alarm text) answers is = inl (answers.0, inr is)
of_answer Certify form client status answer answers is = absurd answers
of_answer (Run choices) form client status (Ends text) answers is = inl is
of_answer (Run choices) form client status Short answers is = inl is
of_answer (Run choices) form client status (Fails text) answers is = inr (inl is)
of_answer (Run choices) form client status Long answers is = inr (inr (inl is))
of_answer (Run choices) form client status answer (o, run, told) is = absurd told

pub complete : (held : List ℕ → Option (List ℕ)) (rose : List ℕ → Type 0) (words : List (String Global)) (old new : Option (List ℕ)) (failed : Type 0)
    (status : Status) → WritesAllowed held rose words old new failed status → IsComplete held rose failed words status
complete held rose words old new failed status (answer, may, written) command spec text form client texts pair no_spec no_client no_write =
    elim (complete_by held rose command texts.spec_name texts.client_name spec text form client texts.spec_is texts.client_is pair old new status answer
    no_spec no_client
    (allowed held rose words (Pair command texts.spec_name texts.client_name) answer texts.words_are may)
    (whole old new failed answer status written (unfailed old new failed answer status written no_write))) [
      | inl memory ↦ of_memory command client status memory
      | inr found ↦ of_answer command form client status answer found.0 found.1
    ]
