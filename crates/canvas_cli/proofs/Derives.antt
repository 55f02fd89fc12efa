-- What is written of a derivation, and where it is open, from the answer that is written.
use Rattle.std.proofs.Common.{inl, inr, ◌≡◌, ℕ, List, subst, sym, ◌∙◌}
use Rattle.std.specs.Prelude.{Option, Some, String, Vec, ◌⊎◌}
use Rattle.std.specs.declared.alloc.Global.{Global}
use Rattle.cv_base.specs.declared.status.Status.{Status}
use Rattle.cv_base.specs.declared.status.Status.TheVariants as s
use Rattle.canvas_cli.proofs.Shows.{no_client, refused_in}
use Rattle.canvas_cli.proofs.Told.{IsWhole, allowed, loaded_is, not_long, unfailed, whole}
use Rattle.canvas_cli.proofs.Trees.{not_wrong, one_tree}
use Rattle.canvas_cli.specs.Answers.{IsLoaded, MayAnswer, TextsDecide, WritesAllowed}
use Rattle.canvas_cli.specs.Commands.{Request, One, Pair, specification_of}
use Rattle.canvas_cli.specs.Headline.{DerivesExactly, IsDerived, OpensExactly, StaysOpen, WritesDerivation}
use Rattle.canvas_cli.specs.Refusals.{IsTree}
use Rattle.canvas_cli.specs.Texts.{status_of}
use Rattle.canvas_cli.specs.Verdicts.{HasManyCases, IsClosed, IsOpen}
use Rattle.canvas_cli.specs.declared.answer.Answer.{Answer}
use Rattle.canvas_cli.specs.declared.answer.Answer.TheVariants.{ReadFault, TooLong, Refused, Memory, Derived, Open, ManyCases}
use Rattle.canvas_cli.specs.declared.answer.Role.TheVariants.{Specification, Client}
use Rattle.canvas_cli.specs.declared.command.Command.TheVariants.{Certify, Run}
use Rattle.canvas_cli.specs.declared.command.Single.TheVariants.{Show, Derive}
use Rattle.easl_model.specs.CheckedForm.{form_of}
use Rattle.easl_model.specs.declared.tree.Spec.{Spec}

-- what is written where a specification is to be derived, unless it could not be loaded or memory was wanted
abbrev WrittenOf : Spec → Type 0 → Option (List ℕ) → Option (List ℕ) → Status → Type 0
WrittenOf tree rose old new status = ((status ≡ s.ReadFault) × rose) ⊎ ((status ≡ s.Memory) ⊎ WritesDerivation (form_of tree) old new status)

-- the tree that was read is the one that the text spells
same_tree : (held : Option (List ℕ)) (spec text : List ℕ) (found tree : Spec) → held ≡ Some spec → IsLoaded Specification held text → IsTree text found
    → IsTree spec tree → found ≡ tree
same_tree held spec text found tree is loaded found_is tree_is =
    let read = subst (λ t. IsTree t found) (loaded_is Specification held spec text is loaded) found_is in
    one_tree spec found tree read.spells tree_is.spells

derived_of : (held : List ℕ → Option (List ℕ)) (rose : List ℕ → Type 0) (name spec : List ℕ) (tree : Spec) (old new : Option (List ℕ)) (status : Status)
    (a : Answer) → held name ≡ Some spec → IsTree spec tree → MayAnswer held rose (One Derive name) a → IsWhole old new a status
    → WrittenOf tree (rose name) old new status
derived_of held rose name spec tree old new status (ReadFault Specification) is tree_is may written = inl (written.0, may)
derived_of held rose name spec tree old new status (ReadFault Client) is tree_is may written = absurd may
derived_of held rose name spec tree old new status Memory is tree_is may written = inr (inl written.0)
derived_of held rose name spec tree old new status (TooLong Specification) is tree_is may written =
    absurd (not_long Specification (held name) spec is tree_is.few may)
derived_of held rose name spec tree old new status (TooLong Client) is tree_is may written = absurd may
derived_of held rose name spec tree old new status (Refused Specification line) is tree_is may written =
    let wrong = refused_in held (One Derive name) spec line is may in
    absurd (not_wrong spec tree wrong.0 tree_is wrong.1)
derived_of held rose name spec tree old new status (Refused Client line) is tree_is may written = absurd (no_client held Derive name line may)
derived_of held rose name spec tree old new status (Derived v) is tree_is (text, loaded, (found, found_is, closed)) written =
    let one = same_tree (held name) spec text found tree is loaded found_is tree_is in
    inr (inr (inl (v.items, subst (λ t. IsClosed (form_of t) v.items) one closed, written.0, written.1)))
derived_of held rose name spec tree old new status (Open v) is tree_is (text, loaded, (found, found_is, opened)) written =
    let one = same_tree (held name) spec text found tree is loaded found_is tree_is in
    inr (inr (inr (inl (v.items, subst (λ t. IsOpen (form_of t) v.items) one opened, written.0, written.1))))
derived_of held rose name spec tree old new status (ManyCases v) is tree_is (text, loaded, (found, found_is, many)) written =
    let one = same_tree (held name) spec text found tree is loaded found_is tree_is in
    inr (inr (inr (inr (v.items, subst (λ t. HasManyCases (form_of t) v.items) one many, written.0, written.1))))
derived_of held rose name spec tree old new status a is tree_is (text, loaded, (found, found_is, answer)) written = absurd answer

pub derives : (held : List ℕ → Option (List ℕ)) (rose : List ℕ → Type 0) (words : List (String Global)) (old new : Option (List ℕ)) (failed : Type 0)
    (status : Status) → WritesAllowed held rose words old new failed status → DerivesExactly held words old new status
derives held rose words old new failed status (answer, may, written) spec tree text tree_is done =
    elim (derived_of held rose text.spec_name spec tree old new status answer text.spec_is tree_is
    (allowed held rose words (One Derive text.spec_name) answer text.words_are may) (whole old new failed answer status written done.write)) [
      | inl read ↦ absurd (done.read read.0)
      | inr other ↦ elim other [ inl memory ↦ absurd (done.memory memory) | inr full ↦ full ]
    ]

-- the status of what is written
abbrev StatusOf : Status → Type 0
StatusOf status = (status ≡ s.Fine) ⊎ ((status ≡ s.Open) ⊎ ((status ≡ s.Limit) ⊎ (status ≡ s.Memory)))

status_derived : (tree : Spec) (old new : Option (List ℕ)) (status : Status) → WritesDerivation (form_of tree) old new status → StatusOf status
status_derived tree old new status (inl (text, is, status_is, written)) = inl status_is
status_derived tree old new status (inr (inl (line, is, status_is, written))) = inr (inl status_is)
status_derived tree old new status (inr (inr (line, is, status_is, written))) = inr (inr (inl status_is))

pub derived : (held : List ℕ → Option (List ℕ)) (rose : List ℕ → Type 0) (words : List (String Global)) (old new : Option (List ℕ)) (failed : Type 0)
    (status : Status) → WritesAllowed held rose words old new failed status → IsDerived held rose failed words status
derived held rose words old new failed status (answer, may, written) spec tree text tree_is no_spec no_write =
    elim (derived_of held rose text.spec_name spec tree old new status answer text.spec_is tree_is
    (allowed held rose words (One Derive text.spec_name) answer text.words_are may)
    (whole old new failed answer status written (unfailed old new failed answer status written no_write))) [
      | inl read ↦ absurd (no_spec read.1)
      | inr other ↦ elim other [ inl memory ↦ inr (inr (inr memory)) | inr full ↦ status_derived tree old new status full ]
    ]

-- only a derivation is open
open_only : (held : List ℕ → Option (List ℕ)) (request : Request) (spec : List ℕ) (old new : Option (List ℕ)) (status : Status) (v : Vec ℕ Global)
    → held (specification_of request) ≡ Some spec → TextsDecide held request (Open v) → IsWhole old new (Open v) status
    → StaysOpen request spec old new status
open_only held (One Show name) spec old new status v is (text, loaded, (tree, tree_is, answer)) written = absurd answer
open_only held (One Derive name) spec old new status v is (text, loaded, (tree, tree_is, opened)) written =
    (tree, subst (λ t. IsTree t tree) (loaded_is Specification (held name) spec text is loaded) tree_is, (v.items, opened, written.0, written.1))
open_only held (Pair Certify name client) spec old new status v is (text, loaded, (more, loaded_too, (form, found, (c, client_is, answer)))) written = absurd answer
open_only held (Pair (Run choices) name client) spec old new status v is (text, loaded, (more, loaded_too, (form, found, (c, client_is, (o, run, told)))))
    written = absurd told

open_by : (held : List ℕ → Option (List ℕ)) (rose : List ℕ → Type 0) (request : Request) (spec : List ℕ) (old new : Option (List ℕ)) (status : Status)
    (a : Answer) → held (specification_of request) ≡ Some spec → MayAnswer held rose request a → IsWhole old new a status → status ≡ s.Open
    → StaysOpen request spec old new status
open_by held rose request spec old new status (Open v) is may written opened = open_only held request spec old new status v is may written
open_by held rose request spec old new status a is may written opened = let e : status_of a ≡ s.Open = sym written.0 ∙ opened in absurd cc

pub opens : (held : List ℕ → Option (List ℕ)) (rose : List ℕ → Type 0) (words : List (String Global)) (old new : Option (List ℕ)) (failed : Type 0)
    (status : Status) → WritesAllowed held rose words old new failed status → OpensExactly held words old new status
opens held rose words old new failed status (answer, may, written) request spec given opened =
    open_by held rose request spec old new status answer given.spec_is (allowed held rose words request answer given.words_are may)
    (whole old new failed answer status written (λ fault. let e : s.Open ≡ s.WriteFault = sym opened ∙ fault in absurd cc)) opened
