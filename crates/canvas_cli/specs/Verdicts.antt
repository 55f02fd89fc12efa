-- What the texts decide: the layout of a specification, how it closes, whether a client is safe and where it fails, or how it runs.
use Rattle.std.specs.Prelude.{◌≡◌, ℕ, true, false, List, [], Some, slice_get}
use Rattle.canvas_cli.specs.Refusals.{IsClientRefused, IsClientTree, IsRefused, IsTree}
use Rattle.canvas_cli.specs.Texts.{alarm_text, cases_text, clause_text, ends_text, fails_text, open_text}
use Rattle.canvas_cli.specs.declared.answer.Role.TheVariants.{Specification, Client}
use Rattle.canvas_cli.specs.declared.answer.Answer.{Answer}
use Rattle.canvas_cli.specs.declared.answer.Answer.TheVariants.{Refused, NotBuilt, Memory, Shown, Derived, Open, ManyCases, Certified, Alarm, Ends, Short}
use Rattle.canvas_cli.specs.declared.answer.Answer.TheVariants.{Fails, Long}
use Rattle.canvas_cli.specs.declared.command.Command.{Command}
use Rattle.canvas_cli.specs.declared.command.Command.TheVariants.{Certify, Run}
use Rattle.canvas_cli.specs.declared.command.Single.{Single}
use Rattle.canvas_cli.specs.declared.command.Single.TheVariants.{Show, Derive}
use Rattle.client_run.specs.Straight.{is_straight}
use Rattle.client_model.specs.declared.form.CallSite.{CallSite}
use Rattle.client_model.specs.declared.tree.Client.{Client as Written}
use Rattle.client_model.specs.CheckedForm as checked
use Rattle.client_model.specs.CheckedForm.{ClientForm}
use Rattle.client_model.specs.Trees.{client_of}
use Rattle.client_steps.specs.Runs as runs
use Rattle.client_steps.specs.Runs.{IsRun, IsSafe, Outcome}
use Rattle.derivation.specs.Closing.{Closes, Stops}
use Rattle.derivation.specs.declared.derive_fault.DeriveFault.TheVariants as stop
use Rattle.derivation.specs.declared.derive_fault.Reason.{Reason}
use Rattle.easl_model.specs.CheckedForm.{form_of}
use Rattle.easl_model.specs.Form.{Form}
use Rattle.easl_model.specs.declared.form.ClassForm.{ClassForm}
use Rattle.easl_model.specs.declared.form.Method.{Method}
use Rattle.easl_model.specs.declared.tree.Spec.{Spec}
use Rattle.easl_print.specs.Lines.{spec_text}
use Rattle.method_abstraction.specs.Texts.{abstraction_text}
use Rattle.method_abstraction.specs.declared.entry.Abstraction.{Abstraction}
use Rattle.method_abstraction.specs.declared.entry.Question.{Question}

-- how many units a run may take
abbrev pub most_units : ℕ
most_units = 10000000

-- the text is a specification, and this is its checked form
pub record IsSpecification (text : List ℕ) (form : Form) : Type 0 where
  pub tree : Spec
  pub is : IsTree text tree
  pub form_is : form ≡ form_of tree

-- the text is a client that is well-formed for this specification, and this is its checked form
pub record IsClient (form : Form) (text : List ℕ) (client : ClientForm) : Type 0 where
  pub tree : Written
  pub is : IsClientTree form text tree
  pub form_is : client ≡ checked.form_of form (client_of tree)

-- a checked specification, and a checked client that fits it
pub record IsPair (spec text : List ℕ) (form : Form) (client : ClientForm) : Type 0 where
  pub specification : IsSpecification spec form
  pub client_text : IsClient form text client

-- the text is that of a clause of the method of this call
pub record NamesClause (form : Form) (calls : List CallSite) (call clause : ℕ) (text : List ℕ) : Type 0 where
  pub site : CallSite
  pub method : Method
  pub class : ClassForm
  pub site_at : slice_get calls call ≡ Some site
  pub method_at : slice_get form.methods site.method ≡ Some method
  pub class_at : slice_get form.classes method.class ≡ Some class
  pub is : text ≡ clause_text site.place class.name method clause

-- the run on no choices fails at the alarm's call and clause
pub record IsAlarm (form : Form) (client : ClientForm) (text : List ℕ) : Type 0 where
  pub call : ℕ
  pub clause : ℕ
  pub budget : ℕ
  pub fails : IsRun form client [] budget (runs.Fails call clause 0)
  pub named : List ℕ
  pub names : NamesClause form client.calls call clause named
  pub is : text ≡ alarm_text named

-- the text says that a run fails at this call and clause, with so many choices not taken
pub record IsFailure (form : Form) (client : ClientForm) (call clause left : ℕ) (text : List ℕ) : Type 0 where
  pub named : List ℕ
  pub names : NamesClause form client.calls call clause named
  pub is : text ≡ fails_text named left

-- the answer tells how a run ends
abbrev pub Tells : Form → ClientForm → Answer → Outcome → Type 0
Tells form client (Ends text) (runs.Ends left) = text.items ≡ ends_text left
Tells form client Short runs.Short = Unit {0}
Tells form client (Fails text) (runs.Fails call clause left) = IsFailure form client call clause left text.items
Tells form client Long runs.Cut = Unit {0}
Tells form client answer o = ⊥

-- what is answered to the command for a checked specification and client; so far straight clients alone are certified
abbrev pub IsAnswer : Command → Form → ClientForm → Answer → Type 0
IsAnswer Certify form client NotBuilt = is_straight client ≡ false
IsAnswer Certify form client Certified = (is_straight client ≡ true) × IsSafe form client
IsAnswer Certify form client (Alarm text) = (is_straight client ≡ true) × IsAlarm form client text.items
IsAnswer Certify form client answer = ⊥
IsAnswer (Run choices) form client answer = (o : Outcome) × IsRun form client choices most_units o × Tells form client answer o

-- what the text of a client decides, the specification being read
abbrev pub ClientVerdict : Command → Form → List ℕ → Answer → Type 0
ClientVerdict command form text (Refused Client line) = IsClientRefused form text line.items
ClientVerdict command form text Memory = Unit {0}
ClientVerdict command form text answer = (client : ClientForm) × IsClient form text client × IsAnswer command form client answer

-- what the texts of a specification and a client decide
abbrev pub Decides : Command → List ℕ → List ℕ → Answer → Type 0
Decides command spec client (Refused Specification line) = IsRefused spec line.items
Decides command spec client Memory = Unit {0}
Decides command spec client answer = (form : Form) × IsSpecification spec form × ClientVerdict command form client answer

-- the specification closes, and this is the text of families, facts and updates with which it closes
pub record IsClosed (form : Form) (text : List ℕ) : Type 0 where
  pub abstraction : Abstraction
  pub closes : Closes form abstraction
  pub is : text ≡ abstraction_text form abstraction

-- it does not close, and this line names why and the first question that stops it
pub record IsOpen (form : Form) (line : List ℕ) : Type 0 where
  pub reason : Reason
  pub question : Question
  pub stops : Stops form (stop.Open reason question)
  pub is : line ≡ open_text form reason question

-- a question has too many configurations before any other stops it, and this line names the question
pub record HasManyCases (form : Form) (line : List ℕ) : Type 0 where
  pub question : Question
  pub stops : Stops form (stop.Cases question)
  pub is : line ≡ cases_text form question

-- what is answered to the command on the tree of a specification alone
abbrev pub AnswersOne : Answer → Single → Spec → Type 0
AnswersOne (Shown layout) Show tree = layout.items ≡ spec_text tree
AnswersOne (Derived text) Derive tree = IsClosed (form_of tree) text.items
AnswersOne (Open line) Derive tree = IsOpen (form_of tree) line.items
AnswersOne (ManyCases line) Derive tree = HasManyCases (form_of tree) line.items
AnswersOne answer single tree = ⊥

-- what the text of a specification alone decides
abbrev pub DecidesOne : Single → List ℕ → Answer → Type 0
DecidesOne single text (Refused Specification line) = IsRefused text line.items
DecidesOne single text Memory = Unit {0}
DecidesOne single text answer = (tree : Spec) × IsTree text tree × AnswersOne answer single tree
