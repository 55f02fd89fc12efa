-- The status and the text of each answer.
use Rattle.std.specs.Prelude.{ℕ, List, ◌++◌, codes, decimal, encode_utf8_all, if◌then◌else◌}
use Rattle.cv_base.specs.declared.status.Status.{Status}
use Rattle.cv_base.specs.declared.status.Status.TheVariants as s
use Rattle.canvas_cli.specs.declared.answer.Role.{Role}
use Rattle.canvas_cli.specs.declared.answer.Role.TheVariants.{Specification, Client}
use Rattle.canvas_cli.specs.declared.answer.Answer.{Answer}
use Rattle.canvas_cli.specs.declared.answer.Answer.TheVariants.{Usage, ReadFault, TooLong, Refused, NotBuilt, Memory, Shown, Derived, Open, ManyCases}
use Rattle.canvas_cli.specs.declared.answer.Answer.TheVariants.{Certified, Alarm, Ends, Short, Fails, Long}
use Rattle.canvas_cli.specs.declared.refusal.Refusal.{Refusal}
use Rattle.canvas_cli.specs.declared.refusal.Refusal.TheVariants.{NotUtf8, BadToken, Syntax, Limit, Broken}
use Rattle.canvas_cli.specs.declared.refusal.Rule.{Rule}
use Rattle.canvas_cli.specs.declared.refusal.Rule.TheVariants as language
use Rattle.client_values.specs.declared.fault.Rule.{Rule as ClientRule}
use Rattle.client_values.specs.declared.fault.Rule.TheVariants as client
use Rattle.derivation.specs.declared.derive_fault.Reason.{Reason}
use Rattle.derivation.specs.declared.derive_fault.Reason.TheVariants.{Families, Path, Cover}
use Rattle.easl_model.specs.Form.{Form}
use Rattle.easl_model.specs.declared.fault.Rule.{Rule as SpecRule}
use Rattle.easl_model.specs.declared.fault.Rule.TheVariants as rule
use Rattle.easl_model.specs.declared.fault.Which.{Which}
use Rattle.easl_model.specs.declared.fault.Which.TheVariants as which
use Rattle.easl_model.specs.declared.form.Method.{Method}
use Rattle.easl_model.specs.declared.place.Place.{Place}
use Rattle.method_abstraction.specs.Texts as abstraction
use Rattle.method_abstraction.specs.declared.entry.Question.{Question}
use Rattle.method_abstraction.specs.declared.entry.Question.TheVariants.{Clause, Update}

abbrev pub status_of : Answer → Status
status_of Usage = s.Usage
status_of (ReadFault role) = s.ReadFault
status_of (TooLong role) = s.Limit
status_of (Refused role line) = s.Refused
status_of NotBuilt = s.NotBuilt
status_of Memory = s.Memory
status_of (Shown layout) = s.Fine
status_of (Derived text) = s.Fine
status_of (Open line) = s.Open
status_of (ManyCases line) = s.Limit
status_of Certified = s.Fine
status_of (Alarm text) = s.Alarm
status_of (Ends text) = s.Fine
status_of Short = s.Fine
status_of (Fails text) = s.Alarm
status_of Long = s.Limit

abbrev pub usage_text : List ℕ
usage_text = codes "usage: canvas COMMAND\nshow SPEC\nderive SPEC\nrun SPEC CLIENT CHOICES\ncertify SPEC CLIENT\nsites SPEC CLIENT\nexplain SPEC CLIENT\nreport SPEC CLIENT\nproof SPEC CLIENT\ncheck SPEC CLIENT CERT\nload N\n"

abbrev pub role_text : Role → List ℕ
role_text Specification = codes "specification"
role_text Client = codes "client"

abbrev pub read_fault_text : Role → List ℕ
read_fault_text Specification = codes "read fault specification\n"
read_fault_text Client = codes "read fault client\n"

-- a text is longer than its limit
abbrev pub too_long_text : Role → List ℕ
too_long_text Specification = codes "limit specification bytes 65536\n"
too_long_text Client = codes "limit client bytes 1048576\n"

-- so far clients of more than straight code are not certified
abbrev pub not_built_text : List ℕ
not_built_text = codes "not built client\n"

abbrev pub place_text : Place → List ℕ
place_text place = decimal place.line ++ codes ":" ++ decimal place.col

abbrev pub spec_rule_text : SpecRule → List ℕ
spec_rule_text rule.Duplicate = codes "S1"
spec_rule_text rule.Unknown = codes "S2"
spec_rule_text rule.Mismatch = codes "S3"
spec_rule_text rule.Unready = codes "S4"
spec_rule_text rule.ConstructorCycle = codes "S5"
spec_rule_text rule.TooLong = codes "S6"

abbrev pub client_rule_text : ClientRule → List ℕ
client_rule_text client.Duplicate = codes "C1"
client_rule_text client.Unknown = codes "C2"
client_rule_text client.Mismatch = codes "C3"
client_rule_text client.Unset = codes "C4"
client_rule_text client.NoReturn = codes "C5"
client_rule_text client.NoMain = codes "C6"
client_rule_text client.Unreachable = codes "C7"
client_rule_text client.OutsideLoop = codes "C8"

abbrev pub rule_text : Rule → List ℕ
rule_text (language.Specification rule) = spec_rule_text rule
rule_text (language.Client rule) = client_rule_text rule

abbrev pub limit_text : Which → List ℕ
limit_text which.Nesting = codes "E4 nesting"
limit_text which.Classes = codes "E4 classes"
limit_text which.Fields = codes "E4 fields"
limit_text which.Methods = codes "E4 methods"
limit_text which.Parameters = codes "E4 parameters"
limit_text which.Clauses = codes "E4 clauses"
limit_text which.Comparisons = codes "E4 comparisons"
limit_text which.Statements = codes "E4 statements"
limit_text which.Path = codes "E4 path"
limit_text which.Conditionals = codes "E4 conditionals"

-- what is wrong with a text, and where
abbrev pub fault_text : Refusal → List ℕ
fault_text (NotUtf8 place) = codes "E1"
fault_text (BadToken place) = codes "E2"
fault_text (Syntax place) = codes "E3"
fault_text (Limit which place) = limit_text which
fault_text (Broken rule place) = rule_text rule

abbrev pub place_of : Refusal → Place
place_of (NotUtf8 place) = place
place_of (BadToken place) = place
place_of (Syntax place) = place
place_of (Limit which place) = place
place_of (Broken rule place) = place

-- a text of this role is refused
abbrev pub refusal_text : Role → Refusal → List ℕ
refusal_text role refusal = codes "refused " ++ role_text role ++ codes " " ++ fault_text refusal ++ codes " " ++ place_text (place_of refusal) ++ codes "\n"

-- a question of a derivation: a clause, or a family with the positions of the result
abbrev pub question_text : Form → Question → List ℕ
question_text form (Clause method clause) = abstraction.method_text form method ++ codes " clause " ++ decimal clause
question_text form (Update method results family) =
    abstraction.method_text form method ++ codes " " ++ abstraction.results_text results ++ codes " " ++ abstraction.family_name family

abbrev pub reason_text : Reason → List ℕ
reason_text Families = codes "O1"
reason_text Path = codes "O2"
reason_text Cover = codes "O4"

-- a specification does not close
abbrev pub open_text : Form → Reason → Question → List ℕ
open_text form reason q = codes "open " ++ reason_text reason ++ codes " " ++ question_text form q ++ codes "\n"

-- a question has too many configurations
abbrev pub cases_text : Form → Question → List ℕ
cases_text form q = codes "limit cases " ++ question_text form q ++ codes "\n"

abbrev pub certified_text : List ℕ
certified_text = codes "certified\n"

-- a method or constructor of the class of this name
abbrev pub method_text : List ℕ → Method → List ℕ
method_text class m = encode_utf8_all class ++ codes "." ++ (if m.constructor then codes "new" else encode_utf8_all m.name)

-- a clause of the call at this place, of a class's method
abbrev pub clause_text : Place → List ℕ → Method → ℕ → List ℕ
clause_text place class m clause = place_text place ++ codes " " ++ method_text class m ++ codes " " ++ decimal clause

-- an alarm at this clause, and its path, which takes no test
abbrev pub alarm_text : List ℕ → List ℕ
alarm_text clause = codes "alarm " ++ clause ++ codes "\n0 main:\n"

-- a run ends with so many choices not taken, or fails at this clause
abbrev pub ends_text : ℕ → List ℕ
ends_text left = codes "ends, " ++ decimal left ++ codes " left\n"

abbrev pub fails_text : List ℕ → ℕ → List ℕ
fails_text clause left = codes "fails " ++ clause ++ codes ", " ++ decimal left ++ codes " left\n"

-- a test finds no choice left
abbrev pub short_text : List ℕ
short_text = codes "short\n"

-- a run takes too many units
abbrev pub long_text : List ℕ
long_text = codes "limit steps 10000000\n"

abbrev pub text_of : Answer → List ℕ
text_of Usage = usage_text
text_of (ReadFault role) = read_fault_text role
text_of (TooLong role) = too_long_text role
text_of (Refused role line) = line.items
text_of NotBuilt = not_built_text
text_of Memory = codes "memory\n"
text_of (Shown layout) = layout.items
text_of (Derived text) = text.items
text_of (Open line) = line.items
text_of (ManyCases line) = line.items
text_of Certified = certified_text
text_of (Alarm text) = text.items
text_of (Ends text) = text.items
text_of Short = short_text
text_of (Fails text) = text.items
text_of Long = long_text
