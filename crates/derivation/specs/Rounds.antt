-- How far the derivation is.
use Rattle.std.specs.Prelude.{◌≡◌, ◌⊎◌, ℕ, ◌<◌, ◌≤◌, ◌+◌, List, [], ◌∷◌, Some, Ok, Err, slice_get, length, take}
use Rattle.std.specs.List.{AllZip}
use Rattle.easl_model.specs.Form.{Form}
use Rattle.easl_model.specs.declared.form.Method.{Method}
use Rattle.access_paths.specs.{AreResults, Fits}
use Rattle.access_paths.specs.declared.term.Family.{Family}
use Rattle.weakest_pre.specs.{HasClause}
use Rattle.method_abstraction.specs.{questions}
use Rattle.method_abstraction.specs.declared.entry.ClauseFacts.{ClauseFacts}
use Rattle.method_abstraction.specs.declared.entry.Disjunct.{Disjunct}
use Rattle.method_abstraction.specs.declared.entry.Question.{Question}
use Rattle.method_abstraction.specs.declared.entry.Question.TheVariants.{Clause, Update}
use Rattle.method_abstraction.specs.declared.entry.Update as entry
use Rattle.derivation.specs.Closing.{AreTooMany, Asked, Comes, IsClauseReply, IsUpdateReply, Meets}
use Rattle.derivation.specs.Laws.{IsNumbered}
use Rattle.derivation.specs.declared.derive_fault.DeriveFault.{DeriveFault}
use Rattle.derivation.specs.declared.derive_fault.DeriveFault.TheVariants.{Open, Cases, Memory}
use Rattle.derivation.specs.declared.derive_fault.Reason.TheVariants.{Families, Path, Cover}
use Rattle.derivation.specs.declared.reply.AskFault.TheVariants as ask
use Rattle.derivation.specs.declared.reply.AskFault.{AskFault}
use Rattle.derivation.specs.declared.reply.Predicate.{Predicate}
use Rattle.derivation.specs.declared.reply.Reply.{Reply}

-- the question names what is there
abbrev pub IsQuestion : Form → List Family → Question → Type 0
IsQuestion form families (Clause method clause) = (method < length form.methods) × HasClause form method clause
IsQuestion form families (Update method results number) =
    (method < length form.methods)
    × ((family : Family) × (slice_get families number ≡ Some family) × Fits form family
    × ((m : Method) → slice_get form.methods method ≡ Some m → AreResults m family results))

-- the clause questions among these, and the update questions
abbrev pub clauses_in : List Question → List Question
clauses_in [] = []
clauses_in (Clause method clause ∷ rest) = Clause method clause ∷ clauses_in rest
clauses_in (Update method results number ∷ rest) = clauses_in rest

abbrev pub updates_in : List Question → List Question
updates_in [] = []
updates_in (Clause method clause ∷ rest) = updates_in rest
updates_in (Update method results number ∷ rest) = Update method results number ∷ updates_in rest

-- the entry of a clause question, and of an update question
abbrev pub clause_entry : Question → List Disjunct → List ClauseFacts
clause_entry (Clause method clause) ds = record { method = method; clause = clause; disjuncts = ds } ∷ []
clause_entry (Update method results number) ds = []

abbrev pub update_entry : Question → List Disjunct → List entry.Update
update_entry (Clause method clause) ds = []
update_entry (Update method results number) ds = record { method = method; results = results; family = number; disjuncts = ds } ∷ []

-- So many questions are asked, these families are met, and these are the entries.
pub record IsSoFar (form : Form) (n : ℕ) (families : List Family) (clauses : List ClauseFacts) (updates : List entry.Update) : Type 0 where
  pub asked : Asked form n families
  pub clause_entries : AllZip (IsClauseReply form families) (clauses_in (take n (questions form families))) clauses
  pub update_entries : AllZip (IsUpdateReply form families) (updates_in (take n (questions form families))) updates

-- these questions are the next ones
abbrev pub AreNext : Form → List Family → ℕ → List Question → Type 0
AreNext form families n qs = (k : ℕ) (q : Question) → slice_get qs k ≡ Some q → slice_get (questions form families) (n + k) ≡ Some q

-- the question has a reply, its families are met, and this is its entry
abbrev pub IsAnswered : Form → List Family → Question → List Family → List Disjunct → Type 0
IsAnswered form known q after ds =
    (r : Reply) × Comes form known q (Ok r) × Meets known r.disjuncts after × (length after ≤ 64) × AllZip (IsNumbered after) r.disjuncts ds

-- or it stops the derivation so
abbrev pub IsStopped : Form → List Family → Question → DeriveFault → Type 0
IsStopped form known q (Open Path at) = (at ≡ q) × Comes form known q (Err ask.Path)
IsStopped form known q (Cases at) = (at ≡ q) × Comes form known q (Err ask.Cases)
IsStopped form known q (Open Cover at) = (at ≡ q) × Comes form known q (Err ask.Cover)
IsStopped form known q (Open Families at) = (at ≡ q) × ((r : Reply) × Comes form known q (Ok r) × AreTooMany known r.disjuncts)
IsStopped form known q Memory = Unit {0}

-- why a question without a reply stops the derivation
abbrev pub stop_at : Question → AskFault → DeriveFault
stop_at q ask.Path = Open Path q
stop_at q ask.Cases = Cases q
stop_at q ask.Cover = Open Cover q
stop_at q ask.Memory = Memory

-- its reply has too many families; want of memory is free
abbrev pub IsOverflow : List Family → List Predicate → Question → DeriveFault → Type 0
IsOverflow known predicates q fault = ((fault ≡ Open Families q) × AreTooMany known predicates) ⊎ (fault ≡ Memory)

-- so many questions are asked once those on clauses and on this many families are
abbrev pub asked_to : Form → List Family → ℕ → ℕ
asked_to form families number = length (questions form (take number families))
