-- All questions in the order of asking: which families they meet, where they stop, and what they leave when they close.
-- The rounds are after Ramalingam and others (PLDI 2002); the order and the limit are own.
use Rattle.std.specs.Prelude.{◌≡◌, ◌⊎◌, ℕ, suc, ◌<◌, ◌≤◌, List, [], ◌∷◌, ◌++◌, Contains, Some, Ok, Err, Result, length, slice_get}
use Rattle.std.specs.List.{AllZip}
use Rattle.easl_model.specs.{condition_of}
use Rattle.easl_model.specs.Form.{Form}
use Rattle.easl_model.specs.declared.form.Method.{Method}
use Rattle.easl_model.specs.declared.form.Test.{Test}
use Rattle.access_paths.specs.declared.term.Family.{Family}
use Rattle.weakest_pre.specs.{IsClauseAt}
use Rattle.method_abstraction.specs.{clause_questions, questions, update_questions}
use Rattle.method_abstraction.specs.declared.entry.Abstraction.{Abstraction}
use Rattle.method_abstraction.specs.declared.entry.ClauseFacts.{ClauseFacts}
use Rattle.method_abstraction.specs.declared.entry.Disjunct.{Disjunct}
use Rattle.method_abstraction.specs.declared.entry.Question.{Question}
use Rattle.method_abstraction.specs.declared.entry.Question.TheVariants.{Clause, Update}
use Rattle.method_abstraction.specs.declared.entry.Update as entry
use Rattle.derivation.specs.Laws.{IsNumbered}
use Rattle.derivation.specs.Replies.{ClauseReplies, UpdateReplies}
use Rattle.derivation.specs.declared.derive_fault.DeriveFault.{DeriveFault}
use Rattle.derivation.specs.declared.derive_fault.DeriveFault.TheVariants.{Open, Cases, Memory}
use Rattle.derivation.specs.declared.derive_fault.Reason.TheVariants.{Families, Path, Cover}
use Rattle.derivation.specs.declared.reply.AskFault.{AskFault}
use Rattle.derivation.specs.declared.reply.AskFault.TheVariants as ask
use Rattle.derivation.specs.declared.reply.Predicate.{Predicate}
use Rattle.derivation.specs.declared.reply.Predicate.TheVariants.{Always, Of}
use Rattle.derivation.specs.declared.reply.Reply.{Reply}

-- each family of these predicates that is not among the known ones yet is appended
abbrev pub Meets : List Family → List Predicate → List Family → Type 0
Meets known [] after = after ≡ known
Meets known (Always ∷ rest) after = Meets known rest after
Meets known (Of i ∷ rest) after =
    (Contains known i.family × Meets known rest after) ⊎ ((¬ Contains known i.family) × Meets (known ++ i.family ∷ []) rest after)

-- by then a 65th family is met
pub record AreTooMany (known : List Family) (predicates : List Predicate) : Type 0 where
  pub some : List Predicate
  pub rest : List Predicate
  pub in_order : predicates ≡ some ++ rest
  pub after : List Family
  pub meets : Meets known some after
  pub many : 64 < length after

module _ (form : Form) where
  -- what a question on these families comes to
  abbrev pub Comes : List Family → Question → Result Reply AskFault → Type 0
  Comes families (Clause method clause) r =
      (m : Method) × (test : Test) × IsClauseAt form method clause m test × ClauseReplies form m (condition_of test) r
  Comes families (Update method results number) r =
      (m : Method) × (family : Family) × (slice_get form.methods method ≡ Some m) × (slice_get families number ≡ Some family)
      × UpdateReplies form m family results r

  -- So many questions were asked, in order. Each has a reply, and at most 64 families were met.
  pub data Asked : ℕ → List Family → Type 0 where
    none : Asked 0 []
    next : (n : ℕ) (known after : List Family) (q : Question) (r : Reply) → Asked n known → slice_get (questions form known) n ≡ Some q
        → Comes known q (Ok r) → Meets known r.disjuncts after → length after ≤ 64 → Asked (suc n) after

  -- a question's entry: the disjuncts of its reply, by the numbers of their families
  abbrev pub IsEntry : List Family → Question → List Disjunct → Type 0
  IsEntry families q ds = (r : Reply) × Comes families q (Ok r) × AllZip (IsNumbered families) r.disjuncts ds

  abbrev pub IsClauseReply : List Family → Question → ClauseFacts → Type 0
  IsClauseReply families q e = (q ≡ Clause e.method e.clause) × IsEntry families q e.disjuncts

  abbrev pub IsUpdateReply : List Family → Question → entry.Update → Type 0
  IsUpdateReply families q e = (q ≡ Update e.method e.results e.family) × IsEntry families q e.disjuncts

  -- It closes so: all questions on all its families are asked, each has a reply, and these are the entries.
  pub record Closes (a : Abstraction) : Type 0 where
    pub asked : Asked (length (questions form a.families)) a.families
    pub clauses : AllZip (IsClauseReply a.families) (clause_questions form) a.clauses
    pub updates : AllZip (IsUpdateReply a.families) (update_questions form a.families) a.updates

  -- the question is the next one, with these families known
  pub record IsNext (known : List Family) (q : Question) : Type 0 where
    pub count : ℕ
    pub asked : Asked count known
    pub next : slice_get (questions form known) count ≡ Some q

  -- the next question has no reply for this reason
  abbrev pub Fails : Question → AskFault → Type 0
  Fails q fault = (known : List Family) × IsNext known q × Comes known q (Err fault)

  -- or its reply has too many families
  abbrev pub Overflows : Question → Type 0
  Overflows q = (known : List Family) × IsNext known q × ((r : Reply) × Comes known q (Ok r) × AreTooMany known r.disjuncts)

  -- The first question that stops the derivation, and why; want of memory is free. A question has a reply only where a
  -- term of 7 fields, too many configurations and disjuncts that do not cover its tree are ruled out, in this order.
  abbrev pub Stops : DeriveFault → Type 0
  Stops (Open Path q) = Fails q ask.Path
  Stops (Cases q) = Fails q ask.Cases
  Stops (Open Cover q) = Fails q ask.Cover
  Stops (Open Families q) = Overflows q
  Stops Memory = Unit {0}
