-- Laws on replies: their disjuncts are exact.
use Rattle.std.specs.Prelude.{◌≡◌, ℕ, List, Some, Ok, slice_get}
use Rattle.std.specs.List.{AllZip}
use Rattle.easl_model.specs.{Condition, IsChecked}
use Rattle.easl_model.specs.Form.{Form}
use Rattle.easl_model.specs.declared.form.Method.{Method}
use Rattle.access_paths.specs.{Fits}
use Rattle.access_paths.specs.declared.term.Family.{Family}
use Rattle.method_abstraction.specs.{IsExactClause, IsExactUpdate}
use Rattle.method_abstraction.specs.declared.entry.Disjunct.{Disjunct}
use Rattle.method_abstraction.specs.declared.entry.Disjunct.TheVariants as disjunct
use Rattle.derivation.specs.Replies.{ClauseReplies, UpdateReplies}
use Rattle.derivation.specs.declared.reply.Predicate.{Predicate}
use Rattle.derivation.specs.declared.reply.Predicate.TheVariants.{Always, Of}
use Rattle.derivation.specs.declared.reply.Reply.{Reply}

-- the predicate with the number of its family among these
abbrev pub IsNumbered : List Family → Predicate → Disjunct → Type 0
IsNumbered families Always disjunct.Always = Unit {0}
IsNumbered families Always (disjunct.Of number vars) = ⊥
IsNumbered families (Of i) disjunct.Always = ⊥
IsNumbered families (Of i) (disjunct.Of number vars) = (slice_get families number ≡ Some i.family) × (vars ≡ i.args)

abbrev pub ClauseRepliesAreExact : Type 0
ClauseRepliesAreExact = (form : Form) (m : Method) (clause : Condition) (r : Reply) (families : List Family) (ds : List Disjunct)
    → ClauseReplies form m clause (Ok r) → AllZip (IsNumbered families) r.disjuncts ds → IsExactClause form families m clause ds

abbrev pub UpdateRepliesAreExact : Type 0
UpdateRepliesAreExact = (form : Form) (n : ℕ) (m : Method) (family : Family) (results : ℕ) (r : Reply) (families : List Family) (ds : List Disjunct)
    → IsChecked form → slice_get form.methods n ≡ Some m → Fits form family → UpdateReplies form m family results (Ok r)
    → AllZip (IsNumbered families) r.disjuncts ds → IsExactUpdate form families n m results family ds
