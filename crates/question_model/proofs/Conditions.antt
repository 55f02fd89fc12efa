-- A condition that is read on symbolic values is true where it is in the heap.
use Rattle.std.proofs.Common.{◌≡◌, ℕ, ◌&&◌, ◌||◌, Bool, true, false, not, if◌then◌else◌, List, Option, ap, sym, ◌∙◌}
use Rattle.easl_model.specs.{Condition}
use Rattle.easl_model.specs.Conditions.{Conditions, Same, Differ, All, Any, none, ◌▸◌}
use Rattle.easl_model.specs.Form.{Form}
use Rattle.easl_heap.specs.Clause as clauses
use Rattle.easl_heap.specs.{Object}
use Rattle.question_model.specs.{Done, State, all_hold, any_holds, compared, holds}
use Rattle.question_model.specs.Stage.{Stage}
use Rattle.question_model.specs.declared.answer.Answer.{Answer}
use Rattle.question_model.proofs.Asking.{Agree, bound}
use Rattle.question_model.proofs.Following.{Follows, compared_so}
use Rattle.question_model.proofs.Meaning.{Start}

-- one condition after another
all_on : (s b one rest : Bool) (later : Stage Bool) → s ≡ one → (later ≡ Done b → b ≡ rest)
    → (if s then later else Done false) ≡ Done b → b ≡ (one && rest)
all_on true b true rest later so others done = others done
all_on true b false rest later so others done = absurd (cc)
all_on false b true rest later so others done = absurd (cc)
all_on false b false rest later so others done = let no : false ≡ b = cc in sym no

any_on : (s b one rest : Bool) (later : Stage Bool) → s ≡ one → (later ≡ Done b → b ≡ rest)
    → (if s then Done true else later) ≡ Done b → b ≡ (one || rest)
any_on true b true rest later so others done = let yes : true ≡ b = cc in sym yes
any_on true b false rest later so others done = absurd (cc)
any_on false b true rest later so others done = absurd (cc)
any_on false b false rest later so others done = others done

module _ (form : Form) (variables : List (Option ℕ)) (before : List Object) (objects : List ℕ) (start : Start form variables before objects)
    (most : Option ℕ) (answers : List Answer) (agree : Agree before objects answers)
    (s : State) (heap : List Object) (slots : List ℕ) (f : Follows form variables before objects s heap slots) where
  mutual
    pub holds_so : (c : Condition) (b : Bool) → holds form most answers s c ≡ Done b → b ≡ clauses.holds heap slots c
    holds_so (Same left right) b done = compared_so form variables before objects start most answers agree s heap slots f left right b done
    holds_so (Differ left right) b done =
        let two = bound (compared form most answers s left right) (λ same. Done (not same)) b done in
        let so : not two.0 ≡ b = let e = two.2 in cc in
        sym so ∙ ap not (compared_so form variables before objects start most answers agree s heap slots f left right two.0 two.1)
    holds_so (All cs) b done = all_so cs b done
    holds_so (Any cs) b done = any_so cs b done

    all_so : (cs : Conditions) (b : Bool) → all_hold form most answers s cs ≡ Done b → b ≡ clauses.all_hold heap slots cs
    all_so none b done = let yes : true ≡ b = cc in sym yes
    all_so (c ▸ cs) b done =
        let two = bound (holds form most answers s c) (λ x. if x then all_hold form most answers s cs else Done false) b done in
        all_on two.0 b (clauses.holds heap slots c) (clauses.all_hold heap slots cs) (all_hold form most answers s cs)
        (holds_so c two.0 two.1) (all_so cs b) two.2

    any_so : (cs : Conditions) (b : Bool) → any_holds form most answers s cs ≡ Done b → b ≡ clauses.any_holds heap slots cs
    any_so none b done = let no : false ≡ b = cc in sym no
    any_so (c ▸ cs) b done =
        let two = bound (holds form most answers s c) (λ x. if x then Done true else any_holds form most answers s cs) b done in
        any_on two.0 b (clauses.holds heap slots c) (clauses.any_holds heap slots cs) (any_holds form most answers s cs)
        (holds_so c two.0 two.1) (any_so cs b) two.2
