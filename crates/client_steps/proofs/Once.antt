-- No run comes to two outcomes: by induction on the one, each of whose rules the other has to follow too.
use Rattle.std.proofs.Common.{◌≡◌, ℕ, refl, sym, ap, subst, ◌∙◌}
use Rattle.std.specs.Prelude.{Option}
use Rattle.client_model.specs.CheckedForm.{ClientForm}
use Rattle.client_model.specs.Nodes.{Tree, Trees, While}
use Rattle.client_steps.specs.Laws.{RunsOnce}
use Rattle.client_steps.specs.Runs.{Begun, Behind, Branches, Called, Loops, Moment, Result, Runs, RunsAll, Steps, Tested, Turn, Turns, around, behind_call}
use Rattle.client_steps.specs.Runs.{branches, breaks, calls, continues, enters, goes_on, inside, leaves, loops, no_more, on_false, on_true, out, outcome_of}
use Rattle.client_steps.specs.Runs.{past, plain, returns, row, step, turn_of, unpaid, untaken, untried}
use Rattle.client_steps.specs.States.{Call}
use Rattle.easl_model.specs.Form.{Form}

module _ (form : Form) (client : ClientForm) where
  mutual
    only : (p : ℕ) (x : Tree) (m : Moment) (r e : Result) → Runs form client p x m r → Runs form client p x m e → r ≡ e
    only p x m r e (step q number n s one) (step q2 number2 n2 s2 two) = only_step q number _ n s e one two
    only p x m r e (breaks q number n s one) (breaks q2 number2 n2 s2 two) = one ∙ sym two
    only p x m r e (continues q number n s one) (continues q2 number2 n2 s2 two) = one ∙ sym two
    only p x m r e (returns q number n s one) (returns q2 number2 n2 s2 two) = one ∙ sym two
    only p x m r e (branches q number first second n s one) (branches q2 number2 first2 second2 n2 s2 two) = only_branch q first second _ s e one two
    only p x m r e (loops q number inner n s one) (loops q2 number2 inner2 n2 s2 two) = only_loop q number inner _ s e one two

    only_step : (p number : ℕ) (k : Option Call) (m : Moment) (r e : Result) → Steps form client p number k m r →
        Steps form client p number k m e → r ≡ e
    only_step p number k m r e (plain q number1 n s one) (plain q2 number2 n2 s2 two) = one ∙ sym two
    only_step p number k m r e (calls q number1 l n s t one is) (calls q2 number2 l2 n2 s2 t2 two is2) =
        let same : s ≡ s2 = only_called l _ s s2 one two in
        is ∙ (ap (behind_call l n.state) same ∙ sym is2)

    only_called : (k : Call) (b : Begun) (r e : Result) → Called form client k b r → Called form client k b e → r ≡ e
    only_called k b r e (enters l n s one) (enters l2 n2 s2 two) = only_all _ _ _ s e one two
    only_called k b r e (unpaid l o) (unpaid l2 o2) = refl

    only_branch : (p : ℕ) (first second : Trees) (t : Tested) (r e : Result) → Branches form client p first second t r →
        Branches form client p first second t e → r ≡ e
    only_branch p first second t r e (on_true q f1 s1 n s one) (on_true q2 f2 s2 n2 t2 two) = only_all q f1 n s e one two
    only_branch p first second t r e (on_false q f1 s1 n s one) (on_false q2 f2 s2 n2 t2 two) = only_all q s1 n s e one two
    only_branch p first second t r e (untaken q f1 s1 o) (untaken q2 f2 s2 o2) = refl

    only_loop : (p number : ℕ) (inner : Trees) (t : Tested) (r e : Result) → Loops form client p number inner t r →
        Loops form client p number inner t e → r ≡ e
    only_loop p number inner t r e (inside q number1 i1 n s u one turns) (inside q2 number2 i2 n2 s2 u2 two turns2) =
        let same : s2 ≡ s = sym (only_all q i1 n s s2 one two) in
        only_turn q number1 i1 (turn_of s) u e turns (subst (λ a. Turns form client q number1 i1 (turn_of a) e) same turns2)
    only_loop p number inner t r e (past q number1 i1 n) (past q2 number2 i2 n2) = refl
    only_loop p number inner t r e (untried q number1 i1 o) (untried q2 number2 i2 o2) = refl

    only_turn : (p number : ℕ) (inner : Trees) (t : Turn) (r e : Result) → Turns form client p number inner t r →
        Turns form client p number inner t e → r ≡ e
    only_turn p number inner t r e (around q number1 i1 n s one) (around q2 number2 i2 n2 s2 two) = only q (While number1 i1) n s e one two
    only_turn p number inner t r e (out q number1 i1 s) (out q2 number2 i2 s2) = refl

    only_all : (p : ℕ) (xs : Trees) (m : Moment) (r e : Result) → RunsAll form client p xs m r → RunsAll form client p xs m e → r ≡ e
    only_all p xs m r e (no_more q n) (no_more q2 n2) = refl
    only_all p xs m r e (row q y ys n s t one rest) (row q2 y2 ys2 n2 s2 t2 two rest2) =
        let same : s2 ≡ s = sym (only q y n s s2 one two) in
        only_behind q ys s t e rest (subst (λ a. Behind form client q ys a e) same rest2)

    only_behind : (p : ℕ) (xs : Trees) (b r e : Result) → Behind form client p xs b r → Behind form client p xs b e → r ≡ e
    only_behind p xs b r e (goes_on q ys n s one) (goes_on q2 ys2 n2 s2 two) = only_all q ys n s e one two
    only_behind p xs b r e (leaves q ys way) (leaves q2 ys2 way2) = refl

pub runs_once : RunsOnce
runs_once form client choices budget o p one two =
    let same : one.result ≡ two.result = only_all form client 0 _ _ one.result two.result one.runs two.runs in
    one.comes_to ∙ (ap outcome_of same ∙ sym two.comes_to)
