-- A text has one answer also where the client that it spells has something beyond the limit.
use Rattle.std.proofs.Common.{◌≡◌, ◌≢◌, List, ℕ, ◌⊎◌, inl, inr, Ok, Err, Result, Option, Some, None, refl, sym, ◌∙◌, ap, subst}
use Rattle.std.specs.Prelude.{slice_get}
use Rattle.client_model.specs.Grammar.{IsClient}
use Rattle.client_model.specs.TreeLimits.{IsWithinLimits, excess_of, first_excess}
use Rattle.client_model.specs.declared.tree.Client.{Client}
use Rattle.cv_lex.specs.declared.fault.TextFault.{TextFault}
use Rattle.cv_lex.specs.declared.fault.TextFault.TheVariants.{NotUtf8, BadToken, Syntax, Limit, Memory}
use Rattle.cv_read.specs.Answers as read
use Rattle.easl_model.specs.declared.fault.Excess.{Excess}
use Rattle.client_parser.specs.Answers.{ClientAnswers, OneAnswer}
use Rattle.client_parser.proofs.Firsts.{none_first}
use Rattle.client_parser.proofs.Theorems.{one_spelled}

-- from the tree to the answer
pub within_answers : (text : List ℕ) (tree : Client) → read.Answers IsClient text (Ok tree) → first_excess tree ≡ None → ClientAnswers text (Ok tree)
within_answers text tree a e = (a, none_first (excess_of tree) e)

pub beyond_answers : (text : List ℕ) (tree : Client) (x : Excess) → read.Answers IsClient text (Ok tree) → first_excess tree ≡ Some x
    → ClientAnswers text (Err (Limit x.which x.place))
beyond_answers text tree x a e = inr (tree, a, e)

pub fault_stays : (text : List ℕ) (e : TextFault) → read.Answers IsClient text (Err e) → ClientAnswers text (Err e)
fault_stays text (Limit which place) a = inl a
fault_stays text (Syntax place) a = a
fault_stays text Memory a = a
fault_stays text (NotUtf8 place) a = a
fault_stays text (BadToken place) a = a

-- an answer is of the text alone, or of a tree with something beyond the limits
abbrev Keeps : Result Client TextFault → Type 0
Keeps (Ok tree) = IsWithinLimits tree
Keeps (Err e) = Unit {0}

abbrev Spelled : List ℕ → Result Client TextFault → Type 0
Spelled text r = read.Answers IsClient text r × Keeps r

abbrev Beyond : List ℕ → Result Client TextFault → Type 0
Beyond text r = (tree : Client) × (x : Excess) × read.Answers IsClient text (Ok tree) × (first_excess tree ≡ Some x) × (r ≡ Err (Limit x.which x.place))

ways : (text : List ℕ) (r : Result Client TextFault) → ClientAnswers text r → Spelled text r ⊎ Beyond text r
ways text (Ok tree) a = inl a
ways text (Err (Limit which place)) (inl a) = inl (a, tt)
ways text (Err (Limit which place)) (inr a) = inr (a.0, record { which = which; place = place }, a.1, a.2, refl)
ways text (Err (Syntax place)) a = inl (a, tt)
ways text (Err Memory) a = inl (a, tt)
ways text (Err (NotUtf8 place)) a = inl (a, tt)
ways text (Err (BadToken place)) a = inl (a, tt)

-- a tree has its first excess, or keeps the limits
not_both : (text : List ℕ) (r s : Result Client TextFault) → r ≢ Err Memory → Spelled text r → Beyond text s → ⊥
not_both text r s p a b =
    let same : r ≡ Ok b.0 = one_spelled text r (Ok b.0) p (λ e. cc) a.0 b.2 in
    let within : IsWithinLimits b.0 = subst Keeps same a.1 in
    let none : first_excess b.0 ≡ None = ap (λ xs. slice_get xs 0) within in
    let e : None ≡ Some b.1 = sym none ∙ b.3 in
    cc

some_same : (x y : Excess) → ◌≡◌ {A = Option Excess} (Some x) (Some y) → x ≡ y
some_same x y e = cc

ok_same : (t u : Client) → ◌≡◌ {A = Result Client TextFault} (Ok t) (Ok u) → t ≡ u
ok_same t u e = cc

pub one_answer : OneAnswer
one_answer text r s p q a b = by (ways text r a) (ways text s b)
  where
    by : Spelled text r ⊎ Beyond text r → Spelled text s ⊎ Beyond text s → r ≡ s
    by (inl u) (inl v) = one_spelled text r s p q u.0 v.0
    by (inl u) (inr v) = absurd (not_both text r s p u v)
    by (inr u) (inl v) = absurd (not_both text s r q v u)
    by (inr u) (inr v) =
        let tree : u.0 ≡ v.0 = ok_same u.0 v.0 (one_spelled text (Ok u.0) (Ok v.0) (λ e. cc) (λ e. cc) u.2 v.2) in
        let first : u.1 ≡ v.1 = some_same u.1 v.1 (sym u.3 ∙ ap first_excess tree ∙ v.3) in
        u.4 ∙ ap (λ (x : Excess). let y : Result Client TextFault = Err (Limit x.which x.place) in y) first ∙ sym v.4
