-- A text has one answer also where the tree that it spells has something beyond a limit.
use Rattle.std.proofs.Common.{◌≡◌, ◌≢◌, ℕ, Bool, true, false, List, [], ◌∷◌, ◌⊎◌, inl, inr, Ok, Err, Result, Option, Some, None, refl, sym, ◌∙◌, ap, subst}
use Rattle.std.specs.Prelude.{if◌then◌else◌}
use Rattle.cv_lex.specs.declared.fault.TextFault.{TextFault}
use Rattle.cv_lex.specs.declared.fault.TextFault.TheVariants.{NotUtf8, BadToken, Syntax, Limit, Memory}
use Rattle.cv_read.specs.Answers as read
use Rattle.easl_model.specs.{IsSpec, IsWithinLimits, earlier, excess_of, first_excess}
use Rattle.easl_model.specs.TreeLimits.{comes_before}
use Rattle.easl_model.specs.declared.fault.Excess.{Excess}
use Rattle.easl_model.specs.declared.tree.Spec.{Spec}
use Rattle.easl_parser.specs.Answers.{SpecAnswers, OneAnswer}
use Rattle.easl_parser.specs.Tallies.{first_from}
use Rattle.easl_parser.proofs.Theorems.{one_spelled}

-- what was found stays found
still : (o : Option Excess) (x : Excess) → earlier comes_before o x ≢ None
still None x = λ e. cc
still (Some y) x = by (comes_before x y)
  where
    by : (b : Bool) → (if b then Some x else Some y) ≢ None
    by true = λ e. cc
    by false = λ e. cc

stays : (o : Option Excess) (xs : List Excess) → o ≢ None → first_from o xs ≢ None
stays o [] some = some
stays o (x ∷ xs) some = stays (earlier comes_before o x) xs (still o x)

none_first : (xs : List Excess) → first_from None xs ≡ None → xs ≡ []
none_first [] e = refl
none_first (x ∷ xs) e = absurd (stays (Some x) xs (λ h. cc) e)

-- from the tree to the answer
pub within_answers : (text : List ℕ) (tree : Spec) → read.Answers IsSpec text (Ok tree) → first_excess tree ≡ None → SpecAnswers text (Ok tree)
within_answers text tree a e = (a, none_first (excess_of tree) e)

pub beyond_answers : (text : List ℕ) (tree : Spec) (x : Excess) → read.Answers IsSpec text (Ok tree) → first_excess tree ≡ Some x
    → SpecAnswers text (Err (Limit x.which x.place))
beyond_answers text tree x a e = inr (tree, a, e)

pub fault_stays : (text : List ℕ) (e : TextFault) → read.Answers IsSpec text (Err e) → SpecAnswers text (Err e)
fault_stays text (Limit which place) a = inl a
fault_stays text (Syntax place) a = a
fault_stays text Memory a = a
fault_stays text (NotUtf8 place) a = a
fault_stays text (BadToken place) a = a

-- an answer is of the text alone, or of a tree with something beyond the limits
abbrev Keeps : Result Spec TextFault → Type 0
Keeps (Ok tree) = IsWithinLimits tree
Keeps (Err e) = Unit {0}

abbrev Spelled : List ℕ → Result Spec TextFault → Type 0
Spelled text r = read.Answers IsSpec text r × Keeps r

abbrev Beyond : List ℕ → Result Spec TextFault → Type 0
Beyond text r = (tree : Spec) × (x : Excess) × read.Answers IsSpec text (Ok tree) × (first_excess tree ≡ Some x) × (r ≡ Err (Limit x.which x.place))

ways : (text : List ℕ) (r : Result Spec TextFault) → SpecAnswers text r → Spelled text r ⊎ Beyond text r
ways text (Ok tree) a = inl a
ways text (Err (Limit which place)) (inl a) = inl (a, tt)
ways text (Err (Limit which place)) (inr a) = inr (a.0, record { which = which; place = place }, a.1, a.2, refl)
ways text (Err (Syntax place)) a = inl (a, tt)
ways text (Err Memory) a = inl (a, tt)
ways text (Err (NotUtf8 place)) a = inl (a, tt)
ways text (Err (BadToken place)) a = inl (a, tt)

-- a tree has its first excess, or keeps the limits
not_both : (text : List ℕ) (r s : Result Spec TextFault) → r ≢ Err Memory → Spelled text r → Beyond text s → ⊥
not_both text r s p a b =
    let same : r ≡ Ok b.0 = one_spelled text r (Ok b.0) p (λ e. cc) a.0 b.2 in
    let within : IsWithinLimits b.0 = subst Keeps same a.1 in
    let none : first_excess b.0 ≡ None = ap (first_from None) within in
    let e : None ≡ Some b.1 = sym none ∙ b.3 in
    cc

some_same : (x y : Excess) → ◌≡◌ {A = Option Excess} (Some x) (Some y) → x ≡ y
some_same x y e = cc

ok_same : (t u : Spec) → ◌≡◌ {A = Result Spec TextFault} (Ok t) (Ok u) → t ≡ u
ok_same t u e = cc

pub one_answer : OneAnswer
one_answer text r s p q a b = by (ways text r a) (ways text s b)
  where
    by : Spelled text r ⊎ Beyond text r → Spelled text s ⊎ Beyond text s → r ≡ s
    by (inl u) (inl v) = one_spelled text r s p q u.0 v.0
    by (inl u) (inr v) = absurd (not_both text r s p u v)
    by (inr u) (inl v) = absurd (not_both text s r q v u)
    by (inr u) (inr v) =
        let tree : u.0 ≡ v.0 = ok_same u.0 v.0 (one_spelled text (Ok u.0) (Ok v.0) (λ e. cc) (λ e. cc) u.2 v.2) in
        let first : u.1 ≡ v.1 = some_same u.1 v.1 (sym u.3 ∙ ap first_excess tree ∙ v.3) in
        u.4 ∙ ap (λ (x : Excess). let y : Result Spec TextFault = Err (Limit x.which x.place) in y) first ∙ sym v.4
