-- In a body that breaks no rule it is nowhere that everything is assigned.
use Rattle.std.proofs.Common.{◌≡◌, ◌⊎◌, ℕ, Bool, true, false, not, ◌||◌, List, [], ◌∷◌, ◌++◌, refl, sym, ◌∙◌, inl, inr, subst}
use Rattle.std.specs.Prelude.{Option, Some, None, IfSome, filter_map, flat_map, fold, if◌then◌else◌, is_some}
use Rattle.std.specs.List.{cons_option, list_any}
use Rattle.std.specs.Option.{option_map_or}
use Rattle.std.proofs.lemmas.Bool.{and_parts}
use Rattle.std.proofs.lemmas.Grind.{flat_map-append}
use Rattle.std.proofs.lemmas.List.Folds.{list_any-append}
use Rattle.client_model.proofs.Kept.{false-not, or_left, or_right}
use Rattle.client_model.proofs.Wholes.{looped_by, not_empty}
use Rattle.client_model.specs.Bodies.{Body, all_in, end_of}
use Rattle.client_model.specs.BodyFaults.{faults_at, faults_of_statement, unreachable}
use Rattle.client_model.specs.Contexts.{Assigned, Context, Everything, Situated, These, after, after_all, behind_block, counting, ends_going_on}
use Rattle.client_model.specs.Contexts.{entered, evaluated, goes_on, looping, meet, situated, situated_in, value_of_test, with_code}
use Rattle.client_model.specs.Faults.{Unreachable, broken_if, fault}
use Rattle.client_model.specs.Points.{assigned_at_exit, at_return}
use Rattle.client_model.specs.SetNumbers.{AllThese, AreThese, NothingIsEverything}
use Rattle.client_model.specs.Settings.{Setting, Variable, variable_named}
use Rattle.client_model.specs.Statements.{Statement, Statements, Declare, Assign, Do, If, While, Break, Continue, Return, none, ◌▸◌}
use Rattle.client_model.specs.Trees.{place_of}
use Rattle.easl_model.proofs.None.{none_of_both}
use Rattle.easl_model.specs.declared.place.Place.{Place}

abbrev at : Setting → Context → Statement → Situated
at s c x = record { setting = s; context = c; statement = x }

abbrev Free : List Situated → Type 0
Free zs = flat_map faults_at zs ≡ []

free_both : (xs ys : List Situated) → Free (xs ++ ys) → Free xs × Free ys
free_both xs ys free = none_of_both (flat_map faults_at xs) (flat_map faults_at ys) (sym (flat_map-append faults_at xs ys) ∙ free)

free_first : (x : Situated) (xs : List Situated) → Free (x ∷ xs) → (faults_at x ≡ []) × Free xs
free_first x xs free = none_of_both (faults_at x) (flat_map faults_at xs) free

own_parts : (s : Setting) (c : Context) (x : Statement) → faults_at (at s c x) ≡ [] → (unreachable c x ≡ []) × (faults_of_statement s c x ≡ [])
own_parts s c x free = none_of_both (unreachable c x) (faults_of_statement s c x) free

these_both : (xs ys : List Situated) → AllThese xs → AllThese ys → AllThese (xs ++ ys)
these_both [] ys left right = right
these_both (x ∷ xs) ys left right = (left.0, these_both xs ys left.1 right)

-- what is assigned behind a step

with_these : (code : ℕ) (a : Assigned) → AreThese a → AreThese (with_code code a)
with_these code (These codes) these = tt
with_these code Everything these = these

named_these : (o : Option Variable) (a : Assigned) → AreThese a → AreThese (option_map_or (λ v. with_code v.code a) o a)
named_these None a these = these
named_these (Some v) a these = with_these v.code a these

meets_all : (a : Assigned) → AreThese a → AreThese (meet a Everything)
meets_all (These codes) these = tt
meets_all Everything these = these

meets : (a b : Assigned) → AreThese b → AreThese (meet a b)
meets (These xs) (These ys) these = tt
meets (These xs) Everything these = tt
meets Everything b these = these

both_blocks : (first second : Bool) (a b : Assigned) → (first ≡ true → AreThese a) → (second ≡ true → AreThese b) → (first || second) ≡ true →
    AreThese (meet (if first then a else Everything) (if second then b else Everything))
both_blocks true true a b left right on = meets a b (right refl)
both_blocks true false a b left right on = meets_all a (left refl)
both_blocks false true a b left right on = right refl
both_blocks false false a b left right on = absurd (false-not on)

reached_by : (reached : Bool) (place : Place) → broken_if (not reached) Unreachable place ≡ [] → reached ≡ true
reached_by true place h = refl
reached_by false place h = absurd (not_empty (fault Unreachable place) [] h)

-- what is reached stands behind statements that go on
goes_by : (s : Setting) (c : Context) (x : Statement) → (after s c x).reached ≡ true → goes_on x ≡ true
goes_by s c (Declare place sort w v) h = refl
goes_by s c (Assign w v) h = refl
goes_by s c (Do v) h = refl
goes_by s c (If place t first second has_else) h = (and_parts c.reached (ends_going_on first || ends_going_on second) h).1
goes_by s c (While place t inner) h = refl
goes_by s c (Break place) h = absurd (false-not h)
goes_by s c (Continue place) h = absurd (false-not h)
goes_by s c (Return r) h = absurd (false-not h)

mutual
  in_one : (s : Setting) (c : Context) (x : Statement) → AreThese c.assigned → Free (situated_in s c x) →
      AllThese (situated_in s c x) × (goes_on x ≡ true → AreThese (after s c x).assigned)
  in_one s c (Declare place sort w None) these free = (tt, λ goes. these)
  in_one s c (Declare place sort w (Some v)) these free = (tt, λ goes. with_these _ c.assigned these)
  in_one s c (Assign w v) these free = (tt, λ goes. named_these (variable_named s c.scope w.name) c.assigned these)
  in_one s c (Do v) these free = (tt, λ goes. these)
  in_one s c (If place t first second has_else) these free =
      let start : Context = evaluated (value_of_test t) c in
      let one : Context = after_all s (entered start) first in
      let next : Context = entered (counting start one) in
      let other : Context = after_all s next second in
      let parts : Free (situated s (entered start) first) × Free (situated s next second) =
      free_both (situated s (entered start) first) (situated s next second) free in
      let left = in_all s (entered start) first these parts.0 in
      let right = in_all s next second these parts.1 in (
        these_both (situated s (entered start) first) (situated s next second) left.0 right.0,
        both_blocks (ends_going_on first) (ends_going_on second) one.assigned other.assigned left.1 right.1,
      )
  in_one s c (While place t inner) these free = ((in_all s (looping (evaluated (value_of_test t) c)) inner these free).0, λ goes. these)
  in_one s c (Break place) these free = (tt, λ goes. these)
  in_one s c (Continue place) these free = (tt, λ goes. these)
  in_one s c (Return r) these free = (tt, λ goes. these)

  in_all : (s : Setting) (c : Context) (xs : Statements) → AreThese c.assigned → Free (situated s c xs) →
      AllThese (situated s c xs) × (ends_going_on xs ≡ true → AreThese (after_all s c xs).assigned)
  in_all s c none these free = (tt, λ goes. these)
  in_all s c (x ▸ none) these free =
      let rest : Free (situated_in s c x ++ []) = (free_first (at s c x) (situated_in s c x ++ []) free).1 in
      let inner = in_one s c x these (free_both (situated_in s c x) [] rest).0 in ((these, these_both (situated_in s c x) [] inner.0 tt), inner.1)
  in_all s c (x ▸ y ▸ ys) these free =
      let behind : Context = after s c x in
      let others : List Situated = situated_in s behind y ++ situated s (after s behind y) ys in
      let rest : Free (situated_in s c x ++ situated s behind (y ▸ ys)) = (free_first (at s c x) (situated_in s c x ++ situated s behind (y ▸ ys)) free).1 in
      let parts : Free (situated_in s c x) × Free (situated s behind (y ▸ ys)) = free_both (situated_in s c x) (situated s behind (y ▸ ys)) rest in
      let inner = in_one s c x these parts.0 in
      let here : faults_at (at s behind y) ≡ [] = (free_first (at s behind y) others parts.1).0 in
      let reached : behind.reached ≡ true = reached_by behind.reached (place_of y) (own_parts s behind y here).0 in
      let last = in_all s behind (y ▸ ys) (inner.1 (goes_by s c x reached)) parts.1 in (
        (these, these_both (situated_in s c x) (situated s behind (y ▸ ys)) inner.0 last.0),
        last.1,
      )

-- statements that do not go on, and that no `while` holds, have a `return`

abbrev is_return : Situated → Bool
is_return z = is_some (at_return z)

abbrev Has : List Situated → Type 0
Has zs = list_any is_return zs ≡ true

or_false : (x y : Bool) → (x || y) ≡ false → x ≡ false
or_false true y h = absurd (false-not (sym h))
or_false false y h = refl

has_left : (xs ys : List Situated) → Has xs → Has (xs ++ ys)
has_left xs ys has = list_any-append is_return xs ys ∙ or_left (list_any is_return xs) (list_any is_return ys) has

has_right : (xs ys : List Situated) → Has ys → Has (xs ++ ys)
has_right xs ys has = list_any-append is_return xs ys ∙ or_right (list_any is_return xs) (list_any is_return ys) has

not_both : (b : Bool) → b ≡ false → b ≡ true → ⊥
not_both b fails holds = false-not (sym fails ∙ holds)

same_loop : (s : Setting) (c : Context) (x : Statement) → (after s c x).looped ≡ c.looped
same_loop s c (Declare place sort w None) = refl
same_loop s c (Declare place sort w (Some v)) = refl
same_loop s c (Assign w v) = refl
same_loop s c (Do v) = refl
same_loop s c (If place t first second has_else) = refl
same_loop s c (While place t inner) = refl
same_loop s c (Break place) = refl
same_loop s c (Continue place) = refl
same_loop s c (Return r) = refl

mutual
  one_returns : (s : Setting) (c : Context) (x : Statement) → c.looped ≡ false → Free (at s c x ∷ situated_in s c x) → goes_on x ≡ false →
      Has (at s c x ∷ situated_in s c x)
  one_returns s c (Declare place sort w v) outside free stops = absurd (false-not (sym stops))
  one_returns s c (Assign w v) outside free stops = absurd (false-not (sym stops))
  one_returns s c (Do v) outside free stops = absurd (false-not (sym stops))
  one_returns s c (If place t first second has_else) outside free stops =
      let start : Context = evaluated (value_of_test t) c in
      let next : Context = entered (counting start (after_all s (entered start) first)) in
      let held : Free (situated s (entered start) first ++ situated s next second) =
      (free_first (at s c (If place t first second has_else)) (situated s (entered start) first ++ situated s next second) free).1 in
      let parts : Free (situated s (entered start) first) × Free (situated s next second) =
      free_both (situated s (entered start) first) (situated s next second) held in
      has_left (situated s (entered start) first) (situated s next second) (all_return s (entered start) first outside parts.0
      (or_false (ends_going_on first) (ends_going_on second) stops))
  one_returns s c (While place t inner) outside free stops = absurd (false-not (sym stops))
  one_returns s c (Break place) outside free stops =
      let own : faults_at (at s c (Break place)) ≡ [] = (free_first (at s c (Break place)) [] free).0 in
      absurd (not_both c.looped outside (looped_by c.looped place (own_parts s c (Break place) own).1))
  one_returns s c (Continue place) outside free stops =
      let own : faults_at (at s c (Continue place)) ≡ [] = (free_first (at s c (Continue place)) [] free).0 in
      absurd (not_both c.looped outside (looped_by c.looped place (own_parts s c (Continue place) own).1))
  one_returns s c (Return r) outside free stops = refl

  all_return : (s : Setting) (c : Context) (xs : Statements) → c.looped ≡ false → Free (situated s c xs) → ends_going_on xs ≡ false → Has (situated s c xs)
  all_return s c none outside free stops = absurd (false-not (sym stops))
  all_return s c (x ▸ none) outside free stops =
      let parts : Free (at s c x ∷ situated_in s c x) × Free [] = free_both (at s c x ∷ situated_in s c x) [] free in
      has_left (at s c x ∷ situated_in s c x) [] (one_returns s c x outside parts.0 stops)
  all_return s c (x ▸ y ▸ ys) outside free stops =
      let rest : List Situated = situated s (after s c x) (y ▸ ys) in
      let parts : Free (at s c x ∷ situated_in s c x) × Free rest = free_both (at s c x ∷ situated_in s c x) rest free in
      has_right (at s c x ∷ situated_in s c x) rest (all_return s (after s c x) (y ▸ ys) (same_loop s c x ∙ outside) parts.1 stops)

-- at the exit

left_these : (z : Situated) → AreThese z.context.assigned → IfSome (at_return z) AreThese
left_these z these = by z.statement
  where
    by : (x : Statement) → IfSome (at_return (at z.setting z.context x)) AreThese
    by (Declare place sort w v) = tt
    by (Assign w v) = tt
    by (Do v) = tt
    by (If place t first second has_else) = tt
    by (While place t inner) = tt
    by (Break place) = tt
    by (Continue place) = tt
    by (Return r) = these

abbrev Folds : List Situated → Type 0
Folds zs = (from : Assigned) → AreThese from ⊎ Has zs → AreThese (fold meet from (filter_map at_return zs))

fold_by : (zs : List Situated) (o : Option Assigned) → IfSome o AreThese → Folds zs → (from : Assigned) →
    AreThese from ⊎ ((is_some o || list_any is_return zs) ≡ true) → AreThese (fold meet from (cons_option o (filter_map at_return zs)))
fold_by zs None these rest from which = rest from which
fold_by zs (Some x) these rest from which = rest (meet from x) (inl (meets from x these))

fold_these : (zs : List Situated) → AllThese zs → Folds zs
fold_these [] all from (inl these) = these
fold_these [] all from (inr has) = absurd (false-not has)
fold_these (z ∷ zs) all from which = fold_by zs (at_return z) (left_these z all.0) (fold_these zs all.1) from which

pub nothing_is_everything : NothingIsEverything
nothing_is_everything b whole these free =
    let inner = in_all b.setting b.start b.statements these free in
    record { points = inner.0; exit = by (ends_going_on b.statements) refl inner.0 inner.1 }
  where
    by : (on : Bool) → ends_going_on b.statements ≡ on → AllThese (all_in b) → (ends_going_on b.statements ≡ true → AreThese (end_of b).assigned) →
        AreThese (assigned_at_exit b)
    by true is points behind =
        fold_these (all_in b) points (behind_block b.statements (end_of b)) (inl (subst (λ on. AreThese (if on then (end_of b).assigned else Everything))
        (sym is) (behind is)))
    by false is points behind =
        fold_these (all_in b) points (behind_block b.statements (end_of b)) (inr (all_return b.setting b.start b.statements whole.free free is))

-- and so where the body goes on at its end
pub end_has_names : (b : Body) → AreThese b.start.assigned → flat_map faults_at (all_in b) ≡ [] → ends_going_on b.statements ≡ true →
    AreThese (end_of b).assigned
end_has_names b these free = (in_all b.setting b.start b.statements these free).1
