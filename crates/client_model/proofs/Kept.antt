-- Names that are set behind a step were set before it, or the step sets them.
use Rattle.std.proofs.Common.{◌≡◌, ◌⊎◌, ℕ, Bool, true, false, ◌&&◌, ◌||◌, List, [], ◌∷◌, ◌++◌, refl, sym, ap, ◌∙◌, inl, inr, subst}
use Rattle.std.specs.Prelude.{Option, Some, None, IfSome, ◌==◌, filter_map, fold, if◌then◌else◌, option_map}
use Rattle.std.specs.List.{cons_option, list_any}
use Rattle.std.specs.Option.{option_map_or}
use Rattle.std.proofs.lemmas.Bool.{and_parts, eqb-true, or_cases}
use Rattle.std.proofs.lemmas.Map.Views.{any-filter_same}
use Rattle.client_model.specs.Bodies.{all_in, end_of}
use Rattle.client_model.specs.Codes.{variable_code}
use Rattle.client_model.specs.Contexts.{Assigned, Context, Everything, Situated, These, after, after_all, behind_block, counting, ends_going_on}
use Rattle.client_model.specs.Contexts.{entered, evaluated, goes_on, has, looping, meet, situated, situated_in, value_of_test, with_code}
use Rattle.client_model.specs.Kept.{Behind, BodiesKeepNames, KeepAll, Keeps, Within, first_assigned, in_loop}
use Rattle.client_model.specs.Points.{assigned_at_exit, at_return}
use Rattle.client_model.specs.Settings.{Setting, Variable, variable_named}
use Rattle.client_model.specs.Statements.{Statement, Statements, Declare, Assign, Do, If, While, Break, Continue, Return, none, ◌▸◌}

abbrev Tells : Bool → Type 0
Tells true = ⊥
Tells false = Unit {0}

pub false-not : false ≡ true → ⊥
false-not h = subst Tells h tt

pub or_left : (x y : Bool) → x ≡ true → (x || y) ≡ true
or_left true y h = refl
or_left false y h = absurd (false-not h)

pub or_right : (x y : Bool) → y ≡ true → (x || y) ≡ true
or_right true y h = refl
or_right false y h = h

and_true : (x : Bool) → x ≡ (x && true)
and_true true = refl
and_true false = refl

-- what both have

has_meet : (xs ys : Assigned) (code : ℕ) → has (meet xs ys) code ≡ (has ys code && has xs code)
has_meet (These xs) (These ys) code = any-filter_same (λ x. x == code) (has (These ys)) (has (These ys) code) (λ k is. ap (has (These ys))
    (eqb-true k code is)) xs
has_meet (These xs) Everything code = refl
has_meet Everything ys code = and_true (has ys code)

meet_parts : (xs ys : Assigned) (code : ℕ) → has (meet xs ys) code ≡ true → (has ys code ≡ true) × (has xs code ≡ true)
meet_parts xs ys code h = and_parts (has ys code) (has xs code) (sym (has_meet xs ys code) ∙ h)

both_true : (x y : Bool) → x ≡ true → y ≡ true → (x && y) ≡ true
both_true true y h k = k
both_true false y h k = h

pub meet_of : (xs ys : Assigned) (code : ℕ) → has xs code ≡ true → has ys code ≡ true → has (meet xs ys) code ≡ true
meet_of xs ys code h k = has_meet xs ys code ∙ both_true (has ys code) (has xs code) k h

-- one more

with_grows : (k : ℕ) (xs : Assigned) (code : ℕ) → has xs code ≡ true → has (with_code k xs) code ≡ true
with_grows k (These xs) code h = or_right (k == code) (list_any (λ x. x == code) xs) h
with_grows k Everything code h = refl

with_parts : (k : ℕ) (xs : Assigned) (code : ℕ) → has (with_code k xs) code ≡ true → (has xs code ≡ true) ⊎ (Some k ≡ Some code)
with_parts k (These xs) code h = either (or_cases (k == code) (list_any (λ x. x == code) xs) h)
  where
    either : ((k == code) ≡ true) ⊎ (list_any (λ x. x == code) xs ≡ true) → (list_any (λ x. x == code) xs ≡ true) ⊎ (Some k ≡ Some code)
    either (inl is) = inr (ap Some (eqb-true k code is))
    either (inr is) = inl is
with_parts k Everything code h = inl refl

named_grows : (o : Option Variable) (xs : Assigned) (code : ℕ) → has xs code ≡ true → has (option_map_or (λ v. with_code v.code xs) o xs) code ≡ true
named_grows None xs code h = h
named_grows (Some v) xs code h = with_grows v.code xs code h

named_parts : (o : Option Variable) (xs : Assigned) (code : ℕ) → has (option_map_or (λ v. with_code v.code xs) o xs) code ≡ true →
    (has xs code ≡ true) ⊎ (option_map (λ v. v.code) o ≡ Some code)
named_parts None xs code h = inl h
named_parts (Some v) xs code h = with_parts v.code xs code h

-- behind a block

pub block_grows : (so : Bool) (xs : Assigned) (code : ℕ) → has xs code ≡ true → has (if so then xs else Everything) code ≡ true
block_grows true xs code h = h
block_grows false xs code h = refl

block_has : (so : Bool) (xs : Assigned) (code : ℕ) → so ≡ true → has (if so then xs else Everything) code ≡ true → has xs code ≡ true
block_has so xs code is h = sym (ap (λ b. has (if b then xs else Everything) code) is) ∙ h

-- nothing is lost behind statements
mutual
  pub grows : (s : Setting) (c : Context) (x : Statement) → Within c.assigned (after s c x).assigned
  grows s c (Declare place sort w None) code h = h
  grows s c (Declare place sort w (Some v)) code h = with_grows (variable_code c.variables) c.assigned code h
  grows s c (Assign w v) code h = named_grows (variable_named s c.scope w.name) c.assigned code h
  grows s c (Do v) code h = h
  grows s c (If place t first second has_else) code h =
      let start : Context = evaluated (value_of_test t) c in
      let one : Context = after_all s (entered start) first in
      let other : Context = after_all s (entered (counting start one)) second in
      meet_of (behind_block first one) (behind_block second other) code (block_grows (ends_going_on first) one.assigned code (all_grow s
      (entered start) first code h)) (block_grows (ends_going_on second) other.assigned code (all_grow s (entered (counting start one)) second code h))
  grows s c (While place t inner) code h = h
  grows s c (Break place) code h = h
  grows s c (Continue place) code h = h
  grows s c (Return r) code h = h

  pub all_grow : (s : Setting) (c : Context) (xs : Statements) → Within c.assigned (after_all s c xs).assigned
  all_grow s c none code h = h
  all_grow s c (x ▸ xs) code h = all_grow s (after s c x) xs code (grows s c x code h)

-- what is assigned at the exit is assigned at each of these that is a `return`
abbrev Returning : Assigned → List Situated → Type 0
Returning exit [] = Unit {0}
Returning exit (z ∷ zs) = IfSome (at_return z) (Within exit) × Returning exit zs

split_returns : (exit : Assigned) (xs ys : List Situated) → Returning exit (xs ++ ys) → Returning exit xs × Returning exit ys
split_returns exit [] ys r = (tt, r)
split_returns exit (z ∷ zs) ys r = let rest = split_returns exit zs ys r.1 in ((r.0, rest.0), rest.1)

first_within : (s : Setting) (c : Context) (block : Statements) (on : Assigned) → (ends_going_on block ≡ true →
    Within on (after_all s c block).assigned) → Within (first_assigned c block on) c.assigned
first_within s c none on h = h refl
first_within s c (x ▸ xs) on h = λ code is. is

mutual
  keeps : (s : Setting) (c : Context) (x : Statement) (b : Behind) → (goes_on x ≡ true → Within b.on (after s c x).assigned) →
      Within b.broken c.assigned → Within b.again c.assigned →
      Returning b.exit (record { setting = s; context = c; statement = x } ∷ situated_in s c x) → Keeps s c x b
  keeps s c (Declare place sort w None) b on broken again exit = λ code h. inl (on refl code h)
  keeps s c (Declare place sort w (Some v)) b on broken again exit = λ code h. with_parts (variable_code c.variables) c.assigned code (on refl code h)
  keeps s c (Assign w v) b on broken again exit = λ code h. named_parts (variable_named s c.scope w.name) c.assigned code (on refl code h)
  keeps s c (Do v) b on broken again exit = on refl
  keeps s c (If place t first second has_else) b on broken again exit =
      let start : Context = evaluated (value_of_test t) c in
      let one : Context = after_all s (entered start) first in
      let next : Context = entered (counting start one) in
      let other : Context = after_all s next second in
      let returns : Returning b.exit (situated s (entered start) first) × Returning b.exit (situated s next second) =
      split_returns b.exit (situated s (entered start) first) (situated s next second) exit.1 in
      let here : ends_going_on first ≡ true → Within b.on one.assigned =
      λ goes code h. block_has (ends_going_on first) one.assigned code goes (meet_parts (behind_block first one) (behind_block second other) code
      (on (or_left (ends_going_on first) (ends_going_on second) goes) code h)).1 in
      let there : ends_going_on second ≡ true → Within b.on other.assigned =
      λ goes code h. block_has (ends_going_on second) other.assigned code goes (meet_parts (behind_block first one)
      (behind_block second other) code (on (or_right (ends_going_on first) (ends_going_on second) goes) code h)).0 in (
        first_within s (entered start) first b.on here,
        first_within s next second b.on there,
        all_keep s
            (entered start) first b here broken again returns.0,
        all_keep s next second b there broken again returns.1,
      )
  keeps s c (While place t inner) b on broken again exit =
      let start : Context = looping (evaluated (value_of_test t) c) in (
        first_within s start inner c.assigned (λ goes. all_grow s start inner),
        on refl,
        all_keep s start inner (in_loop c b)
            (λ goes. all_grow s start inner) (on refl) (λ code h. h) exit.1,
      )
  keeps s c (Break place) b on broken again exit = broken
  keeps s c (Continue place) b on broken again exit = again
  keeps s c (Return r) b on broken again exit = exit.0

  all_keep : (s : Setting) (c : Context) (xs : Statements) (b : Behind) → (ends_going_on xs ≡ true → Within b.on (after_all s c xs).assigned) →
      Within b.broken c.assigned → Within b.again c.assigned → Returning b.exit (situated s c xs) → KeepAll s c xs b
  all_keep s c none b on broken again exit = tt
  all_keep s c (x ▸ none) b on broken again exit =
      let returns : Returning b.exit (situated_in s c x) × Returning b.exit [] = split_returns b.exit (situated_in s c x) [] exit.1 in
      (keeps s c x b on broken again (exit.0, returns.0), tt)
  all_keep s c (x ▸ y ▸ ys) b on broken again exit =
      let returns : Returning b.exit (situated_in s c x) × Returning b.exit (situated s (after s c x) (y ▸ ys)) =
      split_returns b.exit (situated_in s c x) (situated s (after s c x) (y ▸ ys)) exit.1 in (
        keeps s c x (record b { on = (after s c x).assigned }) (λ goes code h. h) broken again (exit.0, returns.0),
        all_keep s (after s c x) (y ▸ ys) b on (λ code h. grows s c x code (broken code h)) (λ code h. grows s c x code (again code h)) returns.1,
      )

-- what is assigned at the exit

fold_within : (xs : List Assigned) (from : Assigned) → Within (fold meet from xs) from
fold_within [] from code h = h
fold_within (x ∷ xs) from code h = (meet_parts from x code (fold_within xs (meet from x) code h)).1

one_returns : (o : Option Assigned) (from : Assigned) (rest : List Assigned) → IfSome o (Within (fold meet from (cons_option o rest)))
one_returns None from rest = tt
one_returns (Some x) from rest = λ code h. (meet_parts from x code (fold_within rest (meet from x) code h)).0

more_return : (o : Option Assigned) (from : Assigned) (zs : List Situated) → ((a : Assigned) → Returning (fold meet a (filter_map at_return zs)) zs) →
    Returning (fold meet from (cons_option o (filter_map at_return zs))) zs
more_return None from zs rest = rest from
more_return (Some x) from zs rest = rest (meet from x)

all_return : (zs : List Situated) (from : Assigned) → Returning (fold meet from (filter_map at_return zs)) zs
all_return [] from = tt
all_return (z ∷ zs) from = (one_returns (at_return z) from (filter_map at_return zs), more_return (at_return z) from zs (all_return zs))

none_within : (here : Assigned) → Within (These []) here
none_within here code h = absurd (false-not h)

pub bodies_keep_names : BodiesKeepNames
bodies_keep_names b =
    let exit : Assigned = assigned_at_exit b in
    all_keep b.setting b.start b.statements (record { on = exit; broken = These []; again = These []; exit = exit })
    (λ goes code h. block_has (ends_going_on b.statements) (end_of b).assigned code goes (fold_within (filter_map at_return (all_in b))
    (behind_block b.statements (end_of b)) code h))
    (none_within b.start.assigned)
    (none_within b.start.assigned)
    (all_return (all_in b) (behind_block b.statements (end_of b)))
