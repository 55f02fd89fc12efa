-- The names that are set are the statics and the variables that are set.
use Rattle.std.proofs.Common.{◌≡◌, ℕ, Bool, true, false, List, [], ◌∷◌, ◌++◌, refl, sym, ap, ◌∙◌, map, subst}
use Rattle.std.specs.Prelude.{Option, Some, None, IfSome, ◌==◌, cond, filter, filter_map, fold}
use Rattle.std.specs.List.{cons_option, list_any, range_with_len}
use Rattle.std.proofs.lemmas.Bool.{eq-eqb}
use Rattle.std.proofs.lemmas.List.Elements.{filter-append}
use Rattle.client_model.proofs.Kept.{all_grow, block_grows, grows, meet_of, or_left, or_right}
use Rattle.client_model.specs.Bodies.{all_in, at_entry, codes_of, end_of, params_from}
use Rattle.client_model.specs.Codes.{variable_code}
use Rattle.client_model.specs.Contexts.{Assigned, Context, Situated, These, after, after_all, behind_block, counting, ends_going_on, entered, evaluated}
use Rattle.client_model.specs.Contexts.{has, looping, meet, situated, situated_in, value_of_test}
use Rattle.client_model.specs.Kept.{Within}
use Rattle.client_model.specs.Points.{assigned_at_exit, at_return, names_set, set_at, set_at_exit}
use Rattle.client_model.specs.SetNumbers.{AreAssigned, SetsAreByNumber, names_by, variables_at, variables_at_exit, variables_set}
use Rattle.client_model.specs.Settings.{Setting, Variable}
use Rattle.easl_model.specs.declared.tree.Param.{Param}
use Rattle.client_model.specs.Statements.{Statement, Statements, Declare, Assign, Do, If, While, Break, Continue, Return, none, ◌▸◌}

-- by the codes

pub filter_mapped : (p : ℕ → Bool) (f : ℕ → ℕ) (xs : List ℕ) → filter p (map f xs) ≡ map f (filter (λ k. p (f k)) xs)
filter_mapped p f [] = refl
filter_mapped p f (x ∷ xs) = ap (λ ys. cond (p (f x)) (f x ∷ ys) ys) (filter_mapped p f xs) ∙ by (p (f x))
  where
    by : (b : Bool) → cond b (f x ∷ map f (filter (λ k. p (f k)) xs)) (map f (filter (λ k. p (f k)) xs)) ≡
        map f (cond b (x ∷ filter (λ k. p (f k)) xs) (filter (λ k. p (f k)) xs))
    by true = refl
    by false = refl

all_kept : (vs : List Variable) (a : Assigned) → AreAssigned vs a → filter (has a) (codes_of vs) ≡ codes_of vs
all_kept [] a are = refl
all_kept (v ∷ vs) a are =
    ap (λ b. cond b (v.code ∷ filter (has a) (codes_of vs)) (filter (has a) (codes_of vs))) are.0 ∙ ap (λ ks. v.code ∷ ks) (all_kept vs a are.1)

named_by : (s : Setting) (c : Context) → AreAssigned s.statics c.assigned → names_set s c ≡ names_by s.statics (variables_set c)
named_by s c are =
    let codes : List ℕ = map variable_code (range_with_len 0 c.variables) in
    filter-append (has c.assigned) (codes_of s.statics) codes
    ∙ ap (λ ks. ks ++ filter (has c.assigned) codes) (all_kept s.statics c.assigned are)
    ∙ ap (λ ks. codes_of s.statics ++ ks) (filter_mapped (has c.assigned) variable_code (range_with_len 0 c.variables))

pub still_assigned : (vs : List Variable) (a b : Assigned) → Within a b → AreAssigned vs a → AreAssigned vs b
still_assigned [] a b within are = tt
still_assigned (v ∷ vs) a b within are = (within v.code are.0, still_assigned vs a b within are.1)

-- what is assigned before statements is assigned at each

abbrev Behind : Setting → Assigned → List Situated → Type 0
Behind s a [] = Unit {0}
Behind s a (z ∷ zs) = (z.setting ≡ s) × Within a z.context.assigned × Behind s a zs

both_behind : (s : Setting) (a : Assigned) (xs ys : List Situated) → Behind s a xs → Behind s a ys → Behind s a (xs ++ ys)
both_behind s a [] ys left right = right
both_behind s a (x ∷ xs) ys left right = (left.0, left.1, both_behind s a xs ys left.2 right)

further : (s : Setting) (a b : Assigned) (zs : List Situated) → Within a b → Behind s b zs → Behind s a zs
further s a b [] within behind = tt
further s a b (z ∷ zs) within behind = (behind.0, λ code h. behind.1 code (within code h), further s a b zs within behind.2)

mutual
  behind_in : (s : Setting) (c : Context) (x : Statement) → Behind s c.assigned (situated_in s c x)
  behind_in s c (Declare place sort w v) = tt
  behind_in s c (Assign w v) = tt
  behind_in s c (Do v) = tt
  behind_in s c (If place t first second has_else) =
      let start : Context = evaluated (value_of_test t) c in
      let next : Context = entered (counting start (after_all s (entered start) first)) in
      both_behind s c.assigned (situated s (entered start) first) (situated s next second) (behind_all s (entered start) first) (behind_all s next second)
  behind_in s c (While place t inner) = behind_all s (looping (evaluated (value_of_test t) c)) inner
  behind_in s c (Break place) = tt
  behind_in s c (Continue place) = tt
  behind_in s c (Return r) = tt

  behind_all : (s : Setting) (c : Context) (xs : Statements) → Behind s c.assigned (situated s c xs)
  behind_all s c none = tt
  behind_all s c (x ▸ xs) = (
    refl,
    λ code h. h,
    both_behind s c.assigned (situated_in s c x) (situated s (after s c x) xs) (behind_in s c x)
        (further s c.assigned (after s c x).assigned (situated s (after s c x) xs) (grows s c x) (behind_all s (after s c x) xs)),
  )

points_by : (s : Setting) (a : Assigned) (zs : List Situated) → AreAssigned s.statics a → Behind s a zs →
    map set_at zs ≡ map (names_by s.statics) (map variables_at zs)
points_by s a [] are behind = refl
points_by s a (z ∷ zs) are behind =
    let here : AreAssigned z.setting.statics z.context.assigned =
    subst (λ t. AreAssigned t.statics z.context.assigned) (sym behind.0) (still_assigned s.statics a z.context.assigned behind.1 are) in
    ap (λ ks. ks ∷ map set_at zs) (named_by z.setting z.context here ∙ ap (λ (t : Setting). names_by t.statics (variables_at z)) behind.0)
    ∙ ap (λ ys. names_by s.statics (variables_at z) ∷ ys) (points_by s a zs are behind.2)

-- at the entry of a procedure all statics are assigned
all_among : (vs ws : List Variable) → AreAssigned vs (These (codes_of (vs ++ ws)))
all_among [] ws = tt
all_among (v ∷ vs) ws = (
  or_left (v.code == v.code) (list_any (λ x. x == v.code) (codes_of (vs ++ ws))) (eq-eqb v.code v.code refl),
  still_assigned vs (These (codes_of (vs ++ ws))) (These (v.code ∷ codes_of (vs ++ ws)))
      (λ code h. or_right (v.code == code) (list_any (λ x. x == code) (codes_of (vs ++ ws))) h) (all_among vs ws),
)

pub statics_at_entry : (s : Setting) (calls : ℕ) (params : List Param) → AreAssigned s.statics (at_entry s calls params).assigned
statics_at_entry s calls params = all_among s.statics (params_from s.form 0 params)

-- at the exit

left_within : (s : Setting) (a : Assigned) (z : Situated) → Within a z.context.assigned → IfSome (at_return z) (Within a)
left_within s a z within = by z.statement
  where
    by : (x : Statement) → IfSome (at_return (record { setting = z.setting; context = z.context; statement = x })) (Within a)
    by (Declare place sort w v) = tt
    by (Assign w v) = tt
    by (Do v) = tt
    by (If place t first second has_else) = tt
    by (While place t inner) = tt
    by (Break place) = tt
    by (Continue place) = tt
    by (Return r) = within

abbrev FoldsWithin : Assigned → List Situated → Type 0
FoldsWithin a zs = (from : Assigned) → Within a from → Within a (fold meet from (filter_map at_return zs))

fold_by : (a : Assigned) (zs : List Situated) (o : Option Assigned) → IfSome o (Within a) → FoldsWithin a zs → (from : Assigned) → Within a from →
    Within a (fold meet from (cons_option o (filter_map at_return zs)))
fold_by a zs None there rest from here = rest from here
fold_by a zs (Some x) there rest from here = rest (meet from x) (λ code h. meet_of from x code (here code h) (there code h))

fold_within : (s : Setting) (a : Assigned) (zs : List Situated) → Behind s a zs → FoldsWithin a zs
fold_within s a [] behind from here = here
fold_within s a (z ∷ zs) behind from here = fold_by a zs (at_return z) (left_within s a z behind.1) (fold_within s a zs behind.2) from here

pub sets_are_by_number : SetsAreByNumber
sets_are_by_number b are =
    let s : Setting = b.setting in
    let statics : List Variable = s.statics in
    let zs : List Situated = all_in b in
    let exit : Assigned = assigned_at_exit b in
    let behind : Behind s b.start.assigned zs = behind_all s b.start b.statements in
    let last : Context = end_of b in
    let at_end : Within b.start.assigned (behind_block b.statements last) =
    λ code h. block_grows (ends_going_on b.statements) last.assigned code (all_grow s b.start b.statements code h) in
    let left : AreAssigned statics exit =
    still_assigned statics b.start.assigned exit (fold_within s b.start.assigned zs behind (behind_block b.statements last) at_end) are in
    ap (λ ks. ks ++ set_at_exit b ∷ []) (points_by s b.start.assigned zs are behind)
    ∙ ap (λ k. map (names_by statics) (map variables_at zs) ++ k ∷ []) (named_by s (record last { assigned = exit }) left)
    ∙ sym (mapped (names_by statics) (map variables_at zs) (variables_at_exit b))
  where
    mapped : (f : List ℕ → List ℕ) (xs : List (List ℕ)) (y : List ℕ) → map f (xs ++ y ∷ []) ≡ map f xs ++ f y ∷ []
    mapped f [] y = refl
    mapped f (x ∷ xs) y = ap (λ ys. f x ∷ ys) (mapped f xs y)
