-- The names that are set at the points of a body and at its exit.
use Rattle.std.proofs.Common.{◌≡◌, ℕ, Bool, true, false, List, [], ◌∷◌, ◌++◌, ap, filter, length, map, not, refl, subst, sym, ◌∙◌}
use Rattle.std.proofs.Math.Bool.{and-true, or-false, or-true}
use Rattle.std.proofs.lemmas.List.Elements.{filter_agree}
use Rattle.std.specs.List.{cons_option, range_with_len}
use Rattle.std.specs.Option.{option_map_or}
use Rattle.std.specs.Prelude.{◌&&◌, ◌||◌, Option, Some, None, filter_map, fold, if◌then◌else◌}
use Rattle.client_bodies.proofs.Marked.{and_turned, has_meet}
use Rattle.client_bodies.proofs.Passing.{and_assoc, set_is}
use Rattle.client_bodies.specs.Walking.{AreSets, Passed, Walks, all_left}
use Rattle.client_model.proofs.OnlyNames.{end_has_names, nothing_is_everything}
use Rattle.client_model.proofs.SetNumbers.{sets_are_by_number}
use Rattle.client_model.specs.Bodies.{Body, all_in, end_of}
use Rattle.client_model.specs.Codes.{variable_code}
use Rattle.client_model.specs.Contexts.{Assigned, Context, Everything, Situated, after_all, behind_block, ends_going_on, has, meet, situated}
use Rattle.client_model.specs.Settings.{Setting, inside}
use Rattle.client_model.specs.Statements.{Statements}
use Rattle.client_model.specs.Trees.{Proc}
use Rattle.client_model.specs.Kept.{IsWholeBody}
use Rattle.client_model.specs.Points.{assigned_at_exit, at_return}
use Rattle.client_model.specs.SetNumbers.{AllThese, AreAssigned, AreNumbered, AreThese, names_by, variables_at, variables_at_exit}
use Rattle.client_values.specs.Knowing.{Knows}
use Rattle.client_values.specs.declared.context.Context.{Context as Known}
use Rattle.set_names.specs.Names.{Names, is_in, is_left, numbers_left}
use Rattle.set_names.specs.Sets.{codes_of}

-- what is assigned wherever a body is left

abbrev Folds : List Situated → Type 0
Folds zs = (from : Assigned) (k : ℕ) → has (fold meet from (filter_map at_return zs)) (variable_code k) ≡ (has from (variable_code k) && all_left zs k)

fold_by : (zs : List Situated) (o : Option Assigned) → Folds zs → (from : Assigned) (k : ℕ)
    → has (fold meet from (cons_option o (filter_map at_return zs))) (variable_code k)
    ≡ (has from (variable_code k) && (option_map_or (λ a. has a (variable_code k)) o true && all_left zs k))
fold_by zs None rest from k = rest from k
fold_by zs (Some x) rest from k =
    rest (meet from x) k
    ∙ ap (λ b. b && all_left zs k) (has_meet from x (variable_code k))
    ∙ and_assoc (has from (variable_code k)) (has x (variable_code k)) (all_left zs k)

fold_has : (zs : List Situated) → Folds zs
fold_has [] from k = sym (and-true (has from (variable_code k)))
fold_has (z ∷ zs) from k = fold_by zs (at_return z) (fold_has zs) from k

chosen : (a : Assigned) (on : Bool) (n : ℕ) → has (if on then a else Everything) n ≡ (has a n || not on)
chosen a true n = sym (or-false (has a n))
chosen a false n = sym (or-true (has a n))

at_end : (a : Assigned) (on : Bool) (set : Bool) (n : ℕ) → (on ≡ true → set ≡ has a n) → (has a n || not on) ≡ (not on || set)
at_end a true set n same = or-false (has a n) ∙ sym (same refl)
at_end a false set n same = or-true (has a n)

-- the sets of a body whose walk began and ended in these contexts
pub sets_are : (b : Body) (start last : Known) (on : Bool) (sets : List (List ℕ)) → AreNumbered b.setting → IsWholeBody b → AreThese b.start.assigned
    → AreAssigned b.setting.statics b.start.assigned → Knows (end_of b) last → on ≡ ends_going_on b.statements
    → start.assigned.names.before ≡ [] → start.assigned.names.left ≡ None → last.assigned.names.statics ≡ length b.setting.statics
    → (AllThese (all_in b) → Passed (all_in b) start.assigned.names last.assigned.names)
    → sets ≡ map (codes_of last.assigned.names.statics) (last.assigned.names.before
    ++ filter (λ k. is_left last.assigned.names.left k && (not on || is_in last.assigned.names.trail k)) (range_with_len 0 last.assigned.names.variables) ∷ [])
    → AreSets b sets
sets_are b start last on sets numbered whole these assigned knows ends empty nowhere statics passes is free =
    let names : Names = last.assigned.names in
    let passed : Passed (all_in b) start.assigned.names names = passes (nothing_is_everything b whole these free).points in
    let before : names.before ≡ map variables_at (all_in b) = passed.before ∙ ap (λ xs. xs ++ map variables_at (all_in b)) empty in
    let exit : (k : ℕ) → (is_left names.left k && (not on || is_in names.trail k)) ≡ has (assigned_at_exit b) (variable_code k) =
    λ k.
    ap (λ x. x && (not on || is_in names.trail k)) (passed.left k ∙ ap (λ l. is_left l k && all_left (all_in b) k) nowhere)
    ∙ and_turned (all_left (all_in b) k) (not on || is_in names.trail k)
    ∙ ap (λ x. x && all_left (all_in b) k)
    (sym (ap (λ g. has (if g then (end_of b).assigned else Everything) (variable_code k)) (sym ends)
    ∙ chosen (end_of b).assigned on (variable_code k)
    ∙ at_end (end_of b).assigned on (is_in names.trail k) (variable_code k)
    (λ goes. set_is (end_of b) last knows (end_has_names b these free (sym ends ∙ goes)) k)))
    ∙ sym (fold_has (all_in b) (behind_block b.statements (end_of b)) k) in
    let last_numbers : filter (λ k. is_left names.left k && (not on || is_in names.trail k)) (range_with_len 0 names.variables) ≡ variables_at_exit b =
    filter_agree (λ k. is_left names.left k && (not on || is_in names.trail k)) (λ k. has (assigned_at_exit b) (variable_code k)) exit (range_with_len 0 names.variables)
    ∙ ap (λ n. filter (λ k. has (assigned_at_exit b) (variable_code k)) (range_with_len 0 n)) (sym knows.declared) in
    let by : (ks : List ℕ) → codes_of names.statics ks ≡ names_by b.setting.statics ks =
    λ ks. ap (λ n. codes_of n ks) statics ∙ ap (λ cs. cs ++ map variable_code ks) (sym numbered) in
    is
    ∙ map_same (codes_of names.statics) (names_by b.setting.statics) by _
    ∙ ap (λ xs. map (names_by b.setting.statics) (xs ++ filter (λ k. is_left names.left k && (not on || is_in names.trail k)) (range_with_len 0 names.variables) ∷ [])) before
    ∙ ap (λ ks. map (names_by b.setting.statics) (map variables_at (all_in b) ++ ks ∷ [])) last_numbers
    ∙ sym (sets_are_by_number b assigned)
  where
    map_same : (f g : List ℕ → List ℕ) → ((ks : List ℕ) → f ks ≡ g ks) → (xs : List (List ℕ)) → map f xs ≡ map g xs
    map_same f g same [] = refl
    map_same f g same (x ∷ xs) = ap (λ y. y ∷ map f xs) (same x) ∙ ap (λ ys. g x ∷ ys) (map_same f g same xs)

-- where a body does not go on at its end
pub left_only : (names : Names) (on : Bool) → on ≡ false → filter (is_left names.left) (range_with_len 0 names.variables)
    ≡ filter (λ k. is_left names.left k && (not on || is_in names.trail k)) (range_with_len 0 names.variables)
left_only names on is =
    filter_agree (is_left names.left) (λ k. is_left names.left k && (not on || is_in names.trail k))
    (λ k. sym (ap (λ b. is_left names.left k && (not b || is_in names.trail k)) is ∙ and-true (is_left names.left k))) (range_with_len 0 names.variables)

pub left_and_end : (names : Names) (on : Bool) → on ≡ true → filter (λ k. is_left names.left k && is_in names.trail k) (range_with_len 0 names.variables)
    ≡ filter (λ k. is_left names.left k && (not on || is_in names.trail k)) (range_with_len 0 names.variables)
left_and_end names on is =
    filter_agree (λ k. is_left names.left k && is_in names.trail k) (λ k. is_left names.left k && (not on || is_in names.trail k))
    (λ k. sym (ap (λ b. is_left names.left k && (not b || is_in names.trail k)) is)) (range_with_len 0 names.variables)

pub left_here : (names new : Names) (sets : List (List ℕ)) → ((k : ℕ) → is_left new.left k ≡ (is_left names.left k && is_in names.trail k)) → new ≡ record names { left = new.left }
    → sets ≡ map (codes_of new.statics) (new.before ++ numbers_left new ∷ [])
    → sets ≡ map (codes_of names.statics) (names.before ++ filter (λ k. is_left names.left k && is_in names.trail k) (range_with_len 0 names.variables) ∷ [])
left_here names new sets left others is =
    is
    ∙ ap (λ (m : Names). map (codes_of m.statics) (m.before ++ filter (is_left new.left) (range_with_len 0 m.variables) ∷ [])) others
    ∙ ap (λ ks. map (codes_of names.statics) (names.before ++ ks ∷ []))
    (filter_agree (is_left new.left) (λ k. is_left names.left k && is_in names.trail k) left (range_with_len 0 names.variables))

-- in the procedure of a number
pub walks_inside : (s w : Setting) (number : ℕ) (p : Proc) (c : Context) (known : Known) → w ≡ inside number p s → Walks s c known → Walks w c known
walks_inside s w number p c known is walks =
    subst (λ x. Walks x c known) (sym is) (record { knows = walks.knows; coded = record { scope = walks.coded.scope; statics = walks.coded.statics } })

pub same_trees : (s w : Setting) (c : Context) (xs ys : Statements) → w ≡ s → xs ≡ ys → situated w c xs ≡ situated s c ys
same_trees s w c xs ys is same = ap (λ x. situated x c xs) is ∙ ap (situated s c) same

pub same_end : (s w : Setting) (c : Context) (xs ys : Statements) → w ≡ s → xs ≡ ys → after_all w c xs ≡ after_all s c ys
same_end s w c xs ys is same = ap (λ x. after_all x c xs) is ∙ ap (after_all s c) same
