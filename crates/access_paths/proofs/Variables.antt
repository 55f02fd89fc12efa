-- The variables of a cube, listed, and places for them.
use Rattle.std.proofs.Common.{inl, inr, ◌⊎◌, ◌↔◌, ◌≡◌, ◌≢◌, ℕ, zero, suc, ◌<◌, ◌≤◌, ◌==◌, ◌||◌, Bool, true, false, cond, List, [], ◌∷◌, length, map, filter, get_or, Contains, Some, slice_get, slice_index, subst, arith, refl, ap, ap₂, sym, ◌∙◌}
use Rattle.std.proofs.lemmas.Bool.Decides.{eqb_tells}
use Rattle.std.proofs.lemmas.Bool.{eq-eqb, eqb-true}
use Rattle.std.proofs.lemmas.Cmp.{tied_itself}
use Rattle.std.proofs.lemmas.List.{length-map}
use Rattle.std.proofs.lemmas.List.Elements.{All-contains}
use Rattle.std.proofs.lemmas.List.Folds.{Any-from_list_any, list_any-from_Any}
use Rattle.std.proofs.lemmas.List.Quantifiers.{all_pairs_push}
use Rattle.std.proofs.lemmas.List.Elements.{Contains-get_or}
use Rattle.std.proofs.lemmas.Option.{slice_get-map}
use Rattle.std.specs.List.{list_any}
use Rattle.std.specs.Option.{option_map, option_map_or}
use Rattle.std.specs.declared.cmp.Ordering.TheVariants.{Less, Equal}
use Rattle.access_paths.proofs.Instances.{of_less, of_more}
use Rattle.access_paths.proofs.Members.{Distinct, cons_distinct, head_apart, head_member, in_map, no_member, none_distinct, of_map, tail_distinct, tail_member, which_member}
use Rattle.access_paths.proofs.Orders.{terms_total}
use Rattle.access_paths.proofs.Permuted.{in_below, of_below}
use Rattle.access_paths.proofs.Places.{one_place}
use Rattle.access_paths.proofs.Substituted.{all_members}
use Rattle.access_paths.specs.{AreArguments, HasKnownVariables, HasVariable, IsCube, IsInstance, IsLiteral, IsRenamed, KeepsApart, below, compare_terms, has}
use Rattle.access_paths.specs.{literal, place_of, renamed, renamed_term, term, var, variable_in, variables}
use Rattle.access_paths.specs.declared.term.Cube.{Cube}
use Rattle.access_paths.specs.declared.term.Literal.{Literal}
use Rattle.access_paths.specs.declared.term.Term.{Term}
use Rattle.access_paths.specs.declared.term.Var.{Var}

-- what a filter keeps
module _ {X : Type 0} (p : X → Bool) where
  kept : (y : X) (xs : List X) (x : X) (b : Bool) → p y ≡ b → p x ≡ true → (y ≡ x) ⊎ Contains (filter p xs) x
      → Contains (cond b (y ∷ filter p xs) (filter p xs)) x
  kept y xs x true at passes (inl same) = (0, omega arith, same)
  kept y xs x true at passes (inr after) = tail_member y (filter p xs) x after
  kept y xs x false at passes (inl same) = let clash : true ≡ false = sym passes ∙ ap p (sym same) ∙ at in cc
  kept y xs x false at passes (inr after) = after

  in_filter : (xs : List X) (x : X) → Contains xs x → p x ≡ true → Contains (filter p xs) x
  in_filter [] x is passes = absurd (no_member x is)
  in_filter (y ∷ xs) x is passes =
      kept y xs x (p y) refl passes (elim (which_member y xs x is) [ inl same ↦ inl same | inr after ↦ inr (in_filter xs x after passes) ])

  kept_from : (y : X) (xs : List X) (x : X) (b : Bool) → p y ≡ b → Contains (cond b (y ∷ filter p xs) (filter p xs)) x
      → ((y ≡ x) × (p x ≡ true)) ⊎ Contains (filter p xs) x
  kept_from y xs x true at is = elim (which_member y (filter p xs) x is) [ inl same ↦ inl (same, ap p (sym same) ∙ at) | inr after ↦ inr after ]
  kept_from y xs x false at is = inr is

  of_filter : (xs : List X) (x : X) → Contains (filter p xs) x → Contains xs x × (p x ≡ true)
  of_filter [] x is = absurd (no_member x is)
  of_filter (y ∷ xs) x is =
      elim (kept_from y xs x (p y) refl is) [
        | inl first ↦ ((0, omega arith, first.0), first.1)
        | inr after ↦ let rest = of_filter xs x after in (tail_member y xs x rest.0, rest.1)
      ]

  kept_distinct : (y : X) (xs : List X) (b : Bool) → Distinct (y ∷ xs) → Distinct (filter p xs) → Distinct (cond b (y ∷ filter p xs) (filter p xs))
  kept_distinct y xs true apart rest = cons_distinct y (filter p xs) (λ there. head_apart y xs apart (of_filter xs y there).0) rest
  kept_distinct y xs false apart rest = rest

  filter_distinct : (xs : List X) → Distinct xs → Distinct (filter p xs)
  filter_distinct [] apart = none_distinct
  filter_distinct (y ∷ xs) apart = kept_distinct y xs (p y) apart (filter_distinct xs (tail_distinct y xs apart))

  kept_shorter : (y : X) (xs : List X) (b : Bool) → length (filter p xs) ≤ length xs → length (cond b (y ∷ filter p xs) (filter p xs)) ≤ length (y ∷ xs)
  kept_shorter y xs true rest = omega arith
  kept_shorter y xs false rest = omega arith

  filter_shorter : (xs : List X) → length (filter p xs) ≤ length xs
  filter_shorter [] = omega arith
  filter_shorter (y ∷ xs) = kept_shorter y xs (p y) (filter_shorter xs)

below_distinct : (n : ℕ) → Distinct (below n)
below_distinct zero = none_distinct
below_distinct (suc n) =
    all_pairs_push (λ k l. k ≢ l) (below n) n (below_distinct n)
    (λ k d within same. let less = of_below n (get_or (below n) k d) (Contains-get_or (below n) k d within) in omega arith)

-- the test of a literal for a variable
has_tells : (v : ℕ) (l : Literal) → has v l ≡ true → (l.less.var.0 ≡ v) ⊎ (l.more.var.0 ≡ v)
has_tells v l is =
    elim (eqb_tells l.less.var.0 v) [
      | inl less ↦ inl less.1
      | inr not ↦ inr (eqb-true l.more.var.0 v (ap (λ b. b || (l.more.var.0 == v)) (sym not.0) ∙ is))
    ]

has_told : (v : ℕ) (l : Literal) → (l.less.var.0 ≡ v) ⊎ (l.more.var.0 ≡ v) → has v l ≡ true
has_told v l (inl less) = ap (λ b. b || (l.more.var.0 == v)) (eq-eqb l.less.var.0 v less)
has_told v l (inr more) =
    elim (eqb_tells l.less.var.0 v) [
      | inl less ↦ ap (λ b. b || (l.more.var.0 == v)) less.0
      | inr not ↦ ap (λ b. b || (l.more.var.0 == v)) not.0 ∙ eq-eqb l.more.var.0 v more
    ]

is_variable : (c : Cube) (v : ℕ) → Contains (variables c) v → HasVariable c v
is_variable c v is =
    let any = Any-from_list_any (has v) c.literals (of_filter (λ w. list_any (has w) c.literals) (below 8) v is).1 in
    (any.0, any.1, any.2, any.3, has_tells v any.1 any.4)

variable_is : (c : Cube) (v : ℕ) → v < 8 → HasVariable c v → Contains (variables c) v
variable_is c v known is =
    in_filter (λ w. list_any (has w) c.literals) (below 8) v (in_below 8 v known)
    (list_any-from_Any (has v) c.literals (is.0, is.1, is.2, is.3, has_told v is.1 is.4))

map_var_distinct : (vs : List ℕ) → Distinct vs → Distinct (map var vs)
map_var_distinct [] apart = none_distinct
map_var_distinct (v ∷ vs) apart =
    cons_distinct (var v) (map var vs)
    (λ there. let from = of_map var vs (var v) there in
    let P : ℕ → Type 0 = Contains vs in
    head_apart v vs apart (subst P (ap (λ (a : Var). a.0) from.2) from.1))
    (map_var_distinct vs (tail_distinct v vs apart))

-- the list of a cube's variables has them all, each once
pub variables_listed : (c : Cube) → HasKnownVariables c → AreArguments c (map var (variables c))
variables_listed c known = record {
  once = map_var_distinct (variables c) (filter_distinct (λ w. list_any (has w) c.literals) (below 8) (below_distinct 8));
  arguments = λ v. (
    λ there. let from = of_map var (variables c) v there in
        let P : ℕ → Type 0 = HasVariable c in
        subst P (ap (λ (a : Var). a.0) from.2) (is_variable c from.0 from.1),
    λ is. in_map var (variables c) v.0 (variable_is c v.0 (known v.0 is) is),
  );
}

pub few_variables : (c : Cube) → length (map var (variables c)) ≤ 8
few_variables c =
    let short = filter_shorter (λ w. list_any (has w) c.literals) (below 8) in
    omega (arith, length-map (variables c) var)

eight : (v : ℕ) → v < 8 → slice_get (below 8) v ≡ Some v
eight zero less = refl
eight (suc zero) less = refl
eight (suc (suc zero)) less = refl
eight (suc (suc (suc zero))) less = refl
eight (suc (suc (suc (suc zero)))) less = refl
eight (suc (suc (suc (suc (suc zero))))) less = refl
eight (suc (suc (suc (suc (suc (suc zero)))))) less = refl
eight (suc (suc (suc (suc (suc (suc (suc zero))))))) less = refl
eight (suc (suc (suc (suc (suc (suc (suc (suc v)))))))) less = absurd (omega arith)

-- the table of places gives the place of each variable
pub table_tells : (args table : List Var) (v : ℕ) → table ≡ map (λ w. var (place_of args w)) (below 8) → v < 8 → variable_in table v ≡ place_of args v
table_tells args table v is known =
    ap (λ vs. option_map_or (λ (a : Var). a.0) (slice_get vs v) 0) is
    ∙ ap (λ o. option_map_or (λ (a : Var). a.0) o 0) (slice_get-map (λ w. var (place_of args w)) (below 8) v)
    ∙ ap (λ o. option_map_or (λ (a : Var). a.0) (option_map (λ w. var (place_of args w)) o) 0) (eight v known)

-- renamings that agree on a cube's variables rename it alike
module _ (f g : ℕ → ℕ) where
  renamed_alike : (l : Literal) → f l.less.var.0 ≡ g l.less.var.0 → f l.more.var.0 ≡ g l.more.var.0 → renamed f l ≡ renamed g l
  renamed_alike l less more = ap₂ (λ v w. literal l.same (term v l.less.fields) (term w l.more.fields)) less more

  map_alike : (ls : List Literal) → ((l : Literal) → Contains ls l → renamed f l ≡ renamed g l) → map (renamed f) ls ≡ map (renamed g) ls
  map_alike [] each = refl
  map_alike (l ∷ ls) each = ap₂ (λ m ms. m ∷ ms) (each l (head_member l ls)) (map_alike ls (λ m is. each m (tail_member l ls m is)))

  pub is_renamed_alike : (c d : Cube) → ((v : ℕ) → HasVariable c v → f v ≡ g v) → IsRenamed f c d → IsRenamed g c d
  is_renamed_alike c d same is =
      let lists = map_alike c.literals (λ l there. renamed_alike l (same l.less.var.0 (of_less c l there)) (same l.more.var.0 (of_more c l there))) in
      record {
        cube = is.cube;
        literals = λ l. let P : List Literal → Type 0 = λ ms. Contains d.literals l ↔ Contains ms l in subst P lists (is.literals l);
      }

-- different terms have different places
terms_apart : (c : Cube) (args : List Var) (other : ℕ → ℕ) → AreArguments c args → ((v : ℕ) → HasVariable c v → other v ≡ place_of args v)
    → (l : Literal) → Contains c.literals l → IsLiteral l → renamed_term other l.less ≢ renamed_term other l.more
terms_apart c args other are same l there is one =
    let v = l.less.var.0 in
    let w = l.more.var.0 in
    let v_has = of_less c l there in
    let w_has = of_more c l there in
    let places : place_of args v ≡ place_of args w = sym (same v v_has) ∙ ap (λ (t : Term). t.var.0) one ∙ same w w_has in
    let vars : v ≡ w = one_place args v w ((are.arguments (var v)).1 v_has) ((are.arguments (var w)).1 w_has) places in
    let terms : l.less ≡ l.more = ap₂ term vars (ap (λ (t : Term). t.fields) one) in
    let tied : compare_terms l.less l.more ≡ Equal = ap (compare_terms l.less) (sym terms) ∙ tied_itself terms_total l.less in
    let clash : Less ≡ Equal = sym is ∙ tied in
    cc

pub places_keep_apart : (c : Cube) (args table : List Var) → IsCube c → HasKnownVariables c → AreArguments c args
    → table ≡ map (λ w. var (place_of args w)) (below 8) → KeepsApart (variable_in table) c
places_keep_apart c args table is_cube known are is =
    all_members (λ l. renamed_term (variable_in table) l.less ≢ renamed_term (variable_in table) l.more) c.literals
    (λ l there. terms_apart c args (variable_in table) are (λ v has. table_tells args table v is (known v has)) l there (All-contains IsLiteral c.literals l is_cube.literals there))

pub table_length : (args table : List Var) → table ≡ map (λ w. var (place_of args w)) (below 8) → length table ≡ 8
table_length args table is = ap length is ∙ length-map (below 8) (λ w. var (place_of args w))

-- a cube with its variables at their places is an instance
pub placed_instance : (c d : Cube) (of : List ℕ) (args table : List Var) (classes : List ℕ) (kept : List Var) → HasKnownVariables c → AreArguments c args
    → table ≡ map (λ w. var (place_of args w)) (below 8) → IsRenamed (variable_in table) c d → classes ≡ map (λ a. slice_index of a.0) args → kept ≡ args
    → IsInstance c of (record { family = record { classes = classes; cube = d }; args = kept })
placed_instance c d of args table classes kept known are is renamed_is classes_are same =
    let P : List Var → Type 0 = λ list. IsInstance c of (record { family = record { classes = classes; cube = d }; args = list }) in
    subst P (sym same) (record {
      once = are.once;
      arguments = are.arguments;
      classes = classes_are;
      cube = is_renamed_alike (variable_in table) (place_of args) c d (λ v has. table_tells args table v is (known v has)) renamed_is;
    })
