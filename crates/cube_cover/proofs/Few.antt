-- The number of variables, counted in literals and in numbers.
use Rattle.std.proofs.Common.{◌≡◌, ℕ, suc, ◌<◌, ◌≤◌, Bool, true, false, cond, ◌==◌, ◌||◌, nat_le, List, [], ◌∷◌, map, length, get_or, Some, refl, ap, sym, ◌∙◌, ⊎_elim, arith, le-leb, leb-true}
use Rattle.std.specs.Prelude.{slice_get}
use Rattle.std.specs.List.{list_any}
use Rattle.std.specs.Option.{option_map_or}
use Rattle.access_paths.specs.declared.term.Cube.{Cube}
use Rattle.access_paths.specs.declared.term.Literal.{Literal}
use Rattle.case_model.specs.{variable_count}
use Rattle.cube_search.specs.Cubes.{IsTail}
use Rattle.cube_search.specs.Lists.{Each, IsIn}
use Rattle.cube_search.specs.Search.{how_many, has_variable, is_mentioned}
use Rattle.cube_search.specs.Search as search
use Rattle.cube_search.proofs.Lists.{each-in, any-in}
use Rattle.cube_cover.specs.{none_such}

abbrev pub cube : List Literal → Cube
cube ls = record { literals = ls }

abbrev pub is_few : List Literal → Bool
is_few ls = nat_le (variable_count (cube ls)) 3

abbrev one_if : Bool → ℕ
one_if b = cond b 1 0

abbrev has : ℕ → Literal → Bool
has v l = l.less.var.0 == v || l.more.var.0 == v

module _ (ls : List Literal) (variables : List (ℕ × ℕ))
    (are : (n : ℕ) → n < length ls → slice_get variables n ≡ Some ((get_or ls n none_such).less.var.0, (get_or ls n none_such).more.var.0)) where
  any_same : (v from : ℕ) (numbers : List ℕ) → IsTail from (length ls) numbers
      → list_any (has v) (map (λ n. get_or ls n none_such) numbers) ≡ has_variable variables numbers v
  any_same v from [] tail = refl
  any_same v from (n ∷ ns) tail =
      let one : has v (get_or ls n none_such) ≡ is_mentioned variables v n =
      sym (ap (λ o. option_map_or (λ p. p.0 == v || p.1 == v) o false) (are n tail.1)) in
      λ i. one i || any_same v (suc n) ns tail.2 i

  pub few_same : (numbers : List ℕ) → IsTail 0 (length ls) numbers → is_few (map (λ n. get_or ls n none_such) numbers) ≡ search.is_few variables numbers
  unfolding search.is_few
  few_same numbers tail =
      let e = λ (v : ℕ). ap one_if (any_same v 0 numbers tail) in
      let all : variable_count (cube (map (λ n. get_or ls n none_such) numbers)) ≡ how_many variables numbers 8 =
      omega (arith, e 0, e 1, e 2, e 3, e 4, e 5, e 6, e 7) in
      ap (λ n. nat_le n 3) all

in_any : (p : Literal → Bool) (l : Literal) (xs : List Literal) → IsIn l xs → p l ≡ true → list_any p xs ≡ true
in_any p l [] i h = absurd i
in_any p l (x ∷ xs) i h = by (p x) refl (λ j. in_any p l xs j h)
  where
    by : (b : Bool) → p x ≡ b → (IsIn l xs → list_any p xs ≡ true) → (b || list_any p xs) ≡ true
    by true e rest = refl
    by false e rest = ⊎_elim (λ (s : x ≡ l). absurd (let t : p x ≡ true = ap p s ∙ h in cc)) rest i

any_less : (p : Literal → Bool) (c e : List Literal) → Each (λ l. IsIn l e) c → cond (list_any p c) 1 0 ≤ cond (list_any p e) 1 0
any_less p c e all = by (list_any p c) refl
  where
    most : (b : Bool) → b ≡ true → 1 ≤ cond b 1 0
    most true h = omega arith
    most false h = absurd (cc)

    by : (b : Bool) → list_any p c ≡ b → cond b 1 0 ≤ cond (list_any p e) 1 0
    by true h = let a = any-in p c h in most (list_any p e) (in_any p a.0 e (each-in (λ l. IsIn l e) c a.0 all a.1) a.2)
    by false h = omega arith

pub few_less : (c e : List Literal) → Each (λ l. IsIn l e) c → is_few e ≡ true → is_few c ≡ true
few_less c e all h =
    let m = λ (v : ℕ). any_less (has v) c e all in
    let most : variable_count (cube c) ≤ variable_count (cube e) = omega (arith, m 0, m 1, m 2, m 3, m 4, m 5, m 6, m 7) in
    le-leb (variable_count (cube c)) 3 (omega (arith, leb-true (variable_count (cube e)) 3 h, most))
