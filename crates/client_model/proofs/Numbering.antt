-- Points are numbered in text order.
use Rattle.std.proofs.Common.{◌≡◌, ℕ, zero, suc, ◌+◌, List, ◌∷◌, ◌++◌, length, refl, ap, ◌∙◌, arith}
use Rattle.std.specs.Prelude.{Some, None, map}
use Rattle.std.specs.List.{range_with_len}
use Rattle.std.proofs.lemmas.List.{length-append, map-append}
use Rattle.client_model.specs.Contexts.{Context, Situated, after, after_all, counting, entered, evaluated, looping, situated, situated_in, value_of_test}
use Rattle.client_model.specs.Laws.{EachHasWays, FirstIsFirst, PointsAreNumbered}
use Rattle.client_model.specs.Nodes.{count, count_in, node_at, shape_from}
use Rattle.client_model.specs.Settings.{Setting}
use Rattle.client_model.specs.Statements.{Statement, Statements, Declare, Assign, Do, If, While, Break, Continue, Return, none, ◌▸◌}
use Rattle.client_model.specs.Ways.{Ways, first_point, point_of, in_loop, ways_in, ways_of}

mutual
  pub points_after : (s : Setting) (c : Context) (x : Statement) → (after s c x).points ≡ c.points + count_in x
  points_after s c (Declare place sort w None) = omega arith
  points_after s c (Declare place sort w (Some v)) = omega arith
  points_after s c (Assign w v) = omega arith
  points_after s c (Do v) = omega arith
  points_after s c (If place t first second has_else) =
      let start : Context = evaluated (value_of_test t) c in
      let one : (after_all s (entered start) first).points ≡ suc c.points + count first = points_behind s (entered start) first in
      let other : (after_all s (entered (counting start (after_all s (entered start) first))) second).points
      ≡ (after_all s (entered start) first).points + count second = points_behind s (entered (counting start (after_all s (entered start) first))) second in
      omega arith
  points_after s c (While place t inner) =
      let behind : (after_all s (looping (evaluated (value_of_test t) c)) inner).points ≡ suc c.points + count inner =
      points_behind s (looping (evaluated (value_of_test t) c)) inner in
      omega arith
  points_after s c (Break place) = omega arith
  points_after s c (Continue place) = omega arith
  points_after s c (Return r) = omega arith

  pub points_behind : (s : Setting) (c : Context) (xs : Statements) → (after_all s c xs).points ≡ c.points + count xs
  points_behind s c none = omega arith
  points_behind s c (x ▸ xs) =
      let here : (after s c x).points ≡ c.points + count_in x = points_after s c x in
      let rest : (after_all s (after s c x) xs).points ≡ (after s c x).points + count xs = points_behind s (after s c x) xs in
      omega arith

range-sum : (a m n : ℕ) → range_with_len a m ++ range_with_len (a + m) n ≡ range_with_len a (m + n)
range-sum a zero n =
    let from : a + 0 ≡ a = omega arith in
    let many : n ≡ 0 + n = omega arith in
    λ i. range_with_len (from i) (many i)
range-sum a (suc m) n =
    let from : a + suc m ≡ a + 1 + m = omega arith in
    let many : suc (m + n) ≡ suc m + n = omega arith in
    ap (λ l. a ∷ l) (ap (λ b. range_with_len (a + 1) m ++ range_with_len b n) from ∙ range-sum (a + 1) m n) ∙ ap (range_with_len a) many

-- two stretches of numbers, the second from where the first ends
stretches : (a b m n : ℕ) (xs ys : List ℕ) → xs ≡ range_with_len a m → ys ≡ range_with_len b n → b ≡ a + m → xs ++ ys ≡ range_with_len a (m + n)
stretches a b m n xs ys is then from = (λ i. is i ++ then i) ∙ ap (λ k. range_with_len a m ++ range_with_len k n) from ∙ range-sum a m n

abbrev numbers : List Situated → List ℕ
numbers xs = map (λ x. x.context.points) xs

mutual
  numbered_in : (s : Setting) (c : Context) (x : Statement) → c.points ∷ numbers (situated_in s c x) ≡ range_with_len c.points (count_in x)
  numbered_in s c (Declare place sort w v) = refl
  numbered_in s c (Assign w v) = refl
  numbered_in s c (Do v) = refl
  numbered_in s c (If place t first second has_else) =
      let start : Context = evaluated (value_of_test t) c in
      let one : Context = entered (counting start (after_all s (entered start) first)) in
      let split : numbers (situated s (entered start) first ++ situated s one second)
      ≡ numbers (situated s (entered start) first) ++ numbers (situated s one second) =
      map-append (λ x. x.context.points) (situated s (entered start) first) (situated s one second) in
      let whole : numbers (situated s (entered start) first) ++ numbers (situated s one second) ≡ range_with_len (suc c.points) (count first + count second) =
      stretches (suc c.points) one.points (count first) (count second) _ _ (numbered s (entered start) first) (numbered s one second) (points_behind s
      (entered start) first) in
      ap (λ l. c.points ∷ l) (split ∙ whole ∙ ap (λ k. range_with_len k (count first + count second)) (omega arith))
  numbered_in s c (While place t inner) =
      ap (λ l. c.points ∷ l) (numbered s (looping (evaluated (value_of_test t) c)) inner ∙ ap (λ k. range_with_len k (count inner)) (omega arith))
  numbered_in s c (Break place) = refl
  numbered_in s c (Continue place) = refl
  numbered_in s c (Return r) = refl

  numbered : (s : Setting) (c : Context) (xs : Statements) → numbers (situated s c xs) ≡ range_with_len c.points (count xs)
  numbered s c none = refl
  numbered s c (x ▸ xs) =
      let split : numbers (situated_in s c x ++ situated s (after s c x) xs) ≡ numbers (situated_in s c x) ++ numbers (situated s (after s c x) xs) =
      map-append (λ x. x.context.points) (situated_in s c x) (situated s (after s c x) xs) in
      ap (λ l. c.points ∷ l) split
      ∙ stretches c.points (after s c x).points (count_in x) (count xs) (c.points ∷ numbers (situated_in s c x)) (numbers (situated s
      (after s c x) xs)) (numbered_in s c x) (numbered s (after s c x) xs) (points_after s c x)

pub points_numbered : PointsAreNumbered
points_numbered = numbered

mutual
  ways_in_each : (w : Ways) (point : ℕ) (x : Statement) → length (ways_in w (node_at point x)) ≡ count_in x
  ways_in_each w point (Declare place sort name v) = refl
  ways_in_each w point (Assign name v) = refl
  ways_in_each w point (Do v) = refl
  ways_in_each w point (If place t first second has_else) =
      ap suc (length-append (ways_of w (shape_from (suc point) first)) (ways_of w (shape_from (suc point + count first) second))
      ∙ (λ i. ways_each w (suc point) first i + ways_each w (suc point + count first) second i))
  ways_in_each w point (While place t inner) = ap suc (ways_each (in_loop point w) (suc point) inner)
  ways_in_each w point (Break place) = refl
  ways_in_each w point (Continue place) = refl
  ways_in_each w point (Return r) = refl

  ways_each : (w : Ways) (point : ℕ) (xs : Statements) → length (ways_of w (shape_from point xs)) ≡ count xs
  ways_each w point none = refl
  ways_each w point (x ▸ xs) =
      let inner : Ways = record w { on = first_point (shape_from (point + count_in x) xs) w.on } in
      length-append (ways_in inner (node_at point x)) (ways_of w (shape_from (point + count_in x) xs))
      ∙ (λ i. ways_in_each inner point x i + ways_each w (point + count_in x) xs i)

pub each_has_ways : EachHasWays
each_has_ways = ways_each

pub head_point : (p : ℕ) (x : Statement) → point_of (node_at p x) ≡ p
head_point p (Declare place sort w v) = refl
head_point p (Assign w v) = refl
head_point p (Do v) = refl
head_point p (If place t first second has_else) = refl
head_point p (While place t inner) = refl
head_point p (Break place) = refl
head_point p (Continue place) = refl
head_point p (Return r) = refl

pub first_is_first : FirstIsFirst
first_is_first point none = omega arith
first_is_first point (x ▸ xs) = head_point point x
