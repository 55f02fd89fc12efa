-- Counts of facts by factors and sums.
use Rattle.std.proofs.Common.{◌≡◌, ◌∙◌, ℕ, zero, suc, ◌+◌, ◌*◌, ◌<◌, ◌≤◌, true, false, List, [], ◌∷◌, drop, take, length, get_or, sym, ap, subst, arith}
use Rattle.std.proofs.Math.Nat.{le-mul_of_pos_right, le_trans, mul_comm}
use Rattle.std.proofs.lemmas.List.Sums.{count_by_more_no, count_by_more_yes}
use Rattle.std.specs.Prelude.{Option, Some, count_by, fold, slice_get}
use Rattle.std.proofs.lemmas.List.{get_or_default}
use Rattle.std.proofs.lemmas.Option.{get_or_from_slice_get, slice_get_within}
use Rattle.access_paths.specs.declared.term.Family.{Family}
use Rattle.client_facts.specs.Counts.{count_instances, count_names, is_of}
use Rattle.client_facts.specs.Setting.{Setting}

at_drop : {X : Type 0} (xs : List X) (k : ℕ) (x : X) → k < length xs → x ≡ get_or xs k x → drop k xs ≡ x ∷ drop (suc k) xs
at_drop [] k x h is = absurd (omega arith)
at_drop (y ∷ ys) zero x h is = ap (λ z. z ∷ ys) (sym is)
at_drop (y ∷ ys) (suc k) x h is = at_drop ys k x (omega arith) is

-- a fold from the left, one item further
further : {A B : Type 0} (f : B → A → B) (xs : List A) (k : ℕ) (x : A) (b : B) → k < length xs → x ≡ get_or xs k x →
    fold f (f b x) (drop (suc k) xs) ≡ fold f b (drop k xs)
further f xs k x b h is = ap (fold f b) (sym (at_drop xs k x h is))

module _ (g : Setting) (p : ℕ) where
  abbrev pub times : ℕ → ℕ → ℕ
  times count class = count * count_names g p class

  abbrev pub plus : ℕ → Family → ℕ
  plus count family = count + count_instances g p family.classes

  named : (class : ℕ) → 0 < count_names g p class
  named class = omega arith

  times_more : (count class : ℕ) → count ≤ times count class
  times_more count class = le-mul_of_pos_right count (named class)

  times_grow : (count : ℕ) (classes : List ℕ) → count ≤ fold times count classes
  times_grow count [] = omega arith
  times_grow count (class ∷ classes) = omega (arith, times_more count class, times_grow (times count class) classes)

  -- with the next factor it is at most the whole
  product_over : (classes : List ℕ) (k count : ℕ) → k < length classes → fold times count (drop k classes) ≡ count_instances g p classes →
      times count (get_or classes k 0) ≤ count_instances g p classes
  product_over classes k count h so =
      let class = get_or classes k 0 in
      let whole : fold times (times count class) (drop (suc k) classes) ≡ count_instances g p classes =
      further times classes k class count h (get_or_default classes k 0 class h) ∙ so in
      subst (λ n. times count class ≤ n) whole (times_grow (times count class) (drop (suc k) classes))

  pub names_over : (limit : ℕ) (classes : List ℕ) (k count : ℕ) → k < length classes → fold times count (drop k classes) ≡ count_instances g p classes →
      0 < count → limit ≤ count_names g p (get_or classes k 0) → limit ≤ count_instances g p classes
  names_over limit classes k count h so some over =
      let class = get_or classes k 0 in
      let least : count_names g p class ≤ times count class =
      subst (λ n. count_names g p class ≤ n) (mul_comm (count_names g p class) count) (le-mul_of_pos_right (count_names g p class) some) in
      le_trans over (le_trans least (product_over classes k count h so))

  pub factor_over : (limit : ℕ) (classes : List ℕ) (k count names : ℕ) → k < length classes → fold times count (drop k classes) ≡ count_instances g p classes →
      names ≡ count_names g p (get_or classes k 0) → ¬ (count * names < limit) → limit ≤ count_instances g p classes
  factor_over limit classes k count names h so is beyond =
      let over : limit ≤ count * names = omega (arith, beyond) in
      let same : count * names ≡ times count (get_or classes k 0) = ap (λ n. count * n) is in
      le_trans over (subst (λ n. n ≤ count_instances g p classes) (sym same) (product_over classes k count h so))

-- with one more that is of the class, or with one that is not
module _ (class : ℕ) (kinds : List (Option ℕ)) (number : ℕ) (kind : Option ℕ) (count new : ℕ) where
  pub counted_yes : slice_get kinds number ≡ Some kind → is_of class kind ≡ true → new ≡ count + 1 → count ≡ count_by (is_of class) (take number kinds) →
      new ≡ count_by (is_of class) (take (number + 1) kinds)
  counted_yes at known made so =
      made ∙ (ap (λ n. n + 1) so ∙ sym (count_by_more_yes (is_of class) kinds number kind (slice_get_within kinds number kind at)
      (ap (is_of class) (get_or_from_slice_get kinds number kind kind at) ∙ known)))

  pub counted_no : slice_get kinds number ≡ Some kind → is_of class kind ≡ false → new ≡ count → count ≡ count_by (is_of class) (take number kinds) →
      new ≡ count_by (is_of class) (take (number + 1) kinds)
  counted_no at known made so =
      made ∙ (so ∙ sym (count_by_more_no (is_of class) kinds number kind (slice_get_within kinds number kind at)
      (ap (is_of class) (get_or_from_slice_get kinds number kind kind at) ∙ known)))
