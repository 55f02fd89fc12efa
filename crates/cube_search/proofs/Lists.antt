-- Lists by recursion: what each item is, which items there are, and lists that rise.
use Rattle.std.proofs.Common.{◌≡◌, Bool, true, false, ◌||◌, cond, List, [], ◌∷◌, ◌++◌, filter, refl, sym, subst, ◌∙◌, inl, inr, ⊎_elim}
use Rattle.std.specs.Prelude.{◌⊎◌}
use Rattle.std.specs.List.{list_any}
use Rattle.cube_search.specs.Lists.{Each, IsIn, Rises}

module _ {X : Type 0} where
  pub each-in : (P : X → Type 0) (xs : List X) (x : X) → Each P xs → IsIn x xs → P x
  each-in P [] x each has = absurd has
  each-in P (y ∷ ys) x each has = ⊎_elim (λ (e : y ≡ x). subst P e each.0) (λ (h : IsIn x ys). each-in P ys x each.1 h) has

  pub each-from : (P : X → Type 0) (xs : List X) → ((x : X) → IsIn x xs → P x) → Each P xs
  each-from P [] f = tt
  each-from P (x ∷ xs) f = (f x (inl refl), each-from P xs (λ y h. f y (inr h)))

  pub each-weaker : (P Q : X → Type 0) → ((x : X) → P x → Q x) → (xs : List X) → Each P xs → Each Q xs
  each-weaker P Q f [] each = tt
  each-weaker P Q f (x ∷ xs) each = (f x each.0, each-weaker P Q f xs each.1)

  pub each-append : (P : X → Type 0) (xs ys : List X) → Each P xs → Each P ys → Each P (xs ++ ys)
  each-append P [] ys a b = b
  each-append P (x ∷ xs) ys a b = (a.0, each-append P xs ys a.1 b)

  pub in-left : (xs ys : List X) (x : X) → IsIn x xs → IsIn x (xs ++ ys)
  in-left [] ys x h = absurd h
  in-left (z ∷ xs) ys x h = ⊎_elim (λ (e : z ≡ x). inl e) (λ (i : IsIn x xs). inr (in-left xs ys x i)) h

  pub in-right : (xs ys : List X) (x : X) → IsIn x ys → IsIn x (xs ++ ys)
  in-right [] ys x h = h
  in-right (z ∷ xs) ys x h = inr (in-right xs ys x h)

  pub in-cases : (xs ys : List X) (x : X) → IsIn x (xs ++ ys) → IsIn x xs ⊎ IsIn x ys
  in-cases [] ys x h = inr h
  in-cases (z ∷ xs) ys x h =
      ⊎_elim
      (λ (e : z ≡ x). inl (inl e))
      (λ (i : IsIn x (xs ++ ys)). ⊎_elim (λ (a : IsIn x xs). inl (inr a)) (λ (b : IsIn x ys). inr b) (in-cases xs ys x i))
      h

  -- a filter keeps what passes, in order
  pub each-filter : (P : X → Type 0) (p : X → Bool) (xs : List X) → Each P xs → Each (λ x. P x × (p x ≡ true)) (filter p xs)
  each-filter P p [] each = tt
  each-filter P p (x ∷ xs) each = by (p x) refl (each-filter P p xs each.1)
    where
      by : (b : Bool) → p x ≡ b → Each (λ y. P y × (p y ≡ true)) (filter p xs) → Each (λ y. P y × (p y ≡ true)) (cond b (x ∷ filter p xs) (filter p xs))
      by true e rest = ((each.0, e), rest)
      by false e rest = rest

  pub in-filter : (p : X → Bool) (xs : List X) (x : X) → IsIn x xs → p x ≡ true → IsIn x (filter p xs)
  in-filter p [] x has passes = absurd has
  in-filter p (y ∷ ys) x has passes = by (p y) refl (λ i. in-filter p ys x i passes)
    where
      by : (b : Bool) → p y ≡ b → (IsIn x ys → IsIn x (filter p ys)) → IsIn x (cond b (y ∷ filter p ys) (filter p ys))
      by true e rest = ⊎_elim (λ (s : y ≡ x). inl s) (λ (i : IsIn x ys). inr (rest i)) has
      by false e rest = ⊎_elim (λ (s : y ≡ x). absurd (let f : p x ≡ false = subst (λ z. p z ≡ false) s e in cc)) rest has

  pub rises-filter : (R : X → X → Type 0) (p : X → Bool) (xs : List X) → Rises R xs → Rises R (filter p xs)
  rises-filter R p [] up = tt
  rises-filter R p (x ∷ xs) up = by (p x) (rises-filter R p xs up.1)
    where
      by : (b : Bool) → Rises R (filter p xs) → Rises R (cond b (x ∷ filter p xs) (filter p xs))
      by true rest = (each-weaker (λ y. R x y × (p y ≡ true)) (R x) (λ y h. h.0) (filter p xs) (each-filter (R x) p xs up.0), rest)
      by false rest = rest

  pub rises-append : (R : X → X → Type 0) (xs ys : List X) → Rises R xs → Rises R ys → Each (λ y. Each (λ x. R x y) xs) ys → Rises R (xs ++ ys)
  rises-append R [] ys a b c = b
  rises-append R (x ∷ xs) ys a b c = (
    each-append (R x) xs ys a.0 (each-weaker (λ y. Each (λ z. R z y) (x ∷ xs)) (R x) (λ y h. h.0) ys c),
    rises-append R xs ys a.1 b (each-weaker (λ y. Each (λ z. R z y) (x ∷ xs)) (λ y. Each (λ z. R z y) xs) (λ y h. h.1) ys c),
  )

  -- of two items of a list that rises, either they are one, or one comes first
  pub rises-two : (R : X → X → Type 0) (xs : List X) (x y : X) → Rises R xs → IsIn x xs → IsIn y xs → (x ≡ y) ⊎ (R x y ⊎ R y x)
  rises-two R [] x y up h i = absurd h
  rises-two R (z ∷ xs) x y up h i =
      ⊎_elim
      (λ (e : z ≡ x). ⊎_elim (λ (f : z ≡ y). inl (sym e ∙ f)) (λ (j : IsIn y xs). inr (inl (subst (λ w. R w y) e (each-in (R z) xs y up.0 j)))) i)
      (λ (j : IsIn x xs).
      ⊎_elim
      (λ (f : z ≡ y). inr (inr (subst (λ w. R w x) f (each-in (R z) xs x up.0 j))))
      (λ (k : IsIn y xs). rises-two R xs x y up.1 j k)
      i)
      h

  pub any-in : (p : X → Bool) (xs : List X) → list_any p xs ≡ true → (x : X) × IsIn x xs × (p x ≡ true)
  any-in p [] h = absurd (cc)
  any-in p (x ∷ xs) h = by (p x) refl h (any-in p xs)
    where
      by : (b : Bool) → p x ≡ b → (b || list_any p xs) ≡ true → (list_any p xs ≡ true → (y : X) × IsIn y xs × (p y ≡ true))
          → (y : X) × IsIn y (x ∷ xs) × (p y ≡ true)
      by true e h rest = (x, inl refl, e)
      by false e h rest = let r = rest h in (r.0, inr r.1, r.2)

  pub none-in : (p : X → Bool) (xs : List X) → list_any p xs ≡ false → Each (λ x. p x ≡ false) xs
  none-in p [] h = tt
  none-in p (x ∷ xs) h = by (p x) refl h (none-in p xs)
    where
      by : (b : Bool) → p x ≡ b → (b || list_any p xs) ≡ false → (list_any p xs ≡ false → Each (λ y. p y ≡ false) xs) → Each (λ y. p y ≡ false) (x ∷ xs)
      by true e h rest = absurd (cc)
      by false e h rest = (e, rest h)

  pub each-left : (P : X → Type 0) (xs ys : List X) → Each P (xs ++ ys) → Each P xs
  each-left P [] ys each = tt
  each-left P (x ∷ xs) ys each = (each.0, each-left P xs ys each.1)

  pub each-right : (P : X → Type 0) (xs ys : List X) → Each P (xs ++ ys) → Each P ys
  each-right P [] ys each = each
  each-right P (x ∷ xs) ys each = each-right P xs ys each.1

  -- round an item of a list that rises
  pub rises-before : (R : X → X → Type 0) (xs : List X) (y : X) (ys : List X) → Rises R (xs ++ y ∷ ys) → Each (λ x. R x y) xs
  rises-before R [] y ys up = tt
  rises-before R (x ∷ xs) y ys up = ((each-right (R x) xs (y ∷ ys) up.0).0, rises-before R xs y ys up.1)

  pub rises-after : (R : X → X → Type 0) (xs : List X) (y : X) (ys : List X) → Rises R (xs ++ y ∷ ys) → Each (R y) ys
  rises-after R [] y ys up = up.0
  rises-after R (x ∷ xs) y ys up = rises-after R xs y ys up.1

  pub rises-without : (R : X → X → Type 0) (xs : List X) (y : X) (ys : List X) → Rises R (xs ++ y ∷ ys) → Rises R (xs ++ ys)
  rises-without R [] y ys up = up.1
  rises-without R (x ∷ xs) y ys up =
      (each-append (R x) xs ys (each-left (R x) xs (y ∷ ys) up.0) ((each-right (R x) xs (y ∷ ys) up.0).1), rises-without R xs y ys up.1)
