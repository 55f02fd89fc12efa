-- The orders of a list of different items are the lists of different items with the same members.
use Rattle.std.proofs.Common.{inl, inr, ◌↔◌, ◌≡◌, ◌≢◌, ℕ, zero, suc, ◌+◌, ◌<◌, ◌≤◌, List, [], ◌∷◌, ◌++◌, length, Contains, subst, arith, refl, ap, sym, ◌∙◌}
use Rattle.std.proofs.lemmas.Bool.{cases_lt}
use Rattle.std.proofs.lemmas.List.Edits.{length-insert}
use Rattle.std.proofs.lemmas.List.Elements.{Contains-append_cases, Contains-append_left, Contains-push}
use Rattle.std.specs.List.{insert}
use Rattle.access_paths.proofs.Members.{Distinct, cons_distinct, head_apart, head_member, in_flat_map, in_map, no_member, none_distinct, of_flat_map, of_map, put_distinct, put_from, put_there, tail_distinct, tail_member, which_member}
use Rattle.access_paths.specs.{below, insertions, orders}

pub in_below : (n k : ℕ) → k < n → Contains (below n) k
in_below zero k less = absurd (omega arith)
in_below (suc n) k less =
    elim (cases_lt k n) [
      | inl before ↦ Contains-append_left (below n) (n ∷ []) k (in_below n k before)
      | inr last ↦ let P : ℕ → Type 0 = Contains (below n ++ n ∷ []) in let same : n ≡ k = omega arith in subst P same (Contains-push (below n) n)
    ]

pub of_below : (n k : ℕ) → Contains (below n) k → k < n
of_below zero k is = absurd (no_member k is)
of_below (suc n) k is =
    elim (Contains-append_cases (below n) (n ∷ []) k is) [
      | inl before ↦ let less = of_below n k before in omega arith
      | inr last ↦ elim (which_member n [] k last) [ inl same ↦ omega arith | inr none ↦ absurd (no_member k none) ]
    ]

module _ {X : Type 0} where
  -- different items, the same members
  pub record IsOrder (xs ys : List X) : Type 0 where
    pub distinct : Distinct ys
    pub members : (x : X) → Contains ys x ↔ Contains xs x
    pub as_long : length ys ≡ length xs

  put_order : (x : X) (xs zs ys : List X) (n : ℕ) → Distinct (x ∷ xs) → IsOrder xs zs → n ≤ length zs → insert zs n x ≡ ys → IsOrder (x ∷ xs) ys
  put_order x xs zs ys n apart is within same =
      let P : List X → Type 0 = IsOrder (x ∷ xs) in
      subst P same (record {
        distinct = put_distinct x zs n within is.distinct (λ there. head_apart x xs apart ((is.members x).0 there));
        members = λ y. (
          λ there. elim (put_from x zs n y within there) [ inl first ↦ (0, omega arith, first) | inr rest ↦ tail_member x xs y ((is.members y).0 rest) ],
          λ there. put_there x zs n y within (elim (which_member x xs y there) [ inl first ↦ inl first | inr rest ↦ inr ((is.members y).1 rest) ]),
        );
        as_long = let longer = length-insert zs n x within in let same_length = is.as_long in omega arith;
      })

  -- each order is one
  pub each_order : (xs ys : List X) → Distinct xs → Contains (orders xs) ys → IsOrder xs ys
  each_order [] ys apart is =
      elim (which_member [] [] ys is) [
        | inl same ↦ let P : List X → Type 0 = IsOrder [] in subst P same (record { distinct = none_distinct; members = λ x. (λ there. there, λ there. there); as_long = refl })
        | inr none ↦ absurd (no_member ys none)
      ]
  each_order (x ∷ xs) ys apart is =
      let from = of_flat_map (insertions x) (orders xs) ys is in
      let zs = from.0 in
      let place = of_map (λ n. insert zs n x) (below (length zs + 1)) ys from.2 in
      let within : place.0 ≤ length zs = omega (arith, of_below (length zs + 1) place.0 place.1) in
      put_order x xs zs ys place.0 apart (each_order xs zs (tail_distinct x xs apart) from.1) within place.2

  -- a list of different items is another one with an item put at a place
  record IsWithout (x : X) (ys : List X) : Type 0 where
    rest : List X
    place : ℕ
    within : place ≤ length rest
    put : insert rest place x ≡ ys
    distinct : Distinct rest
    here : (y : X) → Contains rest y → Contains ys y × (y ≢ x)
    there : (y : X) → Contains ys y → y ≢ x → Contains rest y

  without : (x : X) (ys : List X) → Distinct ys → Contains ys x → IsWithout x ys
  without x [] apart is = absurd (no_member x is)
  without x (z ∷ ys) apart is =
      elim (which_member z ys x is) [
        | inl same ↦ record {
          rest = ys;
          place = 0;
          within = omega arith;
          put = ap (λ w. w ∷ ys) (sym same);
          distinct = tail_distinct z ys apart;
          here = λ y in_rest. (tail_member z ys y in_rest, λ y_x. let P : X → Type 0 = Contains ys in head_apart z ys apart (subst P (y_x ∙ sym same) in_rest));
          there = λ y in_all y_not. elim (which_member z ys y in_all) [ inl z_y ↦ absurd (y_not (sym z_y ∙ same)) | inr after ↦ after ];
        }
        | inr after ↦
            let w = without x ys (tail_distinct z ys apart) after in
            record {
              rest = z ∷ w.rest;
              place = suc w.place;
              within = omega (arith, w.within);
              put = ap (λ us. z ∷ us) w.put;
              distinct = cons_distinct z w.rest (λ z_there. head_apart z ys apart (w.here z z_there).0) w.distinct;
              here = λ y in_rest. elim (which_member z w.rest y in_rest) [
                | inl z_y ↦ ((0, omega arith, z_y), λ y_x. let P : X → Type 0 = Contains ys in head_apart z ys apart (subst P (sym y_x ∙ sym z_y) after))
                | inr later ↦ (tail_member z ys y (w.here y later).0, (w.here y later).1)
              ];
              there = λ y in_all y_not. elim (which_member z ys y in_all) [
                | inl z_y ↦ (0, omega arith, z_y)
                | inr later ↦ tail_member z w.rest y (w.there y later y_not)
              ];
            }
      ]

  -- each list of different items with the same members is an order
  pub all_orders : (xs ys : List X) → Distinct xs → Distinct ys → ((x : X) → Contains ys x ↔ Contains xs x) → Contains (orders xs) ys
  all_orders [] [] apart ys_apart same = head_member [] []
  all_orders [] (y ∷ ys) apart ys_apart same = absurd (no_member y ((same y).0 (head_member y ys)))
  all_orders (x ∷ xs) ys apart ys_apart same =
      let w = without x ys ys_apart ((same x).1 (head_member x xs)) in
      let rest_same : (y : X) → Contains w.rest y ↔ Contains xs y =
      (λ y. (
        λ there. elim (which_member x xs y ((same y).0 (w.here y there).0)) [ inl first ↦ absurd ((w.here y there).1 (sym first)) | inr after ↦ after ],
        λ there. w.there y ((same y).1 (tail_member x xs y there)) (λ y_x. let P : X → Type 0 = Contains xs in head_apart x xs apart (subst P y_x there)),
      )) in
      let here : Contains (insertions x w.rest) ys =
      (let P : List X → Type 0 = Contains (insertions x w.rest) in
      subst P w.put (in_map (λ n. insert w.rest n x) (below (length w.rest + 1)) w.place (in_below (length w.rest + 1) w.place (omega (arith, w.within))))) in
      in_flat_map (insertions x) (orders xs) w.rest ys (all_orders xs w.rest (tail_distinct x xs apart) w.distinct rest_same) here
