-- Rules that look at the last item alone, at an item of a list.
use Rattle.std.proofs.Common.{◌≡◌, ℕ, suc, ◌+◌, ◌<◌, inl, Contains, arith, add-one, List, [], ◌∷◌, ◌++◌, length, take, get_or, Option, Some, None, Result, Ok, refl, sym, ap, subst, ◌∙◌}
use Rattle.std.specs.Global.{Vec}
use Rattle.std.specs.List.{last_or}
use Rattle.std.specs.Option.{option_map_or}
use Rattle.std.specs.Result.{result_unwrap_or}
use Rattle.std.proofs.lemmas.List.{take_more, get_or-take, length-take}
use Rattle.cv_fix.specs.declared.rules.RuleStop.{RuleStop}
use Rattle.cv_fix.specs.Answer.{IsAnswer}
use Rattle.cv_fix.specs.Closure.{given_at}
use Rattle.cv_fix.specs.Last.{by_last}
use Rattle.cv_fix.specs.Least.{IsSteady}

last_or-push : {T : Type 0} (o : Option T) (xs : List T) (x : T) → last_or o (xs ++ x ∷ []) ≡ Some x
last_or-push o [] x = refl
last_or-push o (y ∷ ys) x = last_or-push (Some y) ys x

by_last-take : {T S : Type 0} (f : T → Result (List T) S) (xs : List T) (n : ℕ) (d : T) → n < length xs → by_last f (take (n + 1) xs) ≡ f (get_or xs n d)
by_last-take f xs n d h = ap (λ o. option_map_or f o (Ok [])) (ap (last_or None) (take_more xs n d h) ∙ last_or-push None (take n xs) (get_or xs n d))

-- an answer at the item at place n is one at the items up to that place
pub answer_at_last : {T S : Type 0} (r : Result (Vec T) (RuleStop S)) (f : T → Result (List T) S) (xs : List T) (n : ℕ) (d : T) → n < length xs → IsAnswer r (f (get_or xs n d)) → IsAnswer r (by_last f (take (n + 1) xs))
answer_at_last r f xs n d h answer = subst (IsAnswer r) (sym (by_last-take f xs n d h)) answer

module _ {T S : Type 0} (f : T → Result (List T) S) where
  given_at-by_last : (xs : List T) (n : ℕ) (d : T) → n < length xs → given_at (by_last f) xs n ≡ result_unwrap_or (f (get_or xs n d)) []
  given_at-by_last xs n d h = ap (λ r. result_unwrap_or r []) (ap (λ m. by_last f (take m xs)) (sym (add-one n)) ∙ by_last-take f xs n d h)

  -- a list that holds the item gives what it gives
  pub IsSteady-by_last : IsSteady (by_last f)
  IsSteady-by_last = λ xs ys n x g upto.
      let held : Contains ys (get_or xs n x) = subst (Contains ys) (get_or-take (suc n) xs n x (omega arith)) (upto n x (omega (arith, length-take (suc n) xs, g.place))) in
      let here = given_at-by_last xs n x g.place in
      let there = given_at-by_last ys held.0 (get_or xs n x) held.1 ∙ ap (λ y. result_unwrap_or (f y) []) held.2 in
      inl (held.0, record { place = held.1; gives = subst (λ l. Contains l x) (here ∙ sym there) g.gives })
