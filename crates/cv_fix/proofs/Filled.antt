-- Lists of causes that are filled up.
use Rattle.std.proofs.Common.{◌≡◌, ℕ, ◌+◌, ◌-◌, ◌≤◌, List, [], ◌∷◌, ◌++◌, length, replicate, Option, refl, ap, ◌∙◌, arith, length-append, append_assoc}
use Rattle.std.proofs.lemmas.List.{append-nil, length-replicate, replicate-append-replicate}
use Rattle.cv_fix.specs.Known.{filled}

module _ (cause : Option ℕ) where
  pub length-filled : (n : ℕ) (causes : List (Option ℕ)) → length causes ≤ n → length (filled cause n causes) ≡ n
  length-filled n causes h = omega (arith, length-append causes (replicate (n - length causes) cause), length-replicate (n - length causes) cause)

  pub length-now : (n : ℕ) (causes now : List (Option ℕ)) → length causes ≤ n → now ≡ filled cause n causes → length now ≡ n
  length-now n causes now h is = ap length is ∙ length-filled n causes h

  -- no new item
  pub filled-same : (n : ℕ) (causes : List (Option ℕ)) → length causes ≡ n → filled cause n causes ≡ causes
  filled-same n causes h =
      let none : n - length causes ≡ 0 = omega arith in
      rw none (append-nil causes)

  -- one new item
  pub filled-push : (n : ℕ) (causes : List (Option ℕ)) → length causes + 1 ≡ n → filled cause n causes ≡ causes ++ cause ∷ []
  filled-push n causes h =
      let one : n - length causes ≡ 1 = omega arith in
      rw one refl

  filled-filled : (m n : ℕ) (causes : List (Option ℕ)) → length causes ≤ m → m ≤ n → filled cause n (filled cause m causes) ≡ filled cause n causes
  filled-filled m n causes h k =
      let long : n - length (filled cause m causes) ≡ n - m = rw (length-filled m causes h) refl in
      let all : (m - length causes) + (n - m) ≡ n - length causes = omega arith in
      ap (λ l. filled cause m causes ++ replicate l cause) long
      ∙ append_assoc causes (replicate (m - length causes) cause) (replicate (n - m) cause)
      ∙ ap (λ l. causes ++ l) (replicate-append-replicate (m - length causes) (n - m) cause)
      ∙ ap (λ l. causes ++ replicate l cause) all

  -- filled up twice is filled up at once
  pub filled-next : (m n : ℕ) (causes now new : List (Option ℕ)) → length causes ≤ m → m ≤ n → now ≡ filled cause m causes → new ≡ filled cause n now → new ≡ filled cause n causes
  filled-next m n causes now new h k first second = second ∙ ap (filled cause n) first ∙ filled-filled m n causes h k

-- the steps of `add`
pub ruleset filled_steps = (filled-same, filled-push)
