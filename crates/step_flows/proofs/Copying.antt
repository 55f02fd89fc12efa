-- The names of a fact before a copy, name by name.
use Rattle.std.proofs.Common.{ℕ, ◌<◌, ◌≡◌, zero, suc, Option, Some, None, List, [], ◌∷◌, ◌++◌, length, get_or, ap, sym, refl, ◌∙◌, arith}
use Rattle.client_facts.specs.Flows.{copied}

pub copied-cons : (t s : Option ℕ) (a : ℕ) (args : List ℕ) → copied t s (a ∷ args) ≡ copied t s (a ∷ []) ++ copied t s args
copied-cons None s a args = refl
copied-cons (Some x) None a args = refl
copied-cons (Some x) (Some y) a args = refl

pub copied-none : (t s : Option ℕ) → copied t s [] ≡ []
copied-none None s = refl
copied-none (Some x) None = refl
copied-none (Some x) (Some y) = refl

copied-one : (t s : Option ℕ) (a : ℕ) → (b : ℕ) × (copied t s (a ∷ []) ≡ b ∷ [])
copied-one None s a = (a, refl)
copied-one (Some x) None a = (a, refl)
copied-one (Some x) (Some y) a = (_, refl)

pub length-copied : (t s : Option ℕ) (args : List ℕ) → length (copied t s args) ≡ length args
length-copied t s [] = ap length (copied-none t s)
length-copied t s (a ∷ args) =
    let one = copied-one t s a in
    let e : length (copied t s (a ∷ args)) ≡ length ((one.0 ∷ []) ++ copied t s args) = ap length
    (copied-cons t s a args ∙ ap (λ xs. xs ++ copied t s args) one.1) in
    let h = length-copied t s args in
    omega arith

pub copied-at : (t s : Option ℕ) (args : List ℕ) (i : ℕ) → i < length args → copied t s (get_or args i 0 ∷ []) ≡ get_or (copied t s args) i 0 ∷ []
copied-at t s [] i l = absurd (omega arith)
copied-at t s (a ∷ args) zero l =
    let one = copied-one t s a in
    let e : copied t s (a ∷ args) ≡ (one.0 ∷ []) ++ copied t s args = copied-cons t s a args ∙ ap (λ xs. xs ++ copied t s args) one.1 in
    one.1 ∙ sym (ap (λ xs. get_or xs 0 0 ∷ []) e)
copied-at t s (a ∷ args) (suc i) l =
    let one = copied-one t s a in
    let e : copied t s (a ∷ args) ≡ (one.0 ∷ []) ++ copied t s args = copied-cons t s a args ∙ ap (λ xs. xs ++ copied t s args) one.1 in
    copied-at t s args i (omega arith) ∙ sym (ap (λ xs. get_or xs (suc i) 0 ∷ []) e)
