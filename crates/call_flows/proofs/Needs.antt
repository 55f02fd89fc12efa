-- What is needed of a slot choice, by cases of names and place by place.
use Rattle.std.proofs.Common.{◌≡◌, ◌<◌, ◌≤◌, ◌+◌, ◌↔◌, ℕ, zero, suc, Bool, true, false, List, [], ◌∷◌, length, drop, slice_index_or, refl, sym, ap}
use Rattle.std.proofs.Common.{subst, arith, add-one, eqb-true, eq-eqb, ◌⊎◌, inl, inr}
use Rattle.std.specs.Prelude.{◌==◌, IsTrue}
use Rattle.call_flows.specs.Needs.{Crosses, Meets}
use Rattle.call_flows.specs.Told.{name_told}
use Rattle.call_flows.specs.declared.name.Name.{Name as Coded}
use Rattle.call_flows.specs.declared.name.Name.TheVariants as coded
use Rattle.call_flows.specs.declared.need.Crossing.{Crossing}
use Rattle.call_flows.specs.declared.need.Need.{Need}
use Rattle.client_facts.specs.Calls.{AllThree, Remains, ReturnsAs, StandsFor, WasGiven}
use Rattle.client_facts.specs.Choices.{Choice}
use Rattle.client_model.specs.Codes.{Name, name_of}
use Rattle.client_steps.specs.States.{Call}

-- a choice meets a need exactly where this holds
abbrev pub IsNeed : Need → (Choice → Type 0) → Type 0
IsNeed need P = (c : Choice) → Meets c need ↔ P c

pub both_ways : {A B D : Type 0} → A ↔ B → B ↔ D → A ↔ D
both_ways f g = (λ a. g.0 (f.0 a), λ d. f.1 (g.1 d))

pub tested : (a b : ℕ) → IsTrue (a == b) ↔ (a ≡ b)
tested a b = (λ is. eqb-true a b is, λ is. eq-eqb a b is)

module _ (need : Need) (class a b : ℕ) where
  pub stands_by : (k : Call) (one other : Name) → one ≡ other → IsNeed need (λ c. StandsFor c k class a b one) → IsNeed need (λ c. StandsFor c k class a b other)
  stands_by k one other same is = subst (λ x. IsNeed need (λ c. StandsFor c k class a b x)) same is

  pub remains_by : (one other : Name) → one ≡ other → IsNeed need (λ c. Remains c class a b one) → IsNeed need (λ c. Remains c class a b other)
  remains_by one other same is = subst (λ x. IsNeed need (λ c. Remains c class a b x)) same is

  pub given_by : (one other : Name) → one ≡ other → IsNeed need (λ c. WasGiven c class a one) → IsNeed need (λ c. WasGiven c class a other)
  given_by one other same is = subst (λ x. IsNeed need (λ c. WasGiven c class a x)) same is

  pub returns_by : (one other : Bool) → one ≡ other → IsNeed need (λ c. ReturnsAs c class a b one) → IsNeed need (λ c. ReturnsAs c class a b other)
  returns_by one other same is = subst (λ x. IsNeed need (λ c. ReturnsAs c class a b x)) same is

  pub crosses_by : (k : Call) (one other : Crossing) → one ≡ other → IsNeed need (λ c. Crosses one c k class a b) → IsNeed need (λ c. Crosses other c k class a b)
  crosses_by k one other same is = subst (λ x. IsNeed need (λ c. Crosses x c k class a b)) same is

  pub static_need : IsNeed need (λ c. IsTrue (b == a)) → IsNeed need (λ c. b ≡ a)
  static_need is = λ c. both_ways (is c) (tested b a)

  -- a variable or a slot
  pub unfixed : (name : Coded) → ((x : ℕ) × (name ≡ coded.Variable x)) ⊎ ((x : ℕ) × (name ≡ coded.Slot x)) → IsNeed need (λ c. WasGiven c class a (name_of b)) →
      IsNeed need (λ c. Remains c class a b (name_told name))
  unfixed name (inl is) given = remains_by _ _ (ap name_told (sym is.1)) given
  unfixed name (inr is) given = remains_by _ _ (ap name_told (sym is.1)) given

module _ (R : ℕ → ℕ → ℕ → Type 0) where
  here_suc : (xs ys zs : List ℕ) (n : ℕ) → n < length xs → length ys ≡ length xs → length zs ≡ length xs →
      AllThree R (drop n xs) (drop n ys) (drop n zs)
      ↔ (R (slice_index_or xs n 0) (slice_index_or ys n 0) (slice_index_or zs n 0) × AllThree R (drop (suc n) xs) (drop (suc n) ys) (drop (suc n) zs))
  here_suc [] ys zs n lt one other = absurd (omega (arith, lt))
  here_suc (x ∷ xs) [] zs n lt one other = absurd (omega (arith, one))
  here_suc (x ∷ xs) (y ∷ ys) [] n lt one other = absurd (omega (arith, other))
  here_suc (x ∷ xs) (y ∷ ys) (z ∷ zs) zero lt one other = (λ h. h, λ h. h)
  here_suc (x ∷ xs) (y ∷ ys) (z ∷ zs) (suc n) lt one other = here_suc xs ys zs n (omega (arith, lt)) (omega (arith, one)) (omega (arith, other))

  pub three_end : (xs ys zs : List ℕ) (n : ℕ) → length xs ≤ n → length ys ≡ length xs → length zs ≡ length xs → AllThree R (drop n xs) (drop n ys) (drop n zs)
  three_end [] [] [] zero le one other = tt
  three_end [] [] [] (suc n) le one other = tt
  three_end [] [] (z ∷ zs) n le one other = absurd (omega (arith, other))
  three_end [] (y ∷ ys) zs n le one other = absurd (omega (arith, one))
  three_end (x ∷ xs) [] zs n le one other = absurd (omega (arith, one))
  three_end (x ∷ xs) (y ∷ ys) [] n le one other = absurd (omega (arith, other))
  three_end (x ∷ xs) (y ∷ ys) (z ∷ zs) zero le one other = absurd (omega (arith, le))
  three_end (x ∷ xs) (y ∷ ys) (z ∷ zs) (suc n) le one other = three_end xs ys zs n (omega (arith, le)) (omega (arith, one)) (omega (arith, other))

  pub three_lengths : (xs ys zs : List ℕ) → AllThree R xs ys zs → (length ys ≡ length xs) × (length zs ≡ length xs)
  three_lengths [] [] [] all = (refl, refl)
  three_lengths [] [] (z ∷ zs) all = absurd all
  three_lengths [] (y ∷ ys) zs all = absurd all
  three_lengths (x ∷ xs) [] zs all = absurd all
  three_lengths (x ∷ xs) (y ∷ ys) [] all = absurd all
  three_lengths (x ∷ xs) (y ∷ ys) (z ∷ zs) all = let rest = three_lengths xs ys zs all.1 in (ap suc rest.0, ap suc rest.1)

  -- one place more
  pub three_more : (Before After Start Here : Type 0) (xs ys zs : List ℕ) (n : ℕ) → n < length xs → length ys ≡ length xs → length zs ≡ length xs →
      After ↔ (Before × Here) → Here ↔ R (slice_index_or xs n 0) (slice_index_or ys n 0) (slice_index_or zs n 0) →
      (Before × AllThree R (drop n xs) (drop n ys) (drop n zs)) ↔ Start → (After × AllThree R (drop (n + 1) xs) (drop (n + 1) ys) (drop (n + 1) zs)) ↔ Start
  three_more Before After Start Here xs ys zs n lt one other after here so =
      let split = here_suc xs ys zs n lt one other in
      rw add-one (
        λ w. let was = after.0 w.0 in so.0 (was.0, split.1 (here.0 was.1, w.1)),
        λ s. let was = so.1 s in let both = split.0 was.1 in (after.1 (was.0, here.1 both.0), both.1),
      )

  -- all places
  pub three_done : (Now Start : Type 0) (xs ys zs : List ℕ) (n : ℕ) → length xs ≤ n → length ys ≡ length xs → length zs ≡ length xs →
      (Now × AllThree R (drop n xs) (drop n ys) (drop n zs)) ↔ Start → Now ↔ Start
  three_done Now Start xs ys zs n le one other so = (λ now. so.0 (now, three_end xs ys zs n le one other), λ s. (so.1 s).0)

  -- there are no places that match
  pub three_never : (Now Was : Type 0) (test : Bool) (xs ys zs : List ℕ) → (IsTrue test ↔ ((length ys ≡ length xs) × (length zs ≡ length xs))) →
      test ≡ false → Now ↔ (Was × ⊥) → Now ↔ (Was × AllThree R xs ys zs)
  three_never Now Was test xs ys zs tells not_so is = (λ now. absurd (is.0 now).1, λ both. absurd (never (tells.1 (three_lengths xs ys zs both.1))))
    where
      never : test ≡ true → ⊥
      never so = cc
