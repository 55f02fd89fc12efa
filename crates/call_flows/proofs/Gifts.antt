-- Gifts that agree are made by one choice, and gifts that one choice makes agree.
use Rattle.std.proofs.Common.{◌≡◌, ◌<◌, ℕ, zero, suc, Bool, true, false, List, [], ◌∷◌, length, slice_index_or, refl, sym, ap, ◌∙◌, subst, arith}
use Rattle.std.proofs.Common.{eq-eqb, eqb-true}
use Rattle.std.specs.Prelude.{◌==◌, ◌&&◌, All, Some, if◌then◌else◌}
use Rattle.call_flows.specs.Gifts.{Agree, AreGifts, Gives, choice_of}
use Rattle.call_flows.specs.declared.gift.Gift.{Gift}
use Rattle.client_facts.specs.Choices.{Choice, IsChoice, IsGiven}
use Rattle.client_facts.specs.Setting.{Setting}

pub all_head : {A : Type 0} (P : A → Type 0) (x : A) (xs : List A) → All P (x ∷ xs) → P x
all_head P x xs h = h 0 x (omega arith)

pub all_tail : {A : Type 0} (P : A → Type 0) (x : A) (xs : List A) → All P (x ∷ xs) → All P xs
all_tail P x xs h = λ k d lt. h (suc k) d (omega (arith, lt))

-- this slot of this class
abbrev is_for : Gift → ℕ → ℕ → Bool
is_for x class number = (x.class == class) && (x.number == number)

same_some : {A : Type 0} (x y : A) → Some x ≡ Some y → x ≡ y
same_some x y is = cc

both_true : (a b : Bool) → (a && b) ≡ true → (a ≡ true) × (b ≡ true)
both_true true true is = (refl, refl)
both_true true false is = absurd cc
both_true false true is = absurd cc
both_true false false is = absurd cc

same_number : (x y : ℕ) → (x == y) ≡ true → x ≡ y
same_number x y is = eqb-true x y is

-- what a choice that makes these gifts gives is one of them
module _ (P : Gift → Type 0) where
  found_at : (x : Gift) (xs : List Gift) (class number code : ℕ) (test : Bool) → is_for x class number ≡ test → P x →
      ((choice_of xs class number ≡ Some code) → P (record { class = class; number = number; code = code })) →
      (if test then Some x.code else choice_of xs class number) ≡ Some code → P (record { class = class; number = number; code = code })
  found_at x xs class number code true is here later so =
      let tests = both_true _ _ is in
      let classes = same_number x.class class tests.0 in
      let numbers = same_number x.number number tests.1 in
      let codes = same_some x.code code so in
      subst P (λ i. record { class = classes i; number = numbers i; code = codes i }) here
  found_at x xs class number code false is here later so = later so

  found : (xs : List Gift) (class number code : ℕ) → All P xs → choice_of xs class number ≡ Some code →
      P (record { class = class; number = number; code = code })
  found [] class number code all so = absurd cc
  found (x ∷ xs) class number code all so =
      found_at x xs class number code _ refl (all_head P x xs all) (found xs class number code (all_tail P x xs all)) so

-- each gift is made
made_at : (x y : Gift) (xs : List Gift) (test : Bool) → is_for y x.class x.number ≡ test → Agree x y →
    (choice_of xs x.class x.number ≡ Some x.code) → (if test then Some y.code else choice_of xs x.class x.number) ≡ Some x.code
made_at x y xs true is agrees later =
    let tests = both_true _ _ is in
    ap Some (sym ((agrees (sym (same_number y.class x.class tests.0))).0 (sym (same_number y.number x.number tests.1))))
made_at x y xs false is agrees later = later

both_back : (a b : Bool) → a ≡ true → b ≡ true → (a && b) ≡ true
both_back true true one other = refl
both_back true false one other = absurd cc
both_back false b one other = absurd cc

own : (x : Gift) → is_for x x.class x.number ≡ true
own x = both_back _ _ (eq-eqb x.class x.class refl) (eq-eqb x.number x.number refl)

made_here : (x : Gift) (xs : List Gift) → choice_of (x ∷ xs) x.class x.number ≡ Some x.code
made_here x xs = ap (λ t. if t then Some x.code else choice_of xs x.class x.number) (own x)

made : (xs : List Gift) (k : ℕ) (x d : Gift) → k < length xs → slice_index_or xs k d ≡ x → All (Agree x) xs → choice_of xs x.class x.number ≡ Some x.code
made [] k x d lt is agree = absurd (omega (arith, lt))
made (y ∷ ys) zero x d lt is agree = subst (λ (z : Gift). choice_of (z ∷ ys) x.class x.number ≡ Some x.code) (sym is) (made_here x ys)
made (y ∷ ys) (suc k) x d lt is agree =
    made_at x y ys _ refl (all_head (Agree x) y ys agree) (made ys k x d (omega (arith, lt)) is (all_tail (Agree x) y ys agree))

module _ (g : Setting) (p n : ℕ) where
  -- gifts that agree are made by some choice
  pub chosen : (xs : List Gift) → AreGifts g p n xs → IsChoice g p n (choice_of xs)
  chosen xs are = record {
    given = λ class number code is. found (λ x. IsGiven g p n x.class x.number x.code) xs class number code are.given is;
    once = λ class one other code is also.
        let all = found (λ x. All (Agree x) xs) xs class one code are.agree is in
        let agrees = found (Agree (record { class = class; number = one; code = code })) xs class other code all also in
        (agrees refl).1 refl;
  }

  pub all_made : (xs : List Gift) → AreGifts g p n xs → All (Gives (choice_of xs)) xs
  all_made xs are = λ k d lt. made xs k (slice_index_or xs k d) d lt refl (are.agree k d lt)

  agree_by : (c : Choice) (x y : Gift) → IsChoice g p n c → Gives c x → Gives c y → Agree x y
  agree_by c x y is one other classes = (
    λ numbers. same_some x.code y.code (sym one ∙ ((λ i. c (classes i) (numbers i)) ∙ other)),
    λ codes. is.once x.class x.number y.number x.code one (ap (λ z. c z y.number) classes ∙ (other ∙ ap Some (sym codes))),
  )

  -- gifts that a choice makes agree
  pub agreed : (c : Choice) (xs : List Gift) → IsChoice g p n c → All (Gives c) xs → AreGifts g p n xs
  agreed c xs is gives = record {
    given = λ k d lt. is.given _ _ _ (gives k d lt);
    agree = λ k d lt j e less. agree_by c (slice_index_or xs k d) (slice_index_or xs j e) is (gives k d lt) (gives j e less);
  }
