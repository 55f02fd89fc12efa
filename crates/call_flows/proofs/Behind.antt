-- The names that are tried behind a call are all that may stand there.
use Rattle.std.proofs.Common.{◌≡◌, ◌<◌, ◌⊎◌, ℕ, zero, suc, Bool, true, false, List, [], ◌∷◌, ◌++◌, length, slice_index_or, inl, inr, refl}
use Rattle.std.proofs.Common.{sym, ap, ◌∙◌, subst, arith, eqb, eqb-true}
use Rattle.std.proofs.Common.{⊎_elim, eq-or-lt_of_le, length-append}
use Rattle.std.specs.Prelude.{Contains, Option, Some, None}
use Rattle.std.specs.List.{AllZip}
use Rattle.std.proofs.lemmas.List.Elements.{Contains-append_left, Contains-append_right}
use Rattle.call_flows.proofs.Trying.{listed}
use Rattle.call_flows.proofs.Offered.{code_of_variable, slots_have}
use Rattle.call_flows.specs.Found.{IsListed}
use Rattle.call_flows.specs.Lists.{product_from}
use Rattle.call_flows.specs.Offers.{AreGivers, AreReturnOffers, HasGivers, IsGivenAs, IsGivenBy, IsReturnOffer}
use Rattle.call_flows.specs.Told.{call_told}
use Rattle.call_flows.specs.declared.site.Site.{Site}
use Rattle.client_facts.specs.Calls.{AllThree, AtEntry, AtReturn, Enters, Remains, ReturnsAs, StandsFor, WasGiven, is_target}
use Rattle.client_facts.specs.Choices.{Choice, IsChoice, MayBeGiven}
use Rattle.client_facts.specs.Facts.{classes_of}
use Rattle.client_facts.specs.NameLists.{AreNamesOf, NameLists, variables_with}
use Rattle.client_facts.specs.Names.{MayStand}
use Rattle.client_facts.specs.Over.{ReturnsAt}
use Rattle.client_facts.specs.Setting.{Setting}
use Rattle.client_facts.specs.declared.fact.Fact.{Fact}
use Rattle.client_facts.specs.declared.fact.Fact.TheVariants.{Always, Of}
use Rattle.client_model.specs.Codes.{Name, Result, Slot, Static, Variable, name_of}
use Rattle.client_steps.specs.States.{Call}

-- names that stand for one another place by place do so at each place
pub three_at : (R : ℕ → ℕ → ℕ → Type 0) (xs ys zs : List ℕ) (n : ℕ) → n < length xs → AllThree R xs ys zs →
    R (slice_index_or xs n 0) (slice_index_or ys n 0) (slice_index_or zs n 0)
three_at R [] ys zs n lt all = absurd (omega (arith, lt))
three_at R (x ∷ xs) [] zs n lt all = absurd all
three_at R (x ∷ xs) (y ∷ ys) [] n lt all = absurd all
three_at R (x ∷ xs) (y ∷ ys) (z ∷ zs) zero lt all = all.0
three_at R (x ∷ xs) (y ∷ ys) (z ∷ zs) (suc n) lt all = three_at R xs ys zs n (omega (arith, lt)) all.1

pub given_there : (classes outer inner : List ℕ) (class code n : ℕ) → n < length classes → slice_index_or classes n 0 ≡ class → slice_index_or inner n 0 ≡ code →
    IsGivenAs classes outer inner class code (slice_index_or outer n 0)
given_there classes outer inner class code n lt is also = λ c k all.
    subst (λ x. AtEntry c k x (slice_index_or outer n 0) code) is
    (subst (λ x. AtEntry c k (slice_index_or classes n 0) (slice_index_or outer n 0) x) also (three_at (AtEntry c k) classes outer inner n lt all))

-- what a slot may be given is a slot or a variable of the class
module _ (g : Setting) (s : Site) (names : NameLists) (class : ℕ) (own : AreNamesOf g names) where
  giver_by : (a : ℕ) (name : Name) → name_of a ≡ name → MayStand g s.procedure s.point class a name → MayBeGiven name →
      Contains ((2 ∷ 6 ∷ 10 ∷ []) ++ variables_with names s.procedure class) a
  giver_by a (Static j) is stands kind = absurd kind
  giver_by a (Variable j) is stands kind =
      Contains-append_right (2 ∷ 6 ∷ 10 ∷ []) (variables_with names s.procedure class) a
      ((own.variables s.procedure class).all a (record { number = j; known = stands.0; is = code_of_variable a j is }))
  giver_by a (Slot j) is stands kind = Contains-append_left (2 ∷ 6 ∷ 10 ∷ []) (variables_with names s.procedure class) a (slots_have a j is stands)
  giver_by a (Result j) is stands kind = absurd kind

  pub givers_there : (slots shown all : List ℕ) → slots ≡ 2 ∷ 6 ∷ 10 ∷ [] → shown ≡ variables_with names s.procedure class → all ≡ slots ++ shown
      → AreGivers g s class all
  givers_there slots shown all first second is = λ number a given.
      subst (λ l. Contains l a) (sym (is ∙ (λ i. first i ++ second i))) (giver_by a (name_of a) refl given.named given.kind)

module _ (g : Setting) (s : Site) (before entry : Fact) (class b : ℕ) where
  pub all_give : (offers : List ℕ) → AreGivers g s class offers → HasGivers g s before entry class b offers
  all_give offers are = λ c number a choice enters is given. are number a (choice.given class number a given)

  one_name : (c : Choice) (k : Call) (number outer : ℕ) (name : Name) → name ≡ Slot number → StandsFor c k class outer b name → c class number ≡ Some outer
  one_name c k number outer name is stands = subst (StandsFor c k class outer b) is stands

  same_some : (x y : ℕ) → Some x ≡ Some y → x ≡ y
  same_some x y is = cc

  -- the facts tell the name
  pub one_gives : (outer : ℕ) (offers : List ℕ) → offers ≡ outer ∷ [] → IsGivenBy g before entry class b outer → HasGivers g s before entry class b offers
  one_gives outer offers is given = λ c number a choice enters slot gives.
      let told = one_name c (call_told s) number outer (name_of b) slot (given c (call_told s) enters) in
      subst (λ l. Contains l a) (sym is) (0, omega arith, same_some outer a (sym told ∙ gives))

-- how a name may stand behind the call
target_is : (target : Option ℕ) (a : ℕ) → is_target target a ≡ true → target ≡ Some a
target_is None a is = absurd cc
target_is (Some x) a is = ap Some (tested x a is)
  where
    tested : (x y : ℕ) → (eqb x y) ≡ true → x ≡ y
    tested x y so = eqb-true x y so

module _ (c : Choice) (target : Option ℕ) (class a b : ℕ) where
  -- it takes the result, or is the same static, or was given to the slot
  abbrev Ways : Type 0
  Ways = ((b ≡ 3) × (target ≡ Some a)) ⊎ (((j : ℕ) × (name_of a ≡ Static j) × (b ≡ a)) ⊎ WasGiven c class a (name_of b))

  remain_ways : (name : Name) → name_of a ≡ name → Remains c class a b name → Ways
  remain_ways (Static j) is same = inr (inl (j, is, same))
  remain_ways (Variable j) is given = inr (inr given)
  remain_ways (Slot j) is given = inr (inr given)
  remain_ways (Result j) is never = absurd never

  ways_by : (test : Bool) → is_target target a ≡ test → ReturnsAs c class a b test → Ways
  ways_by true is same = inl (same, target_is target a is)
  ways_by false is remains = remain_ways (name_of a) refl remains

module _ (g : Setting) (s : Site) (before entry : Fact) (class b : ℕ) (offers : List ℕ) where
  by_ways : ((c : Choice) (a : ℕ) → IsChoice g s.procedure s.point c → Enters g c (call_told s) before entry → Ways c s.target class a b → Contains offers a) →
      IsReturnOffer g s before entry class b offers
  by_ways has = λ c a choice enters returns. has c a choice enters (ways_by c s.target class a b (is_target s.target a) refl returns)

  pub static_back : (j : ℕ) → name_of b ≡ Static j → offers ≡ b ∷ [] → IsReturnOffer g s before entry class b offers
  static_back j is so = by_ways (λ c a choice enters ways. at c a ways)
    where
      at : (c : Choice) (a : ℕ) → Ways c s.target class a b → Contains offers a
      at c a (inl same) = absurd (apart (sym is ∙ ap name_of same.0))
        where
          apart : Static j ≡ Result 0 → ⊥
          apart never = cc
      at c a (inr (inl same)) = subst (λ l. Contains l a) (sym so) (0, omega arith, same.2)
      at c a (inr (inr given)) = absurd (subst (WasGiven c class a) is given)

  pub variable_back : (j : ℕ) → name_of b ≡ Variable j → IsReturnOffer g s before entry class b offers
  variable_back j is = by_ways (λ c a choice enters ways. at c a ways)
    where
      at : (c : Choice) (a : ℕ) → Ways c s.target class a b → Contains offers a
      at c a (inl same) = absurd (apart (sym is ∙ ap name_of same.0))
        where
          apart : Variable j ≡ Result 0 → ⊥
          apart never = cc
      at c a (inr (inl same)) = absurd (apart same.0 (sym is ∙ (ap name_of same.2 ∙ same.1)))
        where
          apart : (i : ℕ) → Variable j ≡ Static i → ⊥
          apart i never = cc
      at c a (inr (inr given)) = absurd (subst (WasGiven c class a) is given)

  pub slot_back : (j : ℕ) → name_of b ≡ Slot j → HasGivers g s before entry class b offers → IsReturnOffer g s before entry class b offers
  slot_back j is has = by_ways (λ c a choice enters ways. at c a choice enters ways)
    where
      at : (c : Choice) (a : ℕ) → IsChoice g s.procedure s.point c → Enters g c (call_told s) before entry → Ways c s.target class a b → Contains offers a
      at c a choice enters (inl same) = absurd (apart (sym is ∙ ap name_of same.0))
        where
          apart : Slot j ≡ Result 0 → ⊥
          apart never = cc
      at c a choice enters (inr (inl same)) = absurd (apart same.0 (sym is ∙ (ap name_of same.2 ∙ same.1)))
        where
          apart : (i : ℕ) → Slot j ≡ Static i → ⊥
          apart i never = cc
      at c a choice enters (inr (inr given)) = has c j a choice enters is (subst (WasGiven c class a) is given)

  pub result_back : (j : ℕ) → name_of b ≡ Result j → ((a : ℕ) → s.target ≡ Some a → Contains offers a) → IsReturnOffer g s before entry class b offers
  result_back j is has = by_ways (λ c a choice enters ways. at c a ways)
    where
      at : (c : Choice) (a : ℕ) → Ways c s.target class a b → Contains offers a
      at c a (inl same) = has a same.1
      at c a (inr (inl same)) = absurd (apart same.0 (sym is ∙ (ap name_of same.2 ∙ same.1)))
        where
          apart : (i : ℕ) → Result j ≡ Static i → ⊥
          apart i never = cc
      at c a (inr (inr given)) = absurd (subst (WasGiven c class a) is given)

-- names that stand behind the call are among the offers, place by place
pub all_back : (g : Setting) (s : Site) (before entry : Fact) (c : Choice) → IsChoice g s.procedure s.point c → Enters g c (call_told s) before entry →
    (classes others codes : List ℕ) (places : List (List ℕ)) → length places ≡ length classes →
    ((n : ℕ) → n < length places → IsReturnOffer g s before entry (slice_index_or classes n 0) (slice_index_or codes n 0) (slice_index_or places n [])) →
    AllThree (AtReturn c (call_told s)) classes others codes → AllZip Contains places others
all_back g s before entry c choice enters [] [] [] [] many offers stand = tt
all_back g s before entry c choice enters [] [] [] (p ∷ ps) many offers stand = absurd (omega (arith, many))
all_back g s before entry c choice enters [] [] (o ∷ os) places many offers stand = absurd stand
all_back g s before entry c choice enters [] (a ∷ others) codes places many offers stand = absurd stand
all_back g s before entry c choice enters (k ∷ ks) [] codes places many offers stand = absurd stand
all_back g s before entry c choice enters (k ∷ ks) (a ∷ others) [] places many offers stand = absurd stand
all_back g s before entry c choice enters (k ∷ ks) (a ∷ others) (o ∷ os) [] many offers stand = absurd (omega (arith, many))
all_back g s before entry c choice enters (k ∷ ks) (a ∷ others) (o ∷ os) (p ∷ ps) many offers stand = (
  offers 0 (omega arith) c a choice enters stand.0,
  all_back g s before entry c choice enters ks others os ps (omega (arith, many)) (λ n lt. offers (suc n) (omega (arith, lt))) stand.1,
)

-- what stands behind the others
last_at : (xs : List (List ℕ)) (x : List ℕ) → slice_index_or (xs ++ x ∷ []) (length xs) [] ≡ x
last_at [] x = refl
last_at (y ∷ xs) x = last_at xs x

front_at : (xs : List (List ℕ)) (x : List ℕ) (n : ℕ) → n < length xs → slice_index_or (xs ++ x ∷ []) n [] ≡ slice_index_or xs n []
front_at [] x n lt = absurd (omega (arith, lt))
front_at (y ∷ xs) x zero lt = refl
front_at (y ∷ xs) x (suc n) lt = front_at xs x n (omega (arith, lt))

-- with the offers at one place more
pub one_back_more : (g : Setting) (s : Site) (before entry : Fact) (classes codes : List ℕ) (places more : List (List ℕ)) (offers : List ℕ) →
    more ≡ places ++ offers ∷ [] →
    IsReturnOffer g s before entry (slice_index_or classes (length places) 0) (slice_index_or codes (length places) 0) offers →
    ((n : ℕ) → n < length places → IsReturnOffer g s before entry (slice_index_or classes n 0) (slice_index_or codes n 0) (slice_index_or places n [])) →
    (n : ℕ) → n < length more → IsReturnOffer g s before entry (slice_index_or classes n 0) (slice_index_or codes n 0) (slice_index_or more n [])
one_back_more g s before entry classes codes places more offers is last front n lt =
    subst (λ l. IsReturnOffer g s before entry (slice_index_or classes n 0) (slice_index_or codes n 0) (slice_index_or l n [])) (sym is)
    (⊎_elim
    (λ (end : n ≡ length places).
    subst (λ m. IsReturnOffer g s before entry (slice_index_or classes m 0) (slice_index_or codes m 0) (slice_index_or (places ++ offers ∷ []) m [])) (sym end)
    (subst (IsReturnOffer g s before entry (slice_index_or classes (length places) 0) (slice_index_or codes (length places) 0)) (sym (last_at places offers)) last))
    (λ (inside : n < length places).
    subst (IsReturnOffer g s before entry (slice_index_or classes n 0) (slice_index_or codes n 0)) (sym (front_at places offers n inside)) (front n inside))
    (eq-or-lt_of_le (omega (arith, lt, ap length is, length-append places (offers ∷ [])))))

three_lengths : (R : ℕ → ℕ → ℕ → Type 0) (xs ys zs : List ℕ) → AllThree R xs ys zs → length zs ≡ length xs
three_lengths R [] [] [] all = refl
three_lengths R [] [] (z ∷ zs) all = absurd all
three_lengths R [] (y ∷ ys) zs all = absurd all
three_lengths R (x ∷ xs) [] zs all = absurd all
three_lengths R (x ∷ xs) (y ∷ ys) [] all = absurd all
three_lengths R (x ∷ xs) (y ∷ ys) (z ∷ zs) all = ap suc (three_lengths R xs ys zs all.1)

module _ (g : Setting) (s : Site) (before entry : Fact) (family : ℕ) (args : List ℕ) (places lists : List (List ℕ)) where
  return_of : (f : Fact) → AreReturnOffers g s before entry (classes_of g family) args places → lists ≡ product_from ([] ∷ []) places →
      ReturnsAt g s.procedure s.point (call_told s) before entry (Of family args) f → IsListed family lists f
  return_of Always offers is at = absurd at.returns
  return_of (Of other codes) offers is at =
      let stand : AllThree (AtReturn at.choice (call_told s)) (classes_of g family) codes args =
      subst (λ o. AllThree (AtReturn at.choice (call_told s)) (classes_of g o) codes args) at.returns.0 at.returns.1 in
      let many : length places ≡ length (classes_of g family) =
      offers.as_many (three_lengths (AtReturn at.choice (call_told s)) (classes_of g family) codes args stand) in (
        codes,
        listed places lists codes is
            (all_back g s before entry at.choice at.is_choice at.enters (classes_of g family) codes args places many offers.each stand),
        λ i. Of (at.returns.0 i) codes,
      )

  pub return_tried : (exit f : Fact) (classes shown : List ℕ) (places_shown lists_shown : List (List ℕ)) → exit ≡ Of family args →
      classes ≡ classes_of g family → shown ≡ args → places_shown ≡ places → lists_shown ≡ lists →
      AreReturnOffers g s before entry classes shown places → lists ≡ product_from ([] ∷ []) places_shown →
      ReturnsAt g s.procedure s.point (call_told s) before entry exit f → IsListed family lists_shown f
  return_tried exit f classes shown places_shown lists_shown is kinds first second third offers all at =
      subst (λ l. IsListed family l f) (sym third)
      (return_of f
      (subst (λ l. AreReturnOffers g s before entry (classes_of g family) l places) first
      (subst (λ k. AreReturnOffers g s before entry k shown places) kinds offers))
      (subst (λ l. lists ≡ product_from ([] ∷ []) l) second all)
      (subst (λ e. ReturnsAt g s.procedure s.point (call_told s) before entry e f) is at))
