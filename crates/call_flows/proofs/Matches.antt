-- What two facts need of a slot choice, by cases of facts.
use Rattle.std.proofs.Common.{◌≡◌, ◌↔◌, ℕ, Bool, false, List, refl, sym, subst}
use Rattle.std.specs.Prelude.{IfOk, IsTrue, Result}
use Rattle.call_flows.proofs.Gifts.{agreed, all_made, chosen}
use Rattle.call_flows.specs.Gifts.{AreGifts, choice_of}
use Rattle.call_flows.specs.Needs.{CanMeet, Crosses, MeetsAll}
use Rattle.call_flows.specs.Search.{IsWanted}
use Rattle.call_flows.specs.declared.gift.Gift.{Gift}
use Rattle.call_flows.specs.declared.need.Crossing.TheVariants.{Entry, Return}
use Rattle.call_flows.specs.declared.need.Needs.{Needs}
use Rattle.call_flows.specs.declared.search.Wanted.{Wanted}
use Rattle.call_flows.specs.declared.site.Site.{Site}
use Rattle.client_facts.specs.Calls.{AllThree, Match}
use Rattle.client_facts.specs.Choices.{Choice}
use Rattle.client_facts.specs.Facts.{IsFact, classes_of}
use Rattle.client_facts.specs.Over.{EntersAt, ReturnsAt}
use Rattle.client_facts.specs.Setting.{Setting}
use Rattle.client_facts.specs.declared.fact.Fact.{Fact}
use Rattle.client_facts.specs.declared.fact.Fact.TheVariants.{Always, Of}
use Rattle.client_steps.specs.States.{Call}

pub needed_as : {Now Was A B : Type 0} → A ↔ B → Now ↔ (Was × A) → Now ↔ (Was × B)
needed_as same is = (λ now. let both = is.0 now in (both.0, same.0 both.1), λ both. is.1 (both.0, same.1 both.1))

module _ (g : Setting) (R : ℕ → ℕ → ℕ → Type 0) where
  pub same_family : (inner : Fact) (family other : ℕ) (args codes xs ys zs : List ℕ) → xs ≡ classes_of g family → ys ≡ args → zs ≡ codes →
      inner ≡ Of other codes → other ≡ family → AllThree R xs ys zs ↔ Match g R (Of family args) inner
  same_family inner family other args codes xs ys zs classes first second is same =
      subst (λ w. AllThree R w ys zs ↔ Match g R (Of family args) inner) (sym classes)
      (subst (λ w. AllThree R (classes_of g family) w zs ↔ Match g R (Of family args) inner) (sym first)
      (subst (λ w. AllThree R (classes_of g family) args w ↔ Match g R (Of family args) inner) (sym second)
      (subst (λ f. AllThree R (classes_of g family) args codes ↔ Match g R (Of family args) f) (sym is) (λ all. (sym same, all), λ m. m.1))))

  pub other_family : (inner : Fact) (family other : ℕ) (args codes : List ℕ) → inner ≡ Of other codes → (other ≡ family → ⊥) → ⊥ ↔ Match g R (Of family args) inner
  other_family inner family other args codes is differ =
      subst (λ f. ⊥ ↔ Match g R (Of family args) f) (sym is) (λ no. absurd no, λ m. differ (sym m.0))

  pub no_family : (inner : Fact) (family : ℕ) (args : List ℕ) → inner ≡ Always → ⊥ ↔ Match g R (Of family args) inner
  no_family inner family args is = subst (λ f. ⊥ ↔ Match g R (Of family args) f) (sym is) (λ no. no, λ no. no)

  always_both : (inner : Fact) → (inner ≡ Always) ↔ Match g R Always inner
  always_both Always = (λ is. tt, λ m. refl)
  always_both (Of family args) = (λ is. absurd cc, λ no. absurd no)

  pub always_match : (outer inner : Fact) → outer ≡ Always → (inner ≡ Always) ↔ Match g R outer inner
  always_match outer inner is = subst (λ f. (inner ≡ Always) ↔ Match g R f inner) (sym is) (always_both inner)

  pub of_match : (outer inner : Fact) (family : ℕ) (args : List ℕ) → outer ≡ Of family args → Match g R (Of family args) inner ↔ Match g R outer inner
  of_match outer inner family args is = subst (λ f. Match g R (Of family args) inner ↔ Match g R f inner) (sym is) (λ m. m, λ m. m)

pub not_always : (inner : Fact) (family : ℕ) (args : List ℕ) → inner ≡ Of family args → ⊥ ↔ (inner ≡ Always)
not_always inner family args is = (λ no. absurd no, λ always. absurd (apart (subst (λ f. f ≡ Always) is always)))
  where
    apart : Of family args ≡ Always → ⊥
    apart same = cc

module _ (g : Setting) (p n : ℕ) where
  pub can_meet : (test : Bool) (xs : List Gift) (needs : Needs) → needs.never ≡ false → xs ≡ needs.gifts.items → IsTrue test ↔ AreGifts g p n xs →
      IsTrue test ↔ CanMeet g p n needs
  can_meet test xs needs never same tells =
      let own = subst (λ ys. IsTrue test ↔ AreGifts g p n ys) same tells in (
        λ is. let are = own.0 is in (choice_of needs.gifts.items, chosen g p n needs.gifts.items are, (never, all_made g p n needs.gifts.items are)),
        λ can. own.1 (agreed g p n can.0 needs.gifts.items can.1 can.2.1),
      )

  pub entered_so : (k : Call) (test : Bool) (first needs : Needs) (before entry : Fact) → IsTrue test ↔ CanMeet g p n needs → ((c : Choice) → MeetsAll c first) →
      ((c : Choice) → MeetsAll c needs ↔ (MeetsAll c first × Match g (Crosses Entry c k) before entry)) → IsFact g k.callee 0 entry →
      IsTrue test ↔ EntersAt g p n k before entry
  entered_so k test first needs before entry tells none also fact = (
    λ is. let can = tells.0 is in record { choice = can.0; is_choice = can.1; enters = ((also can.0).0 can.2).1; fact = fact },
    λ at. tells.1 (at.choice, at.is_choice, (also at.choice).1 (none at.choice, at.enters)),
  )

  pub returned_so : (k : Call) (test : Bool) (first second needs : Needs) (before entry exit after : Fact) (m : ℕ) → IsTrue test ↔ CanMeet g p n needs →
      ((c : Choice) → MeetsAll c first) → ((c : Choice) → MeetsAll c second ↔ (MeetsAll c first × Match g (Crosses Entry c k) before entry)) →
      ((c : Choice) → MeetsAll c needs ↔ (MeetsAll c second × Match g (Crosses Return c k) after exit)) → IsFact g p m after →
      IsTrue test ↔ (ReturnsAt g p n k before entry exit after × IsFact g p m after)
  returned_so k test first second needs before entry exit after m tells none also again fact = (
    λ is.
        let can = tells.0 is in
        let back = (again can.0).0 can.2 in
        (record { choice = can.0; is_choice = can.1; enters = ((also can.0).0 back.0).1; returns = back.1 }, fact),
    λ both.
        let at = both.0 in
        tells.1 (at.choice, at.is_choice, (again at.choice).1 ((also at.choice).1 (none at.choice, at.enters), at.returns)),
  )

-- what is known of a test whatever is looked for
pub wanted_by : {E : Type 0} (r : Result Bool E) (g : Setting) (s : Site) (one other : Wanted) (f : Fact) → other ≡ one →
    IfOk r (λ is. IsTrue is ↔ IsWanted g s one f) → IfOk r (λ is. IsTrue is ↔ IsWanted g s other f)
wanted_by r g s one other f is known = subst (λ w. IfOk r (λ is. IsTrue is ↔ IsWanted g s w f)) (sym is) known
