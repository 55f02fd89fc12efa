-- The facts that are tried are all that may follow.
use Rattle.std.proofs.Common.{◌≡◌, ℕ, List, [], ◌∷◌, sym, subst}
use Rattle.std.specs.Prelude.{Contains}
use Rattle.std.specs.List.{AllZip}
use Rattle.call_flows.proofs.Offered.{all_offered}
use Rattle.call_flows.proofs.Products.{product_has}
use Rattle.call_flows.specs.Found.{IsListed}
use Rattle.call_flows.specs.Lists.{product_from}
use Rattle.call_flows.specs.Offers.{IsEntryOffer}
use Rattle.call_flows.specs.Told.{call_told}
use Rattle.call_flows.specs.declared.site.Site.{Site}
use Rattle.client_facts.specs.Facts.{classes_of}
use Rattle.client_facts.specs.Over.{EntersAt}
use Rattle.client_facts.specs.Setting.{Setting}
use Rattle.client_facts.specs.declared.fact.Fact.{Fact}
use Rattle.client_facts.specs.declared.fact.Fact.TheVariants.{Always, Of}

-- names of which each is among the options of its place are listed
pub listed : (places lists : List (List ℕ)) (codes : List ℕ) → lists ≡ product_from ([] ∷ []) places → AllZip Contains places codes → Contains lists codes
listed places lists codes is all = subst (λ l. Contains l codes) (sym is) (product_has places codes all)

module _ (g : Setting) (s : Site) (family : ℕ) (args : List ℕ) (places lists : List (List ℕ)) where
  entry_of : (f : Fact) → AllZip (IsEntryOffer s) args places → lists ≡ product_from ([] ∷ []) places →
      EntersAt g s.procedure s.point (call_told s) (Of family args) f → IsListed family lists f
  entry_of Always offers is at = absurd at.enters
  entry_of (Of other codes) offers is at = (
    codes,
    listed places lists codes is (all_offered g s at.choice at.is_choice (classes_of g family) args codes places offers at.enters.1),
    λ i. Of (sym at.enters.0 i) codes,
  )

  pub entry_tried : (before f : Fact) (shown : List ℕ) (places_shown lists_shown : List (List ℕ)) → before ≡ Of family args → shown ≡ args → places_shown ≡ places →
      lists_shown ≡ lists → AllZip (IsEntryOffer s) shown places → lists ≡ product_from ([] ∷ []) places_shown →
      EntersAt g s.procedure s.point (call_told s) before f → IsListed family lists_shown f
  entry_tried before f shown places_shown lists_shown is first second third offers all at =
      subst (λ l. IsListed family l f) (sym third)
      (entry_of f (subst (λ l. AllZip (IsEntryOffer s) l places) first offers) (subst (λ l. lists ≡ product_from ([] ∷ []) l) second all)
      (subst (λ b. EntersAt g s.procedure s.point (call_told s) b f) is at))
