-- What follows over a procedure call is what follows over the one that stands there.
use Rattle.std.proofs.Common.{◌≡◌, ℕ, List, sym, subst, ◌∙◌}
use Rattle.std.specs.Prelude.{Some}
use Rattle.call_flows.specs.Found.{AreAll}
use Rattle.call_flows.specs.Told.{Stands, call_told}
use Rattle.call_flows.specs.declared.site.Site.{Site}
use Rattle.client_facts.specs.Facts.{IsFact}
use Rattle.client_facts.specs.Over.{EntersAt, IsEnteredFrom, IsReturnedFrom, ReturnsAt}
use Rattle.client_facts.specs.Setting.{IsCall, Setting}
use Rattle.client_facts.specs.declared.fact.Fact.{Fact}
use Rattle.client_steps.specs.States.{Call}

same_some : {A : Type 0} (x y : A) → Some x ≡ Some y → x ≡ y
same_some x y is = cc

-- at one point one procedure call stands, and it goes on at one point
same_call : (g : Setting) (p n : ℕ) (k other : Call) (m next : ℕ) → IsCall g p n k m → IsCall g p n other next → (k ≡ other) × (m ≡ next)
same_call g p n k other m next one also = (same_some k other (sym one.call ∙ also.call), same_some m next (sym one.goes ∙ also.goes))

pub enters_there : (g : Setting) (p n : ℕ) (s : Site) (before : Fact) (facts whole : List Fact) → s.procedure ≡ p → s.point ≡ n → Stands g s → whole ≡ facts →
    AreAll (EntersAt g s.procedure s.point (call_told s) before) facts → AreAll (IsEnteredFrom g p n before) whole
enters_there g p n s before facts whole here at stands is all =
    let stands_here : IsCall g p n (call_told s) s.next = subst (λ q. IsCall g q n (call_told s) s.next) here
    (subst (λ x. IsCall g s.procedure x (call_told s) s.next) at stands) in
    let all_here : AreAll (EntersAt g p n (call_told s) before) facts = subst (λ q. AreAll (EntersAt g q n (call_told s) before) facts) here
    (subst (λ x. AreAll (EntersAt g s.procedure x (call_told s) before) facts) at all) in
    subst (λ l. AreAll (IsEnteredFrom g p n before) l) (sym is)
    (λ f. (
      λ found. (call_told s, s.next, stands_here, (all_here f).0 found),
      λ from. (all_here f).1 (subst (λ k. EntersAt g p n k before f) (same_call g p n from.0 (call_told s) from.1 s.next from.2 stands_here).0 from.3),
    ))

pub returns_there : (g : Setting) (p n : ℕ) (s : Site) (before entry exit : Fact) (facts whole : List Fact) → s.procedure ≡ p → s.point ≡ n → Stands g s →
    whole ≡ facts →
    AreAll (λ f. ReturnsAt g s.procedure s.point (call_told s) before entry exit f × IsFact g s.procedure s.next f) facts →
    AreAll (IsReturnedFrom g p n before entry exit) whole
returns_there g p n s before entry exit facts whole here at stands is all =
    let stands_here : IsCall g p n (call_told s) s.next = subst (λ q. IsCall g q n (call_told s) s.next) here
    (subst (λ x. IsCall g s.procedure x (call_told s) s.next) at stands) in
    let all_here : AreAll (λ f. ReturnsAt g p n (call_told s) before entry exit f × IsFact g p s.next f) facts =
    subst (λ q. AreAll (λ f. ReturnsAt g q n (call_told s) before entry exit f × IsFact g q s.next f) facts) here
    (subst (λ x. AreAll (λ f. ReturnsAt g s.procedure x (call_told s) before entry exit f × IsFact g s.procedure s.next f) facts) at all) in
    subst (λ l. AreAll (IsReturnedFrom g p n before entry exit) l) (sym is)
    (λ f. (
      λ found. let both = (all_here f).0 found in (call_told s, s.next, stands_here, both.0, both.1),
      λ from.
          let same = same_call g p n from.0 (call_told s) from.1 s.next from.2 stands_here in
          (all_here f).1
          (subst (λ k. ReturnsAt g p n k before entry exit f) same.0 from.3, subst (λ m. IsFact g p m f) same.1 from.4),
    ))
