-- A set of facts with one more.
use Rattle.std.proofs.Common.{◌≡◌, zero, suc, ◌<◌, Bool, true, ◌&&◌, inl, inr, ⊎_elim, List, [], ◌∷◌, get_or, Contains, refl, sym, subst, arith}
use Rattle.std.specs.Prelude.{nat_eq}
use Rattle.std.specs.Cmp.Lexicographic.{pointwise}
use Rattle.std.proofs.lemmas.Cmp.{nat_eq_equiv, nat_list_eq_equiv}
use Rattle.std.proofs.lemmas.List.Elements.{Contains-get_or}
use Rattle.client_facts.specs.FactSets.{AllDiffer, IsWith}
use Rattle.client_facts.specs.Same.{same_fact}
use Rattle.client_facts.specs.contracts.fact.FactPartialEq.TheImpl as facts
use Rattle.client_facts.specs.declared.fact.Fact.{Fact}
use Rattle.client_facts.specs.declared.fact.Fact.TheVariants.{Always, Of}
use Rattle.cv_fix.proofs.Inserted.{Contains-insert_all, cases-insert_all, kept-insert_all, once-insert_all}
use Rattle.indexmap.specs.IndexSet.{insert_key}

abbrev equals : Fact → Fact → Bool
equals = (facts.ghosts).eq

both : (s t : Bool) → s ≡ true → t ≡ true → (s && t) ≡ true
both s t first second = λ i. first i && second i

itself : (f : Fact) → equals f f ≡ true
itself Always = refl
itself (Of family args) =
    both (nat_eq family family) (pointwise nat_eq args args) (nat_eq_equiv.refl family) (nat_list_eq_equiv.refl args)

-- of one there is one
pub single : {X : Type 0} (x y : X) → Contains (x ∷ []) y → y ≡ x
single x y at =
    elim at.0 as (λ k. k < 1 → get_or (x ∷ []) k y ≡ y → y ≡ x) [ zero ↦ λ h is. sym is | suc k ↦ λ h is. absurd (omega arith) ] at.1 at.2

pub once : (old new : List Fact) (fact : Fact) → AllDiffer old → new ≡ insert_key equals old fact → AllDiffer new
once old new fact differ is = subst AllDiffer (sym is) (once-insert_all equals itself old (fact ∷ []) differ)

with_one : (old : List Fact) (fact : Fact) → IsWith old fact (insert_key equals old fact)
with_one old fact f = (
  λ has. ⊎_elim (λ a. inl a) (λ b. inr (single fact f b)) (cases-insert_all equals itself same_fact old (fact ∷ []) f has),
  λ is. ⊎_elim (λ a. kept-insert_all equals itself old (fact ∷ []) f a) (λ b. added b) is,
)
  where
    added : f ≡ fact → Contains (insert_key equals old fact) f
    added is =
        Contains-insert_all equals itself same_fact old (fact ∷ []) f
        (subst (Contains (fact ∷ [])) (sym is) (Contains-get_or (fact ∷ []) 0 fact (omega arith)))

pub is_with : (old new : List Fact) (fact : Fact) → new ≡ insert_key equals old fact → IsWith old fact new
is_with old new fact is = subst (IsWith old fact) (sym is) (with_one old fact)
