-- Lists of different edges with more of them.
use Rattle.std.proofs.Common.{◌≡◌, Bool, true, false, cond, ◌&&◌, List, [], ◌∷◌, ◌++◌, length, Contains, arith, refl, sym, ap, subst, ◌∙◌, append-nil, append_assoc, length-append}
use Rattle.std.specs.Prelude.{nat_eq}
use Rattle.std.proofs.Math.ListN.{get_or-append}
use Rattle.std.proofs.Math.Seq.{get_or-append_seam}
use Rattle.std.specs.Cmp.Lexicographic.{pointwise}
use Rattle.std.specs.List.{list_any}
use Rattle.std.proofs.lemmas.Cmp.{nat_eq_equiv, nat_list_eq_equiv}
use Rattle.std.proofs.lemmas.List.Folds.{list_any_at}
use Rattle.client_facts.specs.contracts.fact.FactPartialEq.TheImpl as facts
use Rattle.client_facts.specs.declared.fact.Fact.{Fact}
use Rattle.client_facts.specs.declared.fact.Fact.TheVariants.{Always, Of}
use Rattle.client_walks.specs.Same.{same_edge}
use Rattle.client_walks.specs.contracts.edge.EdgePartialEq.TheImpl as edges
use Rattle.client_walks.specs.declared.edge.Edge.{Edge}
use Rattle.cv_fix.proofs.Inserted.{insert_all-next, once-insert_all}
use Rattle.indexmap.proofs.CallerLemmas.{Contains-list_any}
use Rattle.indexmap.specs.IndexSet.{insert_all, insert_key}
use Rattle.tabulation.specs.Orders.{AllDiffer}

abbrev pub equals : Edge → Edge → Bool
equals = (edges.ghosts).eq

pub both : (s t : Bool) → s ≡ true → t ≡ true → (s && t) ≡ true
both s t first second = λ i. first i && second i

pub itself_fact : (f : Fact) → (facts.ghosts).eq f f ≡ true
itself_fact Always = refl
itself_fact (Of family args) =
    both (nat_eq family family) (pointwise nat_eq args args) (nat_eq_equiv.refl family) (nat_list_eq_equiv.refl args)

-- an edge is equal to itself
pub itself : (x : Edge) → equals x x ≡ true
itself x =
    let fact = (facts.ghosts).eq x.fact x.fact in
    let point = nat_eq x.point x.point in
    let entry = (facts.ghosts).eq x.entry x.entry in
    both (nat_eq x.procedure x.procedure) (entry && (point && fact)) (nat_eq_equiv.refl x.procedure)
    (both entry (point && fact) (itself_fact x.entry) (both point fact (nat_eq_equiv.refl x.point) (itself_fact x.fact)))

pub once : (old new : List Edge) (x : Edge) → AllDiffer old → new ≡ insert_key equals old x → AllDiffer new
once old new x differ is = subst AllDiffer (sym is) (once-insert_all equals itself old (x ∷ []) differ)

-- the set has what is in its list
pub is_known : (edges : List Edge) (x : Edge) → Contains edges x → list_any (equals x) edges ≡ true
is_known edges x has = list_any_at (equals x) edges has.0 x has.1 (ap (equals x) has.2 ∙ itself x)

pub is_there : (edges : List Edge) (x : Edge) → list_any (equals x) edges ≡ true → Contains edges x
is_there edges x h = Contains-list_any equals same_edge edges x h

-- different edges are put in one after the other
put_in : (known xs : List Edge) → AllDiffer (known ++ xs) → insert_all equals known xs ≡ known ++ xs
put_in known [] differ = sym (append-nil known)
put_in known (x ∷ xs) differ =
    by (list_any (equals x) known) refl (put_in (known ++ x ∷ []) xs (subst AllDiffer (sym (append_assoc known (x ∷ []) xs)) differ))
  where
    clash : Contains known x → ⊥
    clash has =
        differ has.0 (length known) x has.1 (omega (arith, length-append known (x ∷ xs)))
        (get_or-append known (x ∷ xs) x has.0 has.1 ∙ has.2 ∙ sym (get_or-append_seam known x xs x))

    by : (b : Bool) → list_any (equals x) known ≡ b → insert_all equals (known ++ x ∷ []) xs ≡ (known ++ x ∷ []) ++ xs →
        insert_all equals known (x ∷ xs) ≡ known ++ x ∷ xs
    by true is rest = absurd (clash (is_there known x is))
    by false is rest =
        let pushed : insert_key equals known x ≡ known ++ x ∷ [] = ap (λ b. cond b known (known ++ x ∷ [])) is in
        ap (λ l. insert_all equals l xs) pushed ∙ rest ∙ append_assoc known (x ∷ []) xs

pub as_they_are : (old xs new : List Edge) → old ≡ [] → AllDiffer xs → new ≡ insert_all equals old xs → new ≡ xs
as_they_are old xs new start differ is = is ∙ ap (λ l. insert_all equals l xs) start ∙ put_in [] xs differ

-- one edge is put in, and the others are left
pub insert_next : (known new xs rest all : List Edge) (x : Edge) → new ≡ insert_key equals known x → xs ≡ x ∷ rest → insert_all equals known xs ≡ all →
    insert_all equals new rest ≡ all
insert_next = insert_all-next equals
