-- An assignment, by what is reached.
use Rattle.std.proofs.Common.{◌≡◌, ℕ, List, [], ◌∷◌, ◌++◌, fold, length, refl, ap, sym, ◌∙◌, arith, length-append}
use Rattle.std.specs.List.{last_or}
use Rattle.std.specs.Prelude.{Some, None}
use Rattle.easl_model.specs.declared.form.Act.TheVariants as act
use Rattle.easl_model.specs.declared.form.Reach.{Reach}
use Rattle.easl_model.specs.declared.form.Source.{Source}
use Rattle.easl_model.specs.declared.tree.Path.{Path}
use Rattle.easl_model.specs.declared.tree.Spec.{Spec}
use Rattle.easl_model.specs.declared.tree.Word.{Word}
use Rattle.easl_model.specs.{Way, along, assigned_by, but_last, position_in, positions_along, reach_of, slot_target, way_of}
use Rattle.easl_model.specs.declared.scope.Context.{Context}
use Rattle.easl_model.specs.declared.scope.Target.{Target}

same_ends : (xs ys : List ℕ) (x y : ℕ) → xs ++ x ∷ [] ≡ ys ++ y ∷ [] → (xs ≡ ys) × (x ≡ y)
same_ends [] [] x y e = (refl, (let same : x ≡ y = cc in same))
same_ends [] (z ∷ ys) x y e = absurd (omega (arith, ap length e, length-append ys (y ∷ [])))
same_ends (z ∷ xs) [] x y e = absurd (omega (arith, ap length e, length-append xs (x ∷ [])))
same_ends (z ∷ xs) (u ∷ ys) x y e =
    let heads : z ≡ u = cc in
    let tails : xs ++ x ∷ [] ≡ ys ++ y ∷ [] = cc in
    let rest = same_ends xs ys x y tails in
    ((let same : z ∷ xs ≡ u ∷ ys = let r = rest.0 in cc in same), rest.1)

lasts : (w : Word) (ws : List Word) → (last : Word) × (last_or (Some w) ws ≡ Some last)
lasts w [] = (w, refl)
lasts w (v ∷ ws) = lasts v ws

last_position : (spec : Spec) (t : Target) (names : List Word) (last : Word) → last_or None names ≡ Some last
    → positions_along spec t names ≡ positions_along spec t (but_last names) ++ position_in spec (fold (along spec) t (but_last names)) last ∷ []
last_position spec t [] last e = absurd cc
last_position spec t (w ∷ []) last e = let same : w ≡ last = cc in ap (λ x. position_in spec t x ∷ []) same
last_position spec t (w ∷ v ∷ names) last e = ap (λ ps. position_in spec t w ∷ ps) (last_position spec (along spec t w) (v ∷ names) last e)

written : (spec : Spec) (c : Context) (slot : ℕ) (names : List Word) (s : Source) (before : List ℕ) (field : ℕ)
    → positions_along spec (slot_target c slot) names ≡ before ++ field ∷ []
    → act.Write (record { slot = slot; fields = before }) field s ≡ assigned_by spec c (record { slot = slot; names = names }) (last_or None names) s
written spec c slot [] s before field e = absurd (omega (arith, ap length e, length-append before (field ∷ [])))
written spec c slot (w ∷ names) s before field e =
    let last = lasts w names in
    let ends = same_ends before (positions_along spec (slot_target c slot) (but_last (w ∷ names))) field (position_in spec (fold (along spec) (slot_target c slot) (but_last (w ∷ names))) last.0) (sym e ∙ last_position spec (slot_target c slot) (w ∷ names) last.0 last.1) in
    ap (λ ps. act.Write (let r : Reach = record { slot = slot; fields = ps } in r) field s) ends.0
    ∙ ap (λ p. act.Write (let r : Reach = record { slot = slot; fields = positions_along spec (slot_target c slot) (but_last (w ∷ names)) } in r) p s) ends.1
    ∙ ap (λ o. assigned_by spec c (let way : Way = record { slot = slot; names = w ∷ names } in way) o s) (sym last.1)

changed : (spec : Spec) (c : Context) (slot : ℕ) (names : List Word) (s : Source) → positions_along spec (slot_target c slot) names ≡ []
    → act.Change slot s ≡ assigned_by spec c (record { slot = slot; names = names }) (last_or None names) s
changed spec c slot [] s e = refl
changed spec c slot (w ∷ names) s e = absurd cc

pub written_act : (spec : Spec) (c : Context) (path : Path) (s : Source) (slot : ℕ) (before fields : List ℕ) (field : ℕ)
    → (let r : Reach = record { slot = slot; fields = fields } in r) ≡ reach_of spec c path → fields ≡ before ++ field ∷ []
    → act.Write (record { slot = slot; fields = before }) field s ≡ assigned_by spec c (way_of c path) (last_or None (way_of c path).names) s
written_act spec c path s slot before fields field is are =
    ap (λ n. act.Write (let r : Reach = record { slot = n; fields = before } in r) field s) (ap (λ (r : Reach). r.slot) is)
    ∙ written spec c (way_of c path).slot (way_of c path).names s before field (sym (ap (λ (r : Reach). r.fields) is) ∙ are)

pub changed_act : (spec : Spec) (c : Context) (path : Path) (s : Source) (slot : ℕ) (fields : List ℕ)
    → (let r : Reach = record { slot = slot; fields = fields } in r) ≡ reach_of spec c path → fields ≡ []
    → act.Change slot s ≡ assigned_by spec c (way_of c path) (last_or None (way_of c path).names) s
changed_act spec c path s slot fields is are =
    ap (λ n. act.Change n s) (ap (λ (r : Reach). r.slot) is)
    ∙ changed spec c (way_of c path).slot (way_of c path).names s (sym (ap (λ (r : Reach). r.fields) is) ∙ are)
