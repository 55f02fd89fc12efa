-- A cube with arguments has one instance, and from it the cube comes back.
use Rattle.std.proofs.Common.{inl, inr, ◌⊎◌, ◌↔◌, ◌≡◌, ◌≢◌, ℕ, Bool, true, false, List, map, Contains, Some, slice_get, slice_index, if◌then◌else◌, subst, refl, ap, sym, ◌∙◌}
use Rattle.std.proofs.lemmas.List.{get_or-map}
use Rattle.std.proofs.lemmas.List.Elements.{All-contains}
use Rattle.std.proofs.lemmas.Option.{get_or_from_slice_get, slice_get_within}
use Rattle.std.specs.declared.cmp.Ordering.{Ordering}
use Rattle.std.specs.declared.cmp.Ordering.TheVariants.{Less, Equal, Greater}
use Rattle.std.specs.Option.{option_map_or}
use Rattle.std.specs.Ordering.{is_gt, ordering_reverse}
use Rattle.access_paths.proofs.Ascending.{same_ascending}
use Rattle.access_paths.proofs.Exact.{instances_exact}
use Rattle.access_paths.proofs.Members.{in_map, of_map}
use Rattle.access_paths.proofs.Orders.{instances_total}
use Rattle.access_paths.proofs.Places.{literal_back, place_found, put_back}
use Rattle.access_paths.proofs.Renamed.{keeps_truth}
use Rattle.access_paths.specs.{FamilyKeepsTruth, FamilyReturns, HasVariable, IsCube, IsInstance, IsLiteral, IsRenamed, OneFamily, compare_instances}
use Rattle.access_paths.specs.{compare_terms, place_of, renamed, renamed_term, var, variable_in}
use Rattle.access_paths.specs.declared.term.Cube.{Cube}
use Rattle.access_paths.specs.declared.term.Instance.{Instance}
use Rattle.access_paths.specs.declared.term.Literal.{Literal}
use Rattle.access_paths.specs.declared.term.Var.{Var}

-- a renaming gives one cube
pub one_renamed : (other : ℕ → ℕ) (c d e : Cube) → IsRenamed other c d → IsRenamed other c e → d ≡ e
one_renamed other c d e first second =
    let same : d.literals ≡ e.literals =
    same_ascending d.literals e.literals first.cube.order second.cube.order
    (λ l. (λ is. (second.literals l).1 ((first.literals l).0 is), λ is. (first.literals l).1 ((second.literals l).0 is))) in
    λ i. record { literals = same i }

-- an instance is told by its arguments
pub one_instance : (c : Cube) (of : List ℕ) (i j : Instance) → IsInstance c of i → IsInstance c of j → i.args ≡ j.args → i ≡ j
one_instance c of i j first second same =
    let classes : i.family.classes ≡ j.family.classes = first.classes ∙ ap (map (λ a. slice_index of a.0)) same ∙ sym second.classes in
    let P : List Var → Type 0 = λ args. IsRenamed (place_of args) c j.family.cube in
    let cube = one_renamed (place_of i.args) c i.family.cube j.family.cube first.cube (subst P (sym same) second.cube) in
    λ k. record { family = record { classes = classes k; cube = cube k }; args = same k }

not_less_both : (o p : Ordering) → p ≡ ordering_reverse o → o ≢ Less → p ≢ Less → o ≡ Equal
not_less_both Less p turned not_o not_p = absurd (not_o refl)
not_less_both Equal p turned not_o not_p = refl
not_less_both Greater p turned not_o not_p = absurd (not_p turned)

pub one_family : OneFamily
one_family c of i j first second =
    instances_exact i j
    (not_less_both (compare_instances i j) (compare_instances j i) (instances_total.antisymm j i) (second.least i first.instance) (first.least j second.instance))

-- the variables of a cube's literal are variables of the cube
pub of_less : (c : Cube) (l : Literal) → Contains c.literals l → HasVariable c l.less.var.0
of_less c l is = (is.0, l, is.1, is.2, inl refl)

pub of_more : (c : Cube) (l : Literal) → Contains c.literals l → HasVariable c l.more.var.0
of_more c l is = (is.0, l, is.1, is.2, inr refl)

module _ (c : Cube) (is_cube : IsCube c) (args : List Var) (arguments : (v : Var) → Contains args v ↔ HasVariable c v.0) where
  returns : (v : ℕ) → HasVariable c v → variable_in args (place_of args v) ≡ v
  returns v has = put_back args v ((arguments (var v)).1 has)

  literal_returns : (l : Literal) → Contains c.literals l → renamed (variable_in args) (renamed (place_of args) l) ≡ l
  literal_returns l is =
      literal_back (place_of args) (variable_in args) l (All-contains IsLiteral c.literals l is_cube.literals is)
      (returns l.less.var.0 (of_less c l is)) (returns l.more.var.0 (of_more c l is))

  pub comes_back : (d : Cube) → IsRenamed (place_of args) c d → IsRenamed (variable_in args) d c
  comes_back d is = record {
    cube = is_cube;
    literals = λ l. (
      λ there. let P : Literal → Type 0 = Contains (map (renamed (variable_in args)) d.literals) in
          subst P (literal_returns l there)
          (in_map (renamed (variable_in args)) d.literals (renamed (place_of args) l)
          ((is.literals (renamed (place_of args) l)).1 (in_map (renamed (place_of args)) c.literals l there))),
      λ there. let k = of_map (renamed (variable_in args)) d.literals l there in
          let m = of_map (renamed (place_of args)) c.literals k.0 ((is.literals k.0).0 k.1) in
          let same : m.0 ≡ l = sym (literal_returns m.0 m.1) ∙ ap (renamed (variable_in args)) m.2 ∙ k.2 in
          let P : Literal → Type 0 = Contains c.literals in
          subst P same m.1,
    );
  }

pub family_returns : FamilyReturns
family_returns c of i is_cube is = comes_back c is_cube i.args is.arguments i.family.cube is.cube

-- the variables of a renamed literal are new ones of its own
renamed_variable : (other : ℕ → ℕ) (l : Literal) (v : ℕ) → ((renamed other l).less.var.0 ≡ v) ⊎ ((renamed other l).more.var.0 ≡ v)
    → (other l.less.var.0 ≡ v) ⊎ (other l.more.var.0 ≡ v)
renamed_variable other l v is = by_order (is_gt (compare_terms (renamed_term other l.less) (renamed_term other l.more))) is
  where
    by_order : (b : Bool) → let m : Literal = (if b then record { same = l.same; less = renamed_term other l.more; more = renamed_term other l.less } else record { same = l.same; less = renamed_term other l.less; more = renamed_term other l.more }) in
        ((m.less.var.0 ≡ v) ⊎ (m.more.var.0 ≡ v)) → (other l.less.var.0 ≡ v) ⊎ (other l.more.var.0 ≡ v)
    by_order true (inl more) = inr more
    by_order true (inr less) = inl less
    by_order false is = is

-- a variable of the renamed cube is a new one of the cube
pub variable_from : (other : ℕ → ℕ) (c d : Cube) (v : ℕ) → IsRenamed other c d → HasVariable d v → (w : ℕ) × HasVariable c w × (other w ≡ v)
variable_from other c d v is has =
    let from = of_map (renamed other) c.literals has.1 ((is.literals has.1).0 (has.0, has.2, has.3)) in
    let l = from.0 in
    let P : Literal → Type 0 = λ m. (m.less.var.0 ≡ v) ⊎ (m.more.var.0 ≡ v) in
    elim (renamed_variable other l v (subst P (sym from.2) has.4)) [
      | inl less ↦ (l.less.var.0, of_less c l from.1, less)
      | inr more ↦ (l.more.var.0, of_more c l from.1, more)
    ]

-- an argument's object stands at the argument's place
object_at_place : (objects : List ℕ) (args : List Var) (v w : ℕ) → slice_get args v ≡ Some (var w)
    → slice_index objects (variable_in args v) ≡ slice_index (map (λ a. slice_index objects a.0) args) v
object_at_place objects args v w at =
    ap (λ o. slice_index objects (option_map_or (λ (a : Var). a.0) o 0)) at
    ∙ ap (λ (a : Var). slice_index objects a.0) (sym (get_or_from_slice_get args v (var w) (var w) at))
    ∙ sym (get_or-map (λ (a : Var). slice_index objects a.0) args v (var w) 0 (slice_get_within args v (var w) at))

pub family_keeps_truth : FamilyKeepsTruth
family_keeps_truth heap objects c of i is_cube is =
    keeps_truth heap objects (map (λ a. slice_index objects a.0) i.args) (variable_in i.args) i.family.cube c (family_returns c of i is_cube is)
    (λ v has.
    let from = variable_from (place_of i.args) c i.family.cube v is.cube has in
    let P : ℕ → Type 0 = λ n. slice_get i.args n ≡ Some (var from.0) in
    object_at_place objects i.args v from.0 (subst P from.2 (place_found i.args from.0 ((is.arguments (var from.0)).1 from.1))))
