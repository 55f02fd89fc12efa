-- The families of chosen cubes fit the specification, and their variables are of their classes.
use Rattle.std.proofs.Common.{◌≡◌, ◌≢◌, ◌⊎◌, ℕ, suc, ◌<◌, ◌≤◌, Bool, true, false, List, [], ◌∷◌, All, Contains, Option, Some, if◌then◌else◌, length, map, slice_get, slice_index, unwrap_or, refl, ap, sym, subst, ◌∙◌, arith, ⊎_elim, inl, inr}
use Rattle.std.specs.List.{AllZip, list_any}
use Rattle.std.specs.Ordering.{is_gt}
use Rattle.std.proofs.lemmas.List.{length-map}
use Rattle.std.proofs.lemmas.List.Sums.{length-filter}
use Rattle.std.proofs.lemmas.Option.{get_or_from_slice_get, slice_get-get_or}
use Rattle.easl_model.specs.Form.{Form}
use Rattle.easl_model.proofs.Items.{zip_from}
use Rattle.access_paths.specs.{Fits, HasVariable, IsFamilyOf, IsLiteralOf, IsTermOf, below, compare_terms, has, place_of, renamed, renamed_term, var}
use Rattle.access_paths.specs.{variables}
use Rattle.access_paths.specs.declared.term.Cube.{Cube}
use Rattle.access_paths.specs.declared.term.Instance.{Instance}
use Rattle.access_paths.specs.declared.term.Literal.{Literal}
use Rattle.access_paths.specs.declared.term.Term.{Term}
use Rattle.access_paths.specs.declared.term.Var.{Var}
use Rattle.access_paths.proofs.Instances.{of_less, of_more}
use Rattle.access_paths.proofs.Members.{Distinct, head_apart, head_member, in_flat_map, no_member, of_map, tail_distinct, tail_member, which_member}
use Rattle.access_paths.proofs.Places.{place_found}
use Rattle.access_paths.proofs.Substituted.{all_members}
use Rattle.access_paths.proofs.Variables.{variables_listed}
use Rattle.case_model.specs.{HasTerms, HaveClasses, terms_of_cube, variable_count}
use Rattle.cube_cover.proofs.Named.{map_at}

-- a list without an item
without : {X : Type 0} (ys : List X) (x : X) → Contains ys x
    → (rest : List X) × (length ys ≡ suc (length rest)) × ((y : X) → Contains ys y → (x ≡ y) ⊎ Contains rest y)
without [] x has = absurd (no_member x has)
without {X} (y ∷ ys) x has =
    ⊎_elim
    (λ (e : y ≡ x). (ys, refl, λ z h. ⊎_elim (λ (f : y ≡ z). inl (sym e ∙ f)) (λ (g : Contains ys z). inr g) (which_member y ys z h)))
    (λ (h : Contains ys x).
    let w = without ys x h in (
      y ∷ w.0,
      ap suc w.1,
      λ z g. ⊎_elim (λ (f : y ≡ z). inr (subst (Contains (y ∷ w.0)) f (head_member y w.0)))
          (λ (i : Contains ys z). ⊎_elim (λ (f : x ≡ z). inl f) (λ (j : Contains w.0 z). inr (tail_member y w.0 z j)) (w.2 z i))
          (which_member y ys z g),
    ))
    (which_member y ys x has)

-- different items of a list are at most as many
pub no_more : {X : Type 0} (xs ys : List X) → Distinct xs → ((x : X) → Contains xs x → Contains ys x) → length xs ≤ length ys
no_more [] ys apart among = omega arith
no_more (x ∷ xs) ys apart among =
    let w = without ys x (among x (head_member x xs)) in
    let rest = no_more xs w.0 (tail_distinct x xs apart)
    (λ y h. ⊎_elim (λ (e : x ≡ y). absurd (head_apart x xs apart (subst (Contains xs) (sym e) h))) (λ (i : Contains w.0 y). i)
    (w.2 y (among y (tail_member x xs y h)))) in
    omega (arith, rest, w.1)

classes_known : (vs : List (Option ℕ)) (v start : ℕ) → slice_get vs v ≡ Some (Some start) → slice_index (map (λ c. unwrap_or c 0) vs) v ≡ start
classes_known vs v start at =
    get_or_from_slice_get (map (λ c. unwrap_or c 0) vs) v start 0 (map_at (λ c. unwrap_or c 0) vs v (Some start) at)

-- a cube over terms of variables that have objects of classes that are there; `asked` are these variables with more of them known
module _ (form : Form) (variables_known asked : List (Option ℕ))
    (wider : (v start : ℕ) → slice_get variables_known v ≡ Some (Some start) → slice_get asked v ≡ Some (Some start))
    (there : (v start : ℕ) → slice_get asked v ≡ Some (Some start) → start < length form.classes)
    (ts : List Term) (classes : List ℕ) (typed : HaveClasses form variables_known ts classes) where
  start_of : (t : Term) → Contains ts t → (start : ℕ) × (slice_get variables_known t.var.0 ≡ Some (Some start))
  start_of t has =
      let at : slice_get ts has.0 ≡ Some t = slice_get-get_or ts has.0 t has.1 ∙ ap Some has.2 in
      let of = zip_from (IsTermOf form variables_known) ts classes has.0 t typed at in
      (of.2.start, of.2.variable)

  module _ (c : Cube) (over : HasTerms ts (terms_of_cube c.literals)) (few : variable_count c ≤ 3) (known : (v : ℕ) → HasVariable c v → v < 8)
      (of_class : (l : Literal) → Contains c.literals l → IsLiteralOf form variables_known l)
      (some : c.literals ≢ []) (i : Instance) (is : IsFamilyOf c (map (λ x. unwrap_or x 0) asked) i) where
    start_at : (v : ℕ) → HasVariable c v → (start : ℕ) × (slice_get variables_known v ≡ Some (Some start))
    start_at v (k, l, within, at, which) =
        let both : Literal → List Term = λ m. m.less ∷ m.more ∷ [] in
        ⊎_elim
        (λ (e : l.less.var.0 ≡ v).
        let s = start_of l.less (over l.less (in_flat_map both c.literals l l.less (k, within, at) (head_member l.less (l.more ∷ [])))) in
        (s.0, subst (λ w. slice_get variables_known w ≡ Some (Some s.0)) e s.1))
        (λ (e : l.more.var.0 ≡ v).
        let s = start_of l.more (over l.more (in_flat_map both c.literals l l.more (k, within, at)
        (tail_member l.less (l.more ∷ []) l.more (head_member l.more [])))) in
        (s.0, subst (λ w. slice_get variables_known w ≡ Some (Some s.0)) e s.1))
        which

    class_of : ℕ → ℕ
    class_of v = slice_index (map (λ x. unwrap_or x 0) asked) v

    -- an argument's class
    argument : (a : Var) → Contains i.args a → (slice_get variables_known a.0 ≡ Some (Some (class_of a.0))) × (class_of a.0 < length form.classes)
    unfolding class_of
    argument a has =
        let s = start_at a.0 ((is.instance.arguments a).0 has) in
        let more = wider a.0 s.0 s.1 in
        let e = classes_known asked a.0 s.0 more in
        (subst (λ n. slice_get variables_known a.0 ≡ Some (Some n)) (sym e) s.1, subst (λ n. n < length form.classes) (sym e) (there a.0 s.0 more))

    names : (args : List Var) → ((a : Var) → Contains args a → Contains i.args a)
        → AllZip (λ v class. slice_get variables_known v.0 ≡ Some (Some class)) args (map (λ a. class_of a.0) args)
    names [] among = tt
    names (a ∷ args) among = ((argument a (among a (head_member a args))).0, names args (λ b h. among b (tail_member a args b h)))

    -- the variables that stand for the family's own are of its classes
    pub names_fit : AllZip (λ v class. slice_get variables_known v.0 ≡ Some (Some class)) i.args i.family.classes
    unfolding class_of
    names_fit =
        subst (AllZip (λ v class. slice_get variables_known v.0 ≡ Some (Some class)) i.args) (sym is.instance.classes) (names i.args (λ a h. h))

    term_fits : (t : Term) (class : ℕ) → HasVariable c t.var.0 → IsTermOf form variables_known t class
        → IsTermOf form (map (λ x. Some x) i.family.classes) (renamed_term (place_of i.args) t) class
    unfolding class_of
    term_fits t class has term =
        let v = t.var.0 in
        let in_args : Contains i.args (var v) = (is.instance.arguments (var v)).1 has in
        let at = place_found i.args v in_args in
        let e = classes_known asked v term.start (wider v term.start term.variable) in
        let class_at : slice_get i.family.classes (place_of i.args v) ≡ Some term.start =
        ap (λ l. slice_get l (place_of i.args v)) is.instance.classes
        ∙ map_at (λ a. slice_index (map (λ x. unwrap_or x 0) asked) a.0) i.args (place_of i.args v) (var v) at
        ∙ ap Some e in
        record { start = term.start; variable = map_at (λ x. Some x) i.family.classes (place_of i.args v) term.start class_at; leads = term.leads }

    literal_fits : (l : Literal) → Contains c.literals l → IsLiteralOf form (map (λ x. Some x) i.family.classes) (renamed (place_of i.args) l)
    literal_fits l has = by (is_gt (compare_terms (renamed_term (place_of i.args) l.less) (renamed_term (place_of i.args) l.more)))
      where
        of : IsLiteralOf form variables_known l
        of = of_class l has

        less : IsTermOf form (map (λ x. Some x) i.family.classes) (renamed_term (place_of i.args) l.less) of.class
        less = term_fits l.less of.class (of_less c l has) of.less

        more : IsTermOf form (map (λ x. Some x) i.family.classes) (renamed_term (place_of i.args) l.more) of.class
        more = term_fits l.more of.class (of_more c l has) of.more

        by : (b : Bool)
            → IsLiteralOf form (map (λ x. Some x) i.family.classes)
            (if b then record { same = l.same; less = renamed_term (place_of i.args) l.more; more = renamed_term (place_of i.args) l.less }
            else record { same = l.same; less = renamed_term (place_of i.args) l.less; more = renamed_term (place_of i.args) l.more })
        by true = record { class = of.class; less = more; more = less }
        by false = record { class = of.class; less = less; more = more }

    first_literal : (ls : List Literal) → ls ≢ [] → (l : Literal) × Contains ls l
    first_literal [] not = absurd (not refl)
    first_literal (l ∷ ls) not = (l, head_member l ls)

    few_args : length i.args ≤ 3
    few_args =
        let listed = variables_listed c known in
        let most = no_more i.args (map var (variables c)) is.instance.once (λ a h. (listed.arguments a).1 ((is.instance.arguments a).0 h)) in
        omega (arith, few, most, length-map (variables c) var, length-filter (λ v. list_any (has v) c.literals) (below 8))

    -- the family fits
    pub family_fits : Fits form i.family
    unfolding class_of
    family_fits =
        let long = ap length is.instance.classes ∙ length-map i.args (λ a. slice_index (map (λ x. unwrap_or x 0) asked) a.0) in
        let first = first_literal c.literals some in
        let one : Contains i.args (var first.0.less.var.0) = (is.instance.arguments (var first.0.less.var.0)).1 (of_less c first.0 first.1) in
        record {
          some = omega (arith, long, one.1);
          few = omega (arith, long, few_args);
          classes = subst (All (λ n. n < length form.classes)) (sym is.instance.classes)
              (all_members (λ n. n < length form.classes) (map (λ a. slice_index (map (λ x. unwrap_or x 0) asked) a.0) i.args)
              (λ n h. let of = of_map (λ a. slice_index (map (λ x. unwrap_or x 0) asked) a.0) i.args n h in
              subst (λ k. k < length form.classes) of.2 (argument of.0 of.1).1));
          literals = all_members (IsLiteralOf form (map (λ x. Some x) i.family.classes)) i.family.cube.literals
              (λ m h. let of = of_map (renamed (place_of i.args)) c.literals m ((is.instance.cube.literals m).0 h) in
              subst (IsLiteralOf form (map (λ x. Some x) i.family.classes)) of.2 (literal_fits of.0 of.1));
        }
