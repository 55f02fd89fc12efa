-- The first fault of a list, kept as a running minimum, is the least of the list.
use Rattle.std.proofs.Common.{◌≡◌, ℕ, ◌<◌, ◌⊎◌, inl, inr, Bool, true, false, ◌&&◌, ◌||◌, ◌==◌, List, [], ◌∷◌, ◌++◌, Option, Some, None, if◌then◌else◌, nat_lt, arith, refl, sym, ap, subst, ◌∙◌, eq-eqb, eqb-true, ⊎_elim}
use Rattle.std.specs.List.{AllByRecursion, Contains, fold}
use Rattle.std.specs.Option.{option_or}
use Rattle.std.proofs.lemmas.Bool.{and_from, and_parts, cases_order, lt-ltb, ltb-true, or_cases}
use Rattle.std.proofs.lemmas.List.Elements.{Contains-append_cases, Contains-append_left, Contains-append_right}
use Rattle.easl_model.specs.{IsWellFormed, earlier, faults_of_bodies, faults_of_cycles, faults_of_headers, faults_of_lengths, first_fault, first_of}
use Rattle.easl_model.specs.{number_of}
use Rattle.easl_model.specs.Faults.{comes_before}
use Rattle.easl_model.specs.declared.fault.Fault.{Fault}
use Rattle.easl_model.specs.declared.tree.Spec.{Spec}
use Rattle.easl_types.specs.Laws.{FirstIsLeast, IsLeastOf, IsLeastOfFirst, NoneIsWellFormed, passes}

-- by line, then by column, then by number
abbrev Sooner : Fault → Fault → Type 0
Sooner f g =
    (f.place.line < g.place.line)
    ⊎ ((f.place.line ≡ g.place.line) × ((f.place.col < g.place.col) ⊎ ((f.place.col ≡ g.place.col) × (number_of f.rule < number_of g.rule))))

sooner : (f g : Fault) → comes_before f g ≡ true → Sooner f g
sooner f g e = elim (or_cases _ _ e) [
  | inl places ↦ elim (or_cases _ _ places) [
    | inl line ↦ inl (ltb-true f.place.line g.place.line line)
    | inr both ↦ let two = and_parts _ _ both in inr (eqb-true f.place.line g.place.line two.0, inl (ltb-true f.place.col g.place.col two.1))
  ]
  | inr same ↦
      let two = and_parts _ _ same in
      let place = and_parts _ _ two.0 in
      inr (
        eqb-true f.place.line g.place.line place.0,
        inr (eqb-true f.place.col g.place.col place.1, ltb-true (number_of f.rule) (number_of g.rule) two.1),
      )
]

or_left : (a b : Bool) → a ≡ true → (a || b) ≡ true
or_left true b e = refl
or_left false b e = absurd (cc)

or_right : (a b : Bool) → b ≡ true → (a || b) ≡ true
or_right true b e = refl
or_right false b e = e

comes : (f g : Fault) → Sooner f g → comes_before f g ≡ true
comes f g (inl line) = or_left _ _ (or_left _ _ (lt-ltb f.place.line g.place.line line))
comes f g (inr (line, inl col)) =
    or_left _ _ (or_right _ _ (and_from _ _ (eq-eqb f.place.line g.place.line line) (lt-ltb f.place.col g.place.col col)))
comes f g (inr (line, inr (col, number))) =
    or_right _ _ (and_from _ _ (and_from _ _ (eq-eqb f.place.line g.place.line line) (eq-eqb f.place.col g.place.col col))
    (lt-ltb (number_of f.rule) (number_of g.rule) number))

-- what comes before another comes before a third, or the third before the other
among : (f g h : Fault) → Sooner f g → Sooner f h ⊎ Sooner h g
among f g h so = by_line (cases_order f.place.line h.place.line)
  where
    line_within : Sooner f g → h.place.line < f.place.line → h.place.line < g.place.line
    line_within (inl line) more = omega (arith, line, more)
    line_within (inr (line, rest)) more = omega (arith, line, more)

    col_within : Sooner f g → f.place.line ≡ h.place.line → h.place.col < f.place.col → Sooner h g
    col_within (inl less) line more = inl (omega (arith, line, less))
    col_within (inr (same, inl col)) line more = inr (omega (arith, line, same), inl (omega (arith, col, more)))
    col_within (inr (same, inr (col, number))) line more = inr (omega (arith, line, same), inl (omega (arith, col, more)))

    number_same : Sooner f g → f.place.line ≡ h.place.line → f.place.col ≡ h.place.col → number_of f.rule ≡ number_of h.rule → Sooner h g
    number_same (inl less) line col number = inl (omega (arith, line, less))
    number_same (inr (same, inl less)) line col number = inr (omega (arith, line, same), inl (omega (arith, col, less)))
    number_same (inr (same, inr (at, less))) line col number = inr (omega (arith, line, same), inr (omega (arith, col, at), omega (arith, number, less)))

    number_within : Sooner f g → f.place.line ≡ h.place.line → f.place.col ≡ h.place.col → number_of h.rule < number_of f.rule → Sooner h g
    number_within (inl less) line col number = inl (omega (arith, line, less))
    number_within (inr (same, inl less)) line col number = inr (omega (arith, line, same), inl (omega (arith, col, less)))
    number_within (inr (same, inr (at, less))) line col number = inr (omega (arith, line, same), inr (omega (arith, col, at), omega (arith, number, less)))

    by_number : f.place.line ≡ h.place.line → f.place.col ≡ h.place.col
        → (number_of f.rule ≡ number_of h.rule) ⊎ ((number_of f.rule < number_of h.rule) ⊎ (number_of h.rule < number_of f.rule)) → Sooner f h ⊎ Sooner h g
    by_number line col (inl number) = inr (number_same so line col number)
    by_number line col (inr (inl less)) = inl (inr (line, inr (col, less)))
    by_number line col (inr (inr more)) = inr (number_within so line col more)

    by_col : f.place.line ≡ h.place.line → (f.place.col ≡ h.place.col) ⊎ ((f.place.col < h.place.col) ⊎ (h.place.col < f.place.col)) → Sooner f h ⊎ Sooner h g
    by_col line (inl col) = by_number line col (cases_order (number_of f.rule) (number_of h.rule))
    by_col line (inr (inl less)) = inl (inr (line, inl less))
    by_col line (inr (inr more)) = inr (col_within so line more)

    by_line : (f.place.line ≡ h.place.line) ⊎ ((f.place.line < h.place.line) ⊎ (h.place.line < f.place.line)) → Sooner f h ⊎ Sooner h g
    by_line (inl line) = by_col line (cases_order f.place.col h.place.col)
    by_line (inr (inl less)) = inl (inl less)
    by_line (inr (inr more)) = inr (inl (line_within so more))

never_both : (f g : Fault) → Sooner f g → Sooner g f → ⊥
never_both f g (inl line) (inl other) = omega (arith, line, other)
never_both f g (inl line) (inr (same, rest)) = omega (arith, line, same)
never_both f g (inr (same, rest)) (inl line) = omega (arith, line, same)
never_both f g (inr (line, inl col)) (inr (same, inl other)) = omega (arith, col, other)
never_both f g (inr (line, inl col)) (inr (same, inr (at, number))) = omega (arith, col, at)
never_both f g (inr (line, inr (at, number))) (inr (same, inl col)) = omega (arith, col, at)
never_both f g (inr (line, inr (col, number))) (inr (same, inr (at, other))) = omega (arith, number, other)

not_before : (f g : Fault) → (Sooner f g → ⊥) → comes_before f g ≡ false
not_before f g never = by (comes_before f g) refl
  where
    by : (b : Bool) → comes_before f g ≡ b → comes_before f g ≡ false
    by true e = absurd (never (sooner f g e))
    by false e = e

-- what is kept is among the faults seen, and none of these comes before it
record Keeps (y : Fault) (xs : List Fault) (f : Fault) : Type 0 where
  member : Contains (y ∷ xs) f
  first : Sooner y f → ⊥
  rest : AllByRecursion (λ g. comes_before g f ≡ false) xs

kept : (y : Fault) (xs : List Fault) (f : Fault) → fold (earlier comes_before) (Some y) xs ≡ Some f → Keeps y xs f
kept y [] f e =
    let same : y ≡ f = cc in
    subst (Keeps y []) same (record { member = (0, omega arith, refl); first = λ soon. never_both y y soon soon; rest = tt })
kept y (x ∷ xs) f e = by (comes_before x y) refl (kept x xs f) (kept y xs f)
  where
    Kept : Fault → Type 0
    Kept z = fold (earlier comes_before) (Some z) xs ≡ Some f → Keeps z xs f

    by : (b : Bool) → comes_before x y ≡ b → Kept x → Kept y → Keeps y (x ∷ xs) f
    by true b kept_new kept_old =
        let went : fold (earlier comes_before) (Some x) xs ≡ Some f = cc in
        let k = kept_new went in
        record {
          member = Contains-append_right (y ∷ []) (x ∷ xs) f k.member;
          first = λ soon. ⊎_elim (λ (one : Sooner y x). never_both x y (sooner x y b) one) (λ (two : Sooner x f). k.first two) (among y f x soon);
          rest = (not_before x f k.first, k.rest);
        }
    by false b kept_new kept_old =
        let went : fold (earlier comes_before) (Some y) xs ≡ Some f = cc in
        let k = kept_old went in
        record {
          member =
              ⊎_elim
              (λ (head : Contains (y ∷ []) f). Contains-append_left (y ∷ []) (x ∷ xs) f head)
              (λ (tail : Contains xs f). Contains-append_right (y ∷ x ∷ []) xs f tail)
              (Contains-append_cases (y ∷ []) xs f k.member);
          first = k.first;
          rest = (
            not_before x f (λ soon. ⊎_elim (λ (one : Sooner x y). let so = comes x y one in absurd (cc)) (λ (two : Sooner y f). k.first two)
                (among x f y soon)),
            k.rest,
          );
        }

least_of : (faults : List Fault) (f : Fault) → first_of faults ≡ Some f → IsLeastOf faults f
least_of [] f e = absurd (cc)
least_of (x ∷ xs) f e = let k = kept x xs f e in (k.member, (not_before x f k.first, k.rest))

still_some : (y : Fault) (xs : List Fault) → fold (earlier comes_before) (Some y) xs ≡ None → ⊥
still_some y [] e = absurd (cc)
still_some y (x ∷ xs) e = by (comes_before x y) refl (still_some x xs) (still_some y xs)
  where
    Stays : Fault → Type 0
    Stays z = fold (earlier comes_before) (Some z) xs ≡ None → ⊥

    by : (b : Bool) → comes_before x y ≡ b → Stays x → Stays y → ⊥
    by true b stays_new stays_old = let went : fold (earlier comes_before) (Some x) xs ≡ None = cc in stays_new went
    by false b stays_new stays_old = let went : fold (earlier comes_before) (Some y) xs ≡ None = cc in stays_old went

none_of : (faults : List Fault) → first_of faults ≡ None → faults ≡ []
none_of [] e = refl
none_of (x ∷ xs) e = absurd (still_some x xs e)

-- in these faults, or in none of them and in later ones
either : (faults : List Fault) (later : Option Fault) (f : Fault) → option_or (first_of faults) later ≡ Some f
    → IsLeastOf faults f ⊎ ((faults ≡ []) × (later ≡ Some f))
either faults later f e = by (first_of faults) refl
  where
    by : (o : Option Fault) → first_of faults ≡ o → IsLeastOf faults f ⊎ ((faults ≡ []) × (later ≡ Some f))
    by None o = inr (none_of faults o, (let e' : later ≡ Some f = cc in e'))
    by (Some g) o = inl (least_of faults f (let e' : first_of faults ≡ Some f = cc in e'))

neither : (faults : List Fault) (later : Option Fault) → option_or (first_of faults) later ≡ None → (faults ≡ []) × (later ≡ None)
neither faults later e = by (first_of faults) refl
  where
    by : (o : Option Fault) → first_of faults ≡ o → (faults ≡ []) × (later ≡ None)
    by None o = (none_of faults o, (let e' : later ≡ None = cc in e'))
    by (Some g) o = absurd (cc)

pub first_is_least : FirstIsLeast
first_is_least spec f e = in_headers (either (faults_of_headers spec) _ f e)
  where
    Found : List Fault → List (List Fault) → Type 0
    Found faults later = IsLeastOfFirst (faults ∷ later) f

    in_cycles : IsLeastOf (faults_of_cycles spec) f ⊎ ((faults_of_cycles spec ≡ []) × (first_of (faults_of_lengths spec) ≡ Some f))
        → Found (faults_of_cycles spec) (faults_of_lengths spec ∷ [])
    in_cycles (inl found) = inl found
    in_cycles (inr (none, later)) = inr (none, inl (least_of (faults_of_lengths spec) f later))

    in_bodies : IsLeastOf (faults_of_bodies spec) f
        ⊎ ((faults_of_bodies spec ≡ []) × (option_or (first_of (faults_of_cycles spec)) (first_of (faults_of_lengths spec)) ≡ Some f))
        → Found (faults_of_bodies spec) (faults_of_cycles spec ∷ faults_of_lengths spec ∷ [])
    in_bodies (inl found) = inl found
    in_bodies (inr (none, later)) = inr (none, in_cycles (either (faults_of_cycles spec) _ f later))

    in_headers : IsLeastOf (faults_of_headers spec) f
        ⊎ ((faults_of_headers spec ≡ [])
        × (option_or (first_of (faults_of_bodies spec)) (option_or (first_of (faults_of_cycles spec)) (first_of (faults_of_lengths spec))) ≡ Some f))
        → IsLeastOfFirst (passes spec) f
    in_headers (inl found) = inl found
    in_headers (inr (none, later)) = inr (none, in_bodies (either (faults_of_bodies spec) _ f later))

pub none_is_well_formed : NoneIsWellFormed
none_is_well_formed spec e =
    let headers = neither (faults_of_headers spec) _ e in
    let bodies = neither (faults_of_bodies spec) _ headers.1 in
    let cycles = neither (faults_of_cycles spec) _ bodies.1 in
    record { headers = headers.0; bodies = bodies.0; cycles = cycles.0; lengths = none_of (faults_of_lengths spec) cycles.1 }
