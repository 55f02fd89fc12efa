-- What the tests on names and facts say.
use Rattle.std.proofs.Common.{◌≡◌, ◌∙◌, ℕ, Bool, true, ◌&&◌, nat_lt, List, [], ◌∷◌, Contains, Option, Some, None, slice_get, refl, sym, ap}
use Rattle.std.specs.Prelude.{◌/◌, ◌%◌, ◌==◌}
use Rattle.std.specs.Cmp.{first_so, second_so}
use Rattle.std.specs.List.{AllZip, list_any}
use Rattle.std.proofs.lemmas.Bool.{eq-eqb, eqb-true, lt-ltb, ltb-true}
use Rattle.std.proofs.lemmas.List.Folds.{list_any_at}
use Rattle.std.proofs.lemmas.Map.Views.{Contains-from_any}
use Rattle.client_facts.specs.Counts.{is_of}
use Rattle.client_facts.specs.Names.{IsNameAt, MayStand}
use Rattle.client_facts.specs.Setting.{Setting, exit_of, result_of, set_of, variables_of}
use Rattle.client_facts.specs.Standing.{are_names_at, is_known, is_name_at, is_set, may_stand}
use Rattle.client_model.specs.Codes.{Name, Result, Slot, Static, Variable, name_by, name_of}

same : (x : ℕ) → (x == x) ≡ true
same x = eq-eqb x x refl

both : (s t : Bool) → s ≡ true → t ≡ true → (s && t) ≡ true
both s t first second = λ i. first i && second i

found : (codes : List ℕ) (code : ℕ) → list_any (λ a. a == code) codes ≡ true → Contains codes code
found codes code h = Contains-from_any {eq = λ q a. a == q} (λ q a e. sym (eqb-true a q e)) code codes h

there : (codes : List ℕ) (code : ℕ) → Contains codes code → list_any (λ a. a == code) codes ≡ true
there codes code has = list_any_at (λ a. a == code) codes has.0 code has.1 (ap (λ a. a == code) has.2 ∙ same code)

pub of_so : (class : ℕ) (known : Option ℕ) → is_of class known ≡ true → known ≡ Some class
of_so class None h = cc
of_so class (Some other) h = ap (λ c. Some c) (sym (eqb-true class other h))

pub of_only : (class : ℕ) (known : Option ℕ) → known ≡ Some class → is_of class known ≡ true
of_only class known is = ap (is_of class) is ∙ same class

known_so : (class : ℕ) (known : Option (Option ℕ)) → is_known class known ≡ true → known ≡ Some (Some class)
known_so class None h = cc
known_so class (Some known) h = ap (λ k. Some k) (of_so class known h)

known_only : (class : ℕ) (known : Option (Option ℕ)) → known ≡ Some (Some class) → is_known class known ≡ true
known_only class known is = ap (is_known class) is ∙ same class

module _ (g : Setting) (p n class code : ℕ) where
  stands_so : (name : Name) → may_stand g p n class code name ≡ true → MayStand g p n class code name
  stands_so (Static k) h =
      let known = is_known class (slice_get g.client.statics k) in
      let set = is_set g p n code in
      (known_so class (slice_get g.client.statics k) (first_so known set h), found (set_of g p n) code (second_so known set h))
  stands_so (Variable j) h =
      let known = is_known class (slice_get (variables_of g p) j) in
      let set = is_set g p n code in
      (known_so class (slice_get (variables_of g p) j) (first_so known set h), found (set_of g p n) code (second_so known set h))
  stands_so (Slot j) h = ltb-true j 3 h
  stands_so (Result j) h =
      let result = is_of class (result_of g p) in
      let at_exit = n == exit_of g p in
      let rest = second_so (j == 0) (result && at_exit) h in (
        eqb-true j 0 (first_so (j == 0) (result && at_exit) h),
        of_so class (result_of g p) (first_so result at_exit rest),
        eqb-true n (exit_of g p) (second_so result at_exit rest),
      )

  stands_only : (name : Name) → MayStand g p n class code name → may_stand g p n class code name ≡ true
  stands_only (Static k) h =
      both (is_known class (slice_get g.client.statics k)) (is_set g p n code)
      (known_only class (slice_get g.client.statics k) h.0) (there (set_of g p n) code h.1)
  stands_only (Variable j) h =
      both (is_known class (slice_get (variables_of g p) j)) (is_set g p n code)
      (known_only class (slice_get (variables_of g p) j) h.0) (there (set_of g p n) code h.1)
  stands_only (Slot j) h = lt-ltb j 3 h
  stands_only (Result j) h =
      both (j == 0) (is_of class (result_of g p) && n == exit_of g p) (eq-eqb j 0 h.0)
      (both (is_of class (result_of g p)) (n == exit_of g p) (of_only class (result_of g p) h.1) (eq-eqb n (exit_of g p) h.2))

  pub name_so : is_name_at g p n class code ≡ true → IsNameAt g p n class code
  name_so h = stands_so (name_of code) h

  pub name_only : IsNameAt g p n class code → is_name_at g p n class code ≡ true
  name_only h = stands_only (name_of code) h

  -- by the kind of the name
  pub of_static : code % 4 ≡ 0 → is_name_at g p n class code ≡ (is_known class (slice_get g.client.statics (code / 4)) && is_set g p n code)
  of_static kind = ap (λ k. may_stand g p n class code (name_by k (code / 4))) kind

  pub of_variable : code % 4 ≡ 1 → is_name_at g p n class code ≡ (is_known class (slice_get (variables_of g p) (code / 4)) && is_set g p n code)
  of_variable kind = ap (λ k. may_stand g p n class code (name_by k (code / 4))) kind

  pub of_slot : code % 4 ≡ 2 → is_name_at g p n class code ≡ nat_lt (code / 4) 3
  of_slot kind = ap (λ k. may_stand g p n class code (name_by k (code / 4))) kind

  pub of_result : code % 4 ≡ 3 → is_name_at g p n class code ≡ (code / 4 == 0 && (is_of class (result_of g p) && n == exit_of g p))
  of_result kind = ap (λ k. may_stand g p n class code (name_by k (code / 4))) kind

pub ruleset by_kind = (of_static, of_variable, of_slot, of_result)

module _ (g : Setting) (p n : ℕ) where
  pub names_so : (classes codes : List ℕ) → are_names_at g p n classes codes ≡ true → AllZip (IsNameAt g p n) classes codes
  names_so [] [] h = tt
  names_so [] (code ∷ codes) h = cc
  names_so (class ∷ classes) [] h = cc
  names_so (class ∷ classes) (code ∷ codes) h =
      let first = is_name_at g p n class code in
      let rest = are_names_at g p n classes codes in
      (name_so g p n class code (first_so first rest h), names_so classes codes (second_so first rest h))

  pub names_only : (classes codes : List ℕ) → AllZip (IsNameAt g p n) classes codes → are_names_at g p n classes codes ≡ true
  names_only [] [] h = refl
  names_only [] (code ∷ codes) h = absurd h
  names_only (class ∷ classes) [] h = absurd h
  names_only (class ∷ classes) (code ∷ codes) h =
      both (is_name_at g p n class code) (are_names_at g p n classes codes) (name_only g p n class code h.0) (names_only classes codes h.1)
