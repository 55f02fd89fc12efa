-- Lists of name codes by class, as they grow.
use Rattle.std.proofs.Common.{◌≡◌, ◌∙◌, ℕ, zero, suc, ◌+◌, ◌<◌, ◌≤◌, Bool, true, false, cond, ◌⊎◌, inl, inr, ⊎_elim, List, [], ◌∷◌, ◌++◌, drop, length}
use Rattle.std.proofs.Common.{Contains, refl, sym, ap, subst, arith, append-nil, append_assoc, get_or}
use Rattle.std.specs.Prelude.{◌==◌, Option, Some, option_map, slice_get, slice_set, unwrap_or}
use Rattle.std.specs.Global.{Vec}
use Rattle.std.proofs.Math.Nat.{eq-or-lt_of_le}
use Rattle.std.proofs.lemmas.Bool.{cases_order, eq-eqb, eqb-true}
use Rattle.std.proofs.lemmas.List.{get_or-set_other, get_or-set_same, length-append, length-map, map-set}
use Rattle.std.proofs.lemmas.List.Elements.{Contains-append_cases, Contains-append_left, Contains-append_right, Contains-get_or}
use Rattle.std.proofs.lemmas.Option.{slice_get-get_or, slice_get-map, slice_get_past, unwrap_or-slice_get}
use Rattle.client_facts.specs.Counts.{is_of}
use Rattle.client_facts.specs.NameLists.{AreCodesOf, AreListed, IsCodeOf, IsListed, at_class, codes_from, lists_in, of_procedure, tables_in}
use Rattle.client_facts.specs.Held.{Held, setting}
use Rattle.client_facts.specs.Setting.{Setting, variables_of}
use Rattle.client_model.specs.Program as told
use Rattle.client_model.specs.Checked.{procedure_seen}
use Rattle.client_model.specs.Codes.{variable_code}
use Rattle.client_facts.proofs.Inserted.{single}
use Rattle.client_facts.proofs.NameTests.{of_only, of_so}
use Rattle.std.specs.Option.{option_map_or}

abbrev one : ℕ → Option ℕ → ℕ → List ℕ
one class kind code = cond (is_of class kind) (code ∷ []) []

-- an empty list behind the others
pub with_empty : (lists : List (Vec ℕ)) (v : Vec ℕ) (class : ℕ) → v.items ≡ [] → at_class (lists_in (lists ++ v ∷ [])) class ≡ at_class (lists_in lists) class
with_empty [] v zero is = is
with_empty [] v (suc class) is = refl
with_empty (x ∷ xs) v zero is = refl
with_empty (x ∷ xs) v (suc class) is = with_empty xs v class is

at_is_get : (lists : List (List ℕ)) (class : ℕ) → at_class lists class ≡ get_or lists class []
at_is_get lists class = unwrap_or-slice_get lists class []

at_set : (lists : List (List ℕ)) (class other : ℕ) (codes : List ℕ) (b : Bool) → (other == class) ≡ b → class < length lists →
    at_class (slice_set lists class codes) other ≡ cond b codes (at_class lists other)
at_set lists class other codes true is within =
    at_is_get (slice_set lists class codes) other
    ∙ subst (λ k. get_or (slice_set lists class codes) k [] ≡ codes) (sym (eqb-true other class is)) (get_or-set_same lists class codes [] within)
at_set lists class other codes false is within =
    at_is_get (slice_set lists class codes) other
    ∙ (get_or-set_other lists class other codes [] (λ same. absurd (true-not-false same)) ∙ sym (at_is_get lists other))
  where
    true-not-false : other ≡ class → ⊥
    true-not-false same = let e : true ≡ false = sym (eq-eqb other class same) ∙ is in absurd cc

-- the list at the class is longer by the code
longer : (lists : List (List ℕ)) (class code : ℕ) → class < length lists →
    IsListed (Some class) code lists (slice_set lists class (at_class lists class ++ code ∷ []))
longer lists class code within other = by (other == class) refl
  where
    by : (b : Bool) → (other == class) ≡ b →
        at_class (slice_set lists class (at_class lists class ++ code ∷ [])) other ≡ at_class lists other ++ cond b (code ∷ []) []
    by true is =
        at_set lists class other (at_class lists class ++ code ∷ []) true is within
        ∙ ap (λ k. at_class lists k ++ code ∷ []) (sym (eqb-true other class is))
    by false is = at_set lists class other (at_class lists class ++ code ∷ []) false is within ∙ sym (append-nil (at_class lists other))

held_at : (lists : List (Vec ℕ)) (class : ℕ) (before : Vec ℕ) → class < length lists → before ≡ get_or lists class before →
    at_class (lists_in lists) class ≡ before.items
held_at lists class before within is =
    ap (λ o. unwrap_or o []) (slice_get-map (λ (w : Vec ℕ). w.items) lists class
    ∙ ap (option_map (λ (w : Vec ℕ). w.items)) (slice_get-get_or lists class before within ∙ ap (λ w. Some w) (sym is)))

pub put_behind : (lists : List (Vec ℕ)) (class code : ℕ) (before v : Vec ℕ) → class < length lists → before ≡ get_or lists class before →
    v.items ≡ before.items ++ code ∷ [] → IsListed (Some class) code (lists_in lists) (lists_in (slice_set lists class v))
put_behind lists class code before v within at is =
    let set : lists_in (slice_set lists class v) ≡ slice_set (lists_in lists) class v.items = map-set (λ (w : Vec ℕ). w.items) lists class v in
    let long : v.items ≡ at_class (lists_in lists) class ++ code ∷ [] = is ∙ ap (λ l. l ++ code ∷ []) (sym (held_at lists class before within at)) in
    subst (IsListed (Some class) code (lists_in lists)) (ap (slice_set (lists_in lists) class) (sym long) ∙ sym set)
    (longer (lists_in lists) class code (omega (arith, length-map lists (λ (w : Vec ℕ). w.items))))

pub added : (kind : Option ℕ) (class code : ℕ) (old reached new : List (List ℕ)) → kind ≡ Some class →
    ((other : ℕ) → at_class reached other ≡ at_class old other) → IsListed (Some class) code reached new → IsListed kind code old new
added kind class code old reached new is same listed other =
    subst (λ k. at_class new other ≡ at_class old other ++ one other k code) (sym is)
    (listed other ∙ ap (λ l. l ++ one other (Some class) code) (same other))

at_drop : {X : Type 0} (xs : List X) (k : ℕ) (x : X) → slice_get xs k ≡ Some x → drop k xs ≡ x ∷ drop (suc k) xs
at_drop [] k x is = absurd cc
at_drop (y ∷ ys) zero x is = let same : y ≡ x = cc in ap (λ z. z ∷ ys) same
at_drop (y ∷ ys) (suc k) x is = at_drop ys k x is

none_left : {X : Type 0} (xs : List X) (n : ℕ) → length xs ≤ n → drop n xs ≡ []
none_left [] zero h = refl
none_left [] (suc n) h = refl
none_left (x ∷ xs) zero h = absurd (omega arith)
none_left (x ∷ xs) (suc n) h = none_left xs n (omega arith)

module _ (code_of : ℕ → ℕ) (kinds : List (Option ℕ)) where
  -- so many names are listed
  abbrev pub AreListedTo : ℕ → List (List ℕ) → Type 0
  AreListedTo number lists = (class : ℕ) → at_class lists class ++ codes_from code_of number class (drop number kinds) ≡ codes_from code_of 0 class kinds

  turn : (number code : ℕ) (kind : Option ℕ) (old new : List (List ℕ)) → slice_get kinds number ≡ Some kind → code ≡ code_of number →
      IsListed kind code old new → AreListedTo number old → AreListedTo (suc number) new
  turn number code kind old new at is listed before class =
      let rest = codes_from code_of (suc number) class (drop (suc number) kinds) in
      ap (λ l. l ++ rest) (listed class)
      ∙ (append_assoc (at_class old class) (one class kind code) rest
      ∙ (ap (λ k. at_class old class ++ (one class kind k ++ rest)) is
      ∙ (ap (λ l. at_class old class ++ codes_from code_of number class l) (sym (at_drop kinds number kind at)) ∙ before class)))

  pub one_more : (number next code : ℕ) (kind : Option ℕ) (old new : List (List ℕ)) → next ≡ number + 1 → slice_get kinds number ≡ Some kind →
      code ≡ code_of number → IsListed kind code old new → AreListedTo number old → AreListedTo next new
  one_more number next code kind old new step at is listed before =
      let same : suc number ≡ next = omega arith in
      subst (λ k. AreListedTo k new) same (turn number code kind old new at is listed before)

  pub all_listed : (number : ℕ) (lists : List (List ℕ)) → length kinds ≤ number → AreListedTo number lists → AreListed code_of kinds lists
  all_listed number lists all so class =
      sym (append-nil (at_class lists class))
      ∙ (ap (λ l. at_class lists class ++ codes_from code_of number class l) (sym (none_left kinds number all)) ∙ so class)

-- what is listed are the codes of the names of the class
of_one : (class : ℕ) (kind : Option ℕ) (known code : ℕ) → Contains (one class kind known) code → (kind ≡ Some class) × (code ≡ known)
of_one class kind known code has = by (is_of class kind) refl has
  where
    by : (b : Bool) → is_of class kind ≡ b → Contains (cond b (known ∷ []) []) code → (kind ≡ Some class) × (code ≡ known)
    by true is at = (of_so class kind is, single known code at)
    by false is at = absurd (omega (arith, at.1))

in_one : (class : ℕ) (kind : Option ℕ) (known code : ℕ) → kind ≡ Some class → code ≡ known → Contains (one class kind known) code
in_one class kind known code of is =
    subst (λ b. Contains (cond b (known ∷ []) []) code) (sym (of_only class kind of))
    (subst (Contains (known ∷ [])) (sym is) (Contains-get_or (known ∷ []) 0 known (omega arith)))

only : (code_of : ℕ → ℕ) (number class : ℕ) (kinds : List (Option ℕ)) (code : ℕ) → Contains (codes_from code_of number class kinds) code →
    (k : ℕ) × (slice_get kinds k ≡ Some (Some class)) × (code ≡ code_of (number + k))
only code_of number class [] code has = absurd (omega (arith, has.1))
only code_of number class (kind ∷ kinds) code has =
    ⊎_elim (λ at. first (of_one class kind (code_of number) code at)) (λ at. later (only code_of (suc number) class kinds code at))
    (Contains-append_cases (one class kind (code_of number)) (codes_from code_of (suc number) class kinds) code has)
  where
    first : (kind ≡ Some class) × (code ≡ code_of number) → (k : ℕ) × (slice_get (kind ∷ kinds) k ≡ Some (Some class)) × (code ≡ code_of (number + k))
    first h = let same : number ≡ number + 0 = omega arith in (0, ap (λ k. Some k) h.0, h.1 ∙ ap code_of same)

    later : (k : ℕ) × (slice_get kinds k ≡ Some (Some class)) × (code ≡ code_of (suc number + k)) →
        (k : ℕ) × (slice_get (kind ∷ kinds) k ≡ Some (Some class)) × (code ≡ code_of (number + k))
    later h = let same : suc number + h.0 ≡ number + suc h.0 = omega arith in (suc h.0, h.1, h.2 ∙ ap code_of same)

all : (code_of : ℕ → ℕ) (number class : ℕ) (kinds : List (Option ℕ)) (code k : ℕ) → slice_get kinds k ≡ Some (Some class) → code ≡ code_of (number + k) →
    Contains (codes_from code_of number class kinds) code
all code_of number class [] code k known is = absurd cc
all code_of number class (kind ∷ kinds) code zero known is =
    let same : number + 0 ≡ number = omega arith in
    let of : kind ≡ Some class = cc in
    Contains-append_left (one class kind (code_of number)) (codes_from code_of (suc number) class kinds) code
    (in_one class kind (code_of number) code of (is ∙ ap code_of same))
all code_of number class (kind ∷ kinds) code (suc k) known is =
    let same : number + suc k ≡ suc number + k = omega arith in
    Contains-append_right (one class kind (code_of number)) (codes_from code_of (suc number) class kinds) code
    (all code_of (suc number) class kinds code k known (is ∙ ap code_of same))

pub are_codes : (code_of : ℕ → ℕ) (kinds : List (Option ℕ)) (lists : List (List ℕ)) → AreListed code_of kinds lists → (class : ℕ) →
    AreCodesOf code_of kinds class (at_class lists class)
are_codes code_of kinds lists listed class = subst (AreCodesOf code_of kinds class) (sym (listed class)) (record { only = given; all = kept })
  where
    given : (code : ℕ) → Contains (codes_from code_of 0 class kinds) code → IsCodeOf code_of kinds class code
    given code has =
        let h = only code_of 0 class kinds code has in
        let same : 0 + h.0 ≡ h.0 = omega arith in
        record { number = h.0; known = h.1; is = h.2 ∙ ap code_of same }

    kept : (code : ℕ) → IsCodeOf code_of kinds class code → Contains (codes_from code_of 0 class kinds) code
    kept code h = let same : h.number ≡ 0 + h.number = omega arith in all code_of 0 class kinds code h.number h.known (h.is ∙ ap code_of same)

-- the tables of procedures
at_front : (tables : List (Vec (Vec ℕ))) (t : Vec (Vec ℕ)) (p : ℕ) → p < length tables →
    of_procedure (tables_in (tables ++ t ∷ [])) p ≡ of_procedure (tables_in tables) p
at_front [] t p h = absurd (omega arith)
at_front (x ∷ xs) t zero h = refl
at_front (x ∷ xs) t (suc p) h = at_front xs t p (omega arith)

at_end : (tables : List (Vec (Vec ℕ))) (t : Vec (Vec ℕ)) (p : ℕ) → p ≡ length tables → of_procedure (tables_in (tables ++ t ∷ [])) p ≡ lists_in t.items
at_end [] t zero h = refl
at_end [] t (suc p) h = absurd (omega arith)
at_end (x ∷ xs) t zero h = absurd (omega arith)
at_end (x ∷ xs) t (suc p) h = at_end xs t p (omega arith)

at_none : (tables : List (Vec (Vec ℕ))) (p : ℕ) → length tables ≤ p → of_procedure (tables_in tables) p ≡ []
at_none [] p h = refl
at_none (x ∷ xs) zero h = absurd (omega arith)
at_none (x ∷ xs) (suc p) h = at_none xs p (omega arith)

-- the tables of so many procedures
pub record AreTables (g : Setting) (number : ℕ) (tables : List (Vec (Vec ℕ))) : Type 0 where
  pub many : length tables ≡ number
  pub each : (p : ℕ) → p < number → AreListed variable_code (variables_of g p) (of_procedure (tables_in tables) p)

pub one_more_table : (g : Setting) (number next : ℕ) (kinds : List (Option ℕ)) (tables : List (Vec (Vec ℕ))) (t : Vec (Vec ℕ)) → next ≡ number + 1 →
    kinds ≡ variables_of g number → AreListed variable_code kinds (lists_in t.items) → AreTables g number tables → AreTables g next (tables ++ t ∷ [])
one_more_table g number next kinds tables t step is listed before = record {
  many = omega (arith, before.many, length-append tables (t ∷ []));
  each = λ p h. ⊎_elim (λ less. front p less) (λ last. back p last) (cases p h);
}
  where
    cases : (p : ℕ) → p < next → (p < number) ⊎ (p ≡ number)
    cases p h = ⊎_elim (λ last. inr last) (λ less. inl less) (eq-or-lt_of_le (omega arith))

    front : (p : ℕ) → p < number → AreListed variable_code (variables_of g p) (of_procedure (tables_in (tables ++ t ∷ [])) p)
    front p less = subst (AreListed variable_code (variables_of g p)) (sym (at_front tables t p (omega (arith, before.many)))) (before.each p less)

    back : (p : ℕ) → p ≡ number → AreListed variable_code (variables_of g p) (of_procedure (tables_in (tables ++ t ∷ [])) p)
    back p last =
        subst (AreListed variable_code (variables_of g p)) (sym (at_end tables t p (omega (arith, before.many))))
        (subst (λ l. AreListed variable_code l (lists_in t.items)) (is ∙ ap (variables_of g) (sym last)) listed)

pub all_tables : (g : Setting) (number : ℕ) (tables : List (Vec (Vec ℕ))) → length g.client.procedures ≤ number → AreTables g number tables → (p : ℕ) →
    AreListed variable_code (variables_of g p) (of_procedure (tables_in tables) p)
all_tables g number tables whole so p = ⊎_elim (λ less. so.each p less) (λ more. beyond more) (cases p number)
  where
    cases : (a b : ℕ) → (a < b) ⊎ (b ≤ a)
    cases a b = ⊎_elim (λ same. inr (omega arith)) (λ apart. ⊎_elim (λ less. inl less) (λ more. inr (omega arith)) apart) (cases_order a b)

    beyond : number ≤ p → AreListed variable_code (variables_of g p) (of_procedure (tables_in tables) p)
    beyond more =
        let none : variables_of g p ≡ [] = ap (λ x. option_map_or (λ y. y.variables) x []) (slice_get_past g.client.procedures p (omega arith)) in
        subst (AreListed variable_code (variables_of g p)) (sym (at_none tables p (omega (arith, so.many))))
        (subst (λ l. AreListed variable_code l []) (sym none) (λ class. refl))

pub held_tables : (h : Held) (client : told.ClientForm) (count number : ℕ) (tables : List (Vec (Vec ℕ))) → client ≡ h.client →
    count ≡ length client.procedures → count ≤ number → AreTables (setting h) number tables → (p : ℕ) →
    AreListed variable_code (variables_of (setting h) p) (of_procedure (tables_in tables) p)
held_tables h client count number tables is many whole so =
    let same : length client.procedures ≡ length h.client.procedures = ap (λ (c : told.ClientForm). length c.procedures) is in
    all_tables (setting h) number tables (omega (arith, length-map h.client.procedures procedure_seen)) so
