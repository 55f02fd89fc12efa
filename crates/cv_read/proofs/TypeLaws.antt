-- The readers of types and parameters read their grammar.
use Rattle.std.proofs.Common.{◌≡◌, ℕ, suc, Bool, List, [], ◌∷◌, ◌++◌, refl, sym, ◌∙◌, ap, subst, inl, inr}
use Rattle.easl_model.specs.{IsKey, IsListed, IsParam, IsParams, IsType, class_type, opaque_key, opaque_type, param, params, word_of}
use Rattle.easl_model.specs.declared.place.Place.{Place}
use Rattle.easl_model.specs.declared.token.Key.TheVariants as key
use Rattle.easl_model.specs.declared.token.Kind.{Kind}
use Rattle.easl_model.specs.declared.token.Kind.TheVariants as kind
use Rattle.easl_model.specs.declared.token.Mark.TheVariants as mark
use Rattle.easl_model.specs.declared.token.Token.{Token}
use Rattle.easl_model.specs.declared.tree.Opaque.{Opaque}
use Rattle.easl_model.specs.declared.tree.Opaque.TheVariants as opaque
use Rattle.easl_model.specs.declared.tree.Param.{Param}
use Rattle.easl_model.specs.declared.tree.Sort.{Sort}
use Rattle.easl_model.specs.declared.tree.Sort.TheVariants as sort
use Rattle.easl_model.specs.declared.tree.Word.{Word}
use Rattle.cv_read.specs.{is_mark, is_name, is_opaque, opaque_at, opaque_in, opaque_of, param_at, param_behind, params_at, placed_opaque, type_at}
use Rattle.cv_read.specs.{type_starts}
use Rattle.cv_read.proofs.Laws.{Lang, Is, none, Front, Apart, Or, End, no_none}
use Rattle.cv_read.proofs.Levels.{Flat, name_flat}
use Rattle.cv_read.proofs.Repeats.{or_left, or_right}
use Rattle.cv_read.proofs.Tested.{mark_to, mark_from, name_to, name_from}
use Rattle.cv_read.proofs.Within.{ReadsWithin, got_within, respell_within, led_within, two_ways_within, parens_within, listed_within}
use Rattle.cv_read.proofs.Words.{Led, Parens, led_starts}

name_no_opaque : Apart is_name is_opaque
name_no_opaque kind.Name f g = g
name_no_opaque k f g = f

-- opaque types
opaque_kind : (k : Kind) → Is (is_opaque k) → k ≡ kind.Key (opaque_key (opaque_in k))
opaque_kind (kind.Key key.Object) h = refl
opaque_kind (kind.Key key.Int) h = refl
opaque_kind (kind.Key key.Boolean) h = refl
opaque_kind (kind.Key key.String) h = refl
opaque_kind k h = absurd h

pub opaque_to : (t : Token) → Is (is_opaque t.kind) → IsKey (opaque_key (opaque_of t)) t
opaque_to t h = record { kind = opaque_kind t.kind h }

opaque_self : (o : Opaque) → Is (is_opaque (kind.Key (opaque_key o)))
opaque_self opaque.Object = tt
opaque_self opaque.Int = tt
opaque_self opaque.Boolean = tt
opaque_self opaque.String = tt

pub opaque_from : (o : Opaque) (t : Token) → IsKey (opaque_key o) t → Is (is_opaque t.kind)
opaque_from o t h = subst (λ k. Is (is_opaque k)) (sym h.kind) (opaque_self o)

opaque_one : (o : Opaque) → o ≡ opaque_in (kind.Key (opaque_key o))
opaque_one opaque.Object = refl
opaque_one opaque.Int = refl
opaque_one opaque.Boolean = refl
opaque_one opaque.String = refl

pub opaque_same : (o : Opaque) (t : Token) → IsKey (opaque_key o) t → o ≡ opaque_of t
opaque_same o t h = opaque_one o ∙ ap opaque_in (sym h.kind)

pub opaque_flat : Flat is_opaque
opaque_flat (kind.Key k) h b = refl
opaque_flat kind.Name h b = absurd h
opaque_flat kind.Number h b = absurd h
opaque_flat kind.Text h b = absurd h
opaque_flat (kind.Mark m) h b = absurd h

abbrev pub OpaqueLang : Lang Sort
OpaqueLang = Led is_opaque opaque_of (λ o. End (sort.Opaque o))

pub opaque_within : (d : ℕ) → ReadsWithin opaque_at OpaqueLang none d
opaque_within d = led_within is_opaque opaque_of (kind.Key key.Int) tt opaque_flat (λ o. got_within (sort.Opaque o) none d)

pub opaque_begins : (w : List Token) (x : Sort) → OpaqueLang w x → Front is_opaque w
opaque_begins = led_starts is_opaque opaque_of (λ o. End (sort.Opaque o))

module _ (text : List ℕ) where
  -- types and parameters
  abbrev ClassTypeLang : Lang Sort
  ClassTypeLang = Led is_name (word_of text) (λ w. End (sort.Class w))

  pub opaque_spelled : (w : List Token) (x : Sort) → OpaqueLang w x → IsType text w x
  opaque_spelled w x h = subst (IsType text w) (sym h.3.1) (subst (λ m. IsType text m (sort.Opaque (opaque_of h.0))) (sym (h.4 ∙ ap (λ u. h.0 ∷ u) h.3.0)) (opaque_type (opaque_to h.0 h.2)))

  type_to : (w : List Token) (x : Sort) → Or OpaqueLang ClassTypeLang w x → IsType text w x
  type_to w x (inl h) = opaque_spelled w x h
  type_to w x (inr h) = subst (IsType text w) (sym h.3.1) (subst (λ m. IsType text m (sort.Class (word_of text h.0))) (sym (h.4 ∙ ap (λ u. h.0 ∷ u) h.3.0)) (class_type (name_to text h.0 (word_of text h.0) h.2 refl)))

  type_from : (w : List Token) (x : Sort) → IsType text w x → Or OpaqueLang ClassTypeLang w x
  type_from w x (opaque_type {t = t} {o = o} h) = inl (t, [], opaque_from o t h, (refl, ap sort.Opaque (opaque_same o t h)), refl)
  type_from w x (class_type {t = t} {w = n} h) = inr (t, [], name_from text t n h, (refl, ap sort.Class h.word), refl)

  pub type_within : (d : ℕ) → ReadsWithin (type_at text) (IsType text) none d
  type_within d = respell_within type_to type_from
      (two_ways_within is_opaque is_name opaque_begins (led_starts is_name (word_of text) (λ w. End (sort.Class w))) name_no_opaque (opaque_within d)
      (led_within is_name (word_of text) kind.Name tt name_flat (λ w. got_within (sort.Class w) none d)))

  pub type_begins : (w : List Token) (x : Sort) → IsType text w x → Front type_starts w
  type_begins w x (opaque_type {t = t} {o = o} h) = or_right (is_name t.kind) (is_opaque t.kind) (opaque_from o t h)
  type_begins w x (class_type {t = t} {w = n} h) = or_left (is_name t.kind) (is_opaque t.kind) (name_from text t n h)

  -- a parameter behind its type
  abbrev BehindType : Place → Sort → Lang Param
  BehindType at x = Led is_name (word_of text) (λ n. End (record { place = at; sort = x; name = n }))

  abbrev OpaqueParam : Lang Param
  OpaqueParam = Led is_opaque placed_opaque (λ o. BehindType o.0 (sort.Opaque o.1))

  abbrev ClassParam : Lang Param
  ClassParam = Led is_name (word_of text) (λ c. BehindType c.place (sort.Class c))

  behind_to : (t : Token) (s : Sort) (u w : List Token) (x : Param) → IsType text (t ∷ []) s → BehindType t.place s u x → w ≡ t ∷ u → IsParam text w x
  behind_to t s u w x i h e =
      let n = word_of text h.0 in
      let f : w ≡ t ∷ h.0 ∷ [] = e ∙ ap (λ m. t ∷ m) (h.4 ∙ ap (λ m. h.0 ∷ m) h.3.0) in
      subst (IsParam text w) (sym h.3.1) (subst (λ m. IsParam text m (record { place = t.place; sort = s; name = n })) (sym f) (param i (name_to text h.0 n h.2 refl)))

  param_to : (w : List Token) (x : Param) → Or OpaqueParam ClassParam w x → IsParam text w x
  param_to w x (inl h) = behind_to h.0 (sort.Opaque (opaque_of h.0)) h.1 w x (opaque_type (opaque_to h.0 h.2)) h.3 h.4
  param_to w x (inr h) = behind_to h.0 (sort.Class (word_of text h.0)) h.1 w x (class_type (name_to text h.0 (word_of text h.0) h.2 refl)) h.3 h.4

  param_from : (w : List Token) (x : Param) → IsParam text w x → Or OpaqueParam ClassParam w x
  param_from w x (param {t = t} {name = name} {n = n} {x = s} h i) = by s h
    where
      -- the name behind any type
      behind : (s : Sort) → BehindType t.place s (name ∷ []) (record { place = t.place; sort = s; name = n })
      behind s =
          let e : ◌≡◌ {A = Param} (record { place = t.place; sort = s; name = n }) (record { place = t.place; sort = s; name = word_of text name }) =
          ap (λ (m : Word). record { place = t.place; sort = s; name = m }) i.word in
          (name, [], name_from text name n i, (refl, e), refl)

      by : (s : Sort) → IsType text (t ∷ []) s → Or OpaqueParam ClassParam (t ∷ name ∷ []) (record { place = t.place; sort = s; name = n })
      by s (opaque_type {o = o} k) =
          let e : sort.Opaque (opaque_of t) ≡ sort.Opaque o = ap sort.Opaque (sym (opaque_same o t k)) in
          inl (t, name ∷ [], opaque_from o t k, subst (λ (y : Sort). BehindType t.place (sort.Opaque (opaque_of t)) (name ∷ []) (record { place = t.place; sort = y; name = n })) e (behind (sort.Opaque (opaque_of t))), refl)
      by s (class_type {w = c} k) =
          let e : sort.Class (word_of text t) ≡ sort.Class c = ap sort.Class (sym k.word) in
          inr (t, name ∷ [], name_from text t c k, subst (λ (y : Sort). BehindType t.place (sort.Class (word_of text t)) (name ∷ []) (record { place = t.place; sort = y; name = n })) e (behind (sort.Class (word_of text t))), refl)

  behind_within : (at : Place) (s : Sort) (d : ℕ) → ReadsWithin (param_behind text at s) (BehindType at s) none d
  behind_within at s d = led_within is_name (word_of text) kind.Name tt name_flat (λ n. got_within (record { place = at; sort = s; name = n }) none d)

  param_within : (d : ℕ) → ReadsWithin (param_at text) (IsParam text) none d
  unfolding param_at
  param_within d = respell_within param_to param_from
      (two_ways_within is_opaque is_name (led_starts is_opaque placed_opaque (λ o. BehindType o.0 (sort.Opaque o.1)))
      (led_starts is_name (word_of text) (λ c. BehindType c.place (sort.Class c))) name_no_opaque
      (led_within is_opaque placed_opaque (kind.Key key.Int) tt opaque_flat (λ o. behind_within o.0 (sort.Opaque o.1) d))
      (led_within is_name (word_of text) kind.Name tt name_flat (λ c. behind_within c.place (sort.Class c) d)))

  param_begins : (w : List Token) (x : Param) → IsParam text w x → Front type_starts w
  param_begins w x (param {t = t} {name = name} {x = s} h i) = type_begins (t ∷ []) s h

  abbrev ParamsLang : Lang (List Param)
  ParamsLang = Parens (IsListed (IsParam text))

  params_to : (w : List Token) (x : List Param) → ParamsLang w x → IsParams text w x
  params_to w x h = subst (λ m. IsParams text m x) (sym (h.4 ∙ ap (λ u. h.0 ∷ u) h.3.4)) (params (mark_to mark.Open h.0 h.2) h.3.2 (mark_to mark.Close h.3.1 h.3.3))

  params_from : (w : List Token) (x : List Param) → IsParams text w x → ParamsLang w x
  params_from w x (params {opening = o} {closing = k} {ts = ts} i h j) = (o, ts ++ k ∷ [], mark_from mark.Open o i, (ts, k, h, mark_from mark.Close k j, refl), refl)

  pub params_within : (H : Kind → Bool) (d : ℕ) → ReadsWithin (params_at text) (IsParams text) H (suc d)
  unfolding params_at
  params_within H d = respell_within params_to params_from
      (parens_within H (λ g. g) (listed_within type_starts param_begins (no_none (is_mark mark.Comma)) (param_within d)))

  pub params_begins : (w : List Token) (x : List Param) → IsParams text w x → Front (is_mark mark.Open) w
  params_begins w x (params {opening = o} i h j) = mark_from mark.Open o i
