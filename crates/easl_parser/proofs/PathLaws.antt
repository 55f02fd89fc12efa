-- The reader of paths reads their grammar.
use Rattle.std.proofs.Common.{◌≡◌, ℕ, Bool, Option, Some, None, List, [], ◌∷◌, ◌++◌, refl, sym, ◌∙◌, ap, subst, inl, inr}
use Rattle.easl_model.specs.{IsFields, IsPath, named_path, next_field, no_fields, this_path, word_of}
use Rattle.easl_model.specs.declared.place.Place.{Place}
use Rattle.easl_model.specs.declared.token.Key.TheVariants as key
use Rattle.easl_model.specs.declared.token.Kind.{Kind}
use Rattle.easl_model.specs.declared.token.Kind.TheVariants as kind
use Rattle.easl_model.specs.declared.token.Mark.TheVariants as mark
use Rattle.easl_model.specs.declared.token.Token.{Token}
use Rattle.easl_model.specs.declared.tree.Path.{Path}
use Rattle.easl_model.specs.declared.tree.Word.{Word}
use Rattle.cv_read.specs.{behind_mark, is_key, is_mark, is_name, items_at, name_at, nothing_of, place_of}
use Rattle.cv_read.proofs.Laws.{Lang, Is, none, either, Front, Apart, One, Or, Mapped, no_none}
use Rattle.cv_read.proofs.Levels.{mark_flat, key_flat, name_flat}
use Rattle.cv_read.proofs.Repeats.{Star}
use Rattle.cv_read.proofs.Tested.{mark_to, mark_from, key_to, key_from, name_to, name_from}
use Rattle.cv_read.proofs.Within.{ReadsWithin, take_within, mapped_within, respell_within, led_within, two_ways_within, repeated_within}
use Rattle.cv_read.proofs.Words.{Led, led_starts}
use Rattle.easl_parser.specs.Reading.{field_at, path_of, path_at, path_starts}

-- what a path takes greedily
abbrev pub PathGoes : Kind → Bool
PathGoes = either none (is_mark mark.Dot)

pub name_no_this : Apart is_name (is_key key.This)
name_no_this kind.Name f g = g
name_no_this k f g = f

module _ (text : List ℕ) where
  -- fields
  abbrev pub FieldLang : Lang Word
  FieldLang = Led (is_mark mark.Dot) nothing_of (λ _. One is_name (word_of text))

  fields_to : (w : List Token) (ws : List Word) → Star FieldLang w ws → IsFields text w ws
  fields_to w [] s = subst (λ m. IsFields text m []) (sym s) no_fields
  fields_to w (n ∷ ns) s =
      let t = s.2.3 in
      let e : w ≡ s.2.0 ∷ t.0 ∷ s.1 = s.4 ∙ ap (λ m. m ++ s.1) (s.2.4 ∙ ap (λ m. s.2.0 ∷ m) t.1) in
      subst (λ m. IsFields text m (n ∷ ns)) (sym e) (next_field (mark_to mark.Dot s.2.0 s.2.2) (name_to text t.0 n t.2 t.3) (fields_to s.1 ns s.3))

  fields_from : (w : List Token) (ws : List Word) → IsFields text w ws → Star FieldLang w ws
  fields_from w ws no_fields = refl
  fields_from w ws (next_field {dot = d} {t = t} {w = n} {ts = ts} {ws = ns} k i f) = (d ∷ t ∷ [], ts, (d, t ∷ [], mark_from mark.Dot d k, (t, refl, name_from text t n i, i.word), refl), fields_from ts ns f, refl)

  field_within : (d : ℕ) → ReadsWithin (behind_mark mark.Dot (name_at text)) FieldLang none d
  field_within d = led_within (is_mark mark.Dot) nothing_of (kind.Mark mark.Dot) tt (mark_flat mark.Dot (λ b. refl)) (λ _. take_within is_name (word_of text) none d kind.Name tt name_flat)

  fields_within : (d : ℕ) → ReadsWithin (items_at (field_at text)) (IsFields text) PathGoes d
  fields_within d = respell_within fields_to fields_from
      (repeated_within (is_mark mark.Dot) (led_starts (is_mark mark.Dot) nothing_of (λ _. One is_name (word_of text))) (no_none (is_mark mark.Dot)) (field_within d))

  -- paths
  abbrev pub HeadFields : Option Word → Place → Lang Path
  HeadFields h at = Mapped (IsFields text) (λ ws. record { head = h; place = at; fields = ws })

  pub head_within : (h : Option Word) (at : Place) (d : ℕ) → ReadsWithin (path_of text h at) (HeadFields h at) PathGoes d
  head_within h at d = mapped_within (λ ws. record { head = h; place = at; fields = ws }) (fields_within d)

  abbrev ThisPath : Lang Path
  ThisPath = Led (is_key key.This) place_of (HeadFields None)

  abbrev NamedPath : Lang Path
  NamedPath = Led is_name (word_of text) (λ w. HeadFields (Some w) w.place)

  path_to : (w : List Token) (p : Path) → Or ThisPath NamedPath w p → IsPath text w p
  path_to w p (inl s) = subst (IsPath text w) (sym s.3.2) (subst (λ m. IsPath text m (record { head = None; place = s.0.place; fields = s.3.0 })) (sym s.4) (this_path (key_to key.This s.0 s.2) s.3.1))
  path_to w p (inr s) =
      let n = word_of text s.0 in
      subst (IsPath text w) (sym s.3.2) (subst (λ m. IsPath text m (record { head = Some n; place = n.place; fields = s.3.0 })) (sym s.4) (named_path (name_to text s.0 n s.2 refl) s.3.1))

  path_from : (w : List Token) (p : Path) → IsPath text w p → Or ThisPath NamedPath w p
  path_from w p (this_path {t = t} {ts = ts} {ws = ws} k f) = inl (t, ts, key_from key.This t k, (ws, f, refl), refl)
  path_from w p (named_path {t = t} {w = n} {ts = ts} {ws = ws} i f) =
      let e : ◌≡◌ {A = Path} (record { head = Some n; place = n.place; fields = ws }) (record { head = Some (word_of text t); place = t.place; fields = ws }) = ap (λ (m : Word). record { head = Some m; place = m.place; fields = ws }) i.word in
      inr (t, ts, name_from text t n i, (ws, f, e), refl)

  pub path_within : (d : ℕ) → ReadsWithin (path_at text) (IsPath text) PathGoes d
  unfolding path_at
  path_within d = respell_within path_to path_from
      (two_ways_within (is_key key.This) is_name (led_starts (is_key key.This) place_of (HeadFields None)) (led_starts is_name (word_of text) (λ w. HeadFields (Some w) w.place)) name_no_this
      (led_within (is_key key.This) place_of (kind.Key key.This) tt (key_flat key.This) (λ at. head_within None at d))
      (led_within is_name (word_of text) kind.Name tt name_flat (λ w. head_within (Some w) w.place d)))

  pub path_begins : (w : List Token) (p : Path) → IsPath text w p → Front path_starts w
  path_begins w p (this_path k f) = subst (λ q. Is (path_starts q)) (sym k.kind) tt
  path_begins w p (named_path i f) = subst (λ q. Is (path_starts q)) (sym i.kind) tt
