-- The readers of arguments and values read their grammar.
use Rattle.std.proofs.Common.{◌≡◌, ℕ, Bool, List, [], ◌∷◌, ◌++◌, refl, sym, ◌∙◌, ap, subst, inl, inr}
use Rattle.easl_model.specs.{IsArg, IsListed, IsPath, IsSet, IsValue, is_literal, literal_arg, new_value, path_arg, path_value, set, word_of}
use Rattle.easl_model.specs.declared.place.Place.{Place}
use Rattle.easl_model.specs.declared.token.Key.TheVariants as key
use Rattle.easl_model.specs.declared.token.Kind.{Kind}
use Rattle.easl_model.specs.declared.token.Kind.TheVariants as kind
use Rattle.easl_model.specs.declared.token.Mark.TheVariants as mark
use Rattle.easl_model.specs.declared.token.Token.{Token}
use Rattle.easl_model.specs.declared.tree.Arg.{Arg}
use Rattle.easl_model.specs.declared.tree.Arg.TheVariants as arg
use Rattle.easl_model.specs.declared.tree.Value.{Value}
use Rattle.easl_model.specs.declared.tree.Value.TheVariants as value
use Rattle.easl_model.specs.declared.tree.Word.{Word}
use Rattle.cv_read.specs.{is_key, is_mark, is_name, nothing_of, place_of}
use Rattle.cv_read.proofs.Laws.{Lang, Front, Apart, Mapped, Or, End, front_less}
use Rattle.cv_read.proofs.Levels.{mark_flat, key_flat, name_flat, literal_flat}
use Rattle.cv_read.proofs.Repeats.{or_left, or_right}
use Rattle.cv_read.proofs.Tested.{mark_to, mark_from, key_to, key_from, name_to, name_from, literal_to, literal_from}
use Rattle.cv_read.proofs.Within.{ReadsWithin, got_within, mapped_within, respell_within, closed_within, led_within, two_ways_within, parens_within, listed_within, shallower}
use Rattle.cv_read.proofs.Words.{Led, Closed, Parens, led_starts}
use Rattle.easl_parser.specs.Reading.{path_starts, arg_starts, arg_at, args_at, value_at, set_at}
use Rattle.easl_parser.proofs.PathLaws.{PathGoes, path_within, path_begins}

path_no_literal : Apart path_starts is_literal
path_no_literal kind.Text f g = f
path_no_literal kind.Number f g = f
path_no_literal (kind.Key key.True) f g = f
path_no_literal (kind.Key key.False) f g = f
path_no_literal k f g = g

comma_path : Apart (is_mark mark.Comma) PathGoes
comma_path (kind.Mark mark.Comma) f g = g
comma_path k f g = f

path_no_new : Apart path_starts (is_key key.New)
path_no_new (kind.Key key.New) f g = f
path_no_new k f g = g

module _ (text : List ℕ) where
  -- arguments
  abbrev LiteralArg : Lang Arg
  LiteralArg = Led is_literal (word_of text) (λ w. End (arg.Literal w))

  abbrev ArgLang : Lang Arg
  ArgLang = Or LiteralArg (Mapped (IsPath text) arg.Path)

  arg_to : (w : List Token) (x : Arg) → ArgLang w x → IsArg text w x
  arg_to w x (inl h) = subst (IsArg text w) (sym h.3.1) (subst (λ m. IsArg text m (arg.Literal (word_of text h.0))) (sym (h.4 ∙ ap (λ u. h.0 ∷ u) h.3.0)) (literal_arg (literal_to text h.0 (word_of text h.0) h.2 refl)))
  arg_to w x (inr h) = subst (IsArg text w) (sym h.2) (path_arg h.1)

  arg_from : (w : List Token) (x : Arg) → IsArg text w x → ArgLang w x
  arg_from w x (path_arg {p = p} h) = inr (p, h, refl)
  arg_from w x (literal_arg {t = t} {w = n} i) = inl (t, [], literal_from text t n i, (refl, ap arg.Literal i.word), refl)

  arg_within : (d : ℕ) → ReadsWithin (arg_at text) (IsArg text) PathGoes d
  unfolding arg_at
  arg_within d = respell_within arg_to arg_from
      (two_ways_within is_literal path_starts (led_starts is_literal (word_of text) (λ w. End (arg.Literal w))) (λ w x h. path_begins text w h.0 h.1) path_no_literal
      (led_within is_literal (word_of text) kind.Number tt literal_flat (λ w. got_within (arg.Literal w) PathGoes d))
      (mapped_within arg.Path (path_within text d)))

  arg_begins : (w : List Token) (x : Arg) → IsArg text w x → Front arg_starts w
  arg_begins w x (path_arg {p = p} h) = front_less path_starts arg_starts (λ k f. or_right (is_literal k) (path_starts k) f) w (path_begins text w p h)
  arg_begins w x (literal_arg {t = t} {w = n} i) = or_left (is_literal t.kind) (path_starts t.kind) (literal_from text t n i)

  abbrev ArgsLang : Lang (List Arg)
  ArgsLang = Parens (IsListed (IsArg text))

  args_within : (H : Kind → Bool) (d : ℕ) → ReadsWithin (args_at text) ArgsLang H d
  unfolding args_at
  args_within H d = shallower (parens_within H (λ g. g) (listed_within arg_starts arg_begins comma_path (arg_within d)))

  -- values
  abbrev NewLang : Place → Lang Value
  NewLang at = Led is_name (word_of text) (λ c. Mapped ArgsLang (λ xs. value.New (record { place = at; class = c; args = xs })))

  abbrev ValueLang : Lang Value
  ValueLang = Or (Led (is_key key.New) place_of NewLang) (Mapped (IsPath text) value.Path)

  value_to : (w : List Token) (x : Value) → ValueLang w x → IsValue text w x
  value_to w x (inl h) =
      let n = h.3 in
      let c = word_of text n.0 in
      let g = n.3 in
      let p = g.1 in
      let e : w ≡ h.0 ∷ n.0 ∷ p.0 ∷ p.3.0 ++ p.3.1 ∷ [] = h.4 ∙ ap (λ u. h.0 ∷ u) (n.4 ∙ ap (λ u. n.0 ∷ u) (p.4 ∙ ap (λ u. p.0 ∷ u) p.3.4)) in
      subst (IsValue text w) (sym g.2) (subst (λ m. IsValue text m (value.New (record { place = h.0.place; class = c; args = g.0 }))) (sym e)
      (new_value (key_to key.New h.0 h.2) (name_to text n.0 c n.2 refl) (mark_to mark.Open p.0 p.2) p.3.2 (mark_to mark.Close p.3.1 p.3.3)))
  value_to w x (inr h) = subst (IsValue text w) (sym h.2) (path_value h.1)

  value_from : (w : List Token) (x : Value) → IsValue text w x → ValueLang w x
  value_from w x (path_value {p = p} h) = inr (p, h, refl)
  value_from w x (new_value {new = t} {class = n} {opening = o} {closing = k} {c = c} {ts = ts} {xs = xs} a b d l f) =
      let e : ◌≡◌ {A = Value} (value.New (record { place = t.place; class = c; args = xs })) (value.New (record { place = t.place; class = word_of text n; args = xs })) = ap (λ (m : Word). value.New (record { place = t.place; class = m; args = xs })) b.word in
      inl (t, n ∷ o ∷ ts ++ k ∷ [], key_from key.New t a, (n, o ∷ ts ++ k ∷ [], name_from text n c b, (xs, (o, ts ++ k ∷ [], mark_from mark.Open o d, (ts, k, l, mark_from mark.Close k f, refl), refl), e), refl), refl)

  pub value_within : (d : ℕ) → ReadsWithin (value_at text) (IsValue text) PathGoes d
  unfolding value_at
  value_within d = respell_within value_to value_from
      (two_ways_within (is_key key.New) path_starts (led_starts (is_key key.New) place_of NewLang) (λ w x h. path_begins text w h.0 h.1) path_no_new
      (led_within (is_key key.New) place_of (kind.Key key.New) tt (key_flat key.New)
      (λ at. led_within is_name (word_of text) kind.Name tt name_flat
      (λ c. mapped_within (λ xs. value.New (record { place = at; class = c; args = xs })) (args_within PathGoes d))))
      (mapped_within value.Path (path_within text d)))

  -- "=" value ";"
  abbrev SetLang : Lang Value
  SetLang = Led (is_mark mark.Assign) nothing_of (λ _. Closed mark.Semicolon (IsValue text))

  set_to : (w : List Token) (x : Value) → SetLang w x → IsSet text w x
  set_to w x h = subst (λ m. IsSet text m x) (sym (h.4 ∙ ap (λ u. h.0 ∷ u) h.3.4)) (set (mark_to mark.Assign h.0 h.2) h.3.2 (mark_to mark.Semicolon h.3.1 h.3.3))

  set_from : (w : List Token) (x : Value) → IsSet text w x → SetLang w x
  set_from w x (set {assign = a} {semicolon = k} {ts = ts} {x = y} i h j) = (a, ts ++ k ∷ [], mark_from mark.Assign a i, (ts, k, h, mark_from mark.Semicolon k j, refl), refl)

  pub set_within : (H : Kind → Bool) (d : ℕ) → ReadsWithin (set_at text) (IsSet text) H d
  unfolding set_at
  set_within H d = respell_within set_to set_from
      (led_within (is_mark mark.Assign) nothing_of (kind.Mark mark.Assign) tt (mark_flat mark.Assign (λ b. refl))
      (λ _. closed_within mark.Semicolon H (mark_flat mark.Semicolon (λ b. refl)) (λ g. g) (value_within d)))

  pub set_begins : (w : List Token) (x : Value) → IsSet text w x → Front (is_mark mark.Assign) w
  set_begins w x (set {assign = a} i h j) = mark_from mark.Assign a i
