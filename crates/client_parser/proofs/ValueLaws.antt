-- The readers of arguments, calls and values read their grammar.
use Rattle.std.proofs.Common.{◌≡◌, ℕ, Bool, List, [], ◌∷◌, ◌++◌, refl, sym, ◌∙◌, ap, subst, inl, inr}
use Rattle.easl_model.specs.Grammar.{IsListed}
use Rattle.easl_model.specs.Lexemes.{is_literal, word_of}
use Rattle.easl_model.specs.declared.place.Place.{Place}
use Rattle.easl_model.specs.declared.token.Key.TheVariants as key
use Rattle.easl_model.specs.declared.token.Kind.{Kind}
use Rattle.easl_model.specs.declared.token.Kind.TheVariants as kind
use Rattle.easl_model.specs.declared.token.Mark.TheVariants as mark
use Rattle.easl_model.specs.declared.token.Token.{Token}
use Rattle.easl_model.specs.declared.tree.Word.{Word}
use Rattle.client_model.specs.Grammar.{IsArg, name_arg, literal_arg, IsArgs, args, IsNew, new, IsComponent, component, IsCall, call, IsInitial, copy_initial}
use Rattle.client_model.specs.Grammar.{new_initial, component_initial, IsRhs, initial_rhs, call_rhs}
use Rattle.client_model.specs.declared.tree.Call.{Call}
use Rattle.client_model.specs.declared.tree.Component.{Component}
use Rattle.client_model.specs.declared.tree.New.{New}
use Rattle.client_model.specs.declared.tree.Rhs.{Rhs}
use Rattle.client_model.specs.declared.tree.Rhs.TheVariants as rhs
use Rattle.cv_read.specs.Read.{Read, is_mark, is_key, is_name, nothing_of, place_of}
use Rattle.cv_read.proofs.Laws.{Lang, Is, none, either, Avoids, Front, Sub, Apart, Mapped, One, Or, End, no_none, front_less}
use Rattle.cv_read.proofs.Levels.{mark_flat, key_flat, name_flat, literal_flat}
use Rattle.cv_read.proofs.Repeats.{or_left, or_right}
use Rattle.cv_read.proofs.Tested.{mark_to, mark_from, key_to, key_from, name_to, name_from, literal_to, literal_from}
use Rattle.cv_read.proofs.Within.{ReadsWithin, take_within, mapped_within, respell_within, led_within, two_ways_within, choice_within, or_nothing_within}
use Rattle.cv_read.proofs.Within.{parens_within, listed_within, shallower}
use Rattle.cv_read.proofs.Words.{Led, Parens, led_starts, front_shuns}
use Rattle.client_parser.specs.Reading.{arg_starts, arg_at, args_at, component_behind, component_at, new_behind, new_at, call_value, initial_behind}
use Rattle.client_parser.specs.Reading.{rhs_behind, value_by, initial_at, rhs_at}

-- what an initial value and any value take greedily
abbrev pub InitialGoes : Kind → Bool
InitialGoes = is_mark mark.Dot

abbrev pub RhsGoes : Kind → Bool
RhsGoes = either (is_mark mark.Open) (is_mark mark.Dot)

name_no_literal : Apart is_name is_literal
name_no_literal kind.Name f g = g
name_no_literal k f g = f

dot_no_open : Apart (is_mark mark.Dot) (is_mark mark.Open)
dot_no_open (kind.Mark mark.Dot) f g = g
dot_no_open k f g = f

-- a plain value begins with a name or a literal
plain_no_new : Apart arg_starts (is_key key.New)
plain_no_new (kind.Key key.New) f g = f
plain_no_new k f g = g

module _ (text : List ℕ) where
  -- arguments
  abbrev ArgLang : Lang Word
  ArgLang = Or (One is_literal (word_of text)) (One is_name (word_of text))

  arg_to : (w : List Token) (x : Word) → ArgLang w x → IsArg text w x
  arg_to w x (inl h) = subst (IsArg text w) (sym h.3) (subst (λ m. IsArg text m (word_of text h.0)) (sym h.1)
      (literal_arg (literal_to text h.0 (word_of text h.0) h.2 refl)))
  arg_to w x (inr h) = subst (IsArg text w) (sym h.3) (subst (λ m. IsArg text m (word_of text h.0)) (sym h.1)
      (name_arg (name_to text h.0 (word_of text h.0) h.2 refl)))

  arg_from : (w : List Token) (x : Word) → IsArg text w x → ArgLang w x
  arg_from w x (name_arg {t = t} i) = inr (t, refl, name_from text t x i, i.word)
  arg_from w x (literal_arg {t = t} i) = inl (t, refl, literal_from text t x i, i.word)

  literal_begins : (w : List Token) (x : Word) → One is_literal (word_of text) w x → Front is_literal w
  literal_begins w x h = subst (Front is_literal) (sym h.1) h.2

  name_begins : (w : List Token) (x : Word) → One is_name (word_of text) w x → Front is_name w
  name_begins w x h = subst (Front is_name) (sym h.1) h.2

  pub arg_within : (G : Kind → Bool) (d : ℕ) → ReadsWithin (arg_at text) (IsArg text) G d
  arg_within G d = respell_within arg_to arg_from
      (two_ways_within is_literal is_name literal_begins name_begins name_no_literal
      (take_within is_literal (word_of text) G d kind.Number tt literal_flat)
      (take_within is_name (word_of text) G d kind.Name tt name_flat))

  pub arg_begins : (w : List Token) (x : Word) → IsArg text w x → Front arg_starts w
  arg_begins w x (name_arg {t = t} i) = or_left (is_name t.kind) (is_literal t.kind) (name_from text t x i)
  arg_begins w x (literal_arg {t = t} i) = or_right (is_name t.kind) (is_literal t.kind) (literal_from text t x i)

  args_to : (w : List Token) (x : List Word) → Parens (IsListed (IsArg text)) w x → IsArgs text w x
  args_to w x h = subst (λ m. IsArgs text m x) (sym (h.4 ∙ ap (λ u. h.0 ∷ u) h.3.4)) (args (mark_to mark.Open h.0 h.2) h.3.2 (mark_to mark.Close h.3.1 h.3.3))

  args_from : (w : List Token) (x : List Word) → IsArgs text w x → Parens (IsListed (IsArg text)) w x
  args_from w x (args {opening = o} {closing = k} {ts = ts} i h j) = (o, ts ++ k ∷ [], mark_from mark.Open o i, (ts, k, h, mark_from mark.Close k j, refl), refl)

  args_within : (G : Kind → Bool) (d : ℕ) → ReadsWithin (args_at text) (IsArgs text) G d
  unfolding args_at
  args_within G d = respell_within args_to args_from
      (shallower (parens_within G (λ g. g) (listed_within arg_starts arg_begins (no_none (is_mark mark.Comma)) (arg_within none d))))

  args_begins : (w : List Token) (x : List Word) → IsArgs text w x → Front (is_mark mark.Open) w
  args_begins w x (args {opening = o} i h j) = mark_from mark.Open o i

  -- calls and constructions, each behind its first token
  abbrev pub ComponentTail : Word → Lang Component
  ComponentTail r = Led (is_mark mark.Dot) nothing_of (λ _. Led is_name (word_of text)
      (λ m. Mapped (IsArgs text) (λ ws. record { receiver = r; method = m; args = ws })))

  abbrev pub CallTail : Word → Lang Rhs
  CallTail p = Mapped (IsArgs text) (λ ws. rhs.Call (record { procedure = p; args = ws }))

  abbrev pub NewTail : Place → Lang Rhs
  NewTail at = Led is_name (word_of text) (λ c. Mapped (IsArgs text) (λ ws. rhs.New (record { place = at; class = c; args = ws })))

  pub component_tail_within : (r : Word) (G : Kind → Bool) (d : ℕ) → ReadsWithin (component_behind text r) (ComponentTail r) G d
  unfolding component_behind
  component_tail_within r G d = led_within (is_mark mark.Dot) nothing_of (kind.Mark mark.Dot) tt (mark_flat mark.Dot (λ b. refl))
      (λ _. led_within is_name (word_of text) kind.Name tt name_flat (λ m. mapped_within (λ ws. record { receiver = r; method = m; args = ws }) (args_within G d)))

  pub call_tail_within : (p : Word) (G : Kind → Bool) (d : ℕ) → ReadsWithin (call_value text p) (CallTail p) G d
  call_tail_within p G d = mapped_within (λ ws. rhs.Call (record { procedure = p; args = ws })) (args_within G d)

  pub new_tail_within : (at : Place) (G : Kind → Bool) (d : ℕ) → ReadsWithin (new_behind text at) (NewTail at) G d
  new_tail_within at G d = led_within is_name (word_of text) kind.Name tt name_flat
      (λ c. mapped_within (λ ws. rhs.New (record { place = at; class = c; args = ws })) (args_within G d))

  pub component_to : (t : Token) → Is (is_name t.kind) → (u : List Token) (x : Component) → ComponentTail (word_of text t) u x → IsComponent text (t ∷ u) x
  component_to t i u x h =
      let m = h.3 in
      let n = word_of text m.0 in
      let a = m.3 in
      let e : u ≡ h.0 ∷ m.0 ∷ m.1 = h.4 ∙ ap (λ v. h.0 ∷ v) m.4 in
      subst (IsComponent text (t ∷ u)) (sym a.2) (subst (λ v. IsComponent text (t ∷ v) (record { receiver = word_of text t; method = n; args = a.0 })) (sym e)
      (component (name_to text t (word_of text t) i refl) (mark_to mark.Dot h.0 h.2) (name_to text m.0 n m.2 refl) a.1))

  component_led : (w : List Token) (x : Component) → Led is_name (word_of text) ComponentTail w x → IsComponent text w x
  component_led w x h = subst (λ m. IsComponent text m x) (sym h.4) (component_to h.0 h.2 h.1 x h.3)

  pub component_from : (w : List Token) (x : Component) → IsComponent text w x → Led is_name (word_of text) ComponentTail w x
  component_from w x (component {receiver = t} {dot = k} {method = u} {r = r} {m = m} {ts = ts} {ws = ws} i j l h) =
      let e : ◌≡◌ {A = Component} (record { receiver = r; method = m; args = ws }) (record { receiver = word_of text t; method = word_of text u; args = ws })
      = ap (λ (v : Word). record { receiver = v; method = m; args = ws }) i.word
      ∙ ap (λ (v : Word). record { receiver = word_of text t; method = v; args = ws }) l.word in
      (t, k ∷ u ∷ ts, name_from text t r i, (k, u ∷ ts, mark_from mark.Dot k j, (u, ts, name_from text u m l, (ws, h, e), refl), refl), refl)

  pub component_within : (G : Kind → Bool) (d : ℕ) → ReadsWithin (component_at text) (IsComponent text) G d
  component_within G d = respell_within component_led component_from
      (led_within is_name (word_of text) kind.Name tt name_flat (λ r. component_tail_within r G d))

  pub component_begins : (w : List Token) (x : Component) → IsComponent text w x → Front is_name w
  component_begins w x (component {receiver = t} {r = r} i j l h) = name_from text t r i

  pub component_tail_begins : (r : Word) (w : List Token) (x : Rhs) → Mapped (ComponentTail r) rhs.Component w x → Front (is_mark mark.Dot) w
  component_tail_begins r w x h = subst (Front (is_mark mark.Dot)) (sym h.1.4) h.1.2

  pub call_tail_begins : (p : Word) (w : List Token) (x : Rhs) → CallTail p w x → Front (is_mark mark.Open) w
  call_tail_begins p w x h = args_begins w h.0 h.1

  pub call_to : (t : Token) → Is (is_name t.kind) → (u : List Token) (x : Rhs) → CallTail (word_of text t) u x → (c : Call) × IsCall text (t ∷ u) c
      × (x ≡ rhs.Call c)
  call_to t i u x h = (record { procedure = word_of text t; args = h.0 }, call (name_to text t (word_of text t) i refl) h.1, h.2)

  pub call_from : (w : List Token) (c : Call) → IsCall text w c → Led is_name (word_of text) CallTail w (rhs.Call c)
  call_from w c (call {procedure = t} {p = p} {ts = ts} {ws = ws} i h) =
      let e : ◌≡◌ {A = Rhs} (rhs.Call (record { procedure = p; args = ws })) (rhs.Call (record { procedure = word_of text t; args = ws })) =
      ap (λ (v : Word). rhs.Call (record { procedure = v; args = ws })) i.word in
      (t, ts, name_from text t p i, (ws, h, e), refl)

  abbrev pub NewLang : Lang Rhs
  NewLang = Led (is_key key.New) place_of NewTail

  pub new_to : (w : List Token) (x : Rhs) → NewLang w x → (n : New) × IsNew text w n × (x ≡ rhs.New n)
  new_to w x h =
      let c = h.3 in
      let n = word_of text c.0 in
      let e : w ≡ h.0 ∷ c.0 ∷ c.1 = h.4 ∙ ap (λ u. h.0 ∷ u) c.4 in (
        record { place = h.0.place; class = n; args = c.3.0 },
        subst (λ m. IsNew text m (record { place = h.0.place; class = n; args = c.3.0 })) (sym e) (new (key_to key.New h.0 h.2) (name_to text c.0 n c.2 refl) c.3.1),
        c.3.2,
      )

  pub new_from : (w : List Token) (n : New) → IsNew text w n → NewLang w (rhs.New n)
  new_from w n (new {keyword = t} {class = u} {c = c} {ts = ts} {ws = ws} i j h) =
      let e : ◌≡◌ {A = Rhs} (rhs.New (record { place = t.place; class = c; args = ws }))
      (rhs.New (record { place = t.place; class = word_of text u; args = ws })) =
      ap (λ (v : Word). rhs.New (record { place = t.place; class = v; args = ws })) j.word in
      (t, u ∷ ts, key_from key.New t i, (u, ts, name_from text u c j, (ws, h, e), refl), refl)

  pub new_within : (G : Kind → Bool) (d : ℕ) → ReadsWithin (new_at text) NewLang G d
  new_within G d = led_within (is_key key.New) place_of (kind.Key key.New) tt (key_flat key.New) (λ at. new_tail_within at G d)

  -- values, over what may stand behind a name
  abbrev LiteralLang : Lang Rhs
  LiteralLang = Mapped (One is_literal (word_of text)) rhs.Copy

  abbrev PlainLang : (Word → Lang Rhs) → Lang Rhs
  PlainLang Tail = Or LiteralLang (Led is_name (word_of text) Tail)

  abbrev ValueLang : (Word → Lang Rhs) → Lang Rhs
  ValueLang Tail = Or NewLang (PlainLang Tail)

  literal_value_begins : (w : List Token) (x : Rhs) → LiteralLang w x → Front is_literal w
  literal_value_begins w x h = literal_begins w h.0 h.1

  plain_begins : (Tail : Word → Lang Rhs) (w : List Token) (x : Rhs) → PlainLang Tail w x → Front arg_starts w
  plain_begins Tail w x (inl h) = front_less is_literal arg_starts (λ k f. or_right (is_name k) (is_literal k) f) w (literal_value_begins w x h)
  plain_begins Tail w x (inr h) = front_less is_name arg_starts (λ k f. or_left (is_name k) (is_literal k) f) w (led_starts is_name (word_of text) Tail w x h)

  value_within : (behind : Word → List Token → Read Rhs) (Tail : Word → Lang Rhs) (G : Kind → Bool) (d : ℕ)
      → ((w : Word) → ReadsWithin (behind w) (Tail w) G d) → ReadsWithin (value_by text behind) (ValueLang Tail) G d
  value_within behind Tail G d tail =
      two_ways_within (is_key key.New) arg_starts (led_starts (is_key key.New) place_of NewTail) (plain_begins Tail) plain_no_new (new_within G d)
      (two_ways_within is_literal is_name literal_value_begins (led_starts is_name (word_of text) Tail) name_no_literal
      (mapped_within rhs.Copy (take_within is_literal (word_of text) G d kind.Number tt literal_flat))
      (led_within is_name (word_of text) kind.Name tt name_flat tail))

  -- initial values
  abbrev InitialTail : Word → Lang Rhs
  InitialTail w = Or (Mapped (ComponentTail w) rhs.Component) (End (rhs.Copy w))

  initial_tail_to : (t : Token) → Is (is_name t.kind) → (u : List Token) (x : Rhs) → InitialTail (word_of text t) u x → IsInitial text (t ∷ u) x
  initial_tail_to t i u x (inl h) = subst (IsInitial text (t ∷ u)) (sym h.2) (component_initial (component_to t i u h.0 h.1))
  initial_tail_to t i u x (inr h) =
      subst (IsInitial text (t ∷ u)) (sym h.1) (subst (λ m. IsInitial text (t ∷ m) (rhs.Copy (word_of text t))) (sym h.0)
      (copy_initial (name_arg (name_to text t (word_of text t) i refl))))

  initial_to : (w : List Token) (x : Rhs) → ValueLang InitialTail w x → IsInitial text w x
  initial_to w x (inl h) = let n = new_to w x h in subst (IsInitial text w) (sym n.2) (new_initial n.1)
  initial_to w x (inr (inl h)) = subst (IsInitial text w) (sym h.2) (copy_initial (arg_to w h.0 (inl h.1)))
  initial_to w x (inr (inr h)) = subst (λ m. IsInitial text m x) (sym h.4) (initial_tail_to h.0 h.2 h.1 x h.3)

  copy_from : (w : List Token) (n : Word) → IsArg text w n → ValueLang InitialTail w (rhs.Copy n)
  copy_from w n (name_arg {t = t} i) = inr (inr (t, [], name_from text t n i, inr (refl, ap rhs.Copy i.word), refl))
  copy_from w n (literal_arg {t = t} i) = inr (inl (n, (t, refl, literal_from text t n i, i.word), refl))

  initial_from : (w : List Token) (x : Rhs) → IsInitial text w x → ValueLang InitialTail w x
  initial_from w x (copy_initial {w = n} h) = copy_from w n h
  initial_from w x (new_initial {x = n} h) = inl (new_from w n h)
  initial_from w x (component_initial {x = c} h) = let l = component_from w c h in inr (inr (l.0, l.1, l.2, inl (c, l.3, refl), l.4))

  initial_tail_within : (w : Word) (G : Kind → Bool) (d : ℕ) → Sub (is_mark mark.Dot) G → ReadsWithin (initial_behind text w) (InitialTail w) G d
  initial_tail_within w G d sub =
      or_nothing_within (is_mark mark.Dot) (rhs.Copy w) (component_tail_begins w) sub (mapped_within rhs.Component (component_tail_within w G d))

  pub initial_within : (d : ℕ) → ReadsWithin (initial_at text) (IsInitial text) InitialGoes d
  unfolding initial_at
  initial_within d = respell_within initial_to initial_from (value_within (initial_behind text) InitialTail InitialGoes d
      (λ w. initial_tail_within w InitialGoes d (λ k f. f)))

  -- all values
  abbrev RhsTail : Word → Lang Rhs
  RhsTail w = Or (CallTail w) (InitialTail w)

  rhs_to : (w : List Token) (x : Rhs) → ValueLang RhsTail w x → IsRhs text w x
  rhs_to w x (inl h) = initial_rhs (initial_to w x (inl h))
  rhs_to w x (inr (inl h)) = initial_rhs (initial_to w x (inr (inl h)))
  rhs_to w x (inr (inr h)) = by h.3
    where
      by : RhsTail (word_of text h.0) h.1 x → IsRhs text w x
      by (inl l) = let c = call_to h.0 h.2 h.1 x l in subst (IsRhs text w) (sym c.2) (subst (λ m. IsRhs text m (rhs.Call c.0)) (sym h.4) (call_rhs c.1))
      by (inr l) = initial_rhs (initial_to w x (inr (inr (h.0, h.1, h.2, l, h.4))))

  wider : (w : List Token) (x : Rhs) → ValueLang InitialTail w x → ValueLang RhsTail w x
  wider w x (inl h) = inl h
  wider w x (inr (inl h)) = inr (inl h)
  wider w x (inr (inr h)) = inr (inr (h.0, h.1, h.2, inr h.3, h.4))

  rhs_from : (w : List Token) (x : Rhs) → IsRhs text w x → ValueLang RhsTail w x
  rhs_from w x (initial_rhs h) = wider w x (initial_from w x h)
  rhs_from w x (call_rhs {x = c} h) = let l = call_from w c h in inr (inr (l.0, l.1, l.2, inl l.3, l.4))

  initial_no_open : (w : Word) (u : List Token) (x : Rhs) → InitialTail w u x → Avoids (is_mark mark.Open) u
  initial_no_open w u x (inl h) = front_shuns (is_mark mark.Dot) (is_mark mark.Open) dot_no_open u (component_tail_begins w u x h)
  initial_no_open w u x (inr h) = subst (Avoids (is_mark mark.Open)) (sym h.0) tt

  rhs_tail_within : (w : Word) (d : ℕ) → ReadsWithin (rhs_behind text w) (RhsTail w) RhsGoes d
  rhs_tail_within w d = choice_within (is_mark mark.Open) (call_tail_begins w) (initial_no_open w) (λ x h k f. or_left (is_mark mark.Open k) (is_mark mark.Dot k) f)
      (call_tail_within w RhsGoes d)
      (initial_tail_within w RhsGoes d (λ k f. or_right (is_mark mark.Open k) (is_mark mark.Dot k) f))

  pub rhs_within : (d : ℕ) → ReadsWithin (rhs_at text) (IsRhs text) RhsGoes d
  unfolding rhs_at
  rhs_within d = respell_within rhs_to rhs_from (value_within (rhs_behind text) RhsTail RhsGoes d (λ w. rhs_tail_within w d))
