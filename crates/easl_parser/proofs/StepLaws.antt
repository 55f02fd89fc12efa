-- The readers of steps and blocks read their grammar.
use Rattle.std.proofs.Common.{◌≡◌, ℕ, zero, suc, Bool, true, false, Option, Some, None, List, [], ◌∷◌, ◌++◌, refl, sym, ◌∙◌, ap, subst, arith, append-nil, inl, inr}
use Rattle.easl_model.specs.{IsBlock, IsComparison, IsFields, IsGuard, IsName, IsPath, IsSet, IsStep, IsSteps, assign, block, declare, guard, if_alone}
use Rattle.easl_model.specs.{if_else, level_after, named_path, next_field, next_step, no_fields, no_steps, this_path, turned, word_of}
use Rattle.easl_model.specs.declared.place.Place.{Place}
use Rattle.easl_model.specs.declared.token.Key.TheVariants as key
use Rattle.easl_model.specs.declared.token.Kind.{Kind}
use Rattle.easl_model.specs.declared.token.Kind.TheVariants as kind
use Rattle.easl_model.specs.declared.token.Mark.TheVariants as mark
use Rattle.easl_model.specs.declared.token.Token.{Token}
use Rattle.easl_model.specs.declared.tree.Cond.{Cond}
use Rattle.easl_model.specs.declared.tree.Path.{Path}
use Rattle.easl_model.specs.declared.tree.Step.{Step}
use Rattle.easl_model.specs.declared.tree.Step.TheVariants as step
use Rattle.easl_model.specs.declared.tree.Value.{Value}
use Rattle.easl_model.specs.declared.tree.Word.{Word}
use Rattle.cv_read.specs.{is_key, is_mark, is_name, nothing_of, place_of}
use Rattle.cv_read.specs.Read.{Read}
use Rattle.cv_read.proofs.Laws.{Lang, Is, none, either, Front, Apart, Then, Mapped, Or, End, never, avoids_none, front_avoids, front_append, front_less}
use Rattle.cv_read.proofs.Levels.{key_flat, name_flat, begin_opens, end_closes, even_append}
use Rattle.cv_read.proofs.Repeats.{Star, or_left, or_right}
use Rattle.cv_read.proofs.Tested.{mark_to, mark_from, key_to, key_from, name_to, name_from}
use Rattle.cv_read.proofs.Unclosed.{level-append}
use Rattle.cv_read.proofs.Within.{ReadsWithin, Braces, mapped_within, respell_within, both_within, led_within, two_ways_within, or_nothing_within, parens_within, braces_within, repeated_within, shallower}
use Rattle.cv_read.proofs.Words.{Led, Parens, led_starts}
use Rattle.easl_parser.specs.Reading.{path_starts, assign_at, declare_at, simple_at, guard_at, block_by, if_by, step_by, step_starts, steps_at}
use Rattle.easl_parser.proofs.CondLaws.{comparison_within}
use Rattle.easl_parser.proofs.PathLaws.{PathGoes, HeadFields, head_within, name_no_this}
use Rattle.easl_parser.proofs.ValueLaws.{set_within, set_begins}

assign_apart : Apart (is_mark mark.Assign) PathGoes
assign_apart (kind.Mark mark.Assign) f g = g
assign_apart k f g = f

-- behind a head stands a dot or =
abbrev TailStarts : Kind → Bool
TailStarts = either (is_mark mark.Dot) (is_mark mark.Assign)

tail_no_name : Apart TailStarts is_name
tail_no_name kind.Name f g = f
tail_no_name k f g = g

simple_no_if : Apart path_starts (is_key key.If)
simple_no_if (kind.Key key.If) f g = f
simple_no_if k f g = g

step_no_else : Apart step_starts (is_key key.Else)
step_no_else (kind.Key key.Else) f g = f
step_no_else k f g = g

-- what steps take greedily: behind an `if` an `else`
abbrev pub StepsGo : Kind → Bool
StepsGo = either (is_key key.Else) step_starts

module _ (text : List ℕ) where
  -- steps that hold no others
  abbrev AssignLang : Option Word → Place → Lang Step
  AssignLang h at = Then (HeadFields text h at) (λ p. Mapped (IsSet text) (λ x. step.Assign p x))

  abbrev DeclareLang : Word → Lang Step
  DeclareLang c = Led is_name (word_of text) (λ n. Mapped (IsSet text) (λ x. step.Declare c n x))

  assign_within : (h : Option Word) (at : Place) (H : Kind → Bool) (d : ℕ) → ReadsWithin (assign_at text h at) (AssignLang h at) H d
  assign_within h at H d = both_within (head_within text h at d)
      (λ p. mapped_within (λ x. step.Assign p x) (set_within text H d))
      (λ p w k z l a. front_avoids (is_mark mark.Assign) PathGoes assign_apart w k (set_begins text w l.0 l.1))

  declare_within : (c : Word) (H : Kind → Bool) (d : ℕ) → ReadsWithin (declare_at text c) (DeclareLang c) H d
  declare_within c H d = led_within is_name (word_of text) kind.Name tt name_flat (λ n. mapped_within (λ x. step.Declare c n x) (set_within text H d))

  assign_begins : (h : Option Word) (at : Place) (w : List Token) (x : Step) → AssignLang h at w x → Front TailStarts w
  assign_begins h at w x l = subst (Front TailStarts) (sym l.5) (by l.1 l.3.0 l.3.1)
    where
      by : (u : List Token) (ns : List Word) → IsFields text u ns → Front TailStarts (u ++ l.2)
      by u ns no_fields = front_less (is_mark mark.Assign) TailStarts (λ k f. or_right (is_mark mark.Dot k) (is_mark mark.Assign k) f) l.2 (set_begins text l.2 l.4.0 l.4.1)
      by u ns (next_field {dot = d} k i f) = or_left (is_mark mark.Dot d.kind) (is_mark mark.Assign d.kind) (mark_from mark.Dot d k)

  abbrev NamedStep : Word → Lang Step
  NamedStep c = Or (DeclareLang c) (AssignLang (Some c) c.place)

  abbrev SimpleLang : Lang Step
  SimpleLang = Or (Led (is_key key.This) place_of (AssignLang None)) (Led is_name (word_of text) NamedStep)

  simple_to : (w : List Token) (x : Step) → SimpleLang w x → IsStep text w x
  simple_to w x (inl h) =
      let l = h.3 in
      let e : w ≡ (h.0 ∷ l.1) ++ l.2 = h.4 ∙ ap (λ u. h.0 ∷ u) l.5 in
      let p : IsPath text (h.0 ∷ l.1) l.0 = subst (IsPath text (h.0 ∷ l.1)) (sym l.3.2) (this_path (key_to key.This h.0 h.2) l.3.1) in
      subst (IsStep text w) (sym l.4.2) (subst (λ m. IsStep text m (step.Assign l.0 l.4.0)) (sym e) (assign p l.4.1))
  simple_to w x (inr h) = by h.3
    where
      by : NamedStep (word_of text h.0) h.1 x → IsStep text w x
      by (inl d) =
          let n = word_of text d.0 in
          let e : w ≡ h.0 ∷ d.0 ∷ d.1 = h.4 ∙ ap (λ u. h.0 ∷ u) d.4 in
          subst (IsStep text w) (sym d.3.2) (subst (λ m. IsStep text m (step.Declare (word_of text h.0) n d.3.0)) (sym e) (declare (name_to text h.0 (word_of text h.0) h.2 refl) (name_to text d.0 n d.2 refl) d.3.1))
      by (inr l) =
          let e : w ≡ (h.0 ∷ l.1) ++ l.2 = h.4 ∙ ap (λ u. h.0 ∷ u) l.5 in
          let p : IsPath text (h.0 ∷ l.1) l.0 = subst (IsPath text (h.0 ∷ l.1)) (sym l.3.2) (named_path (name_to text h.0 (word_of text h.0) h.2 refl) l.3.1) in
          subst (IsStep text w) (sym l.4.2) (subst (λ m. IsStep text m (step.Assign l.0 l.4.0)) (sym e) (assign p l.4.1))

  declare_from : (ts : List Token) (t u : Token) (c n : Word) (y : Value) → IsName text t c → IsName text u n → IsSet text ts y
      → SimpleLang (t ∷ u ∷ ts) (step.Declare c n y)
  declare_from ts t u c n y a b h =
      let e : ◌≡◌ {A = Step} (step.Declare c n y) (step.Declare (word_of text t) (word_of text u) y) = ap (λ (m : Word). step.Declare m n y) a.word ∙ ap (λ (m : Word). step.Declare (word_of text t) m y) b.word in
      inr (t, u ∷ ts, name_from text t c a, inl (u, ts, name_from text u n b, (y, h, e), refl), refl)

  assign_from : (ts us : List Token) (p : Path) (y : Value) → IsPath text ts p → IsSet text us y → SimpleLang (ts ++ us) (step.Assign p y)
  assign_from ts us p y (this_path {t = t} {ts = vs} {ws = ws} k g) h = inl (t, vs ++ us, key_from key.This t k, (record { head = None; place = t.place; fields = ws }, vs, us, (ws, g, refl), (y, h, refl), refl), refl)
  assign_from ts us p y (named_path {t = t} {w = n} {ts = vs} {ws = ws} i g) h =
      let e : ◌≡◌ {A = Step} (step.Assign (record { head = Some n; place = n.place; fields = ws }) y) (step.Assign (record { head = Some (word_of text t); place = t.place; fields = ws }) y) =
      ap (λ (m : Word). step.Assign (record { head = Some m; place = m.place; fields = ws }) y) i.word in
      inr (t, vs ++ us, name_from text t n i, inr (record { head = Some (word_of text t); place = t.place; fields = ws }, vs, us, (ws, g, refl), (y, h, e), refl), refl)

  simple_within : (H : Kind → Bool) (d : ℕ) → ReadsWithin (simple_at text) SimpleLang H d
  unfolding simple_at
  simple_within H d = two_ways_within (is_key key.This) is_name (led_starts (is_key key.This) place_of (AssignLang None)) (led_starts is_name (word_of text) NamedStep) name_no_this
      (led_within (is_key key.This) place_of (kind.Key key.This) tt (key_flat key.This) (λ at. assign_within None at H d))
      (led_within is_name (word_of text) kind.Name tt name_flat
      (λ c. two_ways_within is_name TailStarts (led_starts is_name (word_of text) (λ n. Mapped (IsSet text) (λ x. step.Declare c n x))) (assign_begins (Some c) c.place) tail_no_name
      (declare_within c H d) (assign_within (Some c) c.place H d)))

  simple_begins : (w : List Token) (x : Step) → SimpleLang w x → Front path_starts w
  simple_begins w x (inl h) = front_less (is_key key.This) path_starts (λ k f. or_right (is_name k) (is_key key.This k) f) w (led_starts (is_key key.This) place_of (AssignLang None) w x h)
  simple_begins w x (inr h) = front_less is_name path_starts (λ k f. or_left (is_name k) (is_key key.This k) f) w (led_starts is_name (word_of text) NamedStep w x h)

  -- tests
  guard_to : (w : List Token) (x : Cond) → Parens (IsComparison text) w x → IsGuard text w x
  guard_to w x h = subst (λ m. IsGuard text m x) (sym (h.4 ∙ ap (λ u. h.0 ∷ u) h.3.4)) (guard (mark_to mark.Open h.0 h.2) h.3.2 (mark_to mark.Close h.3.1 h.3.3))

  guard_from : (w : List Token) (x : Cond) → IsGuard text w x → Parens (IsComparison text) w x
  guard_from w x (guard {opening = o} {closing = k} {ts = ts} i h j) = (o, ts ++ k ∷ [], mark_from mark.Open o i, (ts, k, h, mark_from mark.Close k j, refl), refl)

  guard_within : (d : ℕ) → ReadsWithin (guard_at text) (IsGuard text) none d
  unfolding guard_at
  guard_within d = respell_within guard_to guard_from (shallower (parens_within none (λ g. g) (comparison_within text d)))

  -- blocks, over what reads the steps in them
  block_to : (w : List Token) (xs : List Step) → Braces (IsSteps text) w xs → IsBlock text w xs
  block_to w xs h = subst (λ m. IsBlock text m xs) (sym (h.4 ∙ ap (λ u. h.0 ∷ u) h.3.4)) (block (mark_to mark.Begin h.0 h.2) h.3.2 (mark_to mark.End h.3.1 h.3.3))

  block_from : (w : List Token) (xs : List Step) → IsBlock text w xs → Braces (IsSteps text) w xs
  block_from w xs (block {begin = b} {end = e} {ts = ts} i h j) = (b, ts ++ e ∷ [], mark_from mark.Begin b i, (ts, e, h, mark_from mark.End e j, refl), refl)

  block_within : (steps : List Token → Read (List Step)) (G : Kind → Bool) (d : ℕ) → ReadsWithin steps (IsSteps text) StepsGo d
      → ReadsWithin (block_by steps) (IsBlock text) G (suc d)
  block_within steps G d within = respell_within block_to block_from (braces_within G (λ g. g) within)

  -- steps, over what reads a block
  abbrev EndIf : Place → Cond → List Step → Lang Step
  EndIf at c xs = Or (Mapped (Led (is_key key.Else) nothing_of (λ _. IsBlock text)) (λ ys. step.If at c xs ys true)) (End (step.If at c xs [] false))

  abbrev IfTail : Place → Lang Step
  IfTail at = Then (IsGuard text) (λ c. Then (IsBlock text) (λ xs. EndIf at c xs))

  abbrev StepLang : Lang Step
  StepLang = Or (Led (is_key key.If) place_of IfTail) SimpleLang

  if_to : (t : Token) → Is (is_key key.If t.kind) → (u : List Token) (x : Step) → IfTail t.place u x → IsStep text (t ∷ u) x
  if_to t i u x g = by b.4
    where
      b : Then (IsBlock text) (λ xs. EndIf t.place g.0 xs) g.2 x
      b = g.4

      by : EndIf t.place g.0 b.0 b.2 x → IsStep text (t ∷ u) x
      by (inl l) =
          let o = l.1 in
          let e : u ≡ g.1 ++ (b.1 ++ o.0 ∷ o.1) = g.5 ∙ ap (λ m. g.1 ++ m) (b.5 ∙ ap (λ m. b.1 ++ m) o.4) in
          subst (IsStep text (t ∷ u)) (sym l.2) (subst (λ m. IsStep text (t ∷ m) (step.If t.place g.0 b.0 l.0 true)) (sym e) (if_else (key_to key.If t i) g.3 b.3 (key_to key.Else o.0 o.2) o.3))
      by (inr l) =
          let e : u ≡ g.1 ++ b.1 = g.5 ∙ ap (λ m. g.1 ++ m) (b.5 ∙ ap (λ m. b.1 ++ m) l.0 ∙ append-nil b.1) in
          subst (IsStep text (t ∷ u)) (sym l.1) (subst (λ m. IsStep text (t ∷ m) (step.If t.place g.0 b.0 [] false)) (sym e) (if_alone (key_to key.If t i) g.3 b.3))

  step_to : (w : List Token) (x : Step) → StepLang w x → IsStep text w x
  step_to w x (inl h) = subst (λ m. IsStep text m x) (sym h.4) (if_to h.0 h.2 h.1 x h.3)
  step_to w x (inr h) = simple_to w x h

  step_from : (w : List Token) (x : Step) → IsStep text w x → StepLang w x
  step_from w x (declare {class = t} {name = u} {c = c} {n = n} {ts = ts} {x = y} a b h) = inr (declare_from ts t u c n y a b h)
  step_from w x (assign {ts = ts} {us = us} {p = p} {x = y} f h) = inr (assign_from ts us p y f h)
  step_from w x (if_alone {keyword = t} {ts = ts} {us = us} {c = c} {xs = xs} i g b) =
      inl (t, ts ++ us, key_from key.If t i, (c, ts, us, g, (xs, us, [], b, inr (refl, refl), sym (append-nil us)), refl), refl)
  step_from w x (if_else {keyword = t} {other = o} {ts = ts} {us = us} {vs = vs} {c = c} {xs = xs} {ys = ys} i g b j e) =
      inl (t, ts ++ (us ++ o ∷ vs), key_from key.If t i, (c, ts, us ++ o ∷ vs, g, (xs, us, o ∷ vs, b, inl (ys, (o, vs, key_from key.Else o j, e, refl), refl), refl), refl), refl)

  step_begins : (w : List Token) (x : Step) → IsStep text w x → Front step_starts w
  step_begins w x h = by (step_from w x h)
    where
      by : StepLang w x → Front step_starts w
      by (inl l) = front_less (is_key key.If) step_starts (λ k f. or_left (is_key key.If k) (path_starts k) f) w (led_starts (is_key key.If) place_of IfTail w x l)
      by (inr l) = front_less path_starts step_starts (λ k f. or_right (is_key key.If k) (path_starts k) f) w (simple_begins w x l)

  step_within : (inner : List Token → Read (List Step)) (d : ℕ) → ((G : Kind → Bool) → ReadsWithin inner (IsBlock text) G d)
      → ReadsWithin (step_by text inner) (IsStep text) (is_key key.Else) d
  unfolding if_by
  step_within inner d within = respell_within step_to step_from
      (two_ways_within (is_key key.If) path_starts (led_starts (is_key key.If) place_of IfTail) simple_begins simple_no_if
      (led_within (is_key key.If) place_of (kind.Key key.If) tt (key_flat key.If)
      (λ at. both_within (guard_within d)
      (λ c. both_within (within none)
      (λ xs. or_nothing_within (is_key key.Else) (step.If at c xs [] false) (λ w x h. led_starts (is_key key.Else) nothing_of (λ _. IsBlock text) w h.0 h.1) (λ k f. f)
      (mapped_within (λ ys. step.If at c xs ys true) (led_within (is_key key.Else) nothing_of (kind.Key key.Else) tt (key_flat key.Else) (λ _. within (is_key key.Else)))))
      (λ xs w k z h a. avoids_none (w ++ k)))
      (λ c w k z h a. avoids_none (w ++ k))))
      (simple_within (is_key key.Else) d))

  steps_to : (w : List Token) (xs : List Step) → Star (IsStep text) w xs → IsSteps text w xs
  steps_to w [] h = subst (λ m. IsSteps text m []) (sym h) no_steps
  steps_to w (x ∷ xs) h = subst (λ m. IsSteps text m (x ∷ xs)) (sym h.4) (next_step h.2 (steps_to h.1 xs h.3))

  steps_from : (w : List Token) (xs : List Step) → IsSteps text w xs → Star (IsStep text) w xs
  steps_from w xs no_steps = refl
  steps_from w xs (next_step {ts = ts} {us = us} {x = y} {xs = ys} i h) = (ts, us, i, steps_from us ys h, refl)

  -- what begins with steps, over what stands behind them
  pub steps_start : (xs : List Step) (u v : List Token) (p : Kind → Bool) → IsSteps text u xs → Front p v → Front (either step_starts p) (u ++ v)
  steps_start xs u v p no_steps f = front_less p (either step_starts p) (λ k g. or_right (step_starts k) (p k) g) v f
  steps_start xs u v p (next_step {ts = ts} {us = us} {x = y} i h) f =
      front_append (either step_starts p) (ts ++ us) v (front_append (either step_starts p) ts us (front_less step_starts (either step_starts p) (λ k g. or_left (step_starts k) (p k) g) ts (step_begins ts y i)))

  -- steps close what they open
  mutual
    step_even : (w : List Token) (x : Step) → IsStep text w x → (b : ℕ) → level_after b w ≡ b
    step_even w x (declare {class = t} {name = u} {c = c} {n = n} {ts = ts} {x = y} i j h) b = (simple_within none 0).even w x (declare_from ts t u c n y i j h) b
    step_even w x (assign {ts = ts} {us = us} {p = p} {x = y} f h) b = (simple_within none 0).even w x (assign_from ts us p y f h) b
    step_even w x (if_alone {keyword = t} {ts = ts} {us = us} {c = c} {xs = xs} i g h) b =
        ap (λ l. level_after l (ts ++ us)) (key_flat key.If t.kind (key_from key.If t i) b) ∙ even_append ts us b ((guard_within 0).even ts c g b) (block_even us xs h b)
    step_even w x (if_else {keyword = t} {other = o} {ts = ts} {us = us} {vs = vs} {c = c} {xs = xs} {ys = ys} i g h j e) b =
        ap (λ l. level_after l (ts ++ (us ++ o ∷ vs))) (key_flat key.If t.kind (key_from key.If t i) b)
        ∙ even_append ts (us ++ o ∷ vs) b ((guard_within 0).even ts c g b)
        (even_append us (o ∷ vs) b (block_even us xs h b) (ap (λ l. level_after l vs) (key_flat key.Else o.kind (key_from key.Else o j) b) ∙ block_even vs ys e b))

    block_even : (w : List Token) (xs : List Step) → IsBlock text w xs → (b : ℕ) → level_after b w ≡ b
    block_even w xs (block {begin = o} {end = e} {ts = ts} i h j) b =
        ap (λ l. level_after l (ts ++ e ∷ [])) (begin_opens o.kind (mark_from mark.Begin o i) b) ∙ level-append (suc b) ts (e ∷ []) ∙ ap (λ l. turned l e.kind) (steps_even ts xs h (suc b)) ∙ end_closes e.kind (mark_from mark.End e j) b

    steps_even : (w : List Token) (xs : List Step) → IsSteps text w xs → (b : ℕ) → level_after b w ≡ b
    steps_even w xs no_steps b = refl
    steps_even w xs (next_step {ts = ts} {us = us} {x = y} {xs = ys} i h) b = even_append ts us b (step_even ts y i b) (steps_even us ys h b)

  -- the whole circle: where it comes to an end it reads the grammar, whatever the depth
  pub steps_within : (d : ℕ) → ReadsWithin (steps_at text d) (IsSteps text) StepsGo d
  unfolding steps_at
  steps_within zero = record {
    reads = never (IsSteps text) StepsGo [] [] no_steps;
    even = steps_even;
    bound = λ ts b most e h m s. absurd (omega arith);
  }
  steps_within (suc d) = respell_within steps_to steps_from
      (repeated_within step_starts step_begins step_no_else (step_within (block_by (steps_at text d)) (suc d) (λ G. block_within (steps_at text d) G d (steps_within d))))
