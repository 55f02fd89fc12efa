-- The readers of break, continue and return read their grammar, and so do those of all statements that hold no others.
use Rattle.std.proofs.Common.{◌≡◌, ℕ, Bool, Some, None, List, [], ◌∷◌, ◌++◌, refl, sym, ◌∙◌, ap, subst, inl, inr}
use Rattle.easl_model.specs.Lexemes.{IsKey, IsMark}
use Rattle.easl_model.specs.declared.place.Place.{Place}
use Rattle.easl_model.specs.declared.token.Key.TheVariants as key
use Rattle.easl_model.specs.declared.token.Kind.{Kind}
use Rattle.easl_model.specs.declared.token.Kind.TheVariants as kind
use Rattle.easl_model.specs.declared.token.Mark.TheVariants as mark
use Rattle.easl_model.specs.declared.token.Token.{Token}
use Rattle.client_model.specs.Grammar.{IsArg, IsReturn, bare_return, with_return, IsStmt, break, continue, return}
use Rattle.client_model.specs.declared.tree.Return.{Return}
use Rattle.client_model.specs.declared.tree.Stmt.{Stmt}
use Rattle.client_model.specs.declared.tree.Stmt.TheVariants as stmt
use Rattle.cv_read.specs.Read.{is_mark, is_key, nothing_of, place_of}
use Rattle.cv_read.proofs.Laws.{Lang, Is, none, Front, Apart, Mapped, Or, End, front_append, front_less}
use Rattle.cv_read.proofs.Levels.{mark_flat, key_flat}
use Rattle.cv_read.proofs.Repeats.{or_left, or_right}
use Rattle.cv_read.proofs.Tested.{mark_to, mark_from, key_to, key_from}
use Rattle.cv_read.proofs.Within.{ReadsWithin, got_within, mapped_within, closed_within, led_within, two_ways_within}
use Rattle.cv_read.proofs.Words.{Led, Closed, led_starts}
use Rattle.client_parser.specs.Reading.{arg_starts, simple_starts, no_continue_starts, no_break_starts, no_while_starts, ended_by, return_behind, no_while_at}
use Rattle.client_parser.proofs.SimpleLaws.{SimpleLang, simple_within, simple_begins, simple_to}
use Rattle.client_parser.proofs.ValueLaws.{arg_within, arg_begins}

arg_no_semicolon : Apart arg_starts (is_mark mark.Semicolon)
arg_no_semicolon (kind.Mark mark.Semicolon) f g = f
arg_no_semicolon k f g = g

simple_no_return : Apart simple_starts (is_key key.Return)
simple_no_return (kind.Key key.Return) f g = f
simple_no_return k f g = g

no_continue : Apart no_continue_starts (is_key key.Continue)
no_continue (kind.Key key.Continue) f g = f
no_continue k f g = g

no_break : Apart no_break_starts (is_key key.Break)
no_break (kind.Key key.Break) f g = f
no_break k f g = g

-- a semicolon and no more
abbrev Ended : {A : Type 0} → A → Lang A
Ended x = Led (is_mark mark.Semicolon) nothing_of (λ _. End x)

abbrev BreakLang : Lang Stmt
BreakLang = Led (is_key key.Break) place_of (λ at. Ended (stmt.Break at))

abbrev ContinueLang : Lang Stmt
ContinueLang = Led (is_key key.Continue) place_of (λ at. Ended (stmt.Continue at))

ended_within : (x : Stmt) (G : Kind → Bool) (d : ℕ) → ReadsWithin (ended_by x) (Ended x) G d
ended_within x G d = led_within (is_mark mark.Semicolon) nothing_of (kind.Mark mark.Semicolon) tt (mark_flat mark.Semicolon (λ b. refl)) (λ _. got_within x G d)

-- the tokens of a keyword and a semicolon
both_tokens : {A : Type 0} (w u : List Token) (t : Token) (x y : A) (h : Ended x u y) → w ≡ t ∷ u → w ≡ t ∷ h.0 ∷ []
both_tokens w u t x y h e = e ∙ ap (λ v. t ∷ v) (h.4 ∙ ap (λ v. h.0 ∷ v) h.3.0)

module _ (text : List ℕ) where
  break_to : (w : List Token) (x : Stmt) → BreakLang w x → IsStmt text w x
  break_to w x h =
      let e = both_tokens w h.1 h.0 (stmt.Break h.0.place) x h.3 h.4 in
      subst (IsStmt text w) (sym h.3.3.1) (subst (λ m. IsStmt text m (stmt.Break h.0.place)) (sym e)
      (break (key_to key.Break h.0 h.2) (mark_to mark.Semicolon h.3.0 h.3.2)))

  continue_to : (w : List Token) (x : Stmt) → ContinueLang w x → IsStmt text w x
  continue_to w x h =
      let e = both_tokens w h.1 h.0 (stmt.Continue h.0.place) x h.3 h.4 in
      subst (IsStmt text w) (sym h.3.3.1) (subst (λ m. IsStmt text m (stmt.Continue h.0.place)) (sym e)
      (continue (key_to key.Continue h.0 h.2) (mark_to mark.Semicolon h.3.0 h.3.2)))

  -- returns, behind their keyword and with it
  abbrev ValueTail : Place → Lang Return
  ValueTail at = Mapped (Closed mark.Semicolon (IsArg text)) (λ w. record { place = at; value = Some w })

  abbrev ReturnTail : Place → Lang Return
  ReturnTail at = Or (Ended (record { place = at; value = None })) (ValueTail at)

  abbrev ReturnLang : Lang Stmt
  ReturnLang = Led (is_key key.Return) place_of (λ at. Mapped (ReturnTail at) stmt.Return)

  value_begins : (at : Place) (w : List Token) (x : Return) → ValueTail at w x → Front arg_starts w
  value_begins at w x h = subst (Front arg_starts) (sym h.1.4) (front_append arg_starts h.1.0 (h.1.1 ∷ []) (arg_begins text h.1.0 h.0 h.1.2))

  return_tail_within : (at : Place) (G : Kind → Bool) (d : ℕ) → ReadsWithin (return_behind text at) (ReturnTail at) G d
  return_tail_within at G d = two_ways_within (is_mark mark.Semicolon) arg_starts
      (led_starts (is_mark mark.Semicolon) nothing_of (λ _. End (record { place = at; value = None }))) (value_begins at) arg_no_semicolon
      (led_within (is_mark mark.Semicolon) nothing_of (kind.Mark mark.Semicolon) tt (mark_flat mark.Semicolon (λ b. refl))
      (λ _. got_within (record { place = at; value = None }) G d))
      (mapped_within (λ n. record { place = at; value = Some n }) (closed_within mark.Semicolon G (mark_flat mark.Semicolon (λ b. refl)) (λ g. g)
      (arg_within text none d)))

  written : (w : List Token) (t : Token) (u : List Token) (r : Return) → Is (is_key key.Return t.kind) → w ≡ t ∷ u → ReturnTail t.place u r → IsReturn text w r
  written w t u r i e (inl l) =
      let both = both_tokens w u t (record { place = t.place; value = None }) r l e in
      subst (IsReturn text w) (sym l.3.1) (subst (λ m. IsReturn text m (record { place = t.place; value = None })) (sym both)
      (bare_return (key_to key.Return t i) (mark_to mark.Semicolon l.0 l.2)))
  written w t u r i e (inr l) =
      let c = l.1 in
      subst (IsReturn text w) (sym l.2) (subst (λ m. IsReturn text m (record { place = t.place; value = Some l.0 })) (sym (e ∙ ap (λ v. t ∷ v) c.4))
      (with_return (key_to key.Return t i) c.2 (mark_to mark.Semicolon c.1 c.3)))

  return_to : (w : List Token) (x : Stmt) → ReturnLang w x → IsStmt text w x
  return_to w x h = subst (IsStmt text w) (sym h.3.2) (return (written w h.0 h.1 h.3.0 h.2 h.4 h.3.1))

  -- statements that hold no others
  abbrev NoContinueLang : Lang Stmt
  NoContinueLang = Or ReturnLang (SimpleLang text)

  abbrev NoBreakLang : Lang Stmt
  NoBreakLang = Or ContinueLang NoContinueLang

  abbrev pub NoWhileLang : Lang Stmt
  NoWhileLang = Or BreakLang NoBreakLang

  return_begins : (w : List Token) (x : Stmt) → ReturnLang w x → Front (is_key key.Return) w
  return_begins = led_starts (is_key key.Return) place_of (λ at. Mapped (ReturnTail at) stmt.Return)

  continue_begins : (w : List Token) (x : Stmt) → ContinueLang w x → Front (is_key key.Continue) w
  continue_begins = led_starts (is_key key.Continue) place_of (λ at. Ended (stmt.Continue at))

  break_begins : (w : List Token) (x : Stmt) → BreakLang w x → Front (is_key key.Break) w
  break_begins = led_starts (is_key key.Break) place_of (λ at. Ended (stmt.Break at))

  no_continue_begins : (w : List Token) (x : Stmt) → NoContinueLang w x → Front no_continue_starts w
  no_continue_begins w x (inl h) =
      front_less (is_key key.Return) no_continue_starts (λ k f. or_left (is_key key.Return k) (simple_starts k) f) w (return_begins w x h)
  no_continue_begins w x (inr h) =
      front_less simple_starts no_continue_starts (λ k f. or_right (is_key key.Return k) (simple_starts k) f) w (simple_begins text w x h)

  no_break_begins : (w : List Token) (x : Stmt) → NoBreakLang w x → Front no_break_starts w
  no_break_begins w x (inl h) = front_less (is_key key.Continue) no_break_starts (λ k f. or_left (is_key key.Continue k) (no_continue_starts k) f) w
      (continue_begins w x h)
  no_break_begins w x (inr h) = front_less no_continue_starts no_break_starts (λ k f. or_right (is_key key.Continue k) (no_continue_starts k) f) w
      (no_continue_begins w x h)

  pub no_while_begins : (w : List Token) (x : Stmt) → NoWhileLang w x → Front no_while_starts w
  no_while_begins w x (inl h) = front_less (is_key key.Break) no_while_starts (λ k f. or_left (is_key key.Break k) (no_break_starts k) f) w (break_begins w x h)
  no_while_begins w x (inr h) = front_less no_break_starts no_while_starts (λ k f. or_right (is_key key.Break k) (no_break_starts k) f) w (no_break_begins w x h)

  pub no_while_within : (G : Kind → Bool) (d : ℕ) → ReadsWithin (no_while_at text) NoWhileLang G d
  unfolding no_while_at
  no_while_within G d =
      two_ways_within (is_key key.Break) no_break_starts break_begins no_break_begins no_break
      (led_within (is_key key.Break) place_of (kind.Key key.Break) tt (key_flat key.Break) (λ at. ended_within (stmt.Break at) G d))
      (two_ways_within (is_key key.Continue) no_continue_starts continue_begins no_continue_begins no_continue
      (led_within (is_key key.Continue) place_of (kind.Key key.Continue) tt (key_flat key.Continue) (λ at. ended_within (stmt.Continue at) G d))
      (two_ways_within (is_key key.Return) simple_starts return_begins (simple_begins text) simple_no_return
      (led_within (is_key key.Return) place_of (kind.Key key.Return) tt (key_flat key.Return) (λ at. mapped_within stmt.Return (return_tail_within at G d)))
      (simple_within text G d)))

  pub no_while_to : (w : List Token) (x : Stmt) → NoWhileLang w x → IsStmt text w x
  no_while_to w x (inl h) = break_to w x h
  no_while_to w x (inr (inl h)) = continue_to w x h
  no_while_to w x (inr (inr (inl h))) = return_to w x h
  no_while_to w x (inr (inr (inr h))) = simple_to text w x h

  -- and back, rule by rule
  pub simple_from : (w : List Token) (x : Stmt) → SimpleLang text w x → NoWhileLang w x
  simple_from w x h = inr (inr (inr h))

  pub break_from : (t k : Token) → IsKey key.Break t → IsMark mark.Semicolon k → NoWhileLang (t ∷ k ∷ []) (stmt.Break t.place)
  break_from t k i j = inl (t, k ∷ [], key_from key.Break t i, (k, [], mark_from mark.Semicolon k j, (refl, refl), refl), refl)

  pub continue_from : (t k : Token) → IsKey key.Continue t → IsMark mark.Semicolon k → NoWhileLang (t ∷ k ∷ []) (stmt.Continue t.place)
  continue_from t k i j = inr (inl (t, k ∷ [], key_from key.Continue t i, (k, [], mark_from mark.Semicolon k j, (refl, refl), refl), refl))

  pub return_from : (w : List Token) (r : Return) → IsReturn text w r → NoWhileLang w (stmt.Return r)
  return_from w r (bare_return {keyword = t} {semicolon = k} i j) =
      inr (inr (inl (t, k ∷ [], key_from key.Return t i, (r, inl (k, [], mark_from mark.Semicolon k j, (refl, refl), refl), refl), refl)))
  return_from w r (with_return {keyword = t} {semicolon = k} {ts = ts} {w = n} i h j) =
      inr (inr (inl (t, ts ++ k ∷ [], key_from key.Return t i, (r, inr (n, (ts, k, h, mark_from mark.Semicolon k j, refl), refl), refl), refl)))
