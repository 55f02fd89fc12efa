-- The readers of tests and statements read their grammar.
use Rattle.std.proofs.Common.{◌≡◌, ℕ, zero, suc, Bool, true, false, Some, None, List, [], ◌∷◌, ◌++◌, refl, sym, ◌∙◌, ap, subst, arith, append-nil, inl, inr}
use Rattle.easl_model.specs.Brackets.{turned, level_after}
use Rattle.easl_model.specs.declared.place.Place.{Place}
use Rattle.easl_model.specs.declared.token.Key.TheVariants as key
use Rattle.easl_model.specs.declared.token.Kind.{Kind}
use Rattle.easl_model.specs.declared.token.Kind.TheVariants as kind
use Rattle.easl_model.specs.declared.token.Mark.TheVariants as mark
use Rattle.easl_model.specs.declared.token.Token.{Token}
use Rattle.client_model.specs.Grammar.{IsComponent, IsTest, free_test, call_test, IsGuard, guard, IsStmt, declare, declare_set, assign, act, if_alone}
use Rattle.client_model.specs.Grammar.{if_else, while, break, continue, return, IsBlock, block, IsStmts, no_stmts, next_stmt}
use Rattle.client_model.specs.declared.tree.Stmt.{Stmt}
use Rattle.client_model.specs.declared.tree.Stmt.TheVariants as stmt
use Rattle.client_model.specs.declared.tree.Test.{Test}
use Rattle.client_model.specs.declared.tree.Test.TheVariants as test
use Rattle.cv_read.specs.Read.{Read, is_mark, is_key, is_name, nothing_of, place_of}
use Rattle.cv_read.proofs.Laws.{Lang, Is, none, either, Front, Apart, Then, Mapped, Or, End, never, avoids_none, front_less}
use Rattle.cv_read.proofs.Levels.{mark_flat, key_flat, begin_opens, end_closes, even_append}
use Rattle.cv_read.proofs.Repeats.{Star, or_left, or_right}
use Rattle.cv_read.proofs.Tested.{mark_to, mark_from, key_to, key_from}
use Rattle.cv_read.proofs.Unclosed.{level-append}
use Rattle.cv_read.proofs.Within.{ReadsWithin, Braces, got_within, mapped_within, respell_within, both_within, led_within, two_ways_within, or_nothing_within}
use Rattle.cv_read.proofs.Within.{parens_within, braces_within, repeated_within, shallower}
use Rattle.cv_read.proofs.Words.{Led, Parens, led_starts}
use Rattle.client_parser.specs.Reading.{test_at, guard_at, no_while_starts, no_if_starts, stmt_starts, block_by, if_by, while_by, stmt_by, stmts_at}
use Rattle.client_parser.proofs.LeavingLaws.{NoWhileLang, no_while_within, no_while_begins, no_while_to, simple_from, break_from, continue_from, return_from}
use Rattle.client_parser.proofs.SimpleLaws.{declare_from, declare_set_from, assign_from, act_from}
use Rattle.client_parser.proofs.ValueLaws.{component_within, component_begins}

-- what statements take greedily: behind an `if` an `else`
abbrev pub StmtsGo : Kind → Bool
StmtsGo = either (is_key key.Else) stmt_starts

name_no_choice : Apart is_name (is_mark mark.Choice)
name_no_choice kind.Name f g = g
name_no_choice k f g = f

no_while : Apart no_while_starts (is_key key.While)
no_while (kind.Key key.While) f g = f
no_while k f g = g

no_if : Apart no_if_starts (is_key key.If)
no_if (kind.Key key.If) f g = f
no_if k f g = g

stmt_no_else : Apart stmt_starts (is_key key.Else)
stmt_no_else (kind.Key key.Else) f g = f
stmt_no_else k f g = g

module _ (text : List ℕ) where
  -- tests
  abbrev TestLang : Lang Test
  TestLang = Or (Led (is_mark mark.Choice) place_of (λ at. End (test.Free at))) (Mapped (IsComponent text) test.Call)

  test_to : (w : List Token) (x : Test) → TestLang w x → IsTest text w x
  test_to w x (inl h) = subst (IsTest text w) (sym h.3.1) (subst (λ m. IsTest text m (test.Free h.0.place)) (sym (h.4 ∙ ap (λ u. h.0 ∷ u) h.3.0))
      (free_test (mark_to mark.Choice h.0 h.2)))
  test_to w x (inr h) = subst (IsTest text w) (sym h.2) (call_test h.1)

  test_from : (w : List Token) (x : Test) → IsTest text w x → TestLang w x
  test_from w x (free_test {t = t} h) = inl (t, [], mark_from mark.Choice t h, (refl, refl), refl)
  test_from w x (call_test {x = c} h) = inr (c, h, refl)

  test_within : (d : ℕ) → ReadsWithin (test_at text) (IsTest text) none d
  test_within d = respell_within test_to test_from
      (two_ways_within (is_mark mark.Choice) is_name (led_starts (is_mark mark.Choice) place_of (λ at. End (test.Free at)))
      (λ w x h. component_begins text w h.0 h.1) name_no_choice
      (led_within (is_mark mark.Choice) place_of (kind.Mark mark.Choice) tt (mark_flat mark.Choice (λ b. refl)) (λ at. got_within (test.Free at) none d))
      (mapped_within test.Call (component_within text none d)))

  guard_to : (w : List Token) (x : Test) → Parens (IsTest text) w x → IsGuard text w x
  guard_to w x h = subst (λ m. IsGuard text m x) (sym (h.4 ∙ ap (λ u. h.0 ∷ u) h.3.4)) (guard (mark_to mark.Open h.0 h.2) h.3.2 (mark_to mark.Close h.3.1 h.3.3))

  guard_from : (w : List Token) (x : Test) → IsGuard text w x → Parens (IsTest text) w x
  guard_from w x (guard {opening = o} {closing = k} {ts = ts} i h j) = (o, ts ++ k ∷ [], mark_from mark.Open o i, (ts, k, h, mark_from mark.Close k j, refl), refl)

  guard_within : (d : ℕ) → ReadsWithin (guard_at text) (IsGuard text) none d
  unfolding guard_at
  guard_within d = respell_within guard_to guard_from (shallower (parens_within none (λ g. g) (test_within d)))

  -- blocks, over what reads the statements in them
  block_to : (w : List Token) (xs : List Stmt) → Braces (IsStmts text) w xs → IsBlock text w xs
  block_to w xs h = subst (λ m. IsBlock text m xs) (sym (h.4 ∙ ap (λ u. h.0 ∷ u) h.3.4)) (block (mark_to mark.Begin h.0 h.2) h.3.2 (mark_to mark.End h.3.1 h.3.3))

  block_from : (w : List Token) (xs : List Stmt) → IsBlock text w xs → Braces (IsStmts text) w xs
  block_from w xs (block {begin = b} {end = e} {ts = ts} i h j) = (b, ts ++ e ∷ [], mark_from mark.Begin b i, (ts, e, h, mark_from mark.End e j, refl), refl)

  block_within : (stmts : List Token → Read (List Stmt)) (G : Kind → Bool) (d : ℕ) → ReadsWithin stmts (IsStmts text) StmtsGo d
      → ReadsWithin (block_by stmts) (IsBlock text) G (suc d)
  block_within stmts G d within = respell_within block_to block_from (braces_within G (λ g. g) within)

  -- statements, over what reads a block
  abbrev EndIf : Place → Test → List Stmt → Lang Stmt
  EndIf at t xs = Or (Mapped (Led (is_key key.Else) nothing_of (λ _. IsBlock text)) (λ ys. stmt.If at t xs ys true)) (End (stmt.If at t xs [] false))

  abbrev IfTail : Place → Lang Stmt
  IfTail at = Then (IsGuard text) (λ t. Then (IsBlock text) (λ xs. EndIf at t xs))

  abbrev WhileTail : Place → Lang Stmt
  WhileTail at = Then (IsGuard text) (λ t. Mapped (IsBlock text) (λ xs. stmt.While at t xs))

  abbrev NoIfLang : Lang Stmt
  NoIfLang = Or (Led (is_key key.While) place_of WhileTail) (NoWhileLang text)

  abbrev StmtLang : Lang Stmt
  StmtLang = Or (Led (is_key key.If) place_of IfTail) NoIfLang

  if_to : (t : Token) → Is (is_key key.If t.kind) → (u : List Token) (x : Stmt) → IfTail t.place u x → IsStmt text (t ∷ u) x
  if_to t i u x g = by b.4
    where
      b : Then (IsBlock text) (λ xs. EndIf t.place g.0 xs) g.2 x
      b = g.4

      by : EndIf t.place g.0 b.0 b.2 x → IsStmt text (t ∷ u) x
      by (inl l) =
          let o = l.1 in
          let e : u ≡ g.1 ++ (b.1 ++ o.0 ∷ o.1) = g.5 ∙ ap (λ m. g.1 ++ m) (b.5 ∙ ap (λ m. b.1 ++ m) o.4) in
          subst (IsStmt text (t ∷ u)) (sym l.2) (subst (λ m. IsStmt text (t ∷ m) (stmt.If t.place g.0 b.0 l.0 true)) (sym e)
          (if_else (key_to key.If t i) g.3 b.3 (key_to key.Else o.0 o.2) o.3))
      by (inr l) =
          let e : u ≡ g.1 ++ b.1 = g.5 ∙ ap (λ m. g.1 ++ m) (b.5 ∙ ap (λ m. b.1 ++ m) l.0 ∙ append-nil b.1) in
          subst (IsStmt text (t ∷ u)) (sym l.1) (subst (λ m. IsStmt text (t ∷ m) (stmt.If t.place g.0 b.0 [] false)) (sym e) (if_alone (key_to key.If t i) g.3 b.3))

  while_to : (t : Token) → Is (is_key key.While t.kind) → (u : List Token) (x : Stmt) → WhileTail t.place u x → IsStmt text (t ∷ u) x
  while_to t i u x g =
      let b = g.4 in
      subst (IsStmt text (t ∷ u)) (sym b.2) (subst (λ m. IsStmt text (t ∷ m) (stmt.While t.place g.0 b.0)) (sym g.5) (while (key_to key.While t i) g.3 b.1))

  stmt_to : (w : List Token) (x : Stmt) → StmtLang w x → IsStmt text w x
  stmt_to w x (inl h) = subst (λ m. IsStmt text m x) (sym h.4) (if_to h.0 h.2 h.1 x h.3)
  stmt_to w x (inr (inl h)) = subst (λ m. IsStmt text m x) (sym h.4) (while_to h.0 h.2 h.1 x h.3)
  stmt_to w x (inr (inr h)) = no_while_to text w x h

  stmt_from : (w : List Token) (x : Stmt) → IsStmt text w x → StmtLang w x
  stmt_from w x (declare {t = t} {name = u} {semicolon = k} {n = n} {s = s} h i j) =
      inr (inr (simple_from text (t ∷ u ∷ k ∷ []) (stmt.Declare t.place s n None) (declare_from text t u k s n h i j)))
  stmt_from w x (declare_set {t = t} {name = u} {n = n} {ts = ts} {s = s} {x = y} h i j) =
      inr (inr (simple_from text (t ∷ u ∷ ts) (stmt.Declare t.place s n (Some y)) (declare_set_from text t u ts s n y h i j)))
  stmt_from w x (assign {name = t} {n = n} {ts = ts} {x = y} i j) = inr (inr (simple_from text (t ∷ ts) (stmt.Assign n y) (assign_from text ts t n y i j)))
  stmt_from w x (act {semicolon = k} {ts = ts} {x = y} h j) = inr (inr (simple_from text (ts ++ k ∷ []) (stmt.Do y) (act_from text ts k y h j)))
  stmt_from w x (if_alone {keyword = t} {ts = ts} {us = us} {t = c} {xs = xs} i g b) =
      inl (t, ts ++ us, key_from key.If t i, (c, ts, us, g, (xs, us, [], b, inr (refl, refl), sym (append-nil us)), refl), refl)
  stmt_from w x (if_else {keyword = t} {other = o} {ts = ts} {us = us} {vs = vs} {t = c} {xs = xs} {ys = ys} i g b j e) =
      inl (
        t,
        ts ++ (us ++ o ∷ vs),
        key_from key.If t i,
        (
          c,
          ts,
          us ++ o ∷ vs,
          g,
          (xs, us, o ∷ vs, b, inl (ys, (o, vs, key_from key.Else o j, e, refl), refl), refl),
          refl,
        ),
        refl,
      )
  stmt_from w x (while {keyword = t} {ts = ts} {us = us} {t = c} {xs = xs} i g b) =
      inr (inl (t, ts ++ us, key_from key.While t i, (c, ts, us, g, (xs, b, refl), refl), refl))
  stmt_from w x (break {keyword = t} {semicolon = k} i j) = inr (inr (break_from text t k i j))
  stmt_from w x (continue {keyword = t} {semicolon = k} i j) = inr (inr (continue_from text t k i j))
  stmt_from w x (return {x = r} h) = inr (inr (return_from text w r h))

  no_if_begins : (w : List Token) (x : Stmt) → NoIfLang w x → Front no_if_starts w
  no_if_begins w x (inl h) = front_less (is_key key.While) no_if_starts (λ k f. or_left (is_key key.While k) (no_while_starts k) f) w
      (led_starts (is_key key.While) place_of WhileTail w x h)
  no_if_begins w x (inr h) = front_less no_while_starts no_if_starts (λ k f. or_right (is_key key.While k) (no_while_starts k) f) w (no_while_begins text w x h)

  stmt_begins : (w : List Token) (x : Stmt) → IsStmt text w x → Front stmt_starts w
  stmt_begins w x h = by (stmt_from w x h)
    where
      by : StmtLang w x → Front stmt_starts w
      by (inl l) = front_less (is_key key.If) stmt_starts (λ k f. or_left (is_key key.If k) (no_if_starts k) f) w (led_starts (is_key key.If) place_of IfTail w x l)
      by (inr l) = front_less no_if_starts stmt_starts (λ k f. or_right (is_key key.If k) (no_if_starts k) f) w (no_if_begins w x l)

  stmt_within : (inner : List Token → Read (List Stmt)) (d : ℕ) → ((G : Kind → Bool) → ReadsWithin inner (IsBlock text) G d)
      → ReadsWithin (stmt_by text inner) (IsStmt text) (is_key key.Else) d
  unfolding if_by while_by
  stmt_within inner d within = respell_within stmt_to stmt_from
      (two_ways_within (is_key key.If) no_if_starts (led_starts (is_key key.If) place_of IfTail) no_if_begins no_if
      (led_within (is_key key.If) place_of (kind.Key key.If) tt (key_flat key.If)
      (λ at. both_within (guard_within d)
      (λ t. both_within (within none)
      (λ xs. or_nothing_within (is_key key.Else) (stmt.If at t xs [] false) (λ w x h. led_starts (is_key key.Else) nothing_of (λ _. IsBlock text) w h.0 h.1)
      (λ k f. f)
      (mapped_within (λ ys. stmt.If at t xs ys true) (led_within (is_key key.Else) nothing_of (kind.Key key.Else) tt (key_flat key.Else)
      (λ _. within (is_key key.Else)))))
      (λ xs w k z h a. avoids_none (w ++ k)))
      (λ t w k z h a. avoids_none (w ++ k))))
      (two_ways_within (is_key key.While) no_while_starts (led_starts (is_key key.While) place_of WhileTail) (no_while_begins text) no_while
      (led_within (is_key key.While) place_of (kind.Key key.While) tt (key_flat key.While)
      (λ at. both_within (guard_within d)
      (λ t. mapped_within (λ xs. stmt.While at t xs) (within (is_key key.Else)))
      (λ t w k z h a. avoids_none (w ++ k))))
      (no_while_within text (is_key key.Else) d)))

  stmts_to : (w : List Token) (xs : List Stmt) → Star (IsStmt text) w xs → IsStmts text w xs
  stmts_to w [] h = subst (λ m. IsStmts text m []) (sym h) no_stmts
  stmts_to w (x ∷ xs) h = subst (λ m. IsStmts text m (x ∷ xs)) (sym h.4) (next_stmt h.2 (stmts_to h.1 xs h.3))

  stmts_from : (w : List Token) (xs : List Stmt) → IsStmts text w xs → Star (IsStmt text) w xs
  stmts_from w xs no_stmts = refl
  stmts_from w xs (next_stmt {ts = ts} {us = us} {x = y} {xs = ys} i h) = (ts, us, i, stmts_from us ys h, refl)

  -- statements close what they open
  no_while_even : (w : List Token) (x : Stmt) → NoWhileLang text w x → (b : ℕ) → level_after b w ≡ b
  no_while_even = (no_while_within text none 0).even

  mutual
    stmt_even : (w : List Token) (x : Stmt) → IsStmt text w x → (b : ℕ) → level_after b w ≡ b
    stmt_even w x (declare {t = t} {name = u} {semicolon = k} {n = n} {s = s} h i j) b =
        no_while_even w x (simple_from text w x (declare_from text t u k s n h i j)) b
    stmt_even w x (declare_set {t = t} {name = u} {n = n} {ts = ts} {s = s} {x = y} h i j) b =
        no_while_even w x (simple_from text w x (declare_set_from text t u ts s n y h i j)) b
    stmt_even w x (assign {name = t} {n = n} {ts = ts} {x = y} i j) b = no_while_even w x (simple_from text w x (assign_from text ts t n y i j)) b
    stmt_even w x (act {semicolon = k} {ts = ts} {x = y} h j) b = no_while_even w x (simple_from text w x (act_from text ts k y h j)) b
    stmt_even w x (if_alone {keyword = t} {ts = ts} {us = us} {t = c} {xs = xs} i g h) b =
        ap (λ l. level_after l (ts ++ us)) (key_flat key.If t.kind (key_from key.If t i) b)
        ∙ even_append ts us b ((guard_within 0).even ts c g b) (block_even us xs h b)
    stmt_even w x (if_else {keyword = t} {other = o} {ts = ts} {us = us} {vs = vs} {t = c} {xs = xs} {ys = ys} i g h j e) b =
        ap (λ l. level_after l (ts ++ (us ++ o ∷ vs))) (key_flat key.If t.kind (key_from key.If t i) b)
        ∙ even_append ts (us ++ o ∷ vs) b ((guard_within 0).even ts c g b)
        (even_append us (o ∷ vs) b (block_even us xs h b) (ap (λ l. level_after l vs) (key_flat key.Else o.kind (key_from key.Else o j) b)
        ∙ block_even vs ys e b))
    stmt_even w x (while {keyword = t} {ts = ts} {us = us} {t = c} {xs = xs} i g h) b =
        ap (λ l. level_after l (ts ++ us)) (key_flat key.While t.kind (key_from key.While t i) b)
        ∙ even_append ts us b ((guard_within 0).even ts c g b) (block_even us xs h b)
    stmt_even w x (break {keyword = t} {semicolon = k} i j) b = no_while_even w x (break_from text t k i j) b
    stmt_even w x (continue {keyword = t} {semicolon = k} i j) b = no_while_even w x (continue_from text t k i j) b
    stmt_even w x (return {x = r} h) b = no_while_even w x (return_from text w r h) b

    block_even : (w : List Token) (xs : List Stmt) → IsBlock text w xs → (b : ℕ) → level_after b w ≡ b
    block_even w xs (block {begin = o} {end = e} {ts = ts} i h j) b =
        ap (λ l. level_after l (ts ++ e ∷ [])) (begin_opens o.kind (mark_from mark.Begin o i) b) ∙ level-append (suc b) ts (e ∷ [])
        ∙ ap (λ l. turned l e.kind) (stmts_even ts xs h (suc b)) ∙ end_closes e.kind (mark_from mark.End e j) b

    stmts_even : (w : List Token) (xs : List Stmt) → IsStmts text w xs → (b : ℕ) → level_after b w ≡ b
    stmts_even w xs no_stmts b = refl
    stmts_even w xs (next_stmt {ts = ts} {us = us} {x = y} {xs = ys} i h) b = even_append ts us b (stmt_even ts y i b) (stmts_even us ys h b)

  -- the whole circle: where it comes to an end it reads the grammar, whatever the depth
  pub stmts_within : (d : ℕ) → ReadsWithin (stmts_at text d) (IsStmts text) StmtsGo d
  unfolding stmts_at
  stmts_within zero = record {
    reads = never (IsStmts text) StmtsGo [] [] no_stmts;
    even = stmts_even;
    bound = λ ts b most e h m s. absurd (omega arith);
  }
  stmts_within (suc d) = respell_within stmts_to stmts_from
      (repeated_within stmt_starts stmt_begins stmt_no_else (stmt_within (block_by (stmts_at text d)) (suc d)
      (λ G. block_within (stmts_at text d) G d (stmts_within d))))
