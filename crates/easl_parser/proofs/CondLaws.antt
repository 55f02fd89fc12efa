-- The reader of conditions reads their grammar.
use Rattle.std.proofs.Common.{◌≡◌, ℕ, zero, suc, Bool, true, false, List, [], ◌∷◌, ◌++◌, refl, sym, ◌∙◌, ap, subst, append-nil, arith, inl, inr, Some}
use Rattle.easl_model.specs.{IsAll, IsAlls, IsAny, IsAtom, IsAtoms, IsComparison, IsPath, all_more, all_one, any_more, any_one, comparison, differ, group}
use Rattle.easl_model.specs.{level_after, named_path, next_all, next_atom, no_alls, no_atoms, no_fields, same, turned, word_of}
use Rattle.easl_model.specs.declared.token.Kind.{Kind}
use Rattle.easl_model.specs.declared.token.Kind.TheVariants as kind
use Rattle.easl_model.specs.declared.token.Mark.TheVariants as mark
use Rattle.easl_model.specs.declared.token.Token.{Token}
use Rattle.easl_model.specs.declared.tree.Cond.{Cond}
use Rattle.easl_model.specs.declared.tree.Cond.TheVariants as cond
use Rattle.cv_read.specs.{behind_mark, is_mark, nothing_of}
use Rattle.cv_read.specs.Read.{Read}
use Rattle.cv_read.proofs.Laws.{Lang, none, either, Front, Apart, Then, Mapped, Or, End, never, token_of, avoids_none, front_avoids, then_starts}
use Rattle.cv_read.proofs.Levels.{Flat, mark_flat, open_opens, close_closes, even_append}
use Rattle.cv_read.proofs.Repeats.{Star, behind_star, or_left, or_right}
use Rattle.cv_read.proofs.Tested.{mark_to, mark_from}
use Rattle.cv_read.proofs.Unclosed.{level-append}
use Rattle.cv_read.proofs.Within.{ReadsWithin, got_within, mapped_within, respell_within, both_within, led_within, two_ways_within, parens_within, repeated_within}
use Rattle.cv_read.proofs.Words.{Led, Closed, Parens, led_starts}
use Rattle.easl_parser.specs.Reading.{path_starts, sign_at, compare, comparison_at, one_or_all, one_or_any, atom_by, all_by, any_by, any_at}
use Rattle.easl_parser.proofs.PathLaws.{PathGoes, path_within, path_begins}

-- what each takes greedily
abbrev pub AllGoes : Kind → Bool
AllGoes = either PathGoes (is_mark mark.And)

abbrev pub AnyGoes : Kind → Bool
AnyGoes = either AllGoes (is_mark mark.Or)

abbrev SignStarts : Kind → Bool
SignStarts = either (is_mark mark.Same) (is_mark mark.Differ)

sign_apart : Apart SignStarts PathGoes
sign_apart (kind.Mark mark.Dot) f g = f
sign_apart k f g = g

differ_no_same : Apart (is_mark mark.Differ) (is_mark mark.Same)
differ_no_same (kind.Mark mark.Differ) f g = g
differ_no_same k f g = f

path_no_open : Apart path_starts (is_mark mark.Open)
path_no_open (kind.Mark mark.Open) f g = f
path_no_open k f g = g

pub and_apart : Apart (is_mark mark.And) PathGoes
and_apart (kind.Mark mark.And) f g = g
and_apart k f g = f

pub or_apart : Apart (is_mark mark.Or) AllGoes
or_apart (kind.Mark mark.Or) f g = g
or_apart k f g = f

and_flat : Flat (is_mark mark.And)
and_flat = mark_flat mark.And (λ b. refl)

or_flat : Flat (is_mark mark.Or)
or_flat = mark_flat mark.Or (λ b. refl)

same_flat : Flat (is_mark mark.Same)
same_flat = mark_flat mark.Same (λ b. refl)

differ_flat : Flat (is_mark mark.Differ)
differ_flat = mark_flat mark.Differ (λ b. refl)

-- signs
abbrev pub SignLang : Lang Bool
SignLang = Or (Led (is_mark mark.Same) nothing_of (λ _. End true)) (Led (is_mark mark.Differ) nothing_of (λ _. End false))

sign_within : (d : ℕ) → ReadsWithin sign_at SignLang none d
sign_within d = two_ways_within (is_mark mark.Same) (is_mark mark.Differ) (led_starts (is_mark mark.Same) nothing_of (λ _. End true))
    (led_starts (is_mark mark.Differ) nothing_of (λ _. End false)) differ_no_same
    (led_within (is_mark mark.Same) nothing_of (kind.Mark mark.Same) tt same_flat (λ _. got_within true none d))
    (led_within (is_mark mark.Differ) nothing_of (kind.Mark mark.Differ) tt differ_flat (λ _. got_within false none d))

sign_begins : (w : List Token) (s : Bool) → SignLang w s → Front SignStarts w
sign_begins w s (inl h) = subst (Front SignStarts) (sym h.4) (or_left (is_mark mark.Same h.0.kind) (is_mark mark.Differ h.0.kind) h.2)
sign_begins w s (inr h) = subst (Front SignStarts) (sym h.4) (or_right (is_mark mark.Same h.0.kind) (is_mark mark.Differ h.0.kind) h.2)

module _ (text : List ℕ) where
  -- comparisons
  abbrev pub Compared : Lang Cond
  Compared = Then (IsPath text) (λ p. Then SignLang (λ s. Mapped (IsPath text) (λ q. compare s p q)))

  comparison_to : (w : List Token) (x : Cond) → Compared w x → IsComparison text w x
  comparison_to w x s = by s.4.3
    where
      by : SignLang s.4.1 s.4.0 → IsComparison text w x
      by (inl h) =
          let e : w ≡ s.1 ++ h.0 ∷ s.4.2 = s.5 ∙ ap (λ m. s.1 ++ m) (s.4.5 ∙ ap (λ m. m ++ s.4.2) (h.4 ∙ ap (λ m. h.0 ∷ m) h.3.0)) in
          subst (IsComparison text w) (sym (s.4.4.2 ∙ ap (λ b. compare b s.0 s.4.4.0) h.3.1)) (subst (λ m. IsComparison text m (cond.Same s.0 s.4.4.0)) (sym e) (same s.3 (mark_to mark.Same h.0 h.2) s.4.4.1))
      by (inr h) =
          let e : w ≡ s.1 ++ h.0 ∷ s.4.2 = s.5 ∙ ap (λ m. s.1 ++ m) (s.4.5 ∙ ap (λ m. m ++ s.4.2) (h.4 ∙ ap (λ m. h.0 ∷ m) h.3.0)) in
          subst (IsComparison text w) (sym (s.4.4.2 ∙ ap (λ b. compare b s.0 s.4.4.0) h.3.1)) (subst (λ m. IsComparison text m (cond.Differ s.0 s.4.4.0)) (sym e) (differ s.3 (mark_to mark.Differ h.0 h.2) s.4.4.1))

  comparison_from : (w : List Token) (x : Cond) → IsComparison text w x → Compared w x
  comparison_from w x (same {t = t} {ts = ts} {us = us} {p = p} {q = q} a k b) = (p, ts, t ∷ us, a, (true, t ∷ [], us, inl (t, [], mark_from mark.Same t k, (refl, refl), refl), (q, b, refl), refl), refl)
  comparison_from w x (differ {t = t} {ts = ts} {us = us} {p = p} {q = q} a k b) = (p, ts, t ∷ us, a, (false, t ∷ [], us, inr (t, [], mark_from mark.Differ t k, (refl, refl), refl), (q, b, refl), refl), refl)

  compared_begins : (w : List Token) (x : Cond) → Compared w x → Front path_starts w
  compared_begins = then_starts (IsPath text) (λ p. Then SignLang (λ s. Mapped (IsPath text) (λ q. compare s p q))) path_starts (path_begins text)

  comparison_begins : (w : List Token) (x : Cond) → IsComparison text w x → Front path_starts w
  comparison_begins w x h = compared_begins w x (comparison_from w x h)

  pub comparison_within : (d : ℕ) → ReadsWithin (comparison_at text) (IsComparison text) PathGoes d
  unfolding comparison_at
  comparison_within d = respell_within comparison_to comparison_from
      (both_within (path_within text d)
      (λ p. both_within (sign_within d)
      (λ s. mapped_within (λ q. compare s p q) (path_within text d))
      (λ s w k z h a. avoids_none (w ++ k)))
      (λ p w k z h a. front_avoids SignStarts PathGoes sign_apart w k (then_starts SignLang (λ s. Mapped (IsPath text) (λ q. compare s p q)) SignStarts sign_begins w z h)))

  -- atoms, over what reads an any
  abbrev AtomLang : Lang Cond
  AtomLang = Or (Parens (IsAny text)) (IsComparison text)

  atom_to : (w : List Token) (x : Cond) → AtomLang w x → IsAtom text w x
  atom_to w x (inl s) = subst (λ m. IsAtom text m x) (sym (s.4 ∙ ap (λ m. s.0 ∷ m) s.3.4)) (group (mark_to mark.Open s.0 s.2) s.3.2 (mark_to mark.Close s.3.1 s.3.3))
  atom_to w x (inr s) = comparison s

  atom_from : (w : List Token) (x : Cond) → IsAtom text w x → AtomLang w x
  atom_from w x (comparison h) = inr h
  atom_from w x (group {opening = o} {closing = c} {ts = ts} {x = y} k a l) = inl (o, ts ++ c ∷ [], mark_from mark.Open o k, (ts, c, a, mark_from mark.Close c l, refl), refl)

  atom_within : (any : List Token → Read Cond) (d : ℕ) → ReadsWithin any (IsAny text) AnyGoes d → ReadsWithin (atom_by text any) (IsAtom text) PathGoes (suc d)
  atom_within any d within = respell_within atom_to atom_from
      (two_ways_within (is_mark mark.Open) path_starts (led_starts (is_mark mark.Open) nothing_of (λ _. Closed mark.Close (IsAny text))) comparison_begins path_no_open
      (parens_within PathGoes (λ g. g) within) (comparison_within (suc d)))

  -- all
  abbrev pub AndAtom : Lang Cond
  AndAtom = Led (is_mark mark.And) nothing_of (λ _. IsAtom text)

  pub atoms_to : (w : List Token) (xs : List Cond) → Star AndAtom w xs → IsAtoms text w xs
  atoms_to w [] s = subst (λ m. IsAtoms text m []) (sym s) no_atoms
  atoms_to w (x ∷ xs) s = subst (λ m. IsAtoms text m (x ∷ xs)) (sym (s.4 ∙ ap (λ m. m ++ s.1) s.2.4)) (next_atom (mark_to mark.And s.2.0 s.2.2) s.2.3 (atoms_to s.1 xs s.3))

  atoms_from : (w : List Token) (xs : List Cond) → IsAtoms text w xs → Star AndAtom w xs
  atoms_from w xs no_atoms = refl
  atoms_from w xs (next_atom {t = t} {ts = ts} {us = us} {x = y} {xs = ys} k a s) = (t ∷ ts, us, (t, ts, mark_from mark.And t k, a, refl), atoms_from us ys s, refl)

  and_within : (atom : List Token → Read Cond) (d : ℕ) → ReadsWithin atom (IsAtom text) PathGoes d → ReadsWithin (behind_mark mark.And atom) AndAtom PathGoes d
  and_within atom d within = led_within (is_mark mark.And) nothing_of (kind.Mark mark.And) tt and_flat (λ _. within)

  and_begins : (w : List Token) (x : Cond) → AndAtom w x → Front (is_mark mark.And) w
  and_begins = led_starts (is_mark mark.And) nothing_of (λ _. IsAtom text)

  abbrev AllLang : Lang Cond
  AllLang = Then (IsAtom text) (λ x. Mapped (Star AndAtom) (λ xs. one_or_all x xs))

  all_to : (w : List Token) (x : Cond) → AllLang w x → IsAll text w x
  all_to w x s = subst (IsAll text w) (sym s.4.2) (subst (λ m. IsAll text m (one_or_all s.0 s.4.0)) (sym s.5) (by s.4.0 s.4.1))
    where
      by : (xs : List Cond) → Star AndAtom s.2 xs → IsAll text (s.1 ++ s.2) (one_or_all s.0 xs)
      by [] h = subst (λ m. IsAll text m s.0) (sym (ap (λ m. s.1 ++ m) h ∙ append-nil s.1)) (all_one s.3)
      by (y ∷ ys) h = all_more s.3 (atoms_to s.2 (y ∷ ys) h)

  all_from : (w : List Token) (x : Cond) → IsAll text w x → AllLang w x
  all_from w x (all_one {x = y} a) = (y, w, [], a, ([], refl, refl), sym (append-nil w))
  all_from w x (all_more {ts = ts} {us = us} {x = y} {y = z} {ys = zs} a s) = (y, ts, us, a, (z ∷ zs, atoms_from us (z ∷ zs) s, refl), refl)

  all_within : (atom : List Token → Read Cond) (d : ℕ) → ReadsWithin atom (IsAtom text) PathGoes d → ReadsWithin (all_by atom) (IsAll text) AllGoes d
  unfolding all_by
  all_within atom d within = respell_within all_to all_from
      (both_within within
      (λ x. mapped_within (λ xs. one_or_all x xs) (repeated_within (is_mark mark.And) and_begins and_apart (and_within atom d within)))
      (λ x w k z s a. behind_star (is_mark mark.And) (behind_mark mark.And atom) AndAtom PathGoes ((and_within atom d within).reads) and_begins and_apart s.0 w k s.1 a))

  -- any
  abbrev pub OrAll : Lang Cond
  OrAll = Led (is_mark mark.Or) nothing_of (λ _. IsAll text)

  pub alls_to : (w : List Token) (xs : List Cond) → Star OrAll w xs → IsAlls text w xs
  alls_to w [] s = subst (λ m. IsAlls text m []) (sym s) no_alls
  alls_to w (x ∷ xs) s = subst (λ m. IsAlls text m (x ∷ xs)) (sym (s.4 ∙ ap (λ m. m ++ s.1) s.2.4)) (next_all (mark_to mark.Or s.2.0 s.2.2) s.2.3 (alls_to s.1 xs s.3))

  alls_from : (w : List Token) (xs : List Cond) → IsAlls text w xs → Star OrAll w xs
  alls_from w xs no_alls = refl
  alls_from w xs (next_all {t = t} {ts = ts} {us = us} {x = y} {xs = ys} k a s) = (t ∷ ts, us, (t, ts, mark_from mark.Or t k, a, refl), alls_from us ys s, refl)

  or_within : (all : List Token → Read Cond) (d : ℕ) → ReadsWithin all (IsAll text) AllGoes d → ReadsWithin (behind_mark mark.Or all) OrAll AllGoes d
  or_within all d within = led_within (is_mark mark.Or) nothing_of (kind.Mark mark.Or) tt or_flat (λ _. within)

  or_begins : (w : List Token) (x : Cond) → OrAll w x → Front (is_mark mark.Or) w
  or_begins = led_starts (is_mark mark.Or) nothing_of (λ _. IsAll text)

  abbrev AnyLang : Lang Cond
  AnyLang = Then (IsAll text) (λ x. Mapped (Star OrAll) (λ xs. one_or_any x xs))

  any_to : (w : List Token) (x : Cond) → AnyLang w x → IsAny text w x
  any_to w x s = subst (IsAny text w) (sym s.4.2) (subst (λ m. IsAny text m (one_or_any s.0 s.4.0)) (sym s.5) (by s.4.0 s.4.1))
    where
      by : (xs : List Cond) → Star OrAll s.2 xs → IsAny text (s.1 ++ s.2) (one_or_any s.0 xs)
      by [] h = subst (λ m. IsAny text m s.0) (sym (ap (λ m. s.1 ++ m) h ∙ append-nil s.1)) (any_one s.3)
      by (y ∷ ys) h = any_more s.3 (alls_to s.2 (y ∷ ys) h)

  any_from : (w : List Token) (x : Cond) → IsAny text w x → AnyLang w x
  any_from w x (any_one {x = y} a) = (y, w, [], a, ([], refl, refl), sym (append-nil w))
  any_from w x (any_more {ts = ts} {us = us} {x = y} {y = z} {ys = zs} a s) = (y, ts, us, a, (z ∷ zs, alls_from us (z ∷ zs) s, refl), refl)

  any_within : (all : List Token → Read Cond) (d : ℕ) → ReadsWithin all (IsAll text) AllGoes d → ReadsWithin (any_by all) (IsAny text) AnyGoes d
  unfolding any_by
  any_within all d within = respell_within any_to any_from
      (both_within within
      (λ x. mapped_within (λ xs. one_or_any x xs) (repeated_within (is_mark mark.Or) or_begins or_apart (or_within all d within)))
      (λ x w k z s a. behind_star (is_mark mark.Or) (behind_mark mark.Or all) OrAll AllGoes ((or_within all d within).reads) or_begins or_apart s.0 w k s.1 a))

  -- conditions close what they open
  mutual
    any_even : (w : List Token) (x : Cond) → IsAny text w x → (b : ℕ) → level_after b w ≡ b
    any_even w x (any_one {x = y} a) b = all_even w y a b
    any_even w x (any_more {ts = ts} {us = us} {x = y} {y = z} {ys = zs} a s) b = even_append ts us b (all_even ts y a b) (alls_even us (z ∷ zs) s b)

    alls_even : (w : List Token) (xs : List Cond) → IsAlls text w xs → (b : ℕ) → level_after b w ≡ b
    alls_even w xs no_alls b = refl
    alls_even w xs (next_all {t = t} {ts = ts} {us = us} {x = y} {xs = ys} k a s) b =
        ap (λ c. level_after c (ts ++ us)) (or_flat t.kind (mark_from mark.Or t k) b) ∙ even_append ts us b (all_even ts y a b) (alls_even us ys s b)

    all_even : (w : List Token) (x : Cond) → IsAll text w x → (b : ℕ) → level_after b w ≡ b
    all_even w x (all_one {x = y} a) b = atom_even w y a b
    all_even w x (all_more {ts = ts} {us = us} {x = y} {y = z} {ys = zs} a s) b = even_append ts us b (atom_even ts y a b) (atoms_even us (z ∷ zs) s b)

    atoms_even : (w : List Token) (xs : List Cond) → IsAtoms text w xs → (b : ℕ) → level_after b w ≡ b
    atoms_even w xs no_atoms b = refl
    atoms_even w xs (next_atom {t = t} {ts = ts} {us = us} {x = y} {xs = ys} k a s) b =
        ap (λ c. level_after c (ts ++ us)) (and_flat t.kind (mark_from mark.And t k) b) ∙ even_append ts us b (atom_even ts y a b) (atoms_even us ys s b)

    atom_even : (w : List Token) (x : Cond) → IsAtom text w x → (b : ℕ) → level_after b w ≡ b
    atom_even w x (comparison h) b = (comparison_within 0).even w x h b
    atom_even w x (group {opening = o} {closing = c} {ts = ts} {x = y} k a l) b =
        ap (λ n. level_after n (ts ++ c ∷ [])) (open_opens o.kind (mark_from mark.Open o k) b) ∙ level-append (suc b) ts (c ∷ []) ∙ ap (λ n. turned n c.kind) (any_even ts y a (suc b)) ∙ close_closes c.kind (mark_from mark.Close c l) b

  -- two names compared are a condition
  some_path : IsPath text (token_of kind.Name ∷ []) (record { head = Some (word_of text (token_of kind.Name)); place = record { line = 1; col = 1 }; fields = [] })
  some_path = named_path (record { kind = refl; word = refl }) no_fields

  -- the whole circle: where it comes to an end it reads the grammar, whatever the depth
  pub conditions_within : (d : ℕ) → ReadsWithin (any_at text d) (IsAny text) AnyGoes d
  unfolding any_at
  conditions_within zero = record {
    reads = never (IsAny text) AnyGoes _ _ (any_one (all_one (comparison (same some_path (mark_to mark.Same (token_of (kind.Mark mark.Same)) tt) some_path))));
    even = any_even;
    bound = λ ts b most e h m s. absurd (omega arith);
  }
  conditions_within (suc d) = any_within (all_by (atom_by text (any_at text d))) (suc d)
      (all_within (atom_by text (any_at text d)) (suc d) (atom_within (any_at text d) d (conditions_within d)))
