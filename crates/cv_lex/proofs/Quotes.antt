-- Where a quoted text ends.
use Rattle.std.proofs.Common.{◌≡◌, ◌≢◌, ℕ, ◌+◌, ◌≤◌, inl, inr, ◌==◌, Option, Some, None, List, [], ◌∷◌, ◌++◌, length, take, drop, slice_get, IsTrue, refl, sym, ap, ◌∙◌, subst, arith, lit<, append_assoc, length-drop}
use Rattle.std.proofs.lemmas.Bool.{cases_Bool, eqb-true, eqb-false, ne_eqb, cond-true, cond-false}
use Rattle.std.proofs.lemmas.List.{drop-drop}
use Rattle.easl_model.specs.declared.token.Kind.TheVariants as kind
use Rattle.easl_model.specs.{EndsQuoted, NoPiece, backslash, closed, escaped, line_end, plain, quote}
use Rattle.easl_model.proofs.Words.{Quotes, Others, group_of, group_at, group_ascii, begins_token, token_some}
use Rattle.easl_model.proofs.Pieces.{gap_some, gap_begins}
use Rattle.cv_lex.specs.Reading.{BeginsWith, IsFront, escape_size, unit_size, FindsQuoted}
use Rattle.cv_lex.proofs.Fronts.{behind_first, behind_is, front_of}
use Rattle.cv_lex.proofs.Lists.{here, there, take_add}
use Rattle.cv_lex.proofs.Longest.{quoted_of, quoted_longest}

-- the next one inside the quotes has so many characters
data IsUnit : List ℕ → ℕ → Type 0 where
  one : (c : ℕ) (cs : List ℕ) → c ≢ quote → c ≢ backslash → c ≢ line_end → IsUnit (c ∷ cs) 1
  two : (c : ℕ) (cs : List ℕ) → c ≢ line_end → IsUnit (backslash ∷ c ∷ cs) 2

escape_of : (cs : List ℕ) (n : ℕ) → escape_size cs ≡ Some n → IsUnit (backslash ∷ cs) n
escape_of [] n e = cc
escape_of (c ∷ cs) n e = elim (cases_Bool (c == line_end)) [
  | inl h ↦ let f : None ≡ Some n = sym (cond-true (c == line_end) None (Some 2) h) ∙ e in cc
  | inr h ↦ (
      let f : Some 2 ≡ Some n = sym (cond-false (c == line_end) None (Some 2) h) ∙ e in
      let size : 2 ≡ n = cc in
      subst (IsUnit (backslash ∷ c ∷ cs)) size (two c cs (eqb-false c line_end h)))
]

unit_of : (cs : List ℕ) (n : ℕ) → unit_size cs ≡ Some n → IsUnit cs n
unit_of [] n e = cc
unit_of (c ∷ cs) n e = elim (cases_Bool (c == quote)) [
  | inl h ↦ let f : None ≡ Some n = sym (cond-true (c == quote) None _ h) ∙ e in cc
  | inr h ↦ elim (cases_Bool (c == line_end)) [
    | inl i ↦ let f : None ≡ Some n = sym (cond-false (c == quote) None _ h ∙ cond-true (c == line_end) None _ i) ∙ e in cc
    | inr i ↦ elim (cases_Bool (c == backslash)) [
      | inl j ↦ (
          let f : escape_size cs ≡ Some n = sym (cond-false (c == quote) None _ h ∙ cond-false (c == line_end) None _ i ∙ cond-true (c == backslash) (escape_size cs) (Some 1) j) ∙ e in
          subst (λ x. IsUnit (x ∷ cs) n) (sym (eqb-true c backslash j)) (escape_of cs n f))
      | inr j ↦ (
          let f : Some 1 ≡ Some n = sym (cond-false (c == quote) None _ h ∙ cond-false (c == line_end) None _ i ∙ cond-false (c == backslash) (escape_size cs) (Some 1) j) ∙ e in
          let size : 1 ≡ n = cc in
          subst (IsUnit (c ∷ cs)) size (one c cs (eqb-false c quote h) (eqb-false c backslash j) (eqb-false c line_end i)))
    ]
  ]
]

one_unit : (c : ℕ) (cs : List ℕ) → c ≢ quote → c ≢ backslash → c ≢ line_end → unit_size (c ∷ cs) ≡ Some 1
one_unit c cs h i j = cond-false (c == quote) None _ (ne_eqb c quote h) ∙ cond-false (c == line_end) None _ (ne_eqb c line_end j) ∙ cond-false (c == backslash) (escape_size cs) (Some 1) (ne_eqb c backslash i)

two_unit : (c : ℕ) (cs : List ℕ) → c ≢ line_end → unit_size (backslash ∷ c ∷ cs) ≡ Some 2
two_unit c cs h = cond-false (c == line_end) None (Some 2) (ne_eqb c line_end h)

-- the first characters stand inside the quotes, whatever ends the quoted text
pub record Inside (cs : List ℕ) (at : ℕ) : Type 0 where
  pub within : at ≤ length cs
  pub on : (used : List ℕ) → EndsQuoted used → EndsQuoted (take at cs ++ used)
  pub back : (used rest : List ℕ) → EndsQuoted used → cs ≡ used ++ rest → (more : List ℕ) × EndsQuoted more × (drop at cs ≡ more ++ rest)

peel_one : (c : ℕ) (us more rest : List ℕ) → c ≢ quote → c ≢ backslash → EndsQuoted more → c ∷ us ≡ more ++ rest → (m : List ℕ) × EndsQuoted m × (us ≡ m ++ rest)
peel_one c us _ rest h i closed e = absurd (h (let f : c ≡ quote = cc in f))
peel_one c us _ rest h i (plain d ds j k l q) e = (ds, q, let f : us ≡ ds ++ rest = cc in f)
peel_one c us _ rest h i (escaped d ds j q) e = absurd (i (let f : c ≡ backslash = cc in f))

peel_two : (c : ℕ) (us more rest : List ℕ) → EndsQuoted more → backslash ∷ c ∷ us ≡ more ++ rest → (m : List ℕ) × EndsQuoted m × (us ≡ m ++ rest)
peel_two c us _ rest closed e = let f : ◌≡◌ {A = ℕ} backslash quote = cc in absurd (omega arith)
peel_two c us _ rest (plain d ds j k l q) e = absurd (k (let f : d ≡ backslash = cc in f))
peel_two c us _ rest (escaped d ds j q) e = (ds, q, let f : us ≡ ds ++ rest = cc in f)

taken : (cs used more : List ℕ) (at n : ℕ) → drop at cs ≡ more → take (at + n) cs ++ used ≡ take at cs ++ (take n more ++ used)
taken cs used more at n e = ap (λ x. x ++ used) (take_add at n cs) ∙ append_assoc (take at cs) (take n (drop at cs)) used ∙ ap (λ x. take at cs ++ (take n x ++ used)) e

dropped : (cs more : List ℕ) (at n : ℕ) → drop at cs ≡ more → drop (at + n) cs ≡ drop n more
dropped cs more at n e = sym (drop-drop n at cs) ∙ ap (drop n) e

inside_by : (cs more : List ℕ) (at n : ℕ) → Inside cs at → drop at cs ≡ more → IsUnit more n → Inside cs (at + n)
inside_by cs _ at _ i e (one c us h j k) = record {
  within = omega (arith, i.within, length-drop at cs, ap length e);
  on = λ used q. subst EndsQuoted (sym (taken cs used (c ∷ us) at 1 e)) (i.on (c ∷ used) (plain c used h j k q));
  back = λ used rest q f.
      let w = i.back used rest q f in
      let v = peel_one c us w.0 rest h j w.1 (sym e ∙ w.2) in
      (v.0, v.1, dropped cs (c ∷ us) at 1 e ∙ v.2);
}
inside_by cs _ at _ i e (two c us h) = record {
  within = omega (arith, i.within, length-drop at cs, ap length e);
  on = λ used q. subst EndsQuoted (sym (taken cs used (backslash ∷ c ∷ us) at 2 e)) (i.on (backslash ∷ c ∷ used) (escaped c used h q));
  back = λ used rest q f.
      let w = i.back used rest q f in
      let v = peel_two c us w.0 rest w.1 (sym e ∙ w.2) in
      (v.0, v.1, dropped cs (backslash ∷ c ∷ us) at 2 e ∙ v.2);
}

pub inside_more : (cs : List ℕ) (at n : ℕ) → Inside cs at → unit_size (drop at cs) ≡ Some n → Inside cs (at + n)
inside_more cs at n i e = inside_by cs (drop at cs) at n i refl (unit_of (drop at cs) n e)

pub ends_quoted : (cs : List ℕ) (at : ℕ) → Inside cs at → slice_get cs at ≡ Some quote → FindsQuoted cs (Some (at + 1))
ends_quoted cs at i e =
    let w = here cs at quote e in (
      omega (arith, i.within, length-drop at cs, ap length w.1),
      subst EndsQuoted (sym (take_add at 1 cs ∙ ap (λ x. take at cs ++ take 1 x) w.1)) (i.on (quote ∷ []) closed),
    )

none_ends : (cs more rest : List ℕ) (at : ℕ) → unit_size (drop at cs) ≡ None → (slice_get cs at ≡ Some quote → ⊥) → EndsQuoted more → drop at cs ≡ more ++ rest → ⊥
none_ends cs _ rest at u n closed e = n (there cs at quote rest e)
none_ends cs _ rest at u n (plain c ds h i j q) e = let f : ◌≡◌ {A = Option ℕ} None (Some 1) = sym u ∙ ap unit_size e ∙ one_unit c (ds ++ rest) h i j in cc
none_ends cs _ rest at u n (escaped c ds h q) e = let f : ◌≡◌ {A = Option ℕ} None (Some 2) = sym u ∙ ap unit_size e ∙ two_unit c (ds ++ rest) h in cc

pub no_end : (cs : List ℕ) (at : ℕ) → Inside cs at → unit_size (drop at cs) ≡ None → (slice_get cs at ≡ Some quote → ⊥) → FindsQuoted cs None
no_end cs at i u n used rest q e =
    let w = i.back used rest q e in
    none_ends cs w.0 rest at u n w.1 w.2

quote_group : (c : ℕ) → IsTrue (c == quote) → group_at c ≡ Quotes
quote_group c h = ap group_at (eqb-true c quote h) ∙ group_ascii quote (lit< tt)

pub quoted_front : (text : List ℕ) (n : ℕ) → BeginsWith (λ b. b == quote) text → FindsQuoted (behind_first text) (Some n)
    → IsFront text (record { kind = Some kind.Text; length = 1 + n })
quoted_front [] n b f = absurd b
quoted_front (c ∷ cs) n b f =
    let found : FindsQuoted cs (Some n) = subst (λ x. FindsQuoted x (Some n)) (behind_is c cs) f in
    front_of (Some kind.Text) c cs n found.0 (quoted_longest c (take n cs) (drop n cs) (eqb-true c quote b) found.1)

pub no_quoted : (text : List ℕ) → BeginsWith (λ b. b == quote) text → FindsQuoted (behind_first text) None → NoPiece text
no_quoted [] b f k used rest g p = absurd b
no_quoted (c ∷ cs) b f None [] rest g p = gap_some rest p
no_quoted (c ∷ cs) b f (Some k) [] rest g p = token_some k p.is_token
no_quoted (c ∷ cs) b f None (d ∷ us) rest g p =
    let first : c ≡ d = cc in
    let both : Quotes ≡ Others = sym (quote_group c b) ∙ ap group_at first ∙ gap_begins d us rest p in
    cc
no_quoted (c ∷ cs) b f (Some k) (d ∷ us) rest g p =
    let first : c ≡ d = cc in
    let behind : cs ≡ us ++ rest = cc in
    let group : group_of k ≡ Quotes = sym (begins_token k d us p.is_token) ∙ sym (ap group_at first) ∙ quote_group c b in
    let none : FindsQuoted cs None = subst (λ x. FindsQuoted x None) (behind_is c cs) f in
    none us rest (quoted_of k d us group p.is_token) behind
