-- The comments at the front of a text, and where none is.
use Rattle.std.proofs.Common.{◌≡◌, ◌≢◌, ℕ, suc, ◌+◌, ◌-◌, ◌<◌, ◌≤◌, ◌==◌, ◌⊎◌, inl, inr, Some, None, List, [], ◌∷◌, ◌++◌, length, take, drop, slice_get, codes, IsTrue, sym, ap, ◌∙◌, subst, arith, lit<, append_assoc, append-nil, length-append, length-drop, take-append-drop}
use Rattle.std.specs.List.{AllByRecursion, prefix_len}
use Rattle.std.proofs.lemmas.Bool.{cases_Bool, eqb-true, eqb-false, not-true, not_from_false, both_ways}
use Rattle.std.proofs.lemmas.List.{take_rest, drop-drop, length-take-le}
use Rattle.std.proofs.lemmas.List.Sums.{prefix_len-le-length}
use Rattle.std.proofs.lemmas.Option.{slice_get_within}
use Rattle.easl_model.specs.declared.token.Kind.{Kind}
use Rattle.easl_model.specs.{EndsLine, IsGap, IsToken, NoPiece, comment, is_white, line_comment, line_end, white}
use Rattle.easl_model.proofs.Pieces.{aligned, not_others}
use Rattle.easl_model.proofs.Words.{Others, group_at, group_ascii, begins_token, token_some}
use Rattle.cv_lex.specs.Reading.{slash, star, is_on_line, BeginsWith, IsFront, EndsComment, FindsFirstEnd}
use Rattle.cv_lex.proofs.Lists.{here, get_past, take_add}
use Rattle.cv_lex.proofs.Runs.{AllPassing, Stops, passes, stops}

-- the text behind its first two characters
abbrev pub behind_two : List ℕ → List ℕ
behind_two text = take (length text - 2) (drop 2 text)

behind_both : (c d : ℕ) (cs : List ℕ) → behind_two (c ∷ d ∷ cs) ≡ cs
behind_both c d cs = take_rest (c ∷ d ∷ cs) 2

-- a gap that is the first two characters and some of the rest
front_two : (c d : ℕ) (cs : List ℕ) (n size : ℕ) → size ≡ suc (suc n) → n ≤ length cs → IsGap (c ∷ d ∷ take n cs) (drop n cs)
    → IsFront (c ∷ d ∷ cs) (record { kind = None; length = size })
front_two c d cs n size e h g = subst (λ m. IsFront (c ∷ d ∷ cs) (record { kind = None; length = m })) (sym e) (record {
  some = omega arith;
  within = omega arith;
  piece = g;
})

all_on_line : (cs : List ℕ) → AllPassing is_on_line cs → AllByRecursion (λ c. c ≢ line_end) cs
all_on_line [] h = tt
all_on_line (c ∷ cs) h = (eqb-false c line_end (not-true _ h.0), all_on_line cs h.1)

ends_line : (cs : List ℕ) → Stops is_on_line cs → EndsLine cs
ends_line [] h = tt
ends_line (c ∷ cs) h = elim (cases_Bool (c == line_end)) [
  | inl e ↦ eqb-true c line_end e
  | inr n ↦ absurd (both_ways (is_on_line c) h (not_from_false _ n))
]

line_gap : (c d : ℕ) (cs rest : List ℕ) → c ≡ slash → d ≡ slash → AllPassing is_on_line cs → Stops is_on_line rest → IsGap (c ∷ d ∷ cs) rest
line_gap c d cs rest e f h s =
    subst (λ x. IsGap (x ∷ d ∷ cs) rest) (sym e) (subst (λ x. IsGap (slash ∷ x ∷ cs) rest) (sym f) (line_comment cs rest (all_on_line cs h) (ends_line rest s)))

pub line_front : (text : List ℕ) (n : ℕ) → BeginsWith (λ c. c == slash) text → slice_get text 1 ≡ Some slash
    → n ≡ prefix_len is_on_line (behind_two text) → IsFront text (record { kind = None; length = 2 + n })
line_front [] n b s e = absurd b
line_front (c ∷ []) n b s e = absurd (omega (arith, slice_get_within (c ∷ []) 1 slash s))
line_front (c ∷ d ∷ cs) n b s e =
    let m : ℕ = prefix_len is_on_line cs in
    let same : n ≡ m = e ∙ ap (prefix_len is_on_line) (behind_both c d cs) in
    let second : d ≡ slash = cc in
    front_two c d cs m (2 + n) (omega arith) (prefix_len-le-length is_on_line cs) (line_gap c d (take m cs) (drop m cs) (eqb-true c slash b) second (passes is_on_line cs) (stops is_on_line cs))

pub line_fits : (text : List ℕ) → slice_get text 1 ≡ Some slash → 2 + prefix_len is_on_line (behind_two text) ≤ length text
line_fits [] s = absurd (omega (arith, slice_get_within [] 1 slash s))
line_fits (c ∷ []) s = absurd (omega (arith, slice_get_within (c ∷ []) 1 slash s))
line_fits (c ∷ d ∷ cs) s = let e = ap (prefix_len is_on_line) (behind_both c d cs) in omega (arith, e, prefix_len-le-length is_on_line cs)

ends_at : (cs p rest : List ℕ) → cs ≡ p ++ star ∷ slash ∷ rest → EndsComment cs (length p)
ends_at cs p rest e = (
  ap (λ x. slice_get x (length p)) e ∙ ap (slice_get (p ++ star ∷ slash ∷ rest)) (let f : length p ≡ length p + 0 = omega arith in f) ∙ get_past p (star ∷ slash ∷ rest) 0,
  ap (λ x. slice_get x (length p + 1)) e ∙ get_past p (star ∷ slash ∷ rest) 1,
)

differ_last : (p ys : List ℕ) → p ++ star ∷ slash ∷ [] ≡ ys ++ star ∷ [] → ⊥
differ_last [] [] e = absurd (omega (arith, ap length e))
differ_last [] (y ∷ []) e = let f : ◌≡◌ {A = ℕ} slash star = cc in absurd (omega arith)
differ_last [] (y ∷ z ∷ ys) e = absurd (omega (arith, ap length e, length-append ys (star ∷ [])))
differ_last (x ∷ p) [] e = absurd (omega (arith, ap length e, length-append p (star ∷ slash ∷ [])))
differ_last (x ∷ p) (y ∷ ys) e = differ_last p ys (let f : p ++ star ∷ slash ∷ [] ≡ ys ++ star ∷ [] = cc in f)

module _ (cs : List ℕ) (n : ℕ) (within : n ≤ length cs) (first : (i : ℕ) → i < n → EndsComment cs i → ⊥) where
  -- no end stands wholly before the index
  ends_before : (p m : List ℕ) → take n cs ≡ (p ++ codes "*/") ++ m → ⊥
  ends_before p m e =
      let whole : cs ≡ p ++ star ∷ slash ∷ (m ++ drop n cs) = sym (take-append-drop n cs) ∙ ap (λ x. x ++ drop n cs) e ∙ append_assoc (p ++ codes "*/") m (drop n cs) ∙ append_assoc p (codes "*/") (m ++ drop n cs) in
      let size : length p + 2 + length m ≡ n = sym (ap length e ∙ length-append (p ++ codes "*/") m ∙ ap (λ x. x + length m) (length-append p (codes "*/"))) ∙ length-take-le n cs within in
      first (length p) (omega arith) (ends_at cs p (m ++ drop n cs) whole)

  no_end_inside : (p q : List ℕ) → take n cs ++ codes "*" ≡ p ++ codes "*/" ++ q → ⊥
  no_end_inside p q e = elim (aligned (take n cs) (codes "*") (p ++ codes "*/") q e) [
    | inl w ↦ ends_before p w.0 w.1
    | inr w ↦ by w.0 w.1 w.2
  ]
    where
      by : (m : List ℕ) → p ++ codes "*/" ≡ take n cs ++ m → codes "*" ≡ m ++ q → ⊥
      by [] f g = ends_before p [] (sym (append-nil (take n cs)) ∙ sym f ∙ sym (append-nil (p ++ codes "*/")))
      by (a ∷ []) f g = let same : star ≡ a = cc in differ_last p (take n cs) (f ∙ ap (λ x. take n cs ++ x ∷ []) (sym same))
      by (a ∷ b ∷ m) f g = cc

block_gap : (c d : ℕ) (cs rest : List ℕ) → c ≡ slash → d ≡ star → ((p q : List ℕ) → cs ++ codes "*" ≡ p ++ codes "*/" ++ q → ⊥)
    → IsGap (c ∷ d ∷ (cs ++ star ∷ slash ∷ [])) rest
block_gap c d cs rest e f h =
    let all : List ℕ = cs ++ star ∷ slash ∷ [] in
    subst (λ x. IsGap (x ∷ d ∷ all) rest) (sym e) (subst (λ x. IsGap (slash ∷ x ∷ all) rest) (sym f) (comment cs rest h))

-- where an end stands, a star and a slash are next
next_two : (cs : List ℕ) (n : ℕ) → EndsComment cs n → (rest : List ℕ) × (drop n cs ≡ star ∷ slash ∷ rest)
next_two cs n e =
    let a = here cs n star e.0 in
    let b = here cs (n + 1) slash e.1 in
    let f : a.0 ≡ slash ∷ b.0 = sym (sym (drop-drop 1 n cs) ∙ ap (drop 1) a.1) ∙ b.1 in
    (b.0, a.1 ∙ ap (λ x. star ∷ x) f)

pub block_front : (text : List ℕ) (n : ℕ) → BeginsWith (λ c. c == slash) text → slice_get text 1 ≡ Some star
    → FindsFirstEnd (behind_two text) (Some n) → IsFront text (record { kind = None; length = n + 4 })
block_front [] n b s f = absurd b
block_front (c ∷ []) n b s f = absurd (omega (arith, slice_get_within (c ∷ []) 1 star s))
block_front (c ∷ d ∷ cs) n b s f =
    let found : FindsFirstEnd cs (Some n) = subst (λ x. FindsFirstEnd x (Some n)) (behind_both c d cs) f in
    let second : d ≡ star = cc in
    let w = next_two cs n found.0 in
    let within : n + 2 ≤ length cs = omega (arith, length-drop n cs, ap length w.1) in
    let all : take (n + 2) cs ≡ take n cs ++ star ∷ slash ∷ [] = take_add n 2 cs ∙ ap (λ x. take n cs ++ take 2 x) w.1 in
    front_two c d cs (n + 2) (n + 4) (omega arith) within
    (subst (λ x. IsGap (c ∷ d ∷ x) (drop (n + 2) cs)) (sym all) (block_gap c d (take n cs) (drop (n + 2) cs) (eqb-true c slash b) second (no_end_inside cs n (omega arith) found.1)))

pub block_fits : (text : List ℕ) (n : ℕ) → slice_get text 1 ≡ Some star → FindsFirstEnd (behind_two text) (Some n) → n + 4 ≤ length text
block_fits [] n s f = absurd (omega (arith, slice_get_within [] 1 star s))
block_fits (c ∷ []) n s f = absurd (omega (arith, slice_get_within (c ∷ []) 1 star s))
block_fits (c ∷ d ∷ cs) n s f =
    let found : FindsFirstEnd cs (Some n) = subst (λ x. FindsFirstEnd x (Some n)) (behind_both c d cs) f in
    omega (arith, slice_get_within cs (n + 1) slash found.0.1)

slash_group : (c : ℕ) → IsTrue (c == slash) → group_at c ≡ Others
slash_group c h = ap group_at (eqb-true c slash h) ∙ group_ascii slash (lit< tt)

slash_token : (k : Kind) (c : ℕ) (cs used rest : List ℕ) → IsTrue (c == slash) → IsToken k used → c ∷ cs ≡ used ++ rest → ⊥
slash_token k c cs [] rest b t e = token_some k t
slash_token k c cs (d ∷ us) rest b t e =
    let same : c ≡ d = cc in
    not_others k (sym (begins_token k d us t) ∙ sym (ap group_at same) ∙ slash_group c b)

-- a gap that begins with a slash is a comment
slash_gap : (c : ℕ) (cs used rest : List ℕ) → c ≡ slash → IsGap used rest → c ∷ cs ≡ used ++ rest
    → ((more : List ℕ) × (cs ≡ slash ∷ more)) ⊎ ((ds more : List ℕ) × (cs ≡ star ∷ (ds ++ star ∷ slash ∷ more)))
slash_gap c cs _ _ s (white d rest h) e =
    let same : d ≡ slash = cc in
    let f : IsTrue (is_white slash) = subst (λ x. IsTrue (is_white x)) same h in
    cc
slash_gap c cs _ _ s (line_comment ds rest h i) e = inl (ds ++ rest, let f : cs ≡ slash ∷ (ds ++ rest) = cc in f)
slash_gap c cs _ _ s (comment ds rest h) e = inr (ds, rest, (let f : cs ≡ star ∷ ((ds ++ codes "*/") ++ rest) = cc in f) ∙ ap (λ x. star ∷ x) (append_assoc ds (codes "*/") rest))

pub no_comment : (text : List ℕ) → BeginsWith (λ c. c == slash) text → (slice_get text 1 ≡ Some slash → ⊥) → (slice_get text 1 ≡ Some star → ⊥) → NoPiece text
no_comment [] b s t k used rest e p = absurd b
no_comment (c ∷ cs) b s t (Some k) used rest e p = slash_token k c cs used rest b p.is_token e
no_comment (c ∷ cs) b s t None used rest e p = elim (slash_gap c cs used rest (eqb-true c slash b) p e) [
  | inl w ↦ s (ap (λ x. slice_get (c ∷ x) 1) w.1)
  | inr w ↦ t (ap (λ x. slice_get (c ∷ x) 1) w.2)
]

pub no_block : (text : List ℕ) → BeginsWith (λ c. c == slash) text → slice_get text 1 ≡ Some star → FindsFirstEnd (behind_two text) None → NoPiece text
no_block [] b s f k used rest e p = absurd b
no_block (c ∷ cs) b s f (Some k) used rest e p = slash_token k c cs used rest b p.is_token e
no_block (c ∷ []) b s f None used rest e p = absurd (omega (arith, slice_get_within (c ∷ []) 1 star s))
no_block (c ∷ d ∷ cs) b s f None used rest e p = elim (slash_gap c (d ∷ cs) used rest (eqb-true c slash b) p e) [
  | inl w ↦ (
      let g : d ≡ slash = (let h : d ∷ cs ≡ slash ∷ w.0 = w.1 in cc) in
      let h : d ≡ star = cc in
      let i : ◌≡◌ {A = ℕ} slash star = sym g ∙ h in
      absurd (omega arith))
  | inr w ↦ (
      let none : FindsFirstEnd cs None = subst (λ x. FindsFirstEnd x None) (behind_both c d cs) f in
      let g : cs ≡ w.0 ++ star ∷ slash ∷ w.1 = (let h : d ∷ cs ≡ star ∷ (w.0 ++ star ∷ slash ∷ w.1) = w.2 in cc) in
      none (length w.0) (ends_at cs w.0 w.1 g))
]
