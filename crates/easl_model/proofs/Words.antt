-- What kinds of token a character begins, and what keywords and marks are written with.
use Rattle.std.proofs.Common.{◌≡◌, ℕ, ◌<◌, ◌≤◌, Bool, true, false, cond, ◌&&◌, ◌||◌, ◌==◌, inl, inr, Option, Some, None, List, [], ◌∷◌, nat_lt, bytes_eq, IsTrue, refl, sym, ap, ◌∙◌, arith}
use Rattle.std.specs.List.{AllByRecursion, list_all}
use Rattle.std.specs.Char.{is_ascii_alphabetic, is_ascii_alphanumeric, is_ascii_digit}
use Rattle.std.proofs.lemmas.Bool.{cases_lt, and_parts, or_cases, false≢true, or_left, eqb-true, ltb-true, leb-true, lt-ltb, le-ltb, cond-true, cond-false}
use Rattle.std.proofs.lemmas.Bool.Decides.{nat_tests}
use Rattle.unicode_ident.specs.Ident.{is_xid_continue}
use Rattle.unicode_ident.proofs.IdentLemmas.{is_xid_start-ascii, is_xid_continue-ascii}
use Rattle.easl_model.specs.declared.token.Key.{Key}
use Rattle.easl_model.specs.declared.token.Key.TheVariants as key
use Rattle.easl_model.specs.declared.token.Kind.{Kind}
use Rattle.easl_model.specs.declared.token.Kind.TheVariants as kind
use Rattle.easl_model.specs.declared.token.Mark.{Mark}
use Rattle.easl_model.specs.declared.token.Mark.TheVariants as mark
use Rattle.easl_model.specs.{IsToken, IsWord, begins_name, is_white, key_text, mark_text}

-- names and keywords, numbers, quoted texts, marks, and what begins no token
pub data Group : Type 0 where
  Words : Group
  Numbers : Group
  Quotes : Group
  Marks : Group
  Others : Group

abbrev pub group_of : Kind → Group
group_of kind.Name = Words
group_of kind.Number = Numbers
group_of kind.Text = Quotes
group_of (kind.Key k) = Words
group_of (kind.Mark m) = Marks

abbrev pub is_mark : ℕ → Bool
is_mark c = c == 123 || c == 125 || c == 40 || c == 41 || c == 59 || c == 44 || c == 46 || c == 61 || c == 33 || c == 38 || c == 124 || c == 63

abbrev pub ascii_group : ℕ → Group
ascii_group c = cond (is_ascii_alphabetic c || c == 95) Words (cond (is_ascii_digit c) Numbers (cond (c == 34) Quotes (cond (is_mark c) Marks Others)))

-- the group of the tokens that the character begins
unfoldable pub group_at : ℕ → Group
group_at c = cond (nat_lt c 128) (ascii_group c) Words

pub group_ascii : (c : ℕ) → c < 128 → group_at c ≡ ascii_group c
unfolding group_at
group_ascii c h = cond-true (nat_lt c 128) (ascii_group c) Words (lt-ltb c 128 h)

pub begins_name-ascii : (c : ℕ) → c < 128 → begins_name c ≡ (is_ascii_alphabetic c || c == 95)
begins_name-ascii c h = ap (λ b. b || c == 95) (is_xid_start-ascii c h)

pub group_word : (c : ℕ) → IsTrue (begins_name c) → group_at c ≡ Words
unfolding group_at
group_word c h = elim (cases_lt c 128) [
  | inl low ↦ cond-true (nat_lt c 128) (ascii_group c) Words (lt-ltb c 128 low) ∙ cond-true (is_ascii_alphabetic c || c == 95) Words _ (sym (begins_name-ascii c low) ∙ h)
  | inr high ↦ cond-false (nat_lt c 128) (ascii_group c) Words (le-ltb c 128 high)
]

pub digit_between : (c : ℕ) → IsTrue (is_ascii_digit c) → (48 ≤ c) × (c ≤ 57)
digit_between c h = let both = and_parts _ _ h in (leb-true _ _ both.0, leb-true _ _ both.1)

digit_group : (c : ℕ) → 48 ≤ c → c ≤ 57 → ascii_group c ≡ Numbers
digit_group c low high = grind (arith, nat_tests)

pub group_digit : (c : ℕ) → IsTrue (is_ascii_digit c) → group_at c ≡ Numbers
group_digit c h = let b = digit_between c h in group_ascii c (omega (arith, b.1)) ∙ digit_group c b.0 b.1

pub group_white : (c : ℕ) → IsTrue (is_white c) → group_at c ≡ Others
unfolding group_at
group_white c h = elim (or_cases _ _ h) [
  | inr e ↦ rw (eqb-true c 10 e) refl
  | inl g ↦ elim (or_cases _ _ g) [
    | inr e ↦ rw (eqb-true c 13 e) refl
    | inl f ↦ elim (or_cases _ _ f) [ inr e ↦ rw (eqb-true c 9 e) refl | inl e ↦ rw (eqb-true c 32 e) refl ]
  ]
]

abbrev is_ascii_word : List ℕ → Bool
is_ascii_word [] = false
is_ascii_word (c ∷ cs) = (nat_lt c 128 && is_ascii_alphabetic c) && list_all (λ d. nat_lt d 128 && is_ascii_alphanumeric d) cs

continues : (cs : List ℕ) → list_all (λ d. nat_lt d 128 && is_ascii_alphanumeric d) cs ≡ true → AllByRecursion (λ d. IsTrue (is_xid_continue d)) cs
continues [] h = tt
continues (d ∷ cs) h =
    let both = and_parts _ _ h in
    let first = and_parts _ _ both.0 in
    (is_xid_continue-ascii d (ltb-true _ _ first.0) ∙ or_left _ _ first.1, continues cs both.1)

word_from_ascii : (cs : List ℕ) → is_ascii_word cs ≡ true → IsWord cs
word_from_ascii [] h = absurd (false≢true h)
word_from_ascii (c ∷ cs) h =
    let both = and_parts _ _ h in
    let first = and_parts _ _ both.0 in
    (begins_name-ascii c (ltb-true _ _ first.0) ∙ or_left _ _ first.1, continues cs both.1)

key_is_ascii : (k : Key) → is_ascii_word (key_text k) ≡ true
key_is_ascii key.Class = refl
key_is_ascii key.Requires = refl
key_is_ascii key.New = refl
key_is_ascii key.This = refl
key_is_ascii key.Return = refl
key_is_ascii key.Void = refl
key_is_ascii key.Object = refl
key_is_ascii key.Int = refl
key_is_ascii key.Boolean = refl
key_is_ascii key.String = refl
key_is_ascii key.True = refl
key_is_ascii key.False = refl
key_is_ascii key.Null = refl
key_is_ascii key.Static = refl
key_is_ascii key.If = refl
key_is_ascii key.Else = refl
key_is_ascii key.While = refl
key_is_ascii key.Break = refl
key_is_ascii key.Continue = refl

-- each keyword is written as a word
pub key_is_word : (k : Key) → IsWord (key_text k)
key_is_word k = word_from_ascii (key_text k) (key_is_ascii k)

front_group : List ℕ → Group
front_group [] = Others
front_group (c ∷ cs) = group_at c

mark_group : (m : Mark) → front_group (mark_text m) ≡ Marks
unfolding group_at front_group
mark_group mark.Begin = refl
mark_group mark.End = refl
mark_group mark.Open = refl
mark_group mark.Close = refl
mark_group mark.Semicolon = refl
mark_group mark.Comma = refl
mark_group mark.Dot = refl
mark_group mark.Assign = refl
mark_group mark.Same = refl
mark_group mark.Differ = refl
mark_group mark.And = refl
mark_group mark.Or = refl
mark_group mark.Choice = refl

word_group : (cs : List ℕ) → IsWord cs → front_group cs ≡ Words
unfolding front_group
word_group [] w = absurd w
word_group (c ∷ cs) w = group_word c w.0

token_group : (k : Kind) (cs : List ℕ) → IsToken k cs → front_group cs ≡ group_of k
unfolding front_group group_at
token_group kind.Name cs t = word_group cs t.0
token_group kind.Number [] t = absurd (t.0 refl)
token_group kind.Number (c ∷ cs) t = group_digit c t.1.0
token_group kind.Text [] t = absurd t
token_group kind.Text (c ∷ cs) t = ap group_at t.0
token_group (kind.Key k) cs t = ap front_group t ∙ word_group _ (key_is_word k)
token_group (kind.Mark m) cs t = ap front_group t ∙ mark_group m

-- a token is of the group that its first character begins
pub begins_token : (k : Kind) (c : ℕ) (cs : List ℕ) → IsToken k (c ∷ cs) → group_at c ≡ group_of k
unfolding front_group
begins_token k c cs t = token_group k (c ∷ cs) t

-- no token is empty
pub token_some : (k : Kind) → IsToken k [] → ⊥
unfolding front_group
token_some kind.Name t = t.0
token_some kind.Number t = t.0 refl
token_some kind.Text t = t
token_some (kind.Key k) t = let e : Others ≡ Words = token_group (kind.Key k) [] t in cc
token_some (kind.Mark m) t = let e : Others ≡ Marks = token_group (kind.Mark m) [] t in cc

abbrev find_key : List ℕ → List Key → Option Key
find_key cs [] = None
find_key cs (k ∷ ks) = cond (bytes_eq cs (key_text k)) (Some k) (find_key cs ks)

abbrev keys : List Key
keys = key.Class ∷ key.Requires ∷ key.New ∷ key.This ∷ key.Return ∷ key.Void ∷ key.Object ∷ key.Int ∷ key.Boolean ∷ key.String ∷ key.True ∷ key.False ∷ key.Null ∷ key.Static ∷ key.If ∷ key.Else ∷ key.While ∷ key.Break ∷ key.Continue ∷ []

key_found : (k : Key) → find_key (key_text k) keys ≡ Some k
key_found key.Class = refl
key_found key.Requires = refl
key_found key.New = refl
key_found key.This = refl
key_found key.Return = refl
key_found key.Void = refl
key_found key.Object = refl
key_found key.Int = refl
key_found key.Boolean = refl
key_found key.String = refl
key_found key.True = refl
key_found key.False = refl
key_found key.Null = refl
key_found key.Static = refl
key_found key.If = refl
key_found key.Else = refl
key_found key.While = refl
key_found key.Break = refl
key_found key.Continue = refl

-- no two keywords are written alike
pub one_key : (k l : Key) → key_text k ≡ key_text l → k ≡ l
one_key k l e = let same : Some k ≡ Some l = sym (key_found k) ∙ ap (λ cs. find_key cs keys) e ∙ key_found l in cc

abbrev find_mark : List ℕ → List Mark → Option Mark
find_mark cs [] = None
find_mark cs (m ∷ ms) = cond (bytes_eq cs (mark_text m)) (Some m) (find_mark cs ms)

abbrev marks : List Mark
marks = mark.Begin ∷ mark.End ∷ mark.Open ∷ mark.Close ∷ mark.Semicolon ∷ mark.Comma ∷ mark.Dot ∷ mark.Assign ∷ mark.Same ∷ mark.Differ ∷ mark.And ∷ mark.Or ∷ mark.Choice ∷ []

mark_found : (m : Mark) → find_mark (mark_text m) marks ≡ Some m
mark_found mark.Begin = refl
mark_found mark.End = refl
mark_found mark.Open = refl
mark_found mark.Close = refl
mark_found mark.Semicolon = refl
mark_found mark.Comma = refl
mark_found mark.Dot = refl
mark_found mark.Assign = refl
mark_found mark.Same = refl
mark_found mark.Differ = refl
mark_found mark.And = refl
mark_found mark.Or = refl
mark_found mark.Choice = refl

-- no two marks are written alike
pub one_mark : (m n : Mark) → mark_text m ≡ mark_text n → m ≡ n
one_mark m n e = let same : Some m ≡ Some n = sym (mark_found m) ∙ ap (λ cs. find_mark cs marks) e ∙ mark_found n in cc

-- the same characters are a token of one kind
pub one_kind : (j k : Kind) (c : ℕ) (cs : List ℕ) → IsToken j (c ∷ cs) → IsToken k (c ∷ cs) → j ≡ k
one_kind j k c cs t u = by j k t u (sym (begins_token j c cs t) ∙ begins_token k c cs u)
  where
    by : (j k : Kind) → IsToken j (c ∷ cs) → IsToken k (c ∷ cs) → group_of j ≡ group_of k → j ≡ k
    by kind.Name kind.Name t u e = refl
    by kind.Name (kind.Key k) t u e = absurd (t.1 k u)
    by (kind.Key k) kind.Name t u e = absurd (u.1 k t)
    by (kind.Key k) (kind.Key l) t u e = ap kind.Key (one_key k l (sym t ∙ u))
    by kind.Number kind.Number t u e = refl
    by kind.Text kind.Text t u e = refl
    by (kind.Mark m) (kind.Mark n) t u e = ap kind.Mark (one_mark m n (sym t ∙ u))
    by j k t u e = cc
