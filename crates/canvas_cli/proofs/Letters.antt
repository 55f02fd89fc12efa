-- Words ask one command at most, and write one list of choices.
use Rattle.std.proofs.Common.{◌≡◌, ◌<◌, ◌≤◌, ℕ, zero, suc, Bool, true, false, List, [], ◌∷◌, ap, arith, get_or, inl, inr, length, map, refl, subst, sym, ◌∙◌}
use Rattle.std.specs.Prelude.{String, codes, string_bytes, ◌==◌, ◌⊎◌}
use Rattle.std.specs.declared.alloc.Global.{Global}
use Rattle.canvas_cli.specs.Commands.{AreWords, IsAsked, IsCommand, Request, One, Pair, letter_of, letters, pair_words, single_words, words_of}
use Rattle.canvas_cli.specs.declared.command.Command.{Command}
use Rattle.canvas_cli.specs.declared.command.Command.TheVariants.{Certify, Run}
use Rattle.canvas_cli.specs.declared.command.Single.{Single}
use Rattle.canvas_cli.specs.declared.command.Single.TheVariants.{Show, Derive}

letter_is : (x y : Bool) → letter_of x ≡ letter_of y → x ≡ y
letter_is true true same = refl
letter_is false false same = refl
letter_is true false same = absurd (omega (arith, same))
letter_is false true same = absurd (omega (arith, same))

letters_are : (xs ys : List Bool) → letters xs ≡ letters ys → xs ≡ ys
letters_are [] [] same = refl
letters_are [] (y ∷ ys) same = absurd cc
letters_are (x ∷ xs) [] same = absurd cc
letters_are (x ∷ xs) (y ∷ ys) same =
    let first : letter_of x ≡ letter_of y = cc in
    let rest : letters xs ≡ letters ys = cc in
    let one : x ≡ y = letter_is x y first in
    let all : xs ≡ ys = letters_are xs ys rest in
    cc

-- the same words ask the same command of the same names
one_pair : (c d : Command) (s t u v : List ℕ) → pair_words c s t ≡ pair_words d u v → (c ≡ d) × (s ≡ u) × (t ≡ v)
one_pair Certify Certify s t u v same = (refl, cc, cc)
one_pair Certify (Run ys) s t u v same = absurd cc
one_pair (Run xs) Certify s t u v same = absurd cc
one_pair (Run xs) (Run ys) s t u v same =
    let choices : letters xs ≡ letters ys = cc in
    (ap Run (letters_are xs ys choices), cc, cc)

one_single : (a b : Single) (s t : List ℕ) → single_words a s ≡ single_words b t → (a ≡ b) × (s ≡ t)
one_single Show Show s t same = (refl, cc)
one_single Derive Derive s t same = (refl, cc)
one_single Show Derive s t same = absurd cc
one_single Derive Show s t same = absurd cc

-- no command on a pair is one on a specification alone
pair_is_longer : (a : Single) (c : Command) (spec name client : List ℕ) → single_words a spec ≡ pair_words c name client → ⊥
pair_is_longer Show Certify spec name client same = absurd cc
pair_is_longer Show (Run choices) spec name client same = absurd cc
pair_is_longer Derive Certify spec name client same = absurd cc
pair_is_longer Derive (Run choices) spec name client same = absurd cc

one_of : (a b : Single) (s t : List ℕ) → a ≡ b → s ≡ t → One a s ≡ One b t
one_of a b s t one two = cc

pair_of : (c d : Command) (s t u v : List ℕ) → c ≡ d → s ≡ u → t ≡ v → Pair c s t ≡ Pair d u v
pair_of c d s t u v one two three = cc

-- the same words ask the same
pub one_asked : (r s : Request) → words_of r ≡ words_of s → r ≡ s
one_asked (One a s) (One b t) same =
    let one = one_single a b s t same in
    one_of a b s t one.0 one.1
one_asked (One a s) (Pair d u v) same = absurd (pair_is_longer a d s u v same)
one_asked (Pair c s t) (One b u) same = absurd (pair_is_longer b c u s t (sym same))
one_asked (Pair c s t) (Pair d u v) same =
    let one = one_pair c d s t u v same in
    pair_of c d s t u v one.0 one.1 one.2

-- nothing is asked of a specification alone where neither command is
pub no_single : (words : List (String Global)) → ((spec : List ℕ) → IsAsked words (One Show spec) → ⊥) → ((spec : List ℕ) → AreWords words (codes "derive" ∷ spec ∷ []) → ⊥) → (single : Single) (spec : List ℕ) → IsAsked words (One single spec) → ⊥
no_single words no_show no_derive Show spec is = no_show spec is
no_single words no_show no_derive Derive spec is = no_derive spec is

-- no command is asked where none of the forms is
pub no_command : (words : List (String Global)) → ((single : Single) (spec : List ℕ) → IsAsked words (One single spec) → ⊥) → ((spec client : List ℕ) → IsAsked words (Pair Certify spec client) → ⊥) → ((spec client choices : List ℕ) → AreWords words (codes "run" ∷ spec ∷ client ∷ choices ∷ []) → ⊥) → IsCommand words → ⊥
no_command words no_one no_certify no_run (One single spec, is) = no_one single spec is
no_command words no_one no_certify no_run (Pair Certify spec client, is) = no_certify spec client is
no_command words no_one no_certify no_run (Pair (Run choices) spec client, is) = no_run spec client (letters choices) is

-- nor where the last word of a run writes no choices
pub no_choices : (words : List (String Global)) (spec client word : List ℕ) → ((single : Single) (s : List ℕ) → IsAsked words (One single s) → ⊥) → ((s c : List ℕ) → IsAsked words (Pair Certify s c) → ⊥) → AreWords words (codes "run" ∷ spec ∷ client ∷ word ∷ []) → ((choices : List Bool) × (word ≡ letters choices) → ⊥) → IsCommand words → ⊥
no_choices words spec client word no_one no_certify are none (One single s, is) = no_one single s is
no_choices words spec client word no_one no_certify are none (Pair Certify s c, is) = no_certify s c is
no_choices words spec client word no_one no_certify are none (Pair (Run choices) s c, is) =
    let same : codes "run" ∷ spec ∷ client ∷ word ∷ [] ≡ codes "run" ∷ s ∷ c ∷ letters choices ∷ [] = sym are ∙ is in
    let last : word ≡ letters choices = cc in
    none (choices, last)

pub asks_run : (words : List (String Global)) (spec client word : List ℕ) (choices : List Bool) → AreWords words (codes "run" ∷ spec ∷ client ∷ word ∷ []) → word ≡ letters choices → IsAsked words (Pair (Run choices) spec client)
asks_run words spec client word choices are is = are ∙ ap (λ w. codes "run" ∷ spec ∷ client ∷ w ∷ []) is

pub is_run : (words : List (String Global)) (spec client word : List ℕ) → AreWords words (codes "run" ∷ spec ∷ client ∷ word ∷ []) → (choices : List Bool) × (word ≡ letters choices) → IsCommand words
is_run words spec client word are (choices, is) = (Pair (Run choices) spec client, asks_run words spec client word choices are is)

-- the truth of each letter is the choice
letter_read : (choice : Bool) → (letter_of choice == 84) ≡ choice
letter_read true = refl
letter_read false = refl

truths : (choices : List Bool) → map (λ letter. letter == 84) (letters choices) ≡ choices
truths [] = refl
truths (x ∷ xs) =
    let one = letter_read x in
    let all = truths xs in
    cc

pub written : (word : List ℕ) (choices : List Bool) → (cs : List Bool) × (word ≡ letters cs) → choices ≡ map (λ letter. letter == 84) word → word ≡ letters choices
written word choices (cs, is) read =
    let same : choices ≡ cs = read ∙ ap (map (λ letter. letter == 84)) is ∙ truths cs in
    is ∙ ap letters (sym same)

-- what has the letters alone writes choices, and only that
abbrev pub IsLetter : ℕ → Type 0
IsLetter letter = (letter ≡ 84) ⊎ (letter ≡ 70)

of_letter : (letter : ℕ) → IsLetter letter → (choice : Bool) × (letter ≡ letter_of choice)
of_letter letter (inl e) = (true, e)
of_letter letter (inr e) = (false, e)

pub spelled : (word : List ℕ) → ((k : ℕ) → k < length word → IsLetter (get_or word k 0)) → (choices : List Bool) × (word ≡ letters choices)
spelled [] all = ([], refl)
spelled (x ∷ xs) all =
    let first = of_letter x (all 0 (omega arith)) in
    let rest = spelled xs (λ k within. all (suc k) (omega arith)) in
    (first.0 ∷ rest.0, let e = first.1 in let es = rest.1 in cc)

letter_kind : (choice : Bool) → IsLetter (letter_of choice)
letter_kind true = inl refl
letter_kind false = inr refl

kinds : (choices : List Bool) (k : ℕ) → k < length (letters choices) → IsLetter (get_or (letters choices) k 0)
kinds [] k within = absurd (omega (arith, within))
kinds (x ∷ xs) zero within = letter_kind x
kinds (x ∷ xs) (suc k) within = kinds xs k (omega (arith, within))

pub spells : (word : List ℕ) → (choices : List Bool) × (word ≡ letters choices) → (k : ℕ) → k < length word → IsLetter (get_or word k 0)
spells word (choices, is) = subst (λ w. (k : ℕ) → k < length w → IsLetter (get_or w k 0)) (sym is) (kinds choices)

-- a list of two, three or four words, item by item
pub two_words : (words : List (String Global)) (a b : String Global) (x y : List ℕ) → 2 ≤ length words → length words < 3 → a ≡ get_or words 0 a
    → b ≡ get_or words 1 b → string_bytes a ≡ x → string_bytes b ≡ y → AreWords words (x ∷ y ∷ [])
two_words [] a b x y least most first second is1 is2 = absurd (omega (arith, least))
two_words (u ∷ []) a b x y least most first second is1 is2 = absurd (omega (arith, least))
two_words (u ∷ v ∷ []) a b x y least most first second is1 is2 =
    let p : string_bytes u ≡ x = sym (ap string_bytes first) ∙ is1 in
    let q : string_bytes v ≡ y = sym (ap string_bytes second) ∙ is2 in
    cc
two_words (u ∷ v ∷ w ∷ rest) a b x y least most first second is1 is2 = absurd (omega (arith, most))

pub three_words : (words : List (String Global)) (a b c : String Global) (x y z : List ℕ) → 3 ≤ length words → length words < 4 → a ≡ get_or words 0 a
    → b ≡ get_or words 1 b → c ≡ get_or words 2 c → string_bytes a ≡ x → string_bytes b ≡ y → string_bytes c ≡ z → AreWords words (x ∷ y ∷ z ∷ [])
three_words [] a b c x y z least most first second third is1 is2 is3 = absurd (omega (arith, least))
three_words (u ∷ []) a b c x y z least most first second third is1 is2 is3 = absurd (omega (arith, least))
three_words (u ∷ v ∷ []) a b c x y z least most first second third is1 is2 is3 = absurd (omega (arith, least))
three_words (u ∷ v ∷ w ∷ []) a b c x y z least most first second third is1 is2 is3 =
    let p : string_bytes u ≡ x = sym (ap string_bytes first) ∙ is1 in
    let q : string_bytes v ≡ y = sym (ap string_bytes second) ∙ is2 in
    let r : string_bytes w ≡ z = sym (ap string_bytes third) ∙ is3 in
    cc
three_words (u ∷ v ∷ w ∷ t ∷ rest) a b c x y z least most first second third is1 is2 is3 = absurd (omega (arith, most))

pub four_words : (words : List (String Global)) (a b c d : String Global) (x y z k : List ℕ) → 4 ≤ length words → length words < 5 → a ≡ get_or words 0 a
    → b ≡ get_or words 1 b → c ≡ get_or words 2 c → d ≡ get_or words 3 d → string_bytes a ≡ x → string_bytes b ≡ y → string_bytes c ≡ z → string_bytes d ≡ k
    → AreWords words (x ∷ y ∷ z ∷ k ∷ [])
four_words [] a b c d x y z k least most first second third fourth is1 is2 is3 is4 = absurd (omega (arith, least))
four_words (u ∷ []) a b c d x y z k least most first second third fourth is1 is2 is3 is4 = absurd (omega (arith, least))
four_words (u ∷ v ∷ []) a b c d x y z k least most first second third fourth is1 is2 is3 is4 = absurd (omega (arith, least))
four_words (u ∷ v ∷ w ∷ []) a b c d x y z k least most first second third fourth is1 is2 is3 is4 = absurd (omega (arith, least))
four_words (u ∷ v ∷ w ∷ t ∷ []) a b c d x y z k least most first second third fourth is1 is2 is3 is4 =
    let p : string_bytes u ≡ x = sym (ap string_bytes first) ∙ is1 in
    let q : string_bytes v ≡ y = sym (ap string_bytes second) ∙ is2 in
    let r : string_bytes w ≡ z = sym (ap string_bytes third) ∙ is3 in
    let s : string_bytes t ≡ k = sym (ap string_bytes fourth) ∙ is4 in
    cc
four_words (u ∷ v ∷ w ∷ t ∷ o ∷ rest) a b c d x y z k least most first second third fourth is1 is2 is3 is4 = absurd (omega (arith, most))
