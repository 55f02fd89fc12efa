-- First positions after a name is put behind the others.
use Rattle.std.proofs.Common.{◌≡◌, ◌≢◌, ℕ, suc, ◌+◌, ◌<◌, Bool, true, false, List, [], ◌∷◌, ◌++◌, ap, length, refl, subst, sym, ◌∙◌, arith}
use Rattle.std.proofs.lemmas.Map.Text.{btree_map_updates_text}
use Rattle.std.proofs.lemmas.Slice.Eq.{bytes_eq-Decides}
use Rattle.std.specs.BTreeMap.{BTreeMap, UpdatesBy, get_by_text}
use Rattle.std.specs.Bool.{Decides}
use Rattle.std.specs.Cmp.Lexicographic.{slice_cmp}
use Rattle.std.specs.List.{position_from}
use Rattle.std.specs.Option.{option_or}
use Rattle.std.specs.Ordering.{nat_cmp}
use Rattle.std.specs.Prelude.{IsUtf8, Option, Some, None, String, bytes_eq, chars, cond, is_some, string_bytes, string_cmp}
use Rattle.easl_model.proofs.SameNames.{same_text}
use Rattle.easl_model.specs.Names.{is_same}
use Rattle.name_table.specs.Firsts.{HasFirsts, position_of}

one_decision : {P Q : Type 0} (r s : Bool) → Decides r P → Decides s Q → (P → Q) → (Q → P) → r ≡ s
one_decision true true first second there back = refl
one_decision true false first second there back = sym (second.1 (there (first.0 refl)))
one_decision false true first second there back = first.1 (back (second.0 refl))
one_decision false false first second there back = refl

-- bytes are one where their characters are
pub same_test : (bytes other name : List ℕ) → IsUtf8 bytes → IsUtf8 other → chars bytes ≡ name → bytes_eq bytes other ≡ is_same name (chars other)
same_test bytes other name text other_text spell =
    one_decision (bytes_eq bytes other) (is_same name (chars other)) (bytes_eq-Decides bytes other) (bytes_eq-Decides name (chars other))
    (λ same. sym spell ∙ ap chars same) (λ same. same_text bytes other text other_text (spell ∙ same))

-- with one more item
position_push : {A : Type 0} (p : A → Bool) (k : ℕ) (xs : List A) (x : A) → position_from p k (xs ++ x ∷ []) ≡ option_or (position_from p k xs) (cond (p x) (Some (k + length xs)) None)
position_push p k [] x = by (p x)
  where
    by : (b : Bool) → cond b (Some k) None ≡ option_or None (cond b (Some (k + 0)) None)
    by true = ap Some (omega arith)
    by false = refl
position_push p k (y ∷ ys) x = by (p y) (position_push p (k + 1) ys x)
  where
    by : (b : Bool) → position_from p (k + 1) (ys ++ x ∷ []) ≡ option_or (position_from p (k + 1) ys) (cond (p x) (Some (k + 1 + length ys)) None)
        → cond b (Some k) (position_from p (k + 1) (ys ++ x ∷ [])) ≡ option_or (cond b (Some k) (position_from p (k + 1) ys)) (cond (p x) (Some (k + suc (length ys))) None)
    by true later = refl
    by false later =
        let further : k + 1 + length ys ≡ k + suc (length ys) = omega arith in
        later ∙ ap (λ n. option_or (position_from p (k + 1) ys) (cond (p x) (Some n) None)) further

position_below : {A : Type 0} (p : A → Bool) (k : ℕ) (xs : List A) (n : ℕ) → position_from p k xs ≡ Some n → n < k + length xs
position_below p k [] n is = absurd cc
position_below p k (y ∷ ys) n is = by (p y) (position_below p (k + 1) ys n) is
  where
    by : (b : Bool) → (position_from p (k + 1) ys ≡ Some n → n < k + 1 + length ys) → cond b (Some k) (position_from p (k + 1) ys) ≡ Some n → n < k + suc (length ys)
    by true below here = let same : k ≡ n = cc in omega arith
    by false below later = let under : n < k + 1 + length ys = below later in omega arith

pub first_below : (name : List ℕ) (names : List (List ℕ)) (n : ℕ) → position_of name names ≡ Some n → n < length names
first_below name names n is = let below = position_below (λ x. is_same x name) 0 names n is in omega arith

-- what was found, else the last where it is so
abbrev or_last : Option ℕ → Bool → ℕ → Option ℕ
or_last found so last = option_or found (cond so (Some last) None)

-- a text's first position, with the name of these bytes behind the others
pushed : (names : List (List ℕ)) (name bytes other : List ℕ) → IsUtf8 bytes → chars bytes ≡ name → IsUtf8 other
    → position_of (chars other) (names ++ name ∷ []) ≡ or_last (position_of (chars other) names) (bytes_eq bytes other) (length names)
pushed names name bytes other text spell other_text =
    let none_before : 0 + length names ≡ length names = omega arith in
    position_push (λ x. is_same x (chars other)) 0 names name
    ∙ ap (λ n. option_or (position_of (chars other) names) (cond (is_same name (chars other)) (Some n) None)) none_before
    ∙ ap (λ b. or_last (position_of (chars other) names) b (length names)) (sym (same_test bytes other name text other_text spell))

or_none : {A : Type 0} (found : Option A) → option_or found None ≡ found
or_none None = refl
or_none (Some x) = refl

-- the name is there already
pub noted_already : {X : Type 0} (names : List (List ℕ)) (name bytes : List ℕ) (firsts : BTreeMap (String X) ℕ) → IsUtf8 bytes → chars bytes ≡ name
    → is_some (get_by_text firsts bytes) ≡ true → HasFirsts names firsts → HasFirsts (names ++ name ∷ []) firsts
noted_already names name bytes firsts text spell there has other other_text = by (bytes_eq bytes other) (bytes_eq-Decides bytes other) (pushed names name bytes other text spell other_text)
  where
    some : (found : Option ℕ) (n : ℕ) → is_some found ≡ true → found ≡ option_or found (Some n)
    some None n is = absurd cc
    some (Some x) n is = refl

    by : (b : Bool) → Decides b (bytes ≡ other) → position_of (chars other) (names ++ name ∷ []) ≡ or_last (position_of (chars other) names) b (length names)
        → get_by_text firsts other ≡ position_of (chars other) (names ++ name ∷ [])
    by true decides is =
        some (get_by_text firsts other) (length names) (subst (λ t. is_some (get_by_text firsts t) ≡ true) (decides.0 refl) there)
        ∙ ap (λ found. option_or found (Some (length names))) (has other other_text) ∙ sym is
    by false decides is = has other other_text ∙ sym (or_none (position_of (chars other) names)) ∙ sym is

-- the name is new
pub noted_now : {X : Type 0} (names : List (List ℕ)) (name bytes : List ℕ) (old new : BTreeMap (String X) ℕ) (position : ℕ) → IsUtf8 bytes → chars bytes ≡ name
    → is_some (get_by_text old bytes) ≡ false → UpdatesBy string_cmp (λ k. slice_cmp nat_cmp bytes (string_bytes k)) old new (Some position)
    → HasFirsts names old → length names ≡ position → HasFirsts (names ++ name ∷ []) new
noted_now names name bytes old new position text spell absent updates has count other other_text =
    btree_map_updates_text bytes old new (Some position) updates other
    ∙ by (bytes_eq bytes other) (bytes_eq-Decides bytes other) (pushed names name bytes other text spell other_text)
  where
    none : (found : Option ℕ) → is_some found ≡ false → found ≡ None
    none None is = refl
    none (Some x) is = absurd cc

    by : (b : Bool) → Decides b (bytes ≡ other) → position_of (chars other) (names ++ name ∷ []) ≡ or_last (position_of (chars other) names) b (length names)
        → cond b (Some position) (get_by_text old other) ≡ position_of (chars other) (names ++ name ∷ [])
    by true decides is =
        let not_some : is_some (get_by_text old other) ≡ false = subst (λ t. is_some (get_by_text old t) ≡ false) (decides.0 refl) absent in
        let none_there : position_of (chars other) names ≡ None = sym (has other other_text) ∙ none (get_by_text old other) not_some in
        ap Some (sym count) ∙ ap (λ found. option_or found (Some (length names))) (sym none_there) ∙ sym is
    by false decides is = has other other_text ∙ sym (or_none (position_of (chars other) names)) ∙ sym is

-- what a first position was before the name of these bytes came behind the others
before : {X : Type 0} (names : List (List ℕ)) (name bytes : List ℕ) (firsts : BTreeMap (String X) ℕ) → IsUtf8 bytes → chars bytes ≡ name
    → HasFirsts (names ++ name ∷ []) firsts → (other : List ℕ) → IsUtf8 other
    → get_by_text firsts other ≡ or_last (position_of (chars other) names) (bytes_eq bytes other) (length names)
before names name bytes firsts text spell has other other_text = has other other_text ∙ pushed names name bytes other text spell other_text

-- the last name, which was the first of its kind, is gone
pub forgotten : {X : Type 0} (names : List (List ℕ)) (name bytes : List ℕ) (old new : BTreeMap (String X) ℕ) (position : ℕ) → IsUtf8 bytes → chars bytes ≡ name
    → get_by_text old bytes ≡ Some position → UpdatesBy string_cmp (λ k. slice_cmp nat_cmp bytes (string_bytes k)) old new None
    → HasFirsts (names ++ name ∷ []) old → length names ≡ position → HasFirsts names new
forgotten names name bytes old new position text spell first updates has count other other_text =
    btree_map_updates_text bytes old new None updates other
    ∙ by (bytes_eq bytes other) (bytes_eq-Decides bytes other) (before names name bytes old text spell has other other_text)
  where
    none_before : (found : Option ℕ) → position_of (chars other) names ≡ found → Some position ≡ option_or found (Some (length names)) → None ≡ found
    none_before None is same = refl
    none_before (Some k) is same =
        let here : position ≡ k = cc in
        let below = first_below (chars other) names k is in
        absurd (omega arith)

    by : (b : Bool) → Decides b (bytes ≡ other) → get_by_text old other ≡ or_last (position_of (chars other) names) b (length names)
        → cond b None (get_by_text old other) ≡ position_of (chars other) names
    by true decides is = none_before (position_of (chars other) names) refl (sym (subst (λ t. get_by_text old t ≡ Some position) (decides.0 refl) first) ∙ is)
    by false decides is = is ∙ or_none (position_of (chars other) names)

-- the last name, which stands before, is gone
pub forgotten_second : {X : Type 0} (names : List (List ℕ)) (name bytes : List ℕ) (firsts : BTreeMap (String X) ℕ) (position : ℕ) → IsUtf8 bytes → chars bytes ≡ name
    → get_by_text firsts bytes ≢ Some position → HasFirsts (names ++ name ∷ []) firsts → length names ≡ position → HasFirsts names firsts
forgotten_second names name bytes firsts position text spell second has count other other_text =
    by (bytes_eq bytes other) (bytes_eq-Decides bytes other) (before names name bytes firsts text spell has other other_text)
  where
    some_before : (found : Option ℕ) → get_by_text firsts other ≡ option_or found (Some (length names)) → get_by_text firsts other ≢ Some position → get_by_text firsts other ≡ found
    some_before None is other_place = absurd (other_place (is ∙ ap Some count))
    some_before (Some k) is other_place = is

    by : (b : Bool) → Decides b (bytes ≡ other) → get_by_text firsts other ≡ or_last (position_of (chars other) names) b (length names)
        → get_by_text firsts other ≡ position_of (chars other) names
    by true decides is = some_before (position_of (chars other) names) is (subst (λ t. get_by_text firsts t ≢ Some position) (decides.0 refl) second)
    by false decides is = is ∙ or_none (position_of (chars other) names)
