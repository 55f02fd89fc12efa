-- Names that are given a second time, one after another.
use Rattle.std.proofs.Common.{◌≡◌, ℕ, ◌+◌, ◌<◌, ◌||◌, Bool, List, [], ◌∷◌, ◌++◌, ap, drop, get_or, length, map, refl, sym, take, ◌∙◌}
use Rattle.std.specs.List.{list_any}
use Rattle.std.specs.Prelude.{Option}
use Rattle.std.proofs.lemmas.List.{drop_more, take_more, map-append}
use Rattle.std.proofs.lemmas.Simd.{map-map}
use Rattle.client_model.specs.Lookups.{is_same}
use Rattle.client_model.specs.Faults.{Duplicate, Fault, broken_if, comes_before}
use Rattle.client_model.specs.HeaderFaults.{second_names}
use Rattle.easl_model.proofs.Finding.{both}
use Rattle.easl_model.specs.Faults.{first_with}
use Rattle.easl_model.specs.declared.tree.Word.{Word}

-- the names before, the first of what was found so far, and what is found in the end
pub record Seconds {A : Type 0} (name : A → Word) (xs : List A) (k : ℕ) (table : List (List ℕ)) (found all : Option Fault) : Type 0 where
  pub before : table ≡ map (λ x. (name x).name) (take k xs)
  pub left : first_with comes_before found (second_names (map name (take k xs)) (map name (drop k xs))) ≡ all

pub any_map : {A B : Type 0} (p : B → Bool) (f : A → B) (xs : List A) → list_any (λ x. p (f x)) xs ≡ list_any p (map f xs)
any_map p f [] = refl
any_map p f (x ∷ xs) = ap (λ b. p (f x) || b) (any_map p f xs)

-- one more word is compared with those before it
pub second_more : {A : Type 0} (name : A → Word) (xs : List A) (k : ℕ) (x : A) (before behind : List (List ℕ)) (found next all : Option Fault)
    → k < length xs → x ≡ get_or xs k x
    → next ≡ first_with comes_before found (broken_if (list_any (λ n. is_same n (name x).name) before) Duplicate (name x).place)
    → behind ≡ before ++ (name x).name ∷ []
    → Seconds name xs k before found all → Seconds name xs (k + 1) behind next all
second_more name xs k x before behind found next all within at told grown s =
    let here = map name (take k xs) in
    let ws = map name (drop (k + 1) xs) in
    let now = broken_if (list_any (λ w. is_same w.name (name x).name) here) Duplicate (name x).place in
    let item : get_or xs k x ≡ x = sym at in
    let taken : take (k + 1) xs ≡ take k xs ++ x ∷ [] = take_more xs k x within ∙ ap (λ y. take k xs ++ y ∷ []) item in
    let rest : drop k xs ≡ x ∷ drop (k + 1) xs = drop_more xs k x within ∙ ap (λ y. y ∷ drop (k + 1) xs) item in
    let same : list_any (λ n. is_same n (name x).name) before ≡ list_any (λ w. is_same w.name (name x).name) here =
    ap (list_any (λ n. is_same n (name x).name)) (s.before ∙ sym (map-map (λ w. w.name) name (take k xs)))
    ∙ sym (any_map (λ n. is_same n (name x).name) (λ w. w.name) here) in
    let words : map name (take (k + 1) xs) ≡ here ++ name x ∷ [] = ap (map name) taken ∙ map-append name (take k xs) (x ∷ []) in
    record {
      before = grown ∙ ap (λ ns. ns ++ (name x).name ∷ []) s.before ∙ sym (ap (map (λ y. (name y).name)) taken ∙ map-append (λ y. (name y).name) (take k xs) (x ∷ []));
      left =
          ap (λ vs. first_with comes_before next (second_names vs ws)) words
          ∙ ap (λ f. first_with comes_before f (second_names (here ++ name x ∷ []) ws)) (told ∙ ap (λ b. first_with comes_before found (broken_if b Duplicate (name x).place)) same)
          ∙ sym (both comes_before found now (second_names (here ++ name x ∷ []) ws))
          ∙ sym (ap (λ ys. first_with comes_before found (second_names here (map name ys))) rest)
          ∙ s.left;
    }
