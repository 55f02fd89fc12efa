-- A list with one of the options of each place is among all of these.
use Rattle.std.proofs.Common.{◌≡◌, ◌<◌, ◌+◌, ℕ, zero, suc, List, [], ◌∷◌, ◌++◌, length, drop, map, slice_index_or, refl, sym, ap, ◌∙◌, subst, arith}
use Rattle.std.proofs.Common.{add-one, append-nil, append_assoc}
use Rattle.std.specs.Prelude.{Contains, flat_map}
use Rattle.std.specs.List.{AllZip}
use Rattle.std.proofs.lemmas.List.Elements.{Contains-append_left, Contains-append_right}
use Rattle.call_flows.specs.Lists.{longer, product_from, with_each}

mapped_at : {A B : Type 0} (f : A → B) (xs : List A) (x : A) (k : ℕ) → k < length xs → slice_index_or xs k x ≡ x → Contains (map f xs) (f x)
mapped_at f [] x k lt is = absurd (omega (arith, lt))
mapped_at f (y ∷ ys) x zero lt is = (0, omega arith, ap f is)
mapped_at f (y ∷ ys) x (suc k) lt is = let rest = mapped_at f ys x k (omega (arith, lt)) is in (suc rest.0, omega (arith, rest.1), rest.2)

flat_at : {A B : Type 0} (f : A → List B) (xs : List A) (x : A) (y : B) (k : ℕ) → k < length xs → slice_index_or xs k x ≡ x → Contains (f x) y
    → Contains (flat_map f xs) y
flat_at f [] x y k lt is here = absurd (omega (arith, lt))
flat_at f (z ∷ zs) x y zero lt is here = Contains-append_left (f z) (flat_map f zs) y (subst (λ w. Contains (f w) y) (sym is) here)
flat_at f (z ∷ zs) x y (suc k) lt is here = Contains-append_right (f z) (flat_map f zs) y (flat_at f zs x y k (omega (arith, lt)) is here)

longer_has : (options : List ℕ) (lists : List (List ℕ)) (codes : List ℕ) (code : ℕ) → Contains lists codes → Contains options code →
    Contains (longer options lists) (codes ++ code ∷ [])
longer_has options lists codes code list option =
    flat_at (with_each options) lists codes (codes ++ code ∷ []) list.0 list.1 list.2
    (mapped_at (λ o. codes ++ o ∷ []) options code option.0 option.1 option.2)

from_has : (places lists : List (List ℕ)) (first codes : List ℕ) → Contains lists first → AllZip Contains places codes
    → Contains (product_from lists places) (first ++ codes)
from_has [] lists first [] here all = subst (λ l. Contains lists l) (sym (append-nil first)) here
from_has [] lists first (code ∷ codes) here all = absurd all
from_has (options ∷ places) lists first [] here all = absurd all
from_has (options ∷ places) lists first (code ∷ codes) here all =
    subst (λ l. Contains (product_from lists (options ∷ places)) l) (append_assoc first (code ∷ []) codes)
    (from_has places (longer options lists) (first ++ code ∷ []) codes (longer_has options lists first code here all.0) all.1)

pub product_has : (places : List (List ℕ)) (codes : List ℕ) → AllZip Contains places codes → Contains (product_from ([] ∷ []) places) codes
product_has places codes all = from_has places ([] ∷ []) [] codes (0, omega arith, refl) all

-- one place more
product_drop : (places lists : List (List ℕ)) (n : ℕ) (options : List ℕ) → n < length places → slice_index_or places n options ≡ options →
    product_from lists (drop n places) ≡ product_from (longer options lists) (drop (suc n) places)
product_drop [] lists n options lt is = absurd (omega (arith, lt))
product_drop (p ∷ ps) lists zero options lt is = ap (λ o. product_from (longer o lists) ps) is
product_drop (p ∷ ps) lists (suc n) options lt is = product_drop ps lists n options (omega (arith, lt)) is

pub one_place : (places lists more : List (List ℕ)) (n : ℕ) (options : List ℕ) (all : List (List ℕ)) → n < length places
    → slice_index_or places n options ≡ options →
    more ≡ longer options lists → product_from lists (drop n places) ≡ all → product_from more (drop (n + 1) places) ≡ all
one_place places lists more n options all lt is so was =
    rw add-one (ap (λ l. product_from l (drop (suc n) places)) so ∙ (sym (product_drop places lists n options lt is) ∙ was))
