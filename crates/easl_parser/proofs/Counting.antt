-- Counting items one by one finds what is beyond a limit.
use Rattle.std.proofs.Common.{◌≡◌, ℕ, zero, suc, ◌-◌, ◌<◌, List, [], ◌∷◌, ◌++◌, map, refl, sym, ◌∙◌, ap, arith, append_assoc, append-nil}
use Rattle.std.specs.List.{flat_map}
use Rattle.std.specs.Prelude.{Option}
use Rattle.easl_model.specs.{beyond, codes_in, excess_of_code, fields_in, methods_in}
use Rattle.easl_model.specs.TreeLimits.{comes_before}
use Rattle.easl_model.specs.declared.fault.Excess.{Excess}
use Rattle.easl_model.specs.declared.fault.Which.{Which}
use Rattle.easl_model.specs.declared.fault.Which.TheVariants as which
use Rattle.easl_model.specs.declared.place.Place.{Place}
use Rattle.easl_model.specs.declared.tree.Member.{Member}
use Rattle.easl_model.specs.declared.tree.Member.TheVariants as member
use Rattle.easl_model.proofs.Finding.{both}
use Rattle.easl_parser.specs.Tallies.{count_one, first_from, tally_of}
use Rattle.easl_parser.specs.declared.tally.Tally.{Tally}

-- where more may come, one less may come
pub one_less : (w : Which) (left : ℕ) (found : Option Excess) (place : Place) → 0 < left → count_one w left found place ≡ record { left = left - 1; found = found }
one_less w zero found place more = absurd (omega arith)
one_less w (suc left) found place more = let e : suc left - 1 ≡ left = omega arith in rw e refl

-- what is counted behind a limit is the first beyond it
pub finds_beyond : (w : Which) (limit : ℕ) (found : Option Excess) (places : List Place)
    → (tally_of w (record { left = limit; found = found }) places).found ≡ first_from found (beyond limit w places)
finds_beyond w zero found [] = refl
finds_beyond w zero found (p ∷ ps) = finds_beyond w zero (count_one w zero found p).found ps
finds_beyond w (suc limit) found [] = refl
finds_beyond w (suc limit) found (p ∷ ps) = finds_beyond w limit found ps

-- some places and then others
pub in_turn : (w : Which) (start : Tally) (xs ys : List Place) → tally_of w start (xs ++ ys) ≡ tally_of w (tally_of w start xs) ys
in_turn w start [] ys = refl
in_turn w start (x ∷ xs) ys = in_turn w (count_one w start.left start.found x) xs ys

flat_both : {A B : Type 0} (f : A → List B) (xs ys : List A) → flat_map f (xs ++ ys) ≡ flat_map f xs ++ flat_map f ys
flat_both f [] ys = refl
flat_both f (x ∷ xs) ys = ap (λ zs. f x ++ zs) (flat_both f xs ys) ∙ sym (append_assoc (f x) (flat_map f xs) (flat_map f ys))

-- what some items have, and then what others have
pub each_in_turn : {A : Type 0} (found : Option Excess) (f : A → List Excess) (xs ys : List A)
    → first_from found (flat_map f (xs ++ ys)) ≡ first_from (first_from found (flat_map f xs)) (flat_map f ys)
each_in_turn found f xs ys = ap (first_from found) (flat_both f xs ys) ∙ both comes_before found (flat_map f xs) (flat_map f ys)

pub beyond_both : (w : Which) (limit : ℕ) (found : Option Excess) (xs ys : List Place)
    → (tally_of w (tally_of w (record { left = limit; found = found }) xs) ys).found ≡ first_from found (beyond limit w (xs ++ ys))
beyond_both w limit found xs ys = ap (λ (t : Tally). t.found) (sym (in_turn w (record { left = limit; found = found }) xs ys)) ∙ finds_beyond w limit found (xs ++ ys)

pub only : (found : Option Excess) (xs : List Excess) → first_from found (xs ++ []) ≡ first_from found xs
only found xs = ap (first_from found) (append-nil xs)

-- a member, and then the others
pub field_first : (start : Tally) (m : Member) (ms : List Member)
    → tally_of which.Fields start (map (λ f. f.class.place) (fields_in (m ∷ ms)))
    ≡ tally_of which.Fields (tally_of which.Fields start (map (λ f. f.class.place) (fields_in (m ∷ [])))) (map (λ f. f.class.place) (fields_in ms))
field_first start (member.Field f) ms = refl
field_first start (member.Constructor code) ms = refl
field_first start (member.Method code) ms = refl

pub method_first : (start : Tally) (m : Member) (ms : List Member)
    → tally_of which.Methods start (map (λ code. code.place) (methods_in (m ∷ ms)))
    ≡ tally_of which.Methods (tally_of which.Methods start (map (λ code. code.place) (methods_in (m ∷ [])))) (map (λ code. code.place) (methods_in ms))
method_first start (member.Field f) ms = refl
method_first start (member.Constructor code) ms = refl
method_first start (member.Method code) ms = refl

pub code_first : (found : Option Excess) (m : Member) (ms : List Member)
    → first_from found (flat_map excess_of_code (codes_in (m ∷ ms))) ≡ first_from (first_from found (flat_map excess_of_code (codes_in (m ∷ [])))) (flat_map excess_of_code (codes_in ms))
code_first found (member.Field f) ms = refl
code_first found (member.Constructor code) ms = each_in_turn found excess_of_code (code ∷ []) (codes_in ms)
code_first found (member.Method code) ms = each_in_turn found excess_of_code (code ∷ []) (codes_in ms)

-- seven lists one after another
pub seven_in_turn : (found : Option Excess) (a b c d e f g : List Excess)
    → first_from found (a ++ b ++ c ++ d ++ e ++ f ++ g)
    ≡ first_from (first_from (first_from (first_from (first_from (first_from (first_from found a) b) c) d) e) f) g
seven_in_turn found a b c d e f g =
    both comes_before found (a ++ b ++ c ++ d ++ e ++ f) g
    ∙ ap (λ o. first_from o g) (both comes_before found (a ++ b ++ c ++ d ++ e) f
    ∙ ap (λ o. first_from o f) (both comes_before found (a ++ b ++ c ++ d) e
    ∙ ap (λ o. first_from o e) (both comes_before found (a ++ b ++ c) d
    ∙ ap (λ o. first_from o d) (both comes_before found (a ++ b) c
    ∙ ap (λ o. first_from o c) (both comes_before found a b)))))
