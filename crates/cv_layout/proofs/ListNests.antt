-- Lists of items, of which each that is printed nests no deeper than the tokens that it was read from.
use Rattle.std.proofs.Common.{◌≡◌, ℕ, false, List, [], ◌∷◌, ◌++◌, map, flat_map, IsTrue, refl, subst}
use Rattle.easl_model.specs.{IsListed, IsLiteral, IsMany, IsMore, is_literal, listed, next_of, no_more, none_of, nothing, one_more}
use Rattle.easl_model.specs.declared.token.Kind.TheVariants as kind
use Rattle.easl_model.specs.declared.token.Mark.{Mark}
use Rattle.easl_model.specs.declared.token.Mark.TheVariants as sign
use Rattle.easl_model.specs.declared.token.Token.{Token}
use Rattle.easl_model.specs.declared.tree.Word.{Word}
use Rattle.cv_layout.specs.{Lexeme, behind, mark, named, separated}
use Rattle.cv_layout.proofs.Nesting.{Nests, no_mark_flat, nests_nothing, nests_both, nests_flat, nests_mark, word_no_mark}
use Rattle.cv_layout.proofs.Printed.{IsWritten, AreWritten}
use Rattle.cv_layout.proofs.Splits.{all_front, all_back}

-- one token before others
pub then : (t : Token) (ts : List Token) (x : Lexeme) (xs : List Lexeme) → Nests (t ∷ []) (x ∷ []) → Nests ts xs → Nests (t ∷ ts) (x ∷ xs)
then t ts x xs f g = nests_both (t ∷ []) ts (x ∷ []) xs f g

module _ (text : List ℕ) where
  -- lists of items
  pub more_nest : {A : Type 0} (I : List Token → A → Type 0) (print : A → List Lexeme) →
      ((ts : List Token) (x : A) → AreWritten text ts → I ts x → Nests ts (print x)) → (ts : List Token) (xs : List A) → AreWritten text ts → IsMore I ts xs
      → Nests ts (behind sign.Comma (map print xs))
  more_nest I print item _ _ a no_more = nests_nothing
  more_nest I print item _ _ a (one_more {comma = c} {ts = ts} {us = us} {x = x} {xs = xs} k i h) =
      then c (ts ++ us) (mark sign.Comma) _ (nests_mark sign.Comma c k (λ b. refl))
      (nests_both ts us _ _ (item ts x (all_front _ ts us a.1) i) (more_nest I print item us xs (all_back _ ts us a.1) h))

  pub listed_nest : {A : Type 0} (I : List Token → A → Type 0) (print : A → List Lexeme) →
      ((ts : List Token) (x : A) → AreWritten text ts → I ts x → Nests ts (print x)) → (ts : List Token) (xs : List A) → AreWritten text ts
      → IsListed I ts xs → Nests ts (separated sign.Comma (map print xs))
  listed_nest I print item _ _ a nothing = nests_nothing
  listed_nest I print item _ _ a (listed {ts = ts} {us = us} {x = x} {xs = xs} i h) =
      nests_both ts us _ _ (item ts x (all_front _ ts us a) i) (more_nest I print item us xs (all_back _ ts us a) h)

  pub many_nest : {A : Type 0} (I : List Token → A → Type 0) (print : A → List Lexeme) →
      ((ts : List Token) (x : A) → AreWritten text ts → I ts x → Nests ts (print x)) → (ts : List Token) (xs : List A) → AreWritten text ts → IsMany I ts xs
      → Nests ts (flat_map print xs)
  many_nest I print item _ _ a none_of = nests_nothing
  many_nest I print item _ _ a (next_of {ts = ts} {us = us} {x = x} {xs = xs} i h) =
      nests_both ts us _ _ (item ts x (all_front _ ts us a) i) (many_nest I print item us xs (all_back _ ts us a) h)

  pub literal_nest : (t : Token) (w : Word) → IsWritten text t → IsLiteral text t w → Nests (t ∷ []) (named w ∷ [])
  literal_nest t w a l = nests_flat t (named w) (λ b. no_mark_flat b t.kind no_mark) (λ b. refl) (word_no_mark text t w a l.word no_mark)
    where
      no_mark : (m : Mark) → t.kind ≡ kind.Mark m → ⊥
      no_mark m e = let f : IsTrue false = subst (λ k. IsTrue (is_literal k)) e l.kind in cc
