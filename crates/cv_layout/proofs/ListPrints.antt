-- Lists of items, of which each that is printed spells itself again.
use Rattle.std.proofs.Common.{ℕ, List, [], ◌∷◌, ◌++◌, map, flat_map, refl, sym, ap, ◌∙◌, subst}
use Rattle.easl_model.specs.{IsListed, IsMany, IsMore, listed, next_of, no_more, none_of, nothing, one_more}
use Rattle.easl_model.specs.declared.token.Mark.TheVariants as sign
use Rattle.easl_model.specs.declared.token.Token.{Token}
use Rattle.cv_layout.specs.{Lexeme, behind, mark, separated}
use Rattle.cv_layout.proofs.Printed.{AreWritten, Prints}
use Rattle.cv_layout.proofs.Single.{is_mark, mark_proper}
use Rattle.cv_layout.proofs.Splits.{all_front, all_back, all_both, split, headed, ending}

module _ {A B : Type 0} (I : List ℕ → List Token → A → Type 0) (bare : A → B) (print : A → List Lexeme) (text : List ℕ)
    (item : (ts : List Token) (x : A) → AreWritten text ts → I text ts x → Prints I bare (bare x) (print x)) where
  pub more_print : (ts : List Token) (xs : List A) → AreWritten text ts → IsMore (I text) ts xs → Prints (λ t. IsMore (I t)) (map bare) (map bare xs)
      (behind sign.Comma (map print xs))
  more_print _ _ a no_more = record { proper = tt; again = λ other us m. ([], subst (λ v. IsMore (I other) v []) (sym (ending other us m)) no_more, refl) }
  more_print _ _ a (one_more {ts = ts} {us = us} {x = x} {xs = xs} k i h) =
      let one = item ts x (all_front _ ts us a.1) i in
      let rest = more_print us xs (all_back _ ts us a.1) h in
      let tail = behind sign.Comma (map print xs) in
      record {
        proper = (mark_proper sign.Comma refl, all_both _ (print x) tail one.proper rest.proper);
        again = λ other us m.
            let c = headed other us (mark sign.Comma) (print x ++ tail) m in
            let s = split other c.1 (print x) tail c.4 in
            let r = one.again other s.0 s.3 in
            let q = rest.again other s.1 s.4 in (
              r.0 ∷ q.0,
              subst (λ v. IsMore (I other) v (r.0 ∷ q.0)) (sym (c.2 ∙ ap (λ v. c.0 ∷ v) s.2)) (one_more (is_mark other sign.Comma c.0 c.3) r.1 q.1),
              ap (λ y. y ∷ map bare q.0) r.2 ∙ ap (λ ys. bare x ∷ ys) q.2,
            );
      }

  pub listed_print : (ts : List Token) (xs : List A) → AreWritten text ts → IsListed (I text) ts xs → Prints (λ t. IsListed (I t)) (map bare) (map bare xs)
      (separated sign.Comma (map print xs))
  listed_print _ _ a nothing =
      record { proper = tt; again = λ other us m. ([], subst (λ v. IsListed (I other) v []) (sym (ending other us m)) nothing, refl) }
  listed_print _ _ a (listed {ts = ts} {us = us} {x = x} {xs = xs} i h) =
      let one = item ts x (all_front _ ts us a) i in
      let rest = more_print us xs (all_back _ ts us a) h in
      let tail = behind sign.Comma (map print xs) in
      record {
        proper = all_both _ (print x) tail one.proper rest.proper;
        again = λ other us m.
            let s = split other us (print x) tail m in
            let r = one.again other s.0 s.3 in
            let q = rest.again other s.1 s.4 in (
              r.0 ∷ q.0,
              subst (λ v. IsListed (I other) v (r.0 ∷ q.0)) (sym s.2) (listed r.1 q.1),
              ap (λ y. y ∷ map bare q.0) r.2 ∙ ap (λ ys. bare x ∷ ys) q.2,
            );
      }

  pub many_print : (ts : List Token) (xs : List A) → AreWritten text ts → IsMany (I text) ts xs → Prints (λ t. IsMany (I t)) (map bare) (map bare xs)
      (flat_map print xs)
  many_print _ _ a none_of = record { proper = tt; again = λ other us m. ([], subst (λ v. IsMany (I other) v []) (sym (ending other us m)) none_of, refl) }
  many_print _ _ a (next_of {ts = ts} {us = us} {x = x} {xs = xs} i h) =
      let one = item ts x (all_front _ ts us a) i in
      let rest = many_print us xs (all_back _ ts us a) h in
      record {
        proper = all_both _ (print x) (flat_map print xs) one.proper rest.proper;
        again = λ other us m.
            let s = split other us (print x) (flat_map print xs) m in
            let r = one.again other s.0 s.3 in
            let q = rest.again other s.1 s.4 in
            (r.0 ∷ q.0, subst (λ v. IsMany (I other) v (r.0 ∷ q.0)) (sym s.2) (next_of r.1 q.1), ap (λ y. y ∷ map bare q.0) r.2 ∙ ap (λ ys. bare x ∷ ys) q.2);
      }
