-- Types and parameters that are printed and read again are the same, places aside.
use Rattle.std.proofs.Common.{◌≡◌, ℕ, true, List, [], ◌∷◌, map, refl, sym, ap, ◌∙◌, subst}
use Rattle.std.specs.Str.{all_scalars}
use Rattle.easl_model.specs.Grammar.{opaque_key, IsType, opaque_type, class_type, IsResult, no_result, some_result, IsParam, param, IsParams, params}
use Rattle.easl_model.specs.Lexemes.{word_of, IsMark}
use Rattle.easl_model.specs.Tokens.{key_text}
use Rattle.easl_model.specs.declared.token.Key.TheVariants as keyword
use Rattle.easl_model.specs.declared.token.Mark.TheVariants as sign
use Rattle.easl_model.specs.declared.token.Token.{Token}
use Rattle.easl_model.specs.declared.tree.Opaque.{Opaque}
use Rattle.easl_model.specs.declared.tree.Opaque.TheVariants as opaque
use Rattle.easl_model.specs.declared.tree.Param.{Param}
use Rattle.easl_model.specs.declared.tree.Sort.{Sort}
use Rattle.easl_model.specs.declared.tree.Sort.TheVariants as sorts
use Rattle.easl_model.specs.declared.tree.Word.{Word}
use Rattle.cv_layout.specs.Layout.{key, mark, separated}
use Rattle.cv_layout.specs.Words.{named, nowhere, bare_word}
use Rattle.cv_layout.proofs.Enclosed.{enclosed}
use Rattle.cv_layout.proofs.ListPrints.{listed_print}
use Rattle.cv_layout.proofs.Printed.{AreWritten, Prints}
use Rattle.cv_layout.proofs.Single.{is_mark, is_key, is_name, mark_proper, key_proper, name_proper, same_word}
use Rattle.cv_layout.proofs.Splits.{all_front, headed, alone}
use Rattle.easl_print.specs.Bare.{bare_sort, bare_param}
use Rattle.easl_print.specs.Lines.{sort}
use Rattle.easl_print.specs.Lines as lines

abbrev param_of : Sort → Word → Param
param_of s n = record { place = nowhere; sort = s; name = n }

opaque_scalars : (o : Opaque) → all_scalars (key_text (opaque_key o)) ≡ true
opaque_scalars opaque.Object = refl
opaque_scalars opaque.Int = refl
opaque_scalars opaque.Boolean = refl
opaque_scalars opaque.String = refl

module _ (text : List ℕ) where
  pub type_print : (ts : List Token) (x : Sort) → AreWritten text ts → IsType text ts x → Prints IsType bare_sort (bare_sort x) (sort x ∷ [])
  type_print _ _ a (opaque_type {o = o} k) = record {
    proper = (key_proper (opaque_key o) (opaque_scalars o), tt);
    again = λ other us m.
        let y = headed other us (key (opaque_key o)) [] m in
        let all : us ≡ y.0 ∷ [] = y.2 ∙ ap (λ u. y.0 ∷ u) (alone other us (key (opaque_key o)) m) in
        (sorts.Opaque o, subst (λ u. IsType other u (sorts.Opaque o)) (sym all) (opaque_type (is_key other (opaque_key o) y.0 y.3)), refl);
  }
  type_print _ _ a (class_type {t = t} {w = w} n) = record {
    proper = (name_proper text t w a.0 n, tt);
    again = λ other us m.
        let y = headed other us (named w) [] m in
        let v = word_of other y.0 in
        let all : us ≡ y.0 ∷ [] = y.2 ∙ ap (λ u. y.0 ∷ u) (alone other us (named w) m) in (
          sorts.Class v,
          subst (λ u. IsType other u (sorts.Class v)) (sym all) (class_type (is_name text other t y.0 w a.0 n y.3)),
          ap sorts.Class
              (same_word v w y.3.written),
        );
  }

  pub result_print : (ts : List Token) (x : Sort) → AreWritten text ts → IsResult text ts x → Prints IsResult bare_sort (bare_sort x) (sort x ∷ [])
  result_print _ _ a (no_result k) = record {
    proper = (key_proper keyword.Void refl, tt);
    again = λ other us m.
        let y = headed other us (key keyword.Void) [] m in
        let all : us ≡ y.0 ∷ [] = y.2 ∙ ap (λ u. y.0 ∷ u) (alone other us (key keyword.Void) m) in
        (sorts.Void, subst (λ u. IsResult other u sorts.Void) (sym all) (no_result (is_key other keyword.Void y.0 y.3)), refl);
  }
  result_print ts x a (some_result h) =
      let f = type_print ts x a h in
      record { proper = f.proper; again = λ other us m. let r = f.again other us m in (r.0, some_result r.1, r.2) }

  param_print : (ts : List Token) (x : Param) → AreWritten text ts → IsParam text ts x → Prints IsParam bare_param (bare_param x) (lines.param x)
  param_print _ _ a (param {t = t} {name = name} {n = n} {x = x} h i) =
      let f = type_print (t ∷ []) x (a.0, tt) h in
      record {
        proper = (f.proper.0, (name_proper text name n a.1.0 i, tt));
        again = λ other us m.
            let d = headed other us (sort x) (named n ∷ []) m in
            let y = headed other d.1 (named n) [] d.4 in
            let r = f.again other (d.0 ∷ []) (d.3, tt) in
            let v = word_of other y.0 in
            let made : Param = record { place = d.0.place; sort = r.0; name = v } in
            let all : us ≡ d.0 ∷ y.0 ∷ [] = d.2 ∙ ap (λ u. d.0 ∷ u) (y.2 ∙ ap (λ u. y.0 ∷ u) (alone other d.1 (named n) d.4)) in (
              made,
              subst (λ u. IsParam other u made) (sym all) (param r.1 (is_name text other name y.0 n a.1.0 i y.3)),
              ap (λ u. param_of u (bare_word v)) r.2 ∙ ap (param_of (bare_sort x)) (same_word v n y.3.written),
            );
      }

  pub params_print : (ts : List Token) (xs : List Param) → AreWritten text ts → IsParams text ts xs → Prints IsParams (map bare_param) (map bare_param xs)
      (lines.params xs)
  params_print _ xs a (params {closing = closing} {ts = ts} o l z) =
      enclosed (mark sign.Open) sign.Close (IsMark sign.Open) (mark_proper sign.Open refl) refl (λ t o i. is_mark t sign.Open o i)
      (λ o y. y) (map bare_param) (λ c. c) (λ o y. refl) (λ t o c ts y i k j. params i k j)
      (map bare_param xs) (separated sign.Comma (map lines.param xs))
      (listed_print IsParam bare_param lines.param text param_print ts xs (all_front _ ts (closing ∷ []) a.1) l)
