-- Rules that enclose what another rule prints.
use Rattle.std.proofs.Common.{◌≡◌, ℕ, true, List, [], ◌∷◌, ◌++◌, sym, ap, ◌∙◌, subst}
use Rattle.std.specs.Str.{all_scalars}
use Rattle.easl_model.specs.{IsMark, mark_text}
use Rattle.easl_model.specs.declared.token.Mark.{Mark}
use Rattle.easl_model.specs.declared.token.Token.{Token}
use Rattle.cv_layout.specs.{IsOf, IsProper, Lexeme, mark}
use Rattle.cv_layout.proofs.Printed.{Prints}
use Rattle.cv_layout.proofs.Single.{is_mark, mark_proper}
use Rattle.cv_layout.proofs.Splits.{all_both, split, headed, ending}

-- a first token, what is within, and a last mark, of which a tree is made with the first token's place
pub enclosed : {A B C D : Type 0} {S : List ℕ → List Token → A → Type 0} {T : List ℕ → List Token → C → Type 0} {bare : A → B}
    (x : Lexeme) (n : Mark) (P : Token → Type 0) → IsProper x → all_scalars (mark_text n) ≡ true → ((text : List ℕ) (t : Token) → IsOf text t x → P t)
    → (make : Token → A → C) (plain : C → D) (f : B → D) → ((o : Token) (y : A) → plain (make o y) ≡ f (bare y))
    → ((text : List ℕ) (o c : Token) (ts : List Token) (y : A) → P o → S text ts y → IsMark n c → T text (o ∷ ts ++ c ∷ []) (make o y))
    → (b : B) (xs : List Lexeme) → Prints S bare b xs → Prints T plain (f b) (x ∷ xs ++ mark n ∷ [])
enclosed {T = T} x n P proper scalars is make plain f moved rule b xs h = record {
  proper = (proper, all_both _ xs (mark n ∷ []) h.proper (mark_proper n scalars, tt));
  again = λ other us m.
      let o = headed other us x (xs ++ mark n ∷ []) m in
      let s = split other o.1 xs (mark n ∷ []) o.4 in
      let c = headed other s.1 (mark n) [] s.4 in
      let r = h.again other s.0 s.3 in
      let e : us ≡ o.0 ∷ s.0 ++ c.0 ∷ [] = o.2 ∙ ap (λ l. o.0 ∷ l) (s.2 ∙ ap (λ l. s.0 ++ l) (c.2 ∙ ap (λ l. c.0 ∷ l) (ending other c.1 c.4))) in (
        make o.0 r.0,
        subst (λ l. T other l (make o.0 r.0)) (sym e) (rule other o.0 c.0 s.0 r.0 (is other o.0 o.3) r.1 (is_mark other n c.0 c.3)),
        moved o.0 r.0 ∙ ap f r.2,
      );
}
