-- What single tokens are that are written so.
use Rattle.std.proofs.Common.{◌≡◌, ℕ, true, List, IsTrue, refl, sym, ap, ◌∙◌, subst}
use Rattle.std.specs.Str.{all_scalars}
use Rattle.easl_model.specs.{IsKey, IsLiteral, IsMark, IsName, IsToken, is_literal, key_text, mark_text, word_of}
use Rattle.easl_model.specs.declared.token.Key.{Key}
use Rattle.easl_model.specs.declared.token.Kind.TheVariants as kind
use Rattle.easl_model.specs.declared.token.Mark.{Mark}
use Rattle.easl_model.specs.declared.token.Token.{Token}
use Rattle.easl_model.specs.declared.tree.Word.{Word}
use Rattle.easl_model.proofs.Pieces.{one_token}
use Rattle.cv_layout.specs.{IsOf, IsProper, bare_word, key, mark, named, nowhere}
use Rattle.cv_layout.proofs.Printed.{IsWritten}

pub is_mark : (text : List ℕ) (m : Mark) (t : Token) → IsOf text t (mark m) → IsMark m t
is_mark text m t h = record { kind = one_token t.kind (kind.Mark m) (mark_text m) h.is_token refl }

pub is_key : (text : List ℕ) (k : Key) (t : Token) → IsOf text t (key k) → IsKey k t
is_key text k t h = record { kind = one_token t.kind (kind.Key k) (key_text k) h.is_token refl }

pub mark_proper : (m : Mark) → all_scalars (mark_text m) ≡ true → IsProper (mark m)
mark_proper m s = record { kind = kind.Mark m; is_token = refl; scalars = s }

pub key_proper : (k : Key) → all_scalars (key_text k) ≡ true → IsProper (key k)
key_proper k s = record { kind = kind.Key k; is_token = refl; scalars = s }

name_token : (text : List ℕ) (t : Token) (w : Word) → IsWritten text t → IsName text t w → IsToken kind.Name w.name
name_token text t w h n = subst (IsToken kind.Name) (ap (λ (m : Word). m.name) (sym n.word)) (subst (λ k. IsToken k (word_of text t).name) n.kind h.is_token)

pub name_proper : (text : List ℕ) (t : Token) (w : Word) → IsWritten text t → IsName text t w → IsProper (named w)
name_proper text t w h n = record { kind = kind.Name; is_token = name_token text t w h n; scalars = ap (λ (m : Word). all_scalars m.name) n.word ∙ h.scalars }

pub is_name : (text other : List ℕ) (t u : Token) (w : Word) → IsWritten text t → IsName text t w → IsOf other u (named w) → IsName other u (word_of other u)
is_name text other t u w h n i = record { kind = one_token u.kind kind.Name w.name i.is_token (name_token text t w h n); word = refl }

pub same_word : (v w : Word) → v.name ≡ w.name → bare_word v ≡ bare_word w
same_word v w e = ap (λ cs. (let W : Word = record { name = cs; place = nowhere } in W)) e

literal_token : (text : List ℕ) (t : Token) (w : Word) → IsWritten text t → IsLiteral text t w → IsToken t.kind w.name
literal_token text t w h n = subst (IsToken t.kind) (ap (λ (m : Word). m.name) (sym n.word)) h.is_token

pub literal_proper : (text : List ℕ) (t : Token) (w : Word) → IsWritten text t → IsLiteral text t w → IsProper (named w)
literal_proper text t w h n =
    record { kind = t.kind; is_token = literal_token text t w h n; scalars = ap (λ (m : Word). all_scalars m.name) n.word ∙ h.scalars }

pub is_literal_again : (text other : List ℕ) (t u : Token) (w : Word) → IsWritten text t → IsLiteral text t w → IsOf other u (named w) → IsLiteral other u
    (word_of other u)
is_literal_again text other t u w h n i =
    record { kind = subst (λ k. IsTrue (is_literal k)) (sym (one_token u.kind t.kind w.name i.is_token (literal_token text t w h n))) n.kind; word = refl }
