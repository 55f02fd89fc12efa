-- Which tokens the tests of kinds let through.
use Rattle.std.proofs.Common.{◌≡◌, ℕ, Bool, true, false, List, refl, sym, ap, subst}
use denote.Enum.Bare.{same_true, true_same}
use Rattle.easl_model.specs.{IsKey, IsLiteral, IsMark, IsName, is_literal, word_of}
use Rattle.easl_model.specs.contracts.token.Key.{the_type as the_keys}
use Rattle.easl_model.specs.contracts.token.Mark.{the_type as the_marks}
use Rattle.easl_model.specs.declared.token.Key.{Key}
use Rattle.easl_model.specs.declared.token.Kind.{Kind}
use Rattle.easl_model.specs.declared.token.Kind.TheVariants as kind
use Rattle.easl_model.specs.declared.token.Mark.{Mark}
use Rattle.easl_model.specs.declared.token.Token.{Token}
use Rattle.easl_model.specs.declared.tree.Word.{Word}
use Rattle.cv_read.specs.{is_key, is_mark, is_name}
use Rattle.cv_read.proofs.Laws.{Is, true_is}

pub is_so : (b : Bool) → Is b → b ≡ true
is_so true h = refl
is_so false h = absurd h

pub mark_kind : (m : Mark) (k : Kind) → Is (is_mark m k) → k ≡ kind.Mark m
mark_kind m (kind.Mark n) h = ap kind.Mark (same_true the_marks tt n m (is_so _ h))
mark_kind m kind.Name h = absurd h
mark_kind m kind.Number h = absurd h
mark_kind m kind.Text h = absurd h
mark_kind m (kind.Key k) h = absurd h

pub mark_self : (m : Mark) → Is (is_mark m (kind.Mark m))
mark_self m = true_is _ (true_same the_marks m m refl)

pub mark_to : (m : Mark) (t : Token) → Is (is_mark m t.kind) → IsMark m t
mark_to m t h = record { kind = mark_kind m t.kind h }

pub mark_from : (m : Mark) (t : Token) → IsMark m t → Is (is_mark m t.kind)
mark_from m t h = subst (λ k. Is (is_mark m k)) (sym h.kind) (mark_self m)

pub key_kind : (w : Key) (k : Kind) → Is (is_key w k) → k ≡ kind.Key w
key_kind w (kind.Key v) h = ap kind.Key (same_true the_keys tt v w (is_so _ h))
key_kind w kind.Name h = absurd h
key_kind w kind.Number h = absurd h
key_kind w kind.Text h = absurd h
key_kind w (kind.Mark m) h = absurd h

pub key_self : (w : Key) → Is (is_key w (kind.Key w))
key_self w = true_is _ (true_same the_keys w w refl)

pub key_to : (w : Key) (t : Token) → Is (is_key w t.kind) → IsKey w t
key_to w t h = record { kind = key_kind w t.kind h }

pub key_from : (w : Key) (t : Token) → IsKey w t → Is (is_key w t.kind)
key_from w t h = subst (λ k. Is (is_key w k)) (sym h.kind) (key_self w)

name_kind : (k : Kind) → Is (is_name k) → k ≡ kind.Name
name_kind kind.Name h = refl
name_kind kind.Number h = absurd h
name_kind kind.Text h = absurd h
name_kind (kind.Key k) h = absurd h
name_kind (kind.Mark m) h = absurd h

pub name_to : (text : List ℕ) (t : Token) (w : Word) → Is (is_name t.kind) → w ≡ word_of text t → IsName text t w
name_to text t w h e = record { kind = name_kind t.kind h; word = e }

pub name_from : (text : List ℕ) (t : Token) (w : Word) → IsName text t w → Is (is_name t.kind)
name_from text t w h = subst (λ k. Is (is_name k)) (sym h.kind) tt

pub literal_to : (text : List ℕ) (t : Token) (w : Word) → Is (is_literal t.kind) → w ≡ word_of text t → IsLiteral text t w
literal_to text t w h e = record { kind = is_so (is_literal t.kind) h; word = e }

pub literal_from : (text : List ℕ) (t : Token) (w : Word) → IsLiteral text t w → Is (is_literal t.kind)
literal_from text t w h = true_is (is_literal t.kind) h.kind
