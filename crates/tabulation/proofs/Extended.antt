-- Lists of edges with more of them.
use Rattle.std.proofs.Common.{◌≡◌, ℕ, ◌+◌, ◌<◌, ◌⊎◌, inr, inl, ⊎_elim, List, [], ◌∷◌, ◌++◌, length, take, get_or, Contains, arith, sym, subst}
use Rattle.std.proofs.lemmas.List.Elements.{Contains-append_cases, Contains-append_left, Contains-append_right, Contains-get_or}
use Rattle.client_facts.proofs.Inserted.{single}
use Rattle.client_walks.specs.declared.edge.Edge.{Edge}
use Rattle.tabulation.proofs.Contained.{among_cases, among_early, among_last, among_none}
use Rattle.tabulation.specs.Extended.{IsExtended, IsOfOne}

-- with nothing more
pub nothing : (P : Edge → Type 0) (a : List Edge) → ((y : Edge) → P y → ⊥) → IsExtended P a a
nothing P a never = record { kept = λ y has. has; added = λ y is. absurd (never y is); only = λ y has. inl has }

-- with one more
put_behind : (a : List Edge) (x : Edge) → IsExtended (λ y. y ≡ x) a (a ++ x ∷ [])
put_behind a x = record {
  kept = λ y has. Contains-append_left a (x ∷ []) y has;
  added = λ y is. Contains-append_right a (x ∷ []) y (subst (Contains (x ∷ [])) (sym is) (Contains-get_or (x ∷ []) 0 x (omega arith)));
  only = λ y has. ⊎_elim (λ old. inl old) (λ last. inr (single x y last)) (Contains-append_cases a (x ∷ []) y has);
}

pub pushed : (a b : List Edge) (x : Edge) → b ≡ a ++ x ∷ [] → IsExtended (λ y. y ≡ x) a b
pushed a b x is = subst (IsExtended (λ y. y ≡ x) a) (sym is) (put_behind a x)

-- the same by another name
pub same : (P Q : Edge → Type 0) (a b : List Edge) → IsExtended P a b → ((y : Edge) → P y → Q y) → ((y : Edge) → Q y → P y) → IsExtended Q a b
same P Q a b e to from = record {
  kept = e.kept;
  added = λ y is. e.added y (from y is);
  only = λ y has. ⊎_elim (λ old. inl old) (λ new. inr (to y new)) (e.only y has);
}

-- twice
pub both : (P Q : Edge → Type 0) (a b c : List Edge) → IsExtended P a b → IsExtended Q b c → IsExtended (λ y. P y ⊎ Q y) a c
both P Q a b c first second = record {
  kept = λ y has. second.kept y (first.kept y has);
  added = λ y is. ⊎_elim (λ p. second.kept y (first.added y p)) (λ q. second.added y q) is;
  only = λ y has. ⊎_elim (λ mid. ⊎_elim (λ old. inl old) (λ p. inr (inl p)) (first.only y mid)) (λ q. inr (inr q)) (second.only y has);
}

module _ {A : Type 0} (R : A → Edge → Type 0) (items : List A) where
  pub none : (a : List Edge) → IsExtended (IsOfOne R (take 0 items)) a a
  none a = nothing (IsOfOne R (take 0 items)) a (λ y of. among_none items of.item of.among)

  pub more : (i : ℕ) (x : A) (a b c : List Edge) → i < length items → x ≡ get_or items i x → IsExtended (IsOfOne R (take i items)) a b → IsExtended (R x) b c →
      IsExtended (IsOfOne R (take (i + 1) items)) a c
  more i x a b c h is first second = same (λ y. IsOfOne R (take i items) y ⊎ R x y) (IsOfOne R (take (i + 1) items)) a c
      (both (IsOfOne R (take i items)) (R x) a b c first second) to from
    where
      to : (y : Edge) → IsOfOne R (take i items) y ⊎ R x y → IsOfOne R (take (i + 1) items) y
      to y (inl of) = record { item = of.item; among = among_early items i x h is of.item of.among; has = of.has }
      to y (inr r) = record { item = x; among = among_last items i x h is; has = r }

      from : (y : Edge) → IsOfOne R (take (i + 1) items) y → IsOfOne R (take i items) y ⊎ R x y
      from y of =
          ⊎_elim (λ old. inl (record { item = of.item; among = old; has = of.has })) (λ last. inr (subst (λ z. R z y) last of.has))
          (among_cases items i x h is of.item of.among)
