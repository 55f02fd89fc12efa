-- Literals renamed one after another, and the cube of them.
use Rattle.std.proofs.Common.{inl, inr, ◌⊎◌, ◌≡◌, ◌≢◌, ℕ, ◌+◌, ◌<◌, ◌≤◌, Bool, List, [], ◌∷◌, ◌++◌, length, map, take, get_or, All, Any, Contains, if◌then◌else◌, subst, arith, refl, ap, sym, ◌∙◌}
use Rattle.std.proofs.Math.Seq.{take-length}
use Rattle.std.proofs.lemmas.List.{map-append, take_more}
use Rattle.std.proofs.lemmas.List.Elements.{All-contains, Contains-append_left, Contains-get_or, Contains-push, Contains-push_cases}
use Rattle.std.specs.Ordering.{is_gt, ordering_reverse}
use Rattle.std.specs.declared.cmp.Ordering.{Ordering}
use Rattle.std.specs.declared.cmp.Ordering.TheVariants.{Less, Equal, Greater}
use Rattle.access_paths.proofs.Exact.{terms_exact}
use Rattle.access_paths.proofs.Members.{of_map}
use Rattle.access_paths.proofs.Orders.{terms_total}
use Rattle.access_paths.specs.{AreRenamed, HasVariable, IsAdded, IsLiteral, IsRenamed, KeepsApart, compare_terms, literal, renamed, renamed_term}
use Rattle.access_paths.specs.declared.term.Cube.{Cube}
use Rattle.access_paths.specs.declared.term.Literal.{Literal}
use Rattle.access_paths.specs.declared.term.Term.{Term}

-- a literal of the cube has its two variables there
pub has_less : (c : Cube) (ls : List Literal) (k : ℕ) (l : Literal) → ls ≡ c.literals → k < length ls → l ≡ get_or ls k l → HasVariable c l.less.var.0
has_less c ls k l is within at =
    let P : List Literal → Type 0 = λ ms. Any (λ m. (m.less.var.0 ≡ l.less.var.0) ⊎ (m.more.var.0 ≡ l.less.var.0)) ms in
    subst P is (k, l, within, sym at, inl refl)

pub has_more : (c : Cube) (ls : List Literal) (k : ℕ) (l : Literal) → ls ≡ c.literals → k < length ls → l ≡ get_or ls k l → HasVariable c l.more.var.0
has_more c ls k l is within at =
    let P : List Literal → Type 0 = λ ms. Any (λ m. (m.less.var.0 ≡ l.more.var.0) ⊎ (m.more.var.0 ≡ l.more.var.0)) ms in
    subst P is (k, l, within, sym at, inr refl)

pub all_members : {X : Type 0} (P : X → Type 0) (xs : List X) → ((x : X) → Contains xs x → P x) → All P xs
all_members P xs each = λ k d within. each (get_or xs k d) (Contains-get_or xs k d within)

in_order : (same : Bool) (t u : Term) (o : Ordering) → o ≡ compare_terms t u → t ≢ u
    → IsLiteral (if is_gt o then record { same = same; less = u; more = t } else record { same = same; less = t; more = u })
in_order same t u Less is apart = sym is
in_order same t u Equal is apart = absurd (apart (terms_exact t u (sym is)))
in_order same t u Greater is apart = terms_total.antisymm u t ∙ ap ordering_reverse (sym is)

-- two different terms make a literal
pub makes_literal : (same : Bool) (t u : Term) → t ≢ u → IsLiteral (literal same t u)
makes_literal same t u apart = in_order same t u (compare_terms t u) refl apart

-- one literal more
more_renamed : (other : ℕ → ℕ) (ls : List Literal) (k : ℕ) (l : Literal) (made new : List Literal) → k < length ls → l ≡ get_or ls k l
    → AreRenamed other (take k ls) made → IsAdded (renamed other l) made new → AreRenamed other (take (k + 1) ls) new
more_renamed other ls k l made new within at so_far added =
    let now : map (renamed other) (take (k + 1) ls) ≡ map (renamed other) (take k ls) ++ renamed other l ∷ [] =
    ap (map (renamed other)) (take_more ls k l within ∙ ap (λ m. take k ls ++ m ∷ []) (sym at)) ∙ map-append (renamed other) (take k ls) (l ∷ []) in
    let done = map (renamed other) (take k ls) in
    record {
      order = added.order;
      literals = λ m. (
        λ is. let P : List Literal → Type 0 = λ ms. Contains ms m in
            subst P (sym now) (elim ((added.literals m).0 is) [
              | inl same ↦ let Q : Literal → Type 0 = Contains (done ++ renamed other l ∷ []) in subst Q same (Contains-push done (renamed other l))
              | inr before ↦ Contains-append_left done (renamed other l ∷ []) m ((so_far.literals m).0 before)
            ]),
        λ is. let P : List Literal → Type 0 = λ ms. Contains ms m in
            (added.literals m).1 (elim (Contains-push_cases done (renamed other l) m (subst P now is)) [
              | inl before ↦ inr ((so_far.literals m).1 before)
              | inr same ↦ inl same
            ]),
      );
    }

pub one_more_renamed : (other : ℕ → ℕ) (ls : List Literal) (k : ℕ) (l m : Literal) (made new : List Literal) → k < length ls → l ≡ get_or ls k l
    → m ≡ renamed other l → AreRenamed other (take k ls) made → IsAdded m made new → AreRenamed other (take (k + 1) ls) new
one_more_renamed other ls k l m made new within at is so_far added =
    let P : Literal → Type 0 = λ one. IsAdded one made new in
    more_renamed other ls k l made new within at so_far (subst P is added)

-- all literals renamed are the renamed cube
pub all_renamed : (other : ℕ → ℕ) (c d : Cube) → KeepsApart other c → AreRenamed other c.literals d.literals → IsRenamed other c d
all_renamed other c d apart are = record {
  cube = record {
    literals = all_members IsLiteral d.literals (λ m is.
        let from = of_map (renamed other) c.literals m ((are.literals m).0 is) in
        let l = from.0 in
        subst IsLiteral from.2
        (makes_literal l.same (renamed_term other l.less) (renamed_term other l.more)
        (All-contains (λ k. renamed_term other k.less ≢ renamed_term other k.more) c.literals l apart from.1)));
    order = are.order;
  };
  literals = are.literals;
}

-- likewise at the end of a loop
pub whole_renamed : (other : ℕ → ℕ) (c : Cube) (ls made whole : List Literal) (k : ℕ) → KeepsApart other c → ls ≡ c.literals → length ls ≤ k → k ≤ length ls
    → AreRenamed other (take k ls) made → whole ≡ made → IsRenamed other c (record { literals = whole })
whole_renamed other c ls made whole k apart is up down are same =
    let end : k ≡ length ls = omega arith in
    let all : take k ls ≡ c.literals = ap (λ n. take n ls) end ∙ take-length ls ∙ is in
    let P : List Literal → Type 0 = λ ms. AreRenamed other ms made in
    let Q : List Literal → Type 0 = AreRenamed other c.literals in
    all_renamed other c (record { literals = whole }) apart (subst Q (sym same) (subst P all are))
