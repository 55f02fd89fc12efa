-- The order of literals.
use Rattle.std.proofs.Common.{◌≡◌, Bool, true, false, not, ap, ap₂, sym, ◌∙◌}
use Rattle.std.specs.Ordering.{bool_cmp, is_eq, ordering_then}
use Rattle.std.specs.declared.cmp.Ordering.TheVariants.{Less, Equal}
use Rattle.std.proofs.lemmas.Cmp.{tied_itself}
use Rattle.access_paths.specs.{compare_literals, compare_terms}
use Rattle.access_paths.specs.declared.term.Literal.{Literal}
use Rattle.access_paths.specs.declared.term.Term.{Term}
use Rattle.access_paths.proofs.Ascending.{equal_is}
use Rattle.access_paths.proofs.Exact.{literals_exact}
use Rattle.access_paths.proofs.Orders.{literals_total, terms_total}
use Rattle.cube_search.proofs.Literals.{IsStrict}

abbrev pub IsLessLiteral : Literal → Literal → Type 0
IsLessLiteral l m = compare_literals l m ≡ Less

abbrev pub same_literal : Literal → Literal → Bool
same_literal l m = is_eq (compare_literals l m)

pub strict_literals : IsStrict IsLessLiteral same_literal
strict_literals = record {
  irreflexive = λ l less. let tied : compare_literals l l ≡ Equal = tied_itself literals_total l in cc;
  along = λ l m n a b. literals_total.trans l m n a b;
  one = λ l m h. literals_exact l m (equal_is (compare_literals l m) h);
  itself = λ l. ap is_eq (tied_itself literals_total l);
}

pub term_not_less : (t u : Term) → t ≡ u → compare_terms t u ≡ Less → ⊥
term_not_less t u same less = let tied : compare_terms t u ≡ Equal = ap (compare_terms t) (sym same) ∙ tied_itself terms_total t in cc

-- by the first term
pub less_first : (l m : Literal) → compare_terms l.less m.less ≡ Less → IsLessLiteral l m
less_first l m less = ap (λ o. ordering_then o (ordering_then (compare_terms l.more m.more) (bool_cmp (not l.same) (not m.same)))) less

tied_first : (l m : Literal) → l.less ≡ m.less → compare_literals l m ≡ ordering_then (compare_terms l.more m.more) (bool_cmp (not l.same) (not m.same))
tied_first l m same =
    ap (λ o. ordering_then o (ordering_then (compare_terms l.more m.more) (bool_cmp (not l.same) (not m.same))))
    (ap (compare_terms l.less) (sym same) ∙ tied_itself terms_total l.less)

-- by the second term
pub less_second : (l m : Literal) → l.less ≡ m.less → compare_terms l.more m.more ≡ Less → IsLessLiteral l m
less_second l m same less = tied_first l m same ∙ ap (λ o. ordering_then o (bool_cmp (not l.same) (not m.same))) less

-- `==` first
pub less_third : (l m : Literal) → l.less ≡ m.less → l.more ≡ m.more → l.same ≡ true → m.same ≡ false → IsLessLiteral l m
less_third l m first second is not_so =
    tied_first l m first
    ∙ ap (λ o. ordering_then o (bool_cmp (not l.same) (not m.same))) (ap (compare_terms l.more) (sym second) ∙ tied_itself terms_total l.more)
    ∙ ap₂ (λ a b. bool_cmp (not a) (not b)) is not_so
