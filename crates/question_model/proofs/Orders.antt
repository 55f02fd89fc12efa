-- Terms that the order does not tell apart are the same.
use Rattle.std.proofs.Common.{◌≡◌, ℕ, true, ◌&&◌, List, length, refl, ap, sym, ◌∙◌, eqb-true}
use Rattle.std.specs.Cmp.{first_so, nat_cmp_total, second_so, unsigned_ties}
use Rattle.std.specs.Cmp.Lexicographic.{bytes_decides, nat_list_cmp_total, slice_cmp, texts_ties}
use Rattle.std.specs.declared.cmp.Ordering.{Ordering}
use Rattle.std.specs.declared.cmp.Ordering.TheVariants.{Less, Equal, Greater}
use Rattle.std.specs.Ordering.{is_eq, nat_cmp, ordering_reverse, ordering_then}
use Rattle.access_paths.specs.{compare_terms, term}
use Rattle.access_paths.specs.declared.term.Term.{Term}
use Rattle.question_model.specs.{is_term}

then_equal : (o p : Ordering) → ordering_then o p ≡ Equal → (o ≡ Equal) × (p ≡ Equal)
then_equal Less p e = absurd (cc)
then_equal Equal p e = (refl, e)
then_equal Greater p e = absurd (cc)

same_number : (x y : ℕ) → nat_cmp x y ≡ Equal → x ≡ y
same_number x y e = eqb-true x y (unsigned_ties x y ∙ ap is_eq e)

same_list : (xs ys : List ℕ) → slice_cmp nat_cmp xs ys ≡ Equal → xs ≡ ys
same_list xs ys e = (bytes_decides xs ys).0 (texts_ties xs ys ∙ ap is_eq e)

pub same_term : (t u : Term) → compare_terms t u ≡ Equal → t ≡ u
same_term t u e =
    let rest = then_equal (nat_cmp (length t.fields) (length u.fields)) (ordering_then (nat_cmp t.var.0 u.var.0) (slice_cmp nat_cmp t.fields u.fields)) e in
    let both = then_equal (nat_cmp t.var.0 u.var.0) (slice_cmp nat_cmp t.fields u.fields) rest.1 in
    let variable = same_number t.var.0 u.var.0 both.0 in
    let fields = same_list t.fields u.fields both.1 in
    λ i. term (variable i) (fields i)

equal_is : (o : Ordering) → is_eq o ≡ true → o ≡ Equal
equal_is Less e = absurd (cc)
equal_is Equal e = refl
equal_is Greater e = absurd (cc)

pub are_terms : (a t b u : Term) → (is_term a t && is_term b u) ≡ true → (a ≡ t) × (b ≡ u)
are_terms a t b u e = (
  same_term a t (equal_is (compare_terms a t) (first_so (is_term a t) (is_term b u) e)),
  same_term b u (equal_is (compare_terms b u) (second_so (is_term a t) (is_term b u) e)),
)

numbers_turn : (x y : ℕ) → nat_cmp x y ≡ ordering_reverse (nat_cmp y x)
numbers_turn = nat_cmp_total.antisymm

both_turn : (o p a b : Ordering) → o ≡ ordering_reverse a → p ≡ ordering_reverse b → ordering_then o p ≡ ordering_reverse (ordering_then a b)
both_turn o p Less b e f = ap (λ x. ordering_then x p) e
both_turn o p Equal b e f = ap (λ x. ordering_then x p) e ∙ f
both_turn o p Greater b e f = ap (λ x. ordering_then x p) e

terms_turn : (t u : Term) → compare_terms t u ≡ ordering_reverse (compare_terms u t)
terms_turn t u =
    both_turn (nat_cmp (length t.fields) (length u.fields)) (ordering_then (nat_cmp t.var.0 u.var.0) (slice_cmp nat_cmp t.fields u.fields))
    (nat_cmp (length u.fields) (length t.fields)) (ordering_then (nat_cmp u.var.0 t.var.0) (slice_cmp nat_cmp u.fields t.fields))
    (numbers_turn (length t.fields) (length u.fields))
    (both_turn (nat_cmp t.var.0 u.var.0) (slice_cmp nat_cmp t.fields u.fields) (nat_cmp u.var.0 t.var.0) (slice_cmp nat_cmp u.fields t.fields)
    (numbers_turn t.var.0 u.var.0) (nat_list_cmp_total.antisymm t.fields u.fields))

reversed : (o : Ordering) → Greater ≡ ordering_reverse o → o ≡ Less
reversed Less e = refl
reversed Equal e = absurd (cc)
reversed Greater e = absurd (cc)

pub greater_less : (t u : Term) → compare_terms t u ≡ Greater → compare_terms u t ≡ Less
greater_less t u e = reversed (compare_terms u t) (sym e ∙ terms_turn t u)
