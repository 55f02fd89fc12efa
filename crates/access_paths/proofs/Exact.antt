-- What compares as equal is one.
use Rattle.std.proofs.Common.{◌≡◌, Bool, true, false, not, List, [], ◌∷◌, length, refl, ap₂}
use Rattle.std.proofs.lemmas.Map.Lookups.{exact_bytes, exact_unsigned}
use Rattle.std.specs.Cmp.Lexicographic.{slice_cmp}
use Rattle.std.specs.Ordering.{nat_cmp, bool_cmp, ordering_then}
use Rattle.std.specs.declared.cmp.Ordering.{Ordering}
use Rattle.std.specs.declared.cmp.Ordering.TheVariants.{Less, Equal, Greater}
use Rattle.access_paths.specs.{compare_cubes, compare_instances, compare_literals, compare_terms, term}
use Rattle.access_paths.specs.declared.term.Cube.{Cube}
use Rattle.access_paths.specs.declared.term.Instance.{Instance}
use Rattle.access_paths.specs.declared.term.Literal.{Literal}
use Rattle.access_paths.specs.declared.term.Term.{Term}
use Rattle.access_paths.specs.declared.term.Var.{Var}

first_equal : (a b : Ordering) → ordering_then a b ≡ Equal → a ≡ Equal
first_equal Less b e = cc
first_equal Equal b e = refl
first_equal Greater b e = cc

second_equal : (a b : Ordering) → ordering_then a b ≡ Equal → b ≡ Equal
second_equal Less b e = cc
second_equal Equal b e = e
second_equal Greater b e = cc

lists_exact : {X : Type 0} (R : X → X → Ordering) → ((x y : X) → R x y ≡ Equal → x ≡ y) → (xs ys : List X) → slice_cmp R xs ys ≡ Equal → xs ≡ ys
lists_exact R exact [] [] e = refl
lists_exact R exact [] (y ∷ ys) e = cc
lists_exact R exact (x ∷ xs) [] e = cc
lists_exact R exact (x ∷ xs) (y ∷ ys) e =
    ap₂ (λ z zs. z ∷ zs) (exact x y (first_equal (R x y) (slice_cmp R xs ys) e)) (lists_exact R exact xs ys (second_equal (R x y) (slice_cmp R xs ys) e))

bools_exact : (a b : Bool) → bool_cmp (not a) (not b) ≡ Equal → a ≡ b
bools_exact true true e = refl
bools_exact true false e = cc
bools_exact false true e = cc
bools_exact false false e = refl

pub terms_exact : (t u : Term) → compare_terms t u ≡ Equal → t ≡ u
terms_exact t u e =
    let rest = second_equal (nat_cmp (length t.fields) (length u.fields)) (ordering_then (nat_cmp t.var.0 u.var.0) (slice_cmp nat_cmp t.fields u.fields)) e in
    ap₂ term
    (exact_unsigned t.var.0 u.var.0 (first_equal (nat_cmp t.var.0 u.var.0) (slice_cmp nat_cmp t.fields u.fields) rest))
    (exact_bytes t.fields u.fields (second_equal (nat_cmp t.var.0 u.var.0) (slice_cmp nat_cmp t.fields u.fields) rest))

pub literals_exact : (l m : Literal) → compare_literals l m ≡ Equal → l ≡ m
literals_exact l m e =
    let less = terms_exact l.less m.less (first_equal (compare_terms l.less m.less) (ordering_then (compare_terms l.more m.more) (bool_cmp (not l.same) (not m.same))) e) in
    let rest = second_equal (compare_terms l.less m.less) (ordering_then (compare_terms l.more m.more) (bool_cmp (not l.same) (not m.same))) e in
    let more = terms_exact l.more m.more (first_equal (compare_terms l.more m.more) (bool_cmp (not l.same) (not m.same)) rest) in
    let same = bools_exact l.same m.same (second_equal (compare_terms l.more m.more) (bool_cmp (not l.same) (not m.same)) rest) in
    λ i. record { same = same i; less = less i; more = more i }

cubes_exact : (c d : Cube) → compare_cubes c d ≡ Equal → c ≡ d
cubes_exact c d e =
    let literals = lists_exact compare_literals literals_exact c.literals d.literals (second_equal (nat_cmp (length c.literals) (length d.literals)) (slice_cmp compare_literals c.literals d.literals) e) in
    λ i. record { literals = literals i }

vars_exact : (a b : Var) → nat_cmp a.0 b.0 ≡ Equal → a ≡ b
vars_exact a b e = let same = exact_unsigned a.0 b.0 e in λ i. record { 0 = same i }

pub instances_exact : (i j : Instance) → compare_instances i j ≡ Equal → i ≡ j
instances_exact i j e =
    let by_classes = slice_cmp nat_cmp i.family.classes j.family.classes in
    let by_args = slice_cmp (λ (a b : Var). nat_cmp a.0 b.0) i.args j.args in
    let rest = second_equal (compare_cubes i.family.cube j.family.cube) (ordering_then by_classes by_args) e in
    let cube = cubes_exact i.family.cube j.family.cube (first_equal (compare_cubes i.family.cube j.family.cube) (ordering_then by_classes by_args) e) in
    let classes = exact_bytes i.family.classes j.family.classes (first_equal by_classes by_args rest) in
    let args = lists_exact (λ (a b : Var). nat_cmp a.0 b.0) vars_exact i.args j.args (second_equal by_classes by_args rest) in
    λ k. record { family = record { classes = classes k; cube = cube k }; args = args k }
