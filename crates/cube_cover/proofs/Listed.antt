-- The literals of a term list are in order, and each between two terms of one class is there.
use Rattle.std.proofs.Common.{◌≡◌, ℕ, zero, suc, ◌<◌, ◌==◌, Bool, true, false, List, [], ◌∷◌, ◌++◌, Some, refl, ap, sym, subst, ◌∙◌, inl, inr, arith}
use Rattle.std.specs.Prelude.{slice_get}
use Rattle.std.specs.declared.cmp.Ordering.TheVariants.{Less}
use Rattle.std.proofs.lemmas.Bool.Decides.{Decides-eqb}
use Rattle.access_paths.specs.{compare_terms}
use Rattle.access_paths.specs.declared.term.Literal.{Literal}
use Rattle.access_paths.specs.declared.term.Term.{Term}
use Rattle.cube_search.specs.Lists.{Each, IsIn, Rises}
use Rattle.cube_search.proofs.Lists.{each-append, each-in, each-weaker, in-left, in-right, rises-append}
use Rattle.cube_cover.specs.{both_if, literal, literals_over, literals_with}
use Rattle.cube_cover.proofs.Order.{IsLessLiteral, less_first, less_second, less_third}

abbrev pub IsLessTerm : Term → Term → Type 0
IsLessTerm t u = compare_terms t u ≡ Less

-- its first term is this one, and its second one of these
abbrev IsWith : Term → List Term → Literal → Type 0
IsWith t us l = (l.less ≡ t) × IsIn l.more us

with_more : (t u : Term) (us : List Term) (l : Literal) → IsWith t us l → IsWith t (u ∷ us) l
with_more t u us l is = (is.0, inr is.1)

with_parts : (t : Term) (class : ℕ) (us : List Term) (ks : List ℕ) → Each (IsWith t us) (literals_with t class us ks)
with_parts t class [] ks = tt
with_parts t class (u ∷ us) [] = tt
with_parts t class (u ∷ us) (k ∷ ks) =
    by (k == class) (each-weaker (IsWith t us) (IsWith t (u ∷ us)) (with_more t u us) (literals_with t class us ks) (with_parts t class us ks))
  where
    by : (b : Bool) → Each (IsWith t (u ∷ us)) (literals_with t class us ks)
        → Each (IsWith t (u ∷ us)) (both_if b t u ++ literals_with t class us ks)
    by true rest = ((refl, inl refl), ((refl, inl refl), rest))
    by false rest = rest

with_rises : (t : Term) (class : ℕ) (us : List Term) (ks : List ℕ) → Rises IsLessTerm us → Rises IsLessLiteral (literals_with t class us ks)
with_rises t class [] ks up = tt
with_rises t class (u ∷ us) [] up = tt
with_rises t class (u ∷ us) (k ∷ ks) up = by (k == class) (with_rises t class us ks up.1)
  where
    before : (same : Bool) → Each (IsLessLiteral (literal same t u)) (literals_with t class us ks)
    before same =
        each-weaker (IsWith t us) (IsLessLiteral (literal same t u))
        (λ l is. less_second (literal same t u) l (sym is.0) (each-in (IsLessTerm u) us l.more up.0 is.1)) (literals_with t class us ks)
        (with_parts t class us ks)

    by : (b : Bool) → Rises IsLessLiteral (literals_with t class us ks)
        → Rises IsLessLiteral (both_if b t u ++ literals_with t class us ks)
    by true rest = (
      (less_third (literal true t u) (literal false t u) refl refl refl refl, before true),
      (before false, rest),
    )
    by false rest = rest

-- its terms are of these, the lesser first
abbrev pub IsAmong : List Term → Literal → Type 0
IsAmong ts l = IsIn l.less ts × IsIn l.more ts × IsLessTerm l.less l.more

pub over_parts : (ts : List Term) (ks : List ℕ) → Rises IsLessTerm ts → Each (IsAmong ts) (literals_over ts ks)
over_parts [] ks up = tt
over_parts (t ∷ ts) [] up = tt
over_parts (t ∷ ts) (k ∷ ks) up =
    each-append (IsAmong (t ∷ ts)) (literals_with t k ts ks) (literals_over ts ks)
    (each-weaker (IsWith t ts) (IsAmong (t ∷ ts))
    (λ l is. (inl (sym is.0), inr is.1, subst (λ z. IsLessTerm z l.more) (sym is.0) (each-in (IsLessTerm t) ts l.more up.0 is.1)))
    (literals_with t k ts ks) (with_parts t k ts ks))
    (each-weaker (IsAmong ts) (IsAmong (t ∷ ts)) (λ l is. (inr is.0, inr is.1, is.2)) (literals_over ts ks) (over_parts ts ks up.1))

pub over_rises : (ts : List Term) (ks : List ℕ) → Rises IsLessTerm ts → Rises IsLessLiteral (literals_over ts ks)
over_rises [] ks up = tt
over_rises (t ∷ ts) [] up = tt
over_rises (t ∷ ts) (k ∷ ks) up =
    rises-append IsLessLiteral (literals_with t k ts ks) (literals_over ts ks) (with_rises t k ts ks up.1) (over_rises ts ks up.1)
    (each-weaker (IsAmong ts) (λ m. Each (λ l. IsLessLiteral l m) (literals_with t k ts ks))
    (λ m among.
    each-weaker (IsWith t ts) (λ l. IsLessLiteral l m)
    (λ l is. less_first l m (subst (λ z. IsLessTerm z m.less) (sym is.0) (each-in (IsLessTerm t) ts m.less up.0 among.0)))
    (literals_with t k ts ks) (with_parts t k ts ks))
    (literals_over ts ks) (over_parts ts ks up.1))

with_in : (t : Term) (class : ℕ) (us : List Term) (ks : List ℕ) (j : ℕ) (u : Term) (same : Bool) → slice_get us j ≡ Some u → slice_get ks j ≡ Some class
    → IsIn (literal same t u) (literals_with t class us ks)
with_in t class [] ks j u same at of = absurd (cc)
with_in t class (v ∷ us) [] j u same at of = absurd (cc)
with_in t class (v ∷ us) (k ∷ ks) zero u same at of =
    let its : k ≡ class = cc in
    let there : v ≡ u = cc in
    by (k == class) same ((Decides-eqb k class).1 its) there
  where
    by : (b same : Bool) → b ≡ true → v ≡ u
        → IsIn (literal same t u) (both_if b t v ++ literals_with t class us ks)
    by true true e there = inl (ap (literal true t) there)
    by true false e there = inr (inl (ap (literal false t) there))
    by false same e there = absurd (cc)
with_in t class (v ∷ us) (k ∷ ks) (suc j) u same at of = by (k == class) (with_in t class us ks j u same at of)
  where
    by : (b : Bool) → IsIn (literal same t u) (literals_with t class us ks)
        → IsIn (literal same t u) (both_if b t v ++ literals_with t class us ks)
    by true rest = inr (inr rest)
    by false rest = rest

-- a literal between terms of one class
pub over_in : (ts : List Term) (ks : List ℕ) (i j : ℕ) (t u : Term) (class : ℕ) (same : Bool) → i < j → slice_get ts i ≡ Some t → slice_get ts j ≡ Some u
    → slice_get ks i ≡ Some class → slice_get ks j ≡ Some class → IsIn (literal same t u) (literals_over ts ks)
over_in [] ks i j t u class same before at at' of of' = absurd (cc)
over_in (v ∷ ts) [] i j t u class same before at at' of of' = absurd (cc)
over_in (v ∷ ts) (k ∷ ks) i zero t u class same before at at' of of' = absurd (omega arith)
over_in (v ∷ ts) (k ∷ ks) zero (suc j) t u class same before at at' of of' =
    let first : v ≡ t = cc in
    let its : k ≡ class = cc in
    in-left (literals_with v k ts ks) (literals_over ts ks) (literal same t u)
    (subst (λ z. IsIn (literal same z u) (literals_with v k ts ks)) first
    (with_in v k ts ks j u same at' (of' ∙ ap Some (sym its))))
over_in (v ∷ ts) (k ∷ ks) (suc i) (suc j) t u class same before at at' of of' =
    in-right (literals_with v k ts ks) (literals_over ts ks) (literal same t u) (over_in ts ks i j t u class same (omega arith) at at' of of')
