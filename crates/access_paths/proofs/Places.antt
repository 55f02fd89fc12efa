-- The places of variables among arguments, and what a renamed cube is when its variables are put back.
use Rattle.std.proofs.Common.{inl, inr, ◌≡◌, ℕ, suc, ◌+◌, ◌<◌, Bool, true, false, not, List, [], ◌∷◌, length, Contains, Some, slice_get, cond, if◌then◌else◌, arith, ap, ap₂, sym, ◌∙◌}
use Rattle.std.proofs.lemmas.Bool.Decides.{eqb_tells}
use Rattle.std.proofs.lemmas.Option.{slice_get_within}
use Rattle.std.specs.Option.{option_map_or}
use Rattle.std.specs.Ordering.{is_gt, ordering_reverse}
use Rattle.std.specs.declared.cmp.Ordering.TheVariants.{Less, Greater}
use Rattle.access_paths.proofs.Members.{no_member, which_member}
use Rattle.access_paths.proofs.Orders.{terms_total}
use Rattle.access_paths.specs.{IsLiteral, compare_terms, literal, place_of, renamed, renamed_term, term, var, variable_in}
use Rattle.access_paths.specs.declared.term.Literal.{Literal}
use Rattle.access_paths.specs.declared.term.Term.{Term}
use Rattle.access_paths.specs.declared.term.Var.{Var}

same_var : (a : Var) (v : ℕ) → a.0 ≡ v → a ≡ var v
same_var a v same = λ i. record { 0 = same i }

get_one_more : (a : Var) (args : List Var) (n : ℕ) → slice_get (a ∷ args) (1 + n) ≡ slice_get args n
get_one_more a args n = let one : 1 + n ≡ suc n = omega arith in ap (slice_get (a ∷ args)) one

-- at its place stands the variable
pub place_found : (args : List Var) (v : ℕ) → Contains args (var v) → slice_get args (place_of args v) ≡ Some (var v)
place_found [] v there = absurd (no_member (var v) there)
place_found (a ∷ args) v there =
    elim (eqb_tells a.0 v) [
      | inl here ↦ ap (λ b. slice_get (a ∷ args) (cond (not b) (1 + place_of args v) 0)) here.0 ∙ ap Some (same_var a v here.1)
      | inr apart ↦
          ap (λ b. slice_get (a ∷ args) (cond (not b) (1 + place_of args v) 0)) apart.0
          ∙ get_one_more a args (place_of args v)
          ∙ place_found args v (elim (which_member a args (var v) there) [
            | inl same ↦ absurd (apart.1 (ap (λ (x : Var). x.0) same))
            | inr after ↦ after
          ])
    ]

pub place_within : (args : List Var) (v : ℕ) → Contains args (var v) → place_of args v < length args
place_within args v there = slice_get_within args (place_of args v) (var v) (place_found args v there)

-- the argument at a variable's place is the variable
pub put_back : (args : List Var) (v : ℕ) → Contains args (var v) → variable_in args (place_of args v) ≡ v
put_back args v there = ap (λ o. option_map_or (λ (a : Var). a.0) o 0) (place_found args v there)

-- different variables have different places
pub one_place : (args : List Var) (v w : ℕ) → Contains args (var v) → Contains args (var w) → place_of args v ≡ place_of args w → v ≡ w
one_place args v w v_there w_there same = sym (put_back args v v_there) ∙ ap (variable_in args) same ∙ put_back args w w_there

back_in_order : (same : Bool) (t u : Term) → compare_terms t u ≡ Less → literal same t u ≡ record { same = same; less = t; more = u }
back_in_order same t u less = ap (λ o. if is_gt o then record { same = same; less = u; more = t } else record { same = same; less = t; more = u }) less

back_turned : (same : Bool) (t u : Term) → compare_terms t u ≡ Less → literal same u t ≡ record { same = same; less = t; more = u }
back_turned same t u less =
    let greater : compare_terms u t ≡ Greater = terms_total.antisymm u t ∙ ap ordering_reverse less in
    ap (λ o. if is_gt o then record { same = same; less = t; more = u } else record { same = same; less = u; more = t }) greater

module _ (there back : ℕ → ℕ) where
  abbrev Returns : Term → Type 0
  Returns t = back (there t.var.0) ≡ t.var.0

  term_back : (t : Term) → Returns t → renamed_term back (renamed_term there t) ≡ t
  term_back t returns = ap (λ v. term v t.fields) returns

  turned_back : (same : Bool) (t u t' u' : Term) (b : Bool) → renamed_term back t' ≡ t → renamed_term back u' ≡ u → compare_terms t u ≡ Less
      → renamed back (if b then record { same = same; less = u'; more = t' } else record { same = same; less = t'; more = u' }) ≡ record { same = same; less = t; more = u }
  turned_back same t u t' u' true t_back u_back less = ap₂ (literal same) u_back t_back ∙ back_turned same t u less
  turned_back same t u t' u' false t_back u_back less = ap₂ (literal same) t_back u_back ∙ back_in_order same t u less

  -- a literal is renamed there and back
  pub literal_back : (l : Literal) → IsLiteral l → Returns l.less → Returns l.more → renamed back (renamed there l) ≡ l
  literal_back l is less more =
      turned_back l.same l.less l.more (renamed_term there l.less) (renamed_term there l.more)
      (is_gt (compare_terms (renamed_term there l.less) (renamed_term there l.more)))
      (term_back l.less less) (term_back l.more more) is
