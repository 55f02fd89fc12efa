-- The limit looks at no place.
use Rattle.std.proofs.Common.{◌≡◌, ℕ, zero, suc, List, [], ◌∷◌, ◌++◌, map, refl, sym, ap, ◌∙◌}
use Rattle.std.specs.List.{flat_map}
use Rattle.client_model.specs.TreeLimits.{IsWithinLimits, excess_of, excess_of_procedure}
use Rattle.client_model.specs.declared.tree.Client as tree
use Rattle.client_model.specs.declared.tree.Proc.{Proc}
use Rattle.cv_layout.specs.Words.{nowhere}
use Rattle.easl_model.specs.TreeLimits.{beyond}
use Rattle.easl_model.specs.declared.fault.Excess.{Excess}
use Rattle.easl_model.specs.declared.fault.Which.TheVariants as which
use Rattle.easl_model.specs.declared.tree.Param.{Param}
use Rattle.easl_print.specs.Bare.{bare_param}
use Rattle.client_print.specs.Bare.{Client, Procedure, bare_client, bare_procedure}

-- an excess with its place aside
abbrev moved : Excess → Excess
moved e = record { which = e.which; place = nowhere }

aside_append : (xs ys : List Excess) → map moved (xs ++ ys) ≡ map moved xs ++ map moved ys
aside_append [] ys = refl
aside_append (x ∷ xs) ys = ap (λ l. moved x ∷ l) (aside_append xs ys)

params_beyond : (limit : ℕ) (ps : List Param)
    → map moved (beyond limit which.Parameters (map (λ p. p.place) ps)) ≡ beyond limit which.Parameters (map (λ p. p.place) (map bare_param ps))
params_beyond zero [] = refl
params_beyond zero (p ∷ ps) = ap (λ l. record { which = which.Parameters; place = nowhere } ∷ l) (params_beyond zero ps)
params_beyond (suc limit) [] = refl
params_beyond (suc limit) (p ∷ ps) = params_beyond limit ps

abbrev plain_excess : Procedure → List Excess
plain_excess p = beyond 16 which.Parameters (map (λ q. q.place) p.params)

procedures_beyond : (ps : List Proc) → map moved (flat_map excess_of_procedure ps) ≡ flat_map plain_excess (map bare_procedure ps)
procedures_beyond [] = refl
procedures_beyond (p ∷ ps) =
    aside_append (excess_of_procedure p) (flat_map excess_of_procedure ps)
    ∙ ap (λ l. l ++ map moved (flat_map excess_of_procedure ps)) (params_beyond 16 p.params)
    ∙ ap (λ l. plain_excess (bare_procedure p) ++ l) (procedures_beyond ps)

none_moved : (xs : List Excess) → map moved xs ≡ [] → xs ≡ []
none_moved [] e = refl
none_moved (x ∷ xs) e = absurd cc

-- of two clients that are the same, places aside, one keeps the limit where the other does
pub same_limits : (x y : tree.Client) → bare_client x ≡ bare_client y → IsWithinLimits y → IsWithinLimits x
same_limits x y e within =
    none_moved (excess_of x)
    (procedures_beyond x.procedures ∙ ap (λ (c : Client). flat_map plain_excess c.procedures) e ∙ sym (procedures_beyond y.procedures) ∙ ap (map moved) within)
