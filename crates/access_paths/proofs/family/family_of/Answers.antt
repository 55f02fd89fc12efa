use Rattle.std.proofs.Common.{◌≡◌, ◌≤◌, ◌∙◌, List, All, length, map, subst, ap, sym}
use Rattle.std.proofs.lemmas.Result.{IfOk-weaker}
use Rattle.access_paths.proofs.Leasts.{as_many_arguments, least_is_family, orders_are_arguments}
use Rattle.access_paths.proofs.Variables.{variables_listed}
use Rattle.access_paths.specs.{AreArguments, IsFamilyOf, IsLeastAmong, orders, var, variables}
use Rattle.access_paths.specs.declared.term.Var.{Var}
use Rattle.access_paths.proofs.family.family_of.Goals as goal

pub instance-requires-clause-arguments : goal.instance-requires-clause-arguments
instance-requires-clause-arguments c =
    let P : List Var → Type 0 = AreArguments c.args.cube.now in
    subst P (sym (c.as_slice-2.ensures.value ∙ c.in_ok-variables.ensures)) (variables_listed c.args.cube.now c.requires.known)

pub least-requires-clause-lists : goal.least-requires-clause-lists
least-requires-clause-lists c =
    let made : c.as_slice-3.result.now ≡ orders (map var (variables c.args.cube.now)) =
    c.as_slice-3.ensures.value ∙ c.in_ok-orders.ensures ∙ ap orders (c.as_slice.ensures.value ∙ c.in_ok-variables.ensures) in
    let P : List (List Var) → Type 0 = All (λ args. AreArguments c.args.cube.now args × (length args ≤ 8)) in
    subst P (sym made) (orders_are_arguments c.args.cube.now c.args.classes.now c.requires.known)

pub returns-clause-family : goal.returns-clause-family
returns-clause-family c =
    let made : c.as_slice-3.result.now ≡ orders (map var (variables c.args.cube.now)) =
    c.as_slice-3.ensures.value ∙ c.in_ok-orders.ensures ∙ ap orders (c.as_slice.ensures.value ∙ c.in_ok-variables.ensures) in
    IfOk-weaker c.least.result (IsLeastAmong c.args.cube.now c.args.classes.now c.as_slice-3.result.now) (IsFamilyOf c.args.cube.now c.args.classes.now)
    (λ i is.
    let P : List (List Var) → Type 0 = λ lists. IsLeastAmong c.args.cube.now c.args.classes.now lists i in
    least_is_family c.args.cube.now c.args.classes.now c.requires.known i (subst P made is))
    c.least.ensures

pub returns-clause-arguments : goal.returns-clause-arguments
returns-clause-arguments c =
    IfOk-weaker c.least.result (IsLeastAmong c.args.cube.now c.args.classes.now c.as_slice-3.result.now) (λ i. length i.args ≡ length (variables c.args.cube.now))
    (λ i is. as_many_arguments c.args.cube.now c.args.classes.now c.requires.known i is.instance) c.least.ensures
