use Rattle.std.proofs.Common.{ℕ, List, ap, subst, sym, ◌∙◌}
use Rattle.client_facts.specs.Flows.{IsPut, names_of_update, positions}
use Rattle.step_flows.proofs.Nexts.{one_made}
use Rattle.step_flows.proofs.Tests.{true_so}
use Rattle.step_flows.proofs.made.Made.add_one.Goals as goal

pub returns : goal.returns
returns c =
    let s = c.args.self.now in
    let P : List ℕ → Type 0 = λ v. IsPut (names_of_update s.asked.results v s.asked.method.now s.asked.site.now) c.args.disjunct.now s.fact.now in
    one_made _ _ _ _ _ _ _ _ _ _ _ c.in_ok-args.args _ _ c.in_ok-args.ensures
    (ap (positions s.target) (sym c.as_slice.ensures) ∙ true_so c.are_positions.result c.if-not-are_positions.false c.are_positions.ensures.so)
    (subst P c.as_slice-2.ensures (true_so c.is_put.result c.if-not-is_put.false c.is_put.ensures.so)) c.in_ok-add.ensures
