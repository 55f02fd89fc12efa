use Rattle.std.proofs.Common.{rules, arith, ap, subst, sym}
use Rattle.set_names.proofs.Trails.{kept_set}
use Rattle.set_names.specs.Names.{AreKept}
use Rattle.set_names.specs.SoFar.{Sets}
use Rattle.set_names.proofs.names_so_far.NamesSoFar.set.Goals as goal

pub invariant_of-self-then-not-is_set : goal.invariant_of-self-then-not-is_set
invariant_of-self-then-not-is_set c =
    let n = c.self.inside in
    subst (λ trail. AreKept n.variables c.set.new.self trail n.gone n.left) (sym c.in_ok-push.ensures.ok)
    (kept_set n.variables n.sets c.set.new.self n.trail n.gone n.left c.args.variable c.self.invariant (omega arith)
    (search rules) (ap (λ (s : Sets). s.variables) c.set.ensures.set) c.set.ensures.members)
