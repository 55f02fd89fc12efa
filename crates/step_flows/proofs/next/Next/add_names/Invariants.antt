use Rattle.std.proofs.Common.{ℕ, All, Contains, take}
use Rattle.client_facts.specs.Held.{setting}
use Rattle.client_facts.specs.Names.{IsNameAt}
use Rattle.step_flows.proofs.next.Next.add_names.Given as goal

abbrev pub invariant-each : goal.invariant-each
invariant-each l = record {
  kept : (a : ℕ) → Contains l.initial.list.items a → Contains l.list.items a;
  added : All (λ code. IsNameAt (setting l.self.setting.now) l.self.procedure l.self.point l.class code
      → Contains l.list.items code) (take l.code-index l.codes);
}
