use Rattle.client_facts.specs.Held.{setting}
use Rattle.client_facts.specs.Names.{IsNameAt}
use Rattle.step_flows.proofs.Choosing.{only_one}
use Rattle.step_flows.proofs.next.Next.only_name.Goals as goal

pub returns : goal.returns
returns c =
    only_one (λ code. IsNameAt (setting c.args.self.now.setting.now) c.args.self.now.procedure c.args.self.now.point c.args.class code) _ _ _ c.in-Some.is
    c.in_ok-add_name.ensures.added
