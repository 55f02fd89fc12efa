use Rattle.client_facts.specs.Held.{setting}
use Rattle.step_flows.proofs.Naming.{all_standing}
use Rattle.step_flows.proofs.next.Next.all_names.Goals as goal

pub returns : goal.returns
returns c =
    let s = c.args.self.now in
    all_standing (setting s.setting.now) s.procedure s.point c.args.class c.args.names.now c.statics.result.now c.variables.result.now
    c.add_names.new.list.items c.add_names-2.new.list.items
    c.add_names-3.new.list.items c.requires c.statics.ensures c.variables.ensures c.in_ok-add_names.ensures.added c.in_ok-add_names-2.ensures.kept
    c.in_ok-add_names-2.ensures.added
    c.in_ok-add_names-3.ensures.kept c.in_ok-add_names-3.ensures.added
