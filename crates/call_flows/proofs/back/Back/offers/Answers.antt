use Rattle.std.proofs.Common.{sym}
use Rattle.call_flows.proofs.Finding.{if_ok_then}
use Rattle.call_flows.proofs.Behind.{slot_back}
use Rattle.client_facts.specs.Held.{setting as told}
use Rattle.call_flows.proofs.back.Back.offers.Goals as goal

pub returns-in-Slot : goal.returns-in-Slot
returns-in-Slot c =
    let of = c.args.self.now in
    if_ok_then c.givers.result
    (λ offers has. slot_back (told of.setting.now) of.site of.before.now of.entry.now c.args.class c.args.code offers c.in-Slot.field-0
    (sym c.in-Slot.ensures) has)
    c.givers.ensures
