use Rattle.call_flows.proofs.Finding.{all_found, if_ok_then}
use Rattle.call_flows.proofs.Trying.{entry_tried}
use Rattle.call_flows.specs.Found.{IsListed}
use Rattle.call_flows.specs.Told.{call_told}
use Rattle.client_facts.specs.Held.{setting as told}
use Rattle.client_facts.specs.Over.{EntersAt}
use Rattle.call_flows.proofs.found.entry_facts.Goals as goal

pub returns-in_ok-lists-in-Of : goal.returns-in_ok-lists-in-Of
returns-in_ok-lists-in-Of c =
    let g = told c.args.setting.now in
    let s = c.args.site.now in
    if_ok_then c.found_listed.result
    (λ facts. all_found (EntersAt g s.procedure s.point (call_told s) c.args.before.now) (IsListed c.in-Of.family c.as_slice-in-Of-2.result.now) facts
    (λ f at. entry_tried g s c.in-Of.family _ c.in_ok-places-in-Of.places.items c.in_ok-lists-in-Of.lists.items c.args.before.now f c.as_slice.result.now
    c.as_slice-in-Of.result.now c.as_slice-in-Of-2.result.now c.in-Of.is c.as_slice.ensures c.as_slice-in-Of.ensures.value c.as_slice-in-Of-2.ensures.value
    c.in_ok-places-in-Of.ensures c.in_ok-lists-in-Of.ensures at))
    c.found_listed.ensures
