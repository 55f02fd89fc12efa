use Rattle.call_flows.proofs.Finding.{all_found, if_ok_then}
use Rattle.call_flows.proofs.Behind.{return_tried}
use Rattle.call_flows.specs.Found.{IsListed}
use Rattle.call_flows.specs.Told.{call_told}
use Rattle.client_facts.specs.Facts.{IsFact}
use Rattle.client_facts.specs.Held.{setting as told}
use Rattle.client_facts.specs.Over.{ReturnsAt}
use Rattle.call_flows.proofs.back.Back.facts.Goals as goal

pub returns-in_ok-lists-in-Of : goal.returns-in_ok-lists-in-Of
returns-in_ok-lists-in-Of c =
    let of = c.args.self.now in
    let g = told of.setting.now in
    let s = of.site in
    if_ok_then c.found_listed.result
    (λ facts. all_found
    (λ f. ReturnsAt g s.procedure s.point (call_told s) of.before.now of.entry.now c.args.exit.now f × IsFact g s.procedure s.next f)
    (IsListed c.in-Of.family c.as_slice-in-Of-2.result.now) facts
    (λ f at. return_tried g s of.before.now of.entry.now c.in-Of.family _ c.in_ok-places-in-Of.places.items c.in_ok-lists-in-Of.lists.items
    c.args.exit.now f c.classes-classes.result.now c.as_slice.result.now c.as_slice-in-Of.result.now c.as_slice-in-Of-2.result.now c.in-Of.is
    c.classes-classes.ensures c.as_slice.ensures c.as_slice-in-Of.ensures.value c.as_slice-in-Of-2.ensures.value
    c.in_ok-places-in-Of.ensures c.in_ok-lists-in-Of.ensures at.0))
    c.found_listed.ensures
