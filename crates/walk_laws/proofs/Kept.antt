-- States are kept along walks.
use Rattle.std.proofs.Common.{ℕ, sym, subst}
use Rattle.easl_heap.specs.Full.{KeepsClasses}
use Rattle.client_facts.specs.Names.{Slots, no_slots}
use Rattle.client_facts.specs.Setting.{Setting, exit_of}
use Rattle.client_facts.specs.States.{IsState}
use Rattle.client_walks.specs.Walks.{Leads, Walk, begin, call, step}
use Rattle.client_steps.specs.States.{State, entered, returned}
use Rattle.walk_laws.specs.Premises.{IsFit, StepKeeps}
use Rattle.walk_laws.proofs.Objects.{returned_heap}
use Rattle.walk_laws.proofs.States.{IsChoice-nothing, entered_state, nothing_given, returned_state}

pub states_kept : (g : Setting) → IsFit g → (p n : ℕ) (w : Walk g p n) (s t : State) (slots : Slots) → IsState g p 0 s slots → Leads g p n w s t →
    IsState g p n t slots × KeepsClasses s.heap t.heap
states_kept g fit p n (begin q) s t slots state leads =
    (subst (λ t. IsState g q 0 t slots) leads state, subst (λ (t : State). KeepsClasses s.heap t.heap) leads (λ class n is. is))
states_kept g fit p n (step q l m b w is) s t slots state leads =
    let before = states_kept g fit q l w s leads.0 slots state leads.1 in
    let here : StepKeeps g q l m leads.0 t slots = (fit.steps q l b m is).each leads.0 t slots before.0 leads.2 in
    (here.state, λ class n o. here.classes class n (before.1 class n o))
states_kept g fit p n (call q l m k w is other) s t slots state leads =
    let before = states_kept g fit q l w s leads.0 slots state leads.2 in
    let entry : IsState g k.callee 0 (entered g.client k leads.0) no_slots = entered_state g q l m k (fit.calls q l k m is) leads.0 slots before.0
    nothing_given (IsChoice-nothing g q l) in
    let inside = states_kept g fit k.callee (exit_of g k.callee) other (entered g.client k leads.0) leads.1 no_slots entry leads.3 in
    let after : IsState g q m (returned k leads.0 leads.1) slots = returned_state g q l m k (fit.calls q l k m is) leads.0 slots before.0 leads.1 inside.0
    inside.1 in (
      subst (λ t. IsState g q m t slots) leads.4 after,
      subst (λ (t : State). KeepsClasses s.heap t.heap) leads.4
          (subst (KeepsClasses s.heap) (sym (returned_heap k leads.0 leads.1)) (λ class n o. inside.1 class n (before.1 class n o))),
    )
