-- Exactness along walks, by induction on walks.
use Rattle.std.proofs.Common.{◌≢◌, ℕ, refl, sym, subst}
use Rattle.client_facts.specs.FactSlots.{AllSlots, IsFilled}
use Rattle.client_facts.specs.Facts.{Holds, IsFact}
use Rattle.client_facts.specs.Setting.{IsCall, Setting, exit_of}
use Rattle.client_facts.specs.States.{IsState}
use Rattle.client_walks.specs.Walks.{FollowsCall, begin, call, step}
use Rattle.client_facts.specs.declared.fact.Fact.{Fact}
use Rattle.client_steps.specs.States.{Call}
use Rattle.walk_laws.proofs.CallExact.{calls_are_exact}
use Rattle.walk_laws.proofs.Keeps.{Inherits, ends_fact, enters_slots, keeps_along, returns_slots, starts_fact}
use Rattle.walk_laws.proofs.Kept.{states_kept}
use Rattle.walk_laws.proofs.Matches.{holds_filled, slots_among}
use Rattle.walk_laws.specs.Exactness.{FollowsInside, Inside, IsExactBetween, IsExactCall, WalksAreExact}
use Rattle.walk_laws.specs.Premises.{IsFit, StepKeeps}

-- the slots of the fact before a call are among those of the fact after it
call_keeps : (g : Setting) → IsFit g → (p n m : ℕ) (k : Call) → IsCall g p n k m → (inner : Inside g k) (F : ℕ → ℕ → Type 0) (d e : Fact) →
    FollowsCall g p n k (FollowsInside g k inner) d e → AllSlots g F e → AllSlots g F d
call_keeps g fit p n m k is inner F d e crossed all =
    let at_entry : IsFact g k.callee 0 crossed.entry =
    starts_fact g k.callee (exit_of g k.callee) inner crossed.entry crossed.exit crossed.follows
    in
    let inside_all : AllSlots g (Inherits crossed.choice F) crossed.entry =
    keeps_along g fit k.callee (exit_of g k.callee) inner (Inherits crossed.choice F) crossed.entry crossed.exit crossed.follows
    (returns_slots g p n m k crossed.choice F crossed.exit e crossed.returns all)
    in
    enters_slots g p n m k crossed.choice F (fit.calls p n k m is) d crossed.entry crossed.enters at_entry inside_all

pub walks_are_exact : WalksAreExact
walks_are_exact g fit p n (begin q) s t slots state leads = record {
  each = λ e fact filled. (
    λ holds. (e, (refl, fact), subst (λ x. Holds g x slots e) (sym leads) holds),
    λ h. subst (λ x. Holds g x slots e) leads (subst (Holds g s slots) h.1.0 h.2),
  );
}
walks_are_exact g fit p n (step q l m b w is) s t slots state leads =
    let earlier : IsExactBetween g q l w s leads.0 slots = walks_are_exact g fit q l w s leads.0 slots state leads.1 in
    let there : IsState g q l leads.0 slots = (states_kept g fit q l w s leads.0 slots state leads.1).0 in
    let here : StepKeeps g q l m leads.0 t slots = (fit.steps q l b m is).each leads.0 t slots there leads.2 in
    record {
      each = λ e fact filled. (
        λ holds.
            let last = here.back e fact holds in
            let rest = (earlier.each last.0 last.1 (holds_filled g leads.0 slots last.0 last.3)).0 last.3 in
            (rest.0, (last.0, rest.1, last.2, fact), rest.2),
        λ h.
            let f_fact : IsFact g q l h.1.0 = ends_fact g q l w h.0 h.1.0 h.1.1 in
            let f_filled : IsFilled g slots h.1.0 =
            slots_among g (λ class number. slots class number ≢ 0) q l h.1.0 e f_fact ((fit.steps q l b m is).keeps h.1.0 e f_fact fact h.1.2) filled
            in
            let f_holds : Holds g leads.0 slots h.1.0 = (earlier.each h.1.0 f_fact f_filled).1 (h.0, h.1.1, h.2) in
            here.forth h.1.0 e f_fact fact filled h.1.2 f_holds,
      );
    }
walks_are_exact g fit p n (call q l m k w is inner) s t slots state leads =
    let earlier : IsExactBetween g q l w s leads.0 slots = walks_are_exact g fit q l w s leads.0 slots state leads.2 in
    let there : IsState g q l leads.0 slots = (states_kept g fit q l w s leads.0 slots state leads.2).0 in
    let law : IsExactCall g q l m k inner leads.0 leads.1 slots =
    calls_are_exact g fit q l m k is inner (walks_are_exact g fit k.callee (exit_of g k.callee) inner) leads.0 leads.1 slots there leads.3
    in
    record {
      each = λ e fact filled. (
        λ holds.
            let last = (law.each e fact filled).0 (subst (λ x. Holds g x slots e) (sym leads.4) holds) in
            let rest = (earlier.each last.0 last.1 (holds_filled g leads.0 slots last.0 last.3)).0 last.3 in
            (rest.0, (last.0, rest.1, last.2, fact), rest.2),
        λ h.
            let f_fact : IsFact g q l h.1.0 = ends_fact g q l w h.0 h.1.0 h.1.1 in
            let f_filled : IsFilled g slots h.1.0 =
            call_keeps g fit q l m k is inner (λ class number. slots class number ≢ 0) h.1.0 e h.1.2 filled
            in
            let f_holds : Holds g leads.0 slots h.1.0 = (earlier.each h.1.0 f_fact f_filled).1 (h.0, h.1.1, h.2) in
            subst (λ x. Holds g x slots e) leads.4 ((law.each e fact filled).1 (h.1.0, f_fact, h.1.2, f_holds)),
      );
    }
