-- Steps are exact.
use Rattle.std.proofs.Common.{◌≡◌, ◌≢◌, ℕ, inl, inr, ⊎_elim, Bool, true, false, List, [], ◌∷◌, refl, sym, ap, subst, ◌∙◌}
use Rattle.std.proofs.Common.{eqb-true, eq-eqb}
use Rattle.std.specs.Prelude.{◌==◌, Some, None, if◌then◌else◌}
use Rattle.std.specs.List.{AllZip}
use Rattle.std.specs.Option.{option_map_or}
use Rattle.client_facts.specs.Calls.{AllThree}
use Rattle.client_facts.specs.FactSlots.{HasSlot, IsAmong, IsFilled}
use Rattle.client_facts.specs.Facts.{Holds, IsFact, classes_of}
use Rattle.client_facts.specs.Flows.{FollowsAt, FollowsDone, FollowsStep, copied}
use Rattle.client_facts.specs.Names.{IsNameAt, Slots, object_in}
use Rattle.client_facts.specs.Setting.{IsStep, Setting}
use Rattle.client_facts.specs.States.{IsState}
use Rattle.client_facts.specs.declared.fact.Fact.{Fact}
use Rattle.client_facts.specs.declared.fact.Fact.TheVariants.{Always, Of}
use Rattle.client_model.specs.Codes.{Name, Slot, name_of}
use Rattle.client_model.specs.declared.form.Point.{Point}
use Rattle.client_model.specs.declared.form.Point.TheVariants as point
use Rattle.client_steps.specs.Deeds.{Broke, Deed, Did, done}
use Rattle.client_steps.specs.States.{Call, State, call_in, object_of, with_object}
use Rattle.client_walks.specs.Walks.{Does}
use Rattle.easl_heap.specs.Full.{KeepsClasses}
use Rattle.easl_heap.specs.Heap.{IsObjectOf}
use Rattle.walk_laws.specs.Points.{IsAssignable, KeepsNames, PointFits}
use Rattle.walk_laws.specs.Premises.{IsArgument, MayBeAssigned, StepFits}
use Rattle.walk_laws.proofs.Matches.{holds_across, holds_back, holds_filled}
use Rattle.walk_laws.proofs.Names.{name_once}
use Rattle.walk_laws.proofs.Objects.{assign_heap, inner, plain_object}
use Rattle.walk_laws.proofs.States.{plain_is}
use Rattle.walk_laws.proofs.Three.{right_of, zip_all}
use Rattle.walk_laws.proofs.Assigned.{CallsFlow, IsFlow, IsFlowing, assign_gives, assign_leaves, assigned_state}

-- a step that leaves the state and the facts as they are
module _ (g : Setting) (p n : ℕ) (b : Bool) (m : ℕ) (is : IsStep g p n b m) where
  deed_is : (s t : State) → Does g p n s t → (k : ℕ) × (done g.form g.client is.here s ≡ Did t k)
  deed_is s t does = (does.0, sym (ap (λ o. option_map_or (λ x. done g.form g.client x s) o (Did s 0)) is.is) ∙ does.1)

  flow_is : (d : Fact) (family : ℕ) (args : List ℕ) → FollowsStep g p n d (Of family args) → FollowsDone g is.here d family args
  flow_is d family args follows = subst (λ o. FollowsAt g o d family args) is.is follows

  flow_at : (d : Fact) (family : ℕ) (args : List ℕ) → FollowsDone g is.here d family args → FollowsStep g p n d (Of family args)
  flow_at d family args follows = subst (λ o. FollowsAt g o d family args) (sym is.is) follows

abbrev state_in : State → Deed → State
state_in s (Broke call clause) = s
state_in s (Did u steps) = u

same_state : (s t : State) (k l : ℕ) → Did s k ≡ Did t l → s ≡ t
same_state s t k l is = ap (state_in s) is

step_of : (g : Setting) (p n : ℕ) (b : Bool) (m : ℕ) → (is : IsStep g p n b m) → IsFlowing g p n m is.here → StepFits g p n m
step_of g p n b m is flowing = record {
  each = λ s t slots state does.
      let k = deed_is g p n b m is s t does in
      let flow = flowing.each s t slots k.0 state k.1 in
      record {
        back = λ e fact holds. back s t slots e state does fact holds;
        forth = λ d e before fact filled follows holds. forth s t slots d e state does before fact filled follows holds;
        state = flow.state;
        classes = flow.classes;
      };
  keeps = keeps;
}
  where
    back : (s t : State) (slots : Slots) (e : Fact) → IsState g p n s slots → Does g p n s t → IsFact g p m e → Holds g t slots e →
        (d : Fact) × IsFact g p n d × FollowsStep g p n d e × Holds g s slots d
    back s t slots Always state does fact holds = (Always, tt, refl, tt)
    back s t slots (Of family args) state does fact holds =
        let k = deed_is g p n b m is s t does in
        let d = (flowing.each s t slots k.0 state k.1).back family args fact (holds_filled g t slots (Of family args) holds) holds in
        (d.0, d.1, flow_at g p n b m is d.0 family args d.2, d.3)

    forth : (s t : State) (slots : Slots) (d e : Fact) → IsState g p n s slots → Does g p n s t → IsFact g p n d → IsFact g p m e → IsFilled g slots e →
        FollowsStep g p n d e → Holds g s slots d → Holds g t slots e
    forth s t slots d Always state does before fact filled follows holds = tt
    forth s t slots d (Of family args) state does before fact filled follows holds =
        let k = deed_is g p n b m is s t does in
        (flowing.each s t slots k.0 state k.1).forth d family args before fact filled (flow_is g p n b m is d family args follows) holds

    keeps : (d e : Fact) → IsFact g p n d → IsFact g p m e → FollowsStep g p n d e → (class number : ℕ) → HasSlot g d class number → HasSlot g e class number
    keeps d Always before fact follows class number has = absurd (subst (λ x. HasSlot g x class number) follows has)
    keeps d (Of family args) before fact follows class number has =
        flowing.keeps d family args before fact (flow_is g p n b m is d family args follows) class number has

-- where nothing is done
still : (g : Setting) (p n m : ℕ) → KeepsNames g p n m None → (s t : State) (slots : Slots) → s ≡ t → IsState g p n s slots →
    IsFlow g p n m s t slots (λ d family args. d ≡ Of family args)
still g p n m names s t slots same state = record {
  back = λ family args fact filled holds. (Of family args, before (Of family args) fact, refl, subst (λ x. Holds g x slots (Of family args)) (sym same) holds);
  forth = λ d family args was fact filled is holds. subst (λ x. Holds g x slots (Of family args)) same (subst (Holds g s slots) is holds);
  state =
      subst (λ x. IsState g p m x slots) same
      (record {
        full = state.full;
        statics = state.statics;
        variables = state.variables;
        objects = λ class a named. state.objects class a
            (names class a named (λ is. absurd (none is)));
      });
  classes = subst (λ (x : State). KeepsClasses s.heap x.heap) same (λ class o is. is);
}
  where
    none : {a : ℕ} → None ≡ Some a → ⊥
    none is = absurd cc

    before : (e : Fact) → IsFact g p m e → IsFact g p n e
    before Always fact = tt
    before (Of family args) fact =
        (fact.0, zip_all (IsNameAt g p m) (IsNameAt g p n) (λ class a named. names class a named (λ is. absurd (none is))) (classes_of g family) args fact.1)

-- a copy: the name y stands in place of x
module _ (g : Setting) (p n m x y : ℕ) (target : IsAssignable g p (name_of x)) (named : (class : ℕ) → IsNameAt g p m class x →
    IsArgument g p n class y) (after : KeepsNames g p n m (Some x)) where
  abbrev Replaces : ℕ → ℕ → ℕ → Type 0
  Replaces class a d = (d ≡ (if a == x then y else a)) × IsNameAt g p m class a

  replaced : (classes args : List ℕ) → AllZip (IsNameAt g p m) classes args → AllThree Replaces classes args (copied (Some x) (Some y) args)
  replaced [] [] names = tt
  replaced [] (a ∷ args) names = absurd names
  replaced (class ∷ classes) [] names = absurd names
  replaced (class ∷ classes) (a ∷ args) names = ((refl, names.0), replaced classes args names.1)

  different : (a : ℕ) → (a == x) ≡ false → Some x ≢ Some a
  different a is same = absurd (apart (sym is ∙ eq-eqb a x (sym (inner same))))
    where
      apart : false ≡ true → ⊥
      apart e = absurd cc

  -- the name before the copy
  name_before : (class a d : ℕ) → Replaces class a d → IsNameAt g p n class d
  name_before class a d r = subst (IsNameAt g p n class) (sym r.0) (of_test (a == x) refl)
    where
      of_test : (b : Bool) → (a == x) ≡ b → IsNameAt g p n class (if a == x then y else a)
      of_test true is =
          let same : a ≡ x = eqb-true a x is in
          subst (λ b. IsNameAt g p n class (if b then y else a)) (sym is) (named class (subst (IsNameAt g p m class) same r.1)).named
      of_test false is = subst (λ b. IsNameAt g p n class (if b then y else a)) (sym is) (after class a r.1 (different a is))

  moved_fact : (family : ℕ) (args : List ℕ) → IsFact g p m (Of family args) → IsFact g p n (Of family (copied (Some x) (Some y) args))
  moved_fact family args fact = (
    fact.0,
    right_of Replaces (IsNameAt g p n) name_before (classes_of g family) args (copied (Some x) (Some y) args)
        (replaced (classes_of g family) args fact.1),
  )

  -- the slots stay
  slot_stays : (classes args : List ℕ) → AllZip (IsNameAt g p m) classes args → (class code number : ℕ) →
      IsAmong classes (copied (Some x) (Some y) args) class code → name_of code ≡ Slot number → IsAmong classes args class code
  slot_stays [] args names class code number among slot = absurd among
  slot_stays (c ∷ classes) [] names class code number among slot = absurd names
  slot_stays (c ∷ classes) (a ∷ args) names class code number among slot =
      ⊎_elim
      (λ (here : (c ≡ class) × ((if a == x then y else a) ≡ code)). inl (here.0, of_test (a == x) refl here.1))
      (λ (later : IsAmong classes (copied (Some x) (Some y) args) class code). inr (slot_stays classes args names.1 class code number later slot))
      among
    where
      plain : (z : Name) → z ≡ Slot number → MayBeAssigned g p z → ⊥
      plain z is may = subst (MayBeAssigned g p) is may

      of_test : (b : Bool) → (a == x) ≡ b → (if a == x then y else a) ≡ code → a ≡ code
      of_test true is same =
          let to : y ≡ code = sym (ap (λ b. if b then y else a) is) ∙ same in
          let here : IsNameAt g p m c x = subst (IsNameAt g p m c) (eqb-true a x is) names.0 in
          absurd (plain (name_of y) (ap name_of to ∙ slot) (named c here).kind)
      of_test false is same = sym (ap (λ b. if b then y else a) is) ∙ same

  module _ (s : State) (slots : Slots) (state : IsState g p n s slots) where
    copy_object : (class a d : ℕ) → Replaces class a d → object_in (with_object (Some x) (object_of s (Some y)) s) slots class a ≡ object_in s slots class d
    copy_object class a d r = of_test (a == x) refl
      where
        of_test : (b : Bool) → (a == x) ≡ b → object_in (with_object (Some x) (object_of s (Some y)) s) slots class a ≡ object_in s slots class d
        of_test true is =
            let same : a ≡ x = eqb-true a x is in
            let here : IsNameAt g p m class x = subst (IsNameAt g p m class) same r.1 in
            let to : d ≡ y = r.0 ∙ ap (λ b. if b then y else a) is in
            ap (λ c. object_in (with_object (Some x) (object_of s (Some y)) s) slots class c) same
            ∙ assign_gives g p s slots class (object_of s (Some y)) (name_of x) state.statics state.variables target
            ∙ sym (plain_object g p s slots class (name_of y) (named class here).kind)
            ∙ sym (ap (λ c. object_in s slots class c) to)
        of_test false is =
            let to : d ≡ a = r.0 ∙ ap (λ b. if b then y else a) is in
            assign_leaves g p m s slots class (object_of s (Some y)) a (name_of x) (name_of a) target r.1 (λ e. different a is (ap Some (name_once x a e)))
            ∙ sym (ap (λ c. object_in s slots class c) to)

    copy_flow : IsFlow g p n m s (with_object (Some x) (object_of s (Some y)) s) slots (λ d family args. d ≡ Of family (copied (Some x) (Some y) args))
    copy_flow = record {
      back = λ family args fact filled holds. (
        Of family (copied (Some x) (Some y) args),
        moved_fact family args fact,
        refl,
        holds_across g Replaces (with_object (Some x) (object_of s (Some y)) s) s slots slots (assign_heap (Some x) (object_of s (Some y)) s) copy_object
            (Of family args) (Of family (copied (Some x) (Some y) args)) (refl, replaced (classes_of g family) args fact.1) holds,
      );
      forth = λ d family args was fact filled is holds.
          holds_back g Replaces (with_object (Some x) (object_of s (Some y)) s) s slots slots (assign_heap (Some x) (object_of s (Some y)) s) copy_object
          (Of family args) (Of family (copied (Some x) (Some y) args)) (refl, replaced (classes_of g family) args fact.1) (subst (Holds g s slots) is holds);
      state = assigned_state g p n m s slots (Some x) (object_of s (Some y)) s.heap state state.full (λ class o is. is) target after given;
      classes = subst (KeepsClasses s.heap) (sym (assign_heap (Some x) (object_of s (Some y)) s)) (λ class o is. is);
    }
      where
        given : (class z : ℕ) → Some x ≡ Some z → IsNameAt g p m class z → IsObjectOf s.heap class (object_of s (Some y))
        given class z is at =
            let here : IsNameAt g p m class x = subst (IsNameAt g p m class) (sym (inner is)) at in
            let from : IsArgument g p n class y = named class here in
            subst (IsObjectOf s.heap class) (plain_object g p s slots class (name_of y) from.kind)
            (plain_is g p s.heap class (object_in s slots class y) (name_of y) from.kind (state.objects class y from.named))

flowing : (g : Setting) → CallsFlow g → (p n m : ℕ) (x : Point) → call_in x ≡ None → PointFits g p n m x → IsFlowing g p n m x
flowing g calls p n m (point.Copy None source) plain fits = record {
  each = λ s t slots k state is. still g p n m fits s t slots (same_state s t 0 k is) state;
  keeps = λ d family args was fact is class number has. subst (λ e. HasSlot g e class number) is has;
}
flowing g calls p n m (point.Copy (Some x) None) plain fits = absurd (none fits.source_is)
  where
    none : None ≡ Some fits.from → ⊥
    none is = absurd cc
flowing g calls p n m (point.Copy (Some x) (Some y)) plain fits = record {
  each =
      λ s t slots k state is. subst (λ z. IsFlow g p n m s z slots (λ d family args. d ≡ Of family (copied (Some x) (Some y) args)))
      (same_state (with_object (Some x) (object_of s (Some y)) s) t 0 k is) (copy_flow g p n m x y fits.target arguments fits.after s slots state);
  keeps = λ d family args was fact is class number has.
      let there : HasSlot g (Of family (copied (Some x) (Some y) args)) class number = subst (λ e. HasSlot g e class number) is has in
      (there.0, slot_stays g p n m x y fits.target arguments fits.after (classes_of g family) args fact.1 class there.0 number there.1 there.2, there.2);
}
  where
    arguments : (class : ℕ) → IsNameAt g p m class x → IsArgument g p n class y
    arguments class at = subst (IsArgument g p n class) (sym (inner fits.source_is)) (fits.named class at)
flowing g calls p n m (point.Component target call) plain fits = record {
  each = (calls p n m target call fits).each;
  keeps = (calls p n m target call fits).keeps;
}
flowing g calls p n m (point.Call target callee args place) plain fits = absurd (none plain)
  where
    none : {k : Call} → Some k ≡ None → ⊥
    none is = absurd cc
flowing g calls p n m (point.Branch None) plain fits = record {
  each = λ s t slots k state is. still g p n m fits s t slots (same_state s t 0 k is) state;
  keeps = λ d family args was fact is class number has. subst (λ e. HasSlot g e class number) is has;
}
flowing g calls p n m (point.Branch (Some call)) plain fits = record {
  each = (calls p n m None call fits).each;
  keeps = (calls p n m None call fits).keeps;
}
flowing g calls p n m point.Nothing plain fits = record {
  each = λ s t slots k state is. still g p n m fits s t slots (same_state s t 0 k is) state;
  keeps = λ d family args was fact is class number has. subst (λ e. HasSlot g e class number) is has;
}

-- a step is exact where each component call is
pub steps_fit : (g : Setting) → CallsFlow g → (p n : ℕ) (b : Bool) (m : ℕ) → (is : IsStep g p n b m) → PointFits g p n m is.here → StepFits g p n m
steps_fit g calls p n b m is fits = step_of g p n b m is (flowing g calls p n m is.here is.plain fits)
