-- The slots of a fact are among those of the facts that follow from it.
use Rattle.std.proofs.Common.{◌≡◌, ◌≢◌, ℕ, Bool, true, false, refl, sym, ap, subst, ◌∙◌}
use Rattle.std.specs.Prelude.{Some}
use Rattle.client_facts.specs.Calls.{AtEntry, AtReturn, Enters, Remains, Returns, ReturnsAs, StandsFor, WasGiven, is_target}
use Rattle.client_facts.specs.Choices.{Choice, IsChoice, slots_given}
use Rattle.client_facts.specs.FactSlots.{AllSlots, AtSlot, IsFilled}
use Rattle.client_facts.specs.Facts.{IsFact}
use Rattle.client_facts.specs.Names.{IsNameAt, Slots}
use Rattle.client_facts.specs.Setting.{Setting, exit_of}
use Rattle.client_facts.specs.States.{IsState}
use Rattle.client_walks.specs.Walks.{Follows, FollowsCall, Walk, begin, call, step}
use Rattle.client_facts.specs.declared.fact.Fact.{Fact}
use Rattle.client_model.specs.Codes.{Name, Result, Slot, Static, Variable, name_of}
use Rattle.client_steps.specs.States.{Call, State, named}
use Rattle.walk_laws.specs.Exactness.{FollowsInside}
use Rattle.walk_laws.specs.Premises.{CallFits, IsFit, IsGivenAtEntry, MayBeAssigned}
use Rattle.walk_laws.proofs.Matches.{matches_right, matches_swap, slots_across, slots_all, slots_among}
use Rattle.walk_laws.proofs.Objects.{given_filled, inner}

-- the fact before is one of the first point, the fact after one of the last
pub starts_fact : (g : Setting) (p n : ℕ) (w : Walk g p n) (d e : Fact) → Follows g p n w d e → IsFact g p 0 d
starts_fact g p n (begin q) d e f = subst (IsFact g q 0) (sym f.0) f.1
starts_fact g p n (step q l m b w is) d e f = starts_fact g q l w d f.0 f.1
starts_fact g p n (call q l m k w is other) d e f = starts_fact g q l w d f.0 f.1

pub ends_fact : (g : Setting) (p n : ℕ) (w : Walk g p n) (d e : Fact) → Follows g p n w d e → IsFact g p n e
ends_fact g p n (begin q) d e f = f.1
ends_fact g p n (step q l m b w is) d e f = f.3
ends_fact g p n (call q l m k w is other) d e f = f.3

-- the slots of what is called that were given a name for which F holds, where it is a slot
abbrev pub Inherits : Choice → (ℕ → ℕ → Type 0) → ℕ → ℕ → Type 0
Inherits c F class number = (a : ℕ) × (c class number ≡ Some a) × AtSlot F class (name_of a)

module _ (g : Setting) (p n m : ℕ) (k : Call) (c : Choice) (F : ℕ → ℕ → Type 0) where
  return_slots : (class a b : ℕ) → AtReturn c k class a b → AtSlot F class (name_of a) → AtSlot (Inherits c F) class (name_of b)
  return_slots class a b at slot = of_test (is_target k.target a) at
    where
      was_given : (y : Name) → WasGiven c class a y → AtSlot (Inherits c F) class y
      was_given (Static number) was = tt
      was_given (Variable number) was = tt
      was_given (Slot number) was = (a, was, slot)
      was_given (Result number) was = tt

      of_name : (x : Name) → name_of a ≡ x → Remains c class a b x → AtSlot (Inherits c F) class (name_of b)
      of_name (Static number) is remains = subst (AtSlot (Inherits c F) class) (sym (ap name_of remains ∙ is)) tt
      of_name (Variable number) is remains = was_given (name_of b) remains
      of_name (Slot number) is remains = was_given (name_of b) remains
      of_name (Result number) is remains = absurd remains

      of_test : (t : Bool) → ReturnsAs c class a b t → AtSlot (Inherits c F) class (name_of b)
      of_test true is = subst (λ code. AtSlot (Inherits c F) class (name_of code)) (sym is) tt
      of_test false remains = of_name (name_of a) refl remains

  entry_slots : CallFits g p n k m → (class a b : ℕ) → AtEntry c k class a b → IsNameAt g k.callee 0 class b → AtSlot (Inherits c F) class (name_of b) →
      AtSlot F class (name_of a)
  entry_slots fits class a b at named slot = of_name (name_of b) refl at (fits.entry class b named) slot
    where
      plain : (x : Name) → MayBeAssigned g p x → AtSlot F class x
      plain (Static j) may = tt
      plain (Variable j) may = tt
      plain (Slot j) may = absurd may
      plain (Result j) may = absurd may

      of_name : (x : Name) → name_of b ≡ x → StandsFor c k class a b x → IsGivenAtEntry g p n k class b x → AtSlot (Inherits c F) class x →
          AtSlot F class (name_of a)
      of_name (Static number) is stands given slot = subst (AtSlot F class) (sym (ap name_of (sym stands) ∙ is)) tt
      of_name (Variable number) is stands given slot =
          let same : given.0 ≡ a = inner (inner (sym given.1 ∙ stands)) in
          plain (name_of a) (subst (λ code. MayBeAssigned g p (name_of code)) same given.2.kind)
      of_name (Slot number) is stands given slot =
          let same : slot.0 ≡ a = inner (sym slot.1 ∙ stands) in
          subst (λ code. AtSlot F class (name_of code)) same slot.2
      of_name (Result number) is stands given slot = absurd stands

  pub returns_slots : (o e : Fact) → Returns g c k o e → AllSlots g F e → AllSlots g (Inherits c F) o
  returns_slots o e returns all = slots_across g (AtReturn c k) F (Inherits c F) return_slots e o returns all

  pub enters_slots : CallFits g p n k m → (d i : Fact) → Enters g c k d i → IsFact g k.callee 0 i → AllSlots g (Inherits c F) i → AllSlots g F d
  enters_slots fits d i enters fact all =
      slots_across g (λ x z y. AtEntry c k x y z × IsNameAt g k.callee 0 x z) (Inherits c F) F (λ class b a at slot. entry_slots fits class a b at.0 at.1 slot)
      i d
      (matches_swap g (λ x y z. AtEntry c k x y z × IsNameAt g k.callee 0 x z) d i (matches_right g (AtEntry c k) k.callee 0 d i enters fact)) all

-- the slots of the fact at the exit have objects
pub exit_filled : (g : Setting) (p n : ℕ) (k : Call) (c : Choice) (u : State) (slots : Slots) → IsState g p n u slots → IsChoice g p n c → (o e : Fact) →
    Returns g c k o e → IsFilled g slots e → IsFilled g (slots_given c u slots) o
exit_filled g p n k c u slots state choice o e returns filled =
    slots_all g (Inherits c (λ class number. slots class number ≢ 0)) (λ class number. slots_given c u slots class number ≢ 0)
    (λ class number i. given_filled g p n c u slots state choice class number i.0 i.1 i.2) o
    (returns_slots g p n n k c (λ class number. slots class number ≢ 0) o e returns filled)

pub keeps_along : (g : Setting) → IsFit g → (p n : ℕ) (w : Walk g p n) (F : ℕ → ℕ → Type 0) (d e : Fact) → Follows g p n w d e → AllSlots g F e → AllSlots g F d
keeps_along g fit p n (begin q) F d e f all = subst (AllSlots g F) (sym f.0) all
keeps_along g fit p n (step q l m b w is) F d e f all =
    keeps_along g fit q l w F d f.0 f.1
    (slots_among g F q l f.0 e (ends_fact g q l w d f.0 f.1) ((fit.steps q l b m is).keeps f.0 e (ends_fact g q l w d f.0 f.1) f.3 f.2) all)
keeps_along g fit p n (call q l m k w is other) F d e f all =
    let crossed : FollowsCall g q l k (FollowsInside g k other) f.0 e = f.2 in
    let at_entry : IsFact g k.callee 0 crossed.entry =
    starts_fact g k.callee (exit_of g k.callee) other crossed.entry crossed.exit crossed.follows
    in
    let inner_all : AllSlots g (Inherits crossed.choice F) crossed.entry =
    keeps_along g fit k.callee (exit_of g k.callee) other (Inherits crossed.choice F) crossed.entry crossed.exit crossed.follows
    (returns_slots g q l m k crossed.choice F crossed.exit e crossed.returns all)
    in
    keeps_along g fit q l w F d f.0 f.1 (enters_slots g q l m k crossed.choice F (fit.calls q l k m is) f.0 crossed.entry crossed.enters at_entry inner_all)
