-- Facts at the entry of a procedure.
use Rattle.std.proofs.Common.{◌≡◌, ◌≢◌, ℕ, refl}
use Rattle.std.specs.Prelude.{Option, Some, None}
use Rattle.std.specs.Option.{option_map_or}
use Rattle.client_facts.specs.Calls.{AtEntry, Enters, StandsFor}
use Rattle.client_facts.specs.Choices.{Choice, IsChoice, slots_given}
use Rattle.client_facts.specs.Facts.{HasObject, Holds, IsFact, classes_of}
use Rattle.client_facts.specs.Names.{IsNameAt, Slots, object_in, object_named}
use Rattle.client_facts.specs.Setting.{Setting}
use Rattle.client_facts.specs.declared.fact.Fact.{Fact}
use Rattle.client_facts.specs.declared.fact.Fact.TheVariants.{Always, Of}
use Rattle.client_model.specs.Codes.{Name, Result, Slot, Static, Variable, name_of}
use Rattle.client_steps.specs.States.{Call, State, entered}
use Rattle.walk_laws.specs.Premises.{CallFits, IsGivenAtEntry}
use Rattle.walk_laws.proofs.Matches.{holds_across, holds_back, matches_right}
use Rattle.walk_laws.proofs.Objects.{entry_object}
use Rattle.walk_laws.proofs.Three.{right_of, three_all, three_chosen, three_swap, zip_both}

module _ (g : Setting) (p n m : ℕ) (k : Call) (fits : CallFits g p n k m) (u : State) (slots : Slots) (c : Choice) where
  -- an entry fact that follows from a true one is true
  pub entry_true : (d i : Fact) → Enters g c k d i → IsFact g k.callee 0 i → Holds g u slots d → Holds g (entered g.client k u) (slots_given c u slots) i
  entry_true d i enters fact holds =
      holds_across g (λ x y z. AtEntry c k x y z × IsNameAt g k.callee 0 x z) u (entered g.client k u) slots (slots_given c u slots) refl
      (λ class a b at. entry_object g p n m k fits c u slots class a b at.0 at.1) d i
      (matches_right g (AtEntry c k) k.callee 0 d i enters fact) holds

module _ (g : Setting) (p n m : ℕ) (k : Call) (fits : CallFits g p n k m) (u : State) (slots : Slots) (c : Choice) (choice : IsChoice g p n c) where
  -- an entry fact that is true under a slot choice follows from one that is true before the call
  entry_name : (class b : ℕ) → IsNameAt g k.callee 0 class b × HasObject (entered g.client k u) (slots_given c u slots) class b →
      (a : ℕ) × (AtEntry c k class a b × IsNameAt g p n class a)
  entry_name class b h = of_name (name_of b) (fits.entry class b h.0) h.1
    where
      of_slot : (number : ℕ) (o : Option ℕ) → c class number ≡ o → option_map_or (object_in u slots class) o 0 ≢ 0 →
          (a : ℕ) × ((c class number ≡ Some a) × IsNameAt g p n class a)
      of_slot number None at some = absurd (some refl)
      of_slot number (Some a) at some = (a, (at, (choice.given class number a at).named))

      of_name : (x : Name) → IsGivenAtEntry g p n k class b x → object_named (entered g.client k u) (slots_given c u slots) class x ≢ 0 →
          (a : ℕ) × (StandsFor c k class a b x × IsNameAt g p n class a)
      of_name (Static number) given some = (b, (refl, given))
      of_name (Variable number) given some = (given.0, (given.1, given.2.named))
      of_name (Slot number) given some = of_slot number (c class number) refl some
      of_name (Result number) given some = absurd given

  pub before : (i : Fact) → IsFact g k.callee 0 i → Holds g (entered g.client k u) (slots_given c u slots) i →
      (d : Fact) × IsFact g p n d × Enters g c k d i × Holds g u slots d
  before Always fact holds = (Always, tt, tt, tt)
  before (Of family codes) fact holds =
      let chosen = three_chosen (λ x b a. AtEntry c k x a b × IsNameAt g p n x a)
      (λ x b. IsNameAt g k.callee 0 x b × HasObject (entered g.client k u) (slots_given c u slots) x b) entry_name (classes_of g family) codes
      (zip_both (IsNameAt g k.callee 0) (HasObject (entered g.client k u) (slots_given c u slots)) (classes_of g family) codes fact.1 holds.0)
      in
      let enters : Enters g c k (Of family chosen.0) (Of family codes) = (
        refl,
        three_swap (λ x b a. AtEntry c k x a b) (classes_of g family) codes chosen.0
            (three_all (λ x b a. AtEntry c k x a b × IsNameAt g p n x a) (λ x b a. AtEntry c k x a b) (λ x b a r. r.0) (classes_of g family) codes chosen.0
            chosen.1),
      )
      in (
        Of family chosen.0,
        (fact.0, right_of (λ x b a. AtEntry c k x a b × IsNameAt g p n x a) (IsNameAt g p n) (λ x b a r. r.1) (classes_of g family) codes chosen.0 chosen.1),
        enters,
        holds_back g (λ x y z. AtEntry c k x y z × IsNameAt g k.callee 0 x z) u (entered g.client k u) slots (slots_given c u slots) refl
            (λ class a b at. entry_object g p n m k fits c u slots class a b at.0 at.1) (Of family chosen.0) (Of family codes)
            (matches_right g (AtEntry c k) k.callee 0 (Of family chosen.0) (Of family codes) enters fact) holds,
      )
