-- Exactness along paths, for facts without slots.
use Rattle.std.proofs.Common.{◌≡◌, ◌≢◌, ◌↔◌, ℕ, ◌<◌, List, [], ◌∷◌, length, get_or, refl, sym, subst, ◌∙◌, arith}
use Rattle.std.specs.Prelude.{Option, Some, None, slice_get}
use Rattle.std.specs.List.{AllZip}
use Rattle.std.specs.Option.{option_map_or}
use Rattle.std.proofs.lemmas.Option.{slice_get-get_or}
use Rattle.access_paths.specs.declared.term.Family.{Family}
use Rattle.client_facts.specs.Calls.{AtEntry, Enters, StandsFor}
use Rattle.client_facts.specs.Choices.{Choice}
use Rattle.client_facts.specs.FactSlots.{AllSlots, AtSlot, IsFilled, IsSlotless}
use Rattle.client_facts.specs.Facts.{Holds, IsFact, classes_of}
use Rattle.client_facts.specs.Names.{IsNameAt, no_slots}
use Rattle.client_walks.specs.Paths.{Entry, IsTrueAtEntry, LeadsIn, inside, start}
use Rattle.client_facts.specs.Over.{EntersAt}
use Rattle.client_facts.specs.Setting.{Setting}
use Rattle.client_facts.specs.States.{IsState}
use Rattle.client_facts.specs.declared.fact.Fact.{Fact}
use Rattle.client_facts.specs.declared.fact.Fact.TheVariants.{Always, Of}
use Rattle.client_model.specs.Codes.{Name, Result, Slot, Static, Variable, name_of}
use Rattle.client_steps.specs.States.{Call, State, at_first}
use Rattle.walk_laws.specs.Premises.{CallFits, IsFit, MayBeUnset}
use Rattle.walk_laws.specs.Exactness.{IsExactBetween, PathsAreExact}
use Rattle.walk_laws.proofs.Entries.{before, entry_true}
use Rattle.walk_laws.proofs.Exact.{walks_are_exact}
use Rattle.walk_laws.proofs.Keeps.{Inherits, ends_fact, enters_slots, keeps_along, starts_fact}
use Rattle.walk_laws.proofs.Kept.{states_kept}
use Rattle.walk_laws.proofs.Matches.{holds_filled, matches_all, slots_all, with_slots}
use Rattle.walk_laws.proofs.Objects.{inner}
use Rattle.walk_laws.proofs.States.{IsChoice-nothing, entered_state, nothing_given}

-- a family has a variable
some_classes : (g : Setting) → IsFit g → (family : ℕ) → family < length g.abstraction.families → 0 < length (classes_of g family)
some_classes g fit family there = of_family (slice_get g.abstraction.families family) refl
  where
    of_family : (o : Option Family) → slice_get g.abstraction.families family ≡ o → 0 < length (option_map_or (λ f. f.classes) o [])
    of_family None is =
        absurd (none (sym (slice_get-get_or g.abstraction.families family (record { classes = []; cube = record { literals = [] } }) there) ∙ is))
      where
        none : {x : Family} → Some x ≡ None → ⊥
        none e = absurd cc
    of_family (Some f) is =
        let same : get_or g.abstraction.families family f ≡ f = inner (sym (slice_get-get_or g.abstraction.families family f there) ∙ is) in
        subst (λ f. 0 < length f.classes) same (fit.some family f there)

-- a fact whose slots have objects where no slot has one
bare_of : (g : Setting) (e : Fact) → IsFilled g no_slots e → IsSlotless g e
bare_of g e filled = slots_all g (λ class number. no_slots class number ≢ 0) (λ class number. ⊥) (λ class number some. absurd (some refl)) e filled

filled_of : (g : Setting) (F : ℕ → ℕ → Type 0) (e : Fact) → IsSlotless g e → AllSlots g F e
filled_of g F e bare = slots_all g (λ class number. ⊥) F (λ class number none. absurd none) e bare

-- before the first initialiser the only fact without slots is `Always`
only_always : (g : Setting) → IsFit g → (d : Fact) → IsFact g 0 0 d → IsSlotless g d → d ≡ Always
only_always g fit Always fact bare = refl
only_always g fit (Of family args) fact bare = absurd (none (classes_of g family) args (some_classes g fit family fact.0) fact.1 bare)
  where
    unset : (class : ℕ) (x : Name) → MayBeUnset x → AtSlot (λ class number. ⊥) class x → ⊥
    unset class (Static k) may bare = may
    unset class (Variable j) may bare = may
    unset class (Slot j) may bare = bare
    unset class (Result j) may bare = may

    none : (classes args : List ℕ) → 0 < length classes → AllZip (IsNameAt g 0 0) classes args →
        AllZip (λ class code. AtSlot (λ class number. ⊥) class (name_of code)) classes args → ⊥
    none [] args some names bare = absurd (omega arith)
    none (class ∷ classes) [] some names bare = names
    none (class ∷ classes) (code ∷ codes) some names bare = unset class (name_of code) (fit.unset class code names.0) bare.0

-- an entry fact without slots follows in the same way where no slot is given a name
same_entry : (c : Choice) (k : Call) (class a b : ℕ) → AtEntry c k class a b × AtSlot (λ class number. ⊥) class (name_of b) → AtEntry nothing_given k class a b
same_entry c k class a b h = of_name (name_of b) h.0 h.1
  where
    of_name : (x : Name) → StandsFor c k class a b x → AtSlot (λ class number. ⊥) class x → StandsFor nothing_given k class a b x
    of_name (Static number) stands bare = stands
    of_name (Variable number) stands bare = stands
    of_name (Slot number) stands bare = absurd bare
    of_name (Result number) stands bare = absurd stands

-- the state in which a procedure is entered
pub state_in : (g : Setting) → IsFit g → (p : ℕ) (way : Entry g p) (t : State) → LeadsIn g p way (at_first g.client) t → IsState g p 0 t no_slots
state_in g fit p start t leads = subst (λ t. IsState g 0 0 t no_slots) leads fit.first
state_in g fit p (inside q n m k way w is) t leads =
    let there : IsState g q n leads.1 no_slots = (states_kept g fit q n w leads.0 leads.1 no_slots (state_in g fit q way leads.0 leads.2) leads.3).0 in
    subst (λ t. IsState g k.callee 0 t no_slots) leads.4
    (entered_state g q n m k (fit.calls q n k m is) leads.1 no_slots there nothing_given (IsChoice-nothing g q n))

entries : (g : Setting) → IsFit g → (p : ℕ) (into : Entry g p) (t : State) (d : Fact) → LeadsIn g p into (at_first g.client) t → IsFact g p 0 d →
    IsSlotless g d → Holds g t no_slots d ↔ IsTrueAtEntry g p into d
entries g fit p start t d leads fact bare = (λ holds. only_always g fit d fact bare, λ is. subst (Holds g t no_slots) (sym is) tt)
entries g fit p (inside q n m k into w is) t d leads fact bare =
    let state : IsState g q 0 leads.0 no_slots = state_in g fit q into leads.0 leads.2 in
    let law : IsExactBetween g q n w leads.0 leads.1 no_slots = walks_are_exact g fit q n w leads.0 leads.1 no_slots state leads.3 in
    let fits : CallFits g q n k m = fit.calls q n k m is in (
      λ holds.
          let f =
          before g q n m k fits leads.1 no_slots nothing_given (IsChoice-nothing g q n) d fact (subst (λ t. Holds g t no_slots d) (sym leads.4) holds)
          in
          let e = (law.each f.0 f.1 (holds_filled g leads.1 no_slots f.0 f.3)).0 f.3 in
          let e_bare : IsSlotless g e.0 = bare_of g e.0 (holds_filled g leads.0 no_slots e.0 e.2) in
          let there : IsTrueAtEntry g q into e.0 =
          (entries g fit q into leads.0 e.0 leads.2 (starts_fact g q n w e.0 f.0 e.1) e_bare).0 e.2
          in
          (e.0, f.0, there, e.1, record { choice = nothing_given; is_choice = IsChoice-nothing g q n; enters = f.2; fact = fact }),
      λ h.
          let crossed : EntersAt g q n k h.1 d = h.4 in
          let f_bare : IsSlotless g h.1 =
          enters_slots g q n m k crossed.choice (λ class number. ⊥) fits h.1 d crossed.enters fact
          (filled_of g (Inherits crossed.choice (λ class number. ⊥)) d bare)
          in
          let e_bare : IsSlotless g h.0 = keeps_along g fit q n w (λ class number. ⊥) h.0 h.1 h.3 f_bare in
          let e_holds : Holds g leads.0 no_slots h.0 = (entries g fit q into leads.0 h.0 leads.2 (starts_fact g q n w h.0 h.1 h.3) e_bare).1 h.2 in
          let f_holds : Holds g leads.1 no_slots h.1 =
          (law.each h.1 (ends_fact g q n w h.0 h.1 h.3) (filled_of g (λ class number. no_slots class number ≢ 0) h.1 f_bare)).1 (h.0, h.3, e_holds)
          in
          let enters : Enters g nothing_given k h.1 d =
          matches_all g (λ x y z. AtEntry crossed.choice k x y z × AtSlot (λ class number. ⊥) x (name_of z)) (AtEntry nothing_given k)
          (same_entry crossed.choice k) h.1 d
          (with_slots g (AtEntry crossed.choice k) (λ class number. ⊥) h.1 d crossed.enters bare)
          in
          subst (λ t. Holds g t no_slots d) leads.4 (entry_true g q n m k fits leads.1 no_slots nothing_given h.1 d enters fact f_holds),
    )

pub paths_are_exact : PathsAreExact
paths_are_exact g fit p n path t e leads fact bare =
    let state : IsState g p 0 leads.0 no_slots = state_in g fit p path.entry leads.0 leads.1 in
    let law : IsExactBetween g p n path.walk leads.0 t no_slots = walks_are_exact g fit p n path.walk leads.0 t no_slots state leads.2 in
    let both = law.each e fact (filled_of g (λ class number. no_slots class number ≢ 0) e bare) in (
      λ holds.
          let d = both.0 holds in
          let d_bare : IsSlotless g d.0 = bare_of g d.0 (holds_filled g leads.0 no_slots d.0 d.2) in
          let there : IsTrueAtEntry g p path.entry d.0 =
          (entries g fit p path.entry leads.0 d.0 leads.1 (starts_fact g p n path.walk d.0 e d.1) d_bare).0 d.2
          in
          (d.0, there, d.1),
      λ h.
          let d_bare : IsSlotless g h.0 = keeps_along g fit p n path.walk (λ class number. ⊥) h.0 e h.2 bare in
          both.1 (h.0, h.2, (entries g fit p path.entry leads.0 h.0 leads.1 (starts_fact g p n path.walk h.0 e h.2) d_bare).1 h.1),
    )
