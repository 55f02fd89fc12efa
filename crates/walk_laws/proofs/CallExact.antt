-- Exactness over one procedure call.
use Rattle.std.proofs.Common.{◌≡◌, ℕ, ◌<◌, ◌≤◌, Bool, true, false, not, ◌&&◌, List, [], length, get_or, refl, sym, ap, subst, ◌∙◌, arith}
use Rattle.std.specs.Prelude.{Option, Some, None, slice_get}
use Rattle.std.specs.Option.{option_map_or}
use Rattle.std.proofs.lemmas.Option.{slice_get-get_or}
use Rattle.access_paths.specs.declared.term.Family.{Family}
use Rattle.client_facts.specs.Calls.{AtReturn, Match, Remains, ReturnsAs, WasGiven, is_target}
use Rattle.client_facts.specs.Choices.{Choice, IsChoice, IsGiven, MayBeGiven, slots_given}
use Rattle.client_facts.specs.FactSlots.{IsFilled}
use Rattle.client_facts.specs.Facts.{Holds, IsFact, classes_of}
use Rattle.client_facts.specs.Names.{IsNameAt, MayStand, Slots, no_slots}
use Rattle.client_facts.specs.Setting.{IsCall, Setting, exit_of}
use Rattle.client_facts.specs.States.{IsState}
use Rattle.client_walks.specs.Walks.{Follows, FollowsCall, Leads, Walk, begin, call, step}
use Rattle.client_facts.specs.declared.fact.Fact.{Fact}
use Rattle.client_facts.specs.declared.fact.Fact.TheVariants.{Always, Of}
use Rattle.client_model.specs.Codes.{Name, Result, Slot, Static, Variable, name_of, result_code, slot_code}
use Rattle.client_steps.specs.States.{Call, State, entered, named, returned}
use Rattle.walk_laws.specs.Premises.{CallFits, IsFit, IsLeftAfter}
use Rattle.walk_laws.specs.Exactness.{CallsAreExact, FollowsInside, IsExact}
use Rattle.walk_laws.proofs.Entries.{before, entry_true}
use Rattle.walk_laws.proofs.Keeps.{ends_fact, exit_filled, starts_fact}
use Rattle.walk_laws.proofs.Kept.{states_kept}
use Rattle.walk_laws.proofs.Matches.{holds_across, holds_back, holds_filled}
use Rattle.client_model.proofs.Codes.{codes_tell}
use Rattle.walk_laws.proofs.Objects.{inner, return_object, returned_heap, target_is, target_not}
use Rattle.walk_laws.proofs.Picks.{IsPicked, length_pairs, pairs, pick, pick_gives, pick_is, place_at, place_of, within, zip_at, zip_places}
use Rattle.walk_laws.proofs.States.{IsChoice-nothing, entered_state, nothing_given}
use Rattle.walk_laws.proofs.Three.{right_of, three_all, three_chosen, zip_both}

-- a variable or a slot
abbrev given_kind : Name → Bool
given_kind (Static k) = false
given_kind (Variable j) = true
given_kind (Slot j) = true
given_kind (Result j) = false

kind_is : (x : Name) → given_kind x ≡ true → MayBeGiven x
kind_is (Static k) is = absurd cc
kind_is (Variable j) is = tt
kind_is (Slot j) is = tt
kind_is (Result j) is = absurd cc

not_true : (b : Bool) → not b ≡ true → b ≡ false
not_true true is = absurd cc
not_true false is = refl

first_true : (a b : Bool) → (a && b) ≡ true → a ≡ true
first_true true b is = refl
first_true false b is = absurd cc

second_true : (a b : Bool) → (a && b) ≡ true → b ≡ true
second_true true b is = is
second_true false b is = absurd cc

-- a family has three variables at most
few_classes : (g : Setting) → IsFit g → (family : ℕ) → family < length g.abstraction.families → length (classes_of g family) ≤ 3
few_classes g fit family there = of_family (slice_get g.abstraction.families family) refl
  where
    of_family : (o : Option Family) → slice_get g.abstraction.families family ≡ o → length (option_map_or (λ f. f.classes) o []) ≤ 3
    of_family None is = omega arith
    of_family (Some f) is =
        let same : get_or g.abstraction.families family f ≡ f = inner (sym (slice_get-get_or g.abstraction.families family f there) ∙ is) in
        subst (λ f. length f.classes ≤ 3) same (fit.few family f there)

module _ (g : Setting) (fit : IsFit g) (p n m : ℕ) (k : Call) (is : IsCall g p n k m) (inside : Walk g k.callee (exit_of g k.callee))
    (exact : IsExact g k.callee (exit_of g k.callee) inside) (u v : State) (slots : Slots) (state : IsState g p n u slots)
    (left : IsState g k.callee (exit_of g k.callee) v no_slots) (leads : Leads g k.callee (exit_of g k.callee) inside (entered g.client k u) v) where
  forth : (d e : Fact) → IsFilled g slots e → FollowsCall g p n k (FollowsInside g k inside) d e → Holds g u slots d → Holds g (returned k u v) slots e
  forth d e filled follows holds =
      let fits : CallFits g p n k m = fit.calls p n k m is in
      let c : Choice = follows.choice in
      let i : Fact = follows.entry in
      let o : Fact = follows.exit in
      let entry_fact : IsFact g k.callee 0 i = starts_fact g k.callee (exit_of g k.callee) inside i o follows.follows in
      let at_entry : Holds g (entered g.client k u) (slots_given c u slots) i = entry_true g p n m k fits u slots c d i follows.enters entry_fact holds in
      let at_exit : Holds g v (slots_given c u slots) o =
      ((exact (entered g.client k u) v (slots_given c u slots) (entered_state g p n m k fits u slots state c follows.is_choice) leads).each o
      (ends_fact g k.callee (exit_of g k.callee) inside i o follows.follows)
      (exit_filled g p n k c u slots state follows.is_choice o e follows.returns filled)).1
      (i, follows.follows, at_entry)
      in
      holds_back g (AtReturn c k) (returned k u v) v slots (slots_given c u slots) (returned_heap k u v)
      (return_object g p n m k fits c u v slots left.statics state.variables) e o follows.returns at_exit

  -- a fact after the call, and the choice under which it follows from a fact at the exit
  module _ (family : ℕ) (args : List ℕ) (fact : IsFact g p m (Of family args)) where
    abbrev may : ℕ → Bool
    may a = not (is_target k.target a) && given_kind (name_of a)

    abbrev places : List (ℕ × ℕ)
    places = pairs (classes_of g family) args

    abbrev chosen : Choice
    chosen = pick places may

    three : (number : ℕ) (x : ℕ × ℕ) → slice_get places number ≡ Some x → number < 3
    three number x at =
        let less : number < length places = within places number x at in
        let short : length places ≤ length (classes_of g family) = length_pairs (classes_of g family) args in
        let few : length (classes_of g family) ≤ 3 = few_classes g fit family fact.0 in
        omega arith

    not_target : (a : ℕ) → may a ≡ true → is_target k.target a ≡ false
    not_target a so = not_true (is_target k.target a) (first_true (not (is_target k.target a)) (given_kind (name_of a)) so)

    given_is : (class number a : ℕ) → chosen class number ≡ Some a → IsGiven g p n class number a
    given_is class number a at =
        let picked : IsPicked places may class number a = pick_is places may class number a at in
        let named : IsNameAt g p m class a = zip_at (IsNameAt g p m) (classes_of g family) args fact.1 number class a picked.at in
        let kind : given_kind (name_of a) ≡ true = second_true (not (is_target k.target a)) (given_kind (name_of a)) picked.so in
        record {
          three = three number (class, a) picked.at;
          named = kept (name_of a) kind ((fit.calls p n k m is).after class a named (target_not k.target a (not_target a picked.so)));
          kind = kind_is (name_of a) kind;
        }
      where
        kept : (x : Name) → given_kind x ≡ true → IsLeftAfter g p n k class a x → IsNameAt g p n class a
        kept (Static number) kind after = absurd cc
        kept (Variable number) kind after = after
        kept (Slot number) kind after = after
        kept (Result number) kind after = absurd after

    is_choice : IsChoice g p n chosen
    is_choice = record {
      given = given_is;
      once = λ class one other code first second. sym (pick_is places may class one code first).place ∙ (pick_is places may class other code second).place;
    }

    exit_name : (class a : ℕ) → IsNameAt g p m class a × ((place : ℕ) × (slice_get places place ≡ Some (class, a))) →
        (b : ℕ) × (AtReturn chosen k class a b × IsNameAt g k.callee (exit_of g k.callee) class b)
    exit_name class a h = of_test (is_target k.target a) refl
      where
        slot : is_target k.target a ≡ false → given_kind (name_of a) ≡ true →
            (b : ℕ) × (WasGiven chosen class a (name_of b) × IsNameAt g k.callee (exit_of g k.callee) class b)
        slot other kind =
            let so : may a ≡ true = λ i. not (other i) && kind i in
            let number : ℕ = place_of places class a in
            let small : place_of places class a < 3 = three (place_of places class a) (class, a) (place_at places class a h.1.0 h.1.1) in
            let is_slot : name_of (slot_code (place_of places class a)) ≡ Slot (place_of places class a) = codes_tell.slots (place_of places class a) in (
              slot_code (place_of places class a),
              (
                subst (WasGiven chosen class a) (sym is_slot) (pick_gives places may class a h.1.0 h.1.1 so),
                subst (MayStand g k.callee (exit_of g k.callee) class (slot_code (place_of places class a))) (sym is_slot) small,
              ),
            )

        of_name : is_target k.target a ≡ false → (x : Name) → name_of a ≡ x → IsLeftAfter g p n k class a x →
            (b : ℕ) × (Remains chosen class a b x × IsNameAt g k.callee (exit_of g k.callee) class b)
        of_name other (Static number) named after = (a, (refl, after))
        of_name other (Variable number) named after = slot other (ap given_kind named)
        of_name other (Slot number) named after = slot other (ap given_kind named)
        of_name other (Result number) named after = absurd after

        of_test : (t : Bool) → is_target k.target a ≡ t → (b : ℕ) × (ReturnsAs chosen class a b t × IsNameAt g k.callee (exit_of g k.callee) class b)
        of_test true target = (result_code, (refl, (fit.calls p n k m is).result class a (target_is k.target a target) h.0))
        of_test false other = of_name other (name_of a) refl ((fit.calls p n k m is).after class a h.0 (target_not k.target a other))

    back_of : Holds g (returned k u v) slots (Of family args) →
        (d : Fact) × IsFact g p n d × FollowsCall g p n k (FollowsInside g k inside) d (Of family args) × Holds g u slots d
    back_of holds =
        let fits : CallFits g p n k m = fit.calls p n k m is in
        let codes = three_chosen (λ x a b. AtReturn chosen k x a b × IsNameAt g k.callee (exit_of g k.callee) x b)
        (λ x a. IsNameAt g p m x a × ((place : ℕ) × (slice_get places place ≡ Some (x, a)))) exit_name (classes_of g family) args
        (zip_both (IsNameAt g p m) (λ x a. (place : ℕ) × (slice_get places place ≡ Some (x, a))) (classes_of g family) args fact.1
        (zip_places (IsNameAt g p m) (classes_of g family) args fact.1))
        in
        let exit_fact : IsFact g k.callee (exit_of g k.callee) (Of family codes.0) = (
          fact.0,
          right_of (λ x a b. AtReturn chosen k x a b × IsNameAt g k.callee (exit_of g k.callee) x b) (IsNameAt g k.callee (exit_of g k.callee))
              (λ x a b r. r.1) (classes_of g family) args codes.0 codes.1,
        )
        in
        let returns : Match g (AtReturn chosen k) (Of family args) (Of family codes.0) = (
          refl,
          three_all (λ x a b. AtReturn chosen k x a b × IsNameAt g k.callee (exit_of g k.callee) x b) (AtReturn chosen k) (λ x a b r. r.0)
              (classes_of g family) args codes.0 codes.1,
        )
        in
        let at_exit : Holds g v (slots_given chosen u slots) (Of family codes.0) =
        holds_across g (AtReturn chosen k) (returned k u v) v slots (slots_given chosen u slots) (returned_heap k u v)
        (return_object g p n m k fits chosen u v slots left.statics state.variables) (Of family args) (Of family codes.0) returns holds
        in
        let entry = ((exact (entered g.client k u) v (slots_given chosen u slots) (entered_state g p n m k fits u slots state chosen is_choice) leads).each
        (Of family codes.0) exit_fact (holds_filled g v (slots_given chosen u slots) (Of family codes.0) at_exit)).0 at_exit in
        let start = before g p n m k fits u slots chosen is_choice entry.0
        (starts_fact g k.callee (exit_of g k.callee) inside entry.0 (Of family codes.0) entry.1) entry.2 in (
          start.0,
          start.1,
          record
              { choice = chosen; is_choice = is_choice; entry = entry.0; exit = Of family codes.0; enters = start.2; follows = entry.1; returns = returns },
          start.3,
        )

-- what is always true follows from itself along each walk
pub always_along : (g : Setting) (p n : ℕ) (w : Walk g p n) → Follows g p n w Always Always
always_along g p n (begin q) = (refl, tt)
always_along g p n (step q l m b w is) = (Always, always_along g q l w, refl, tt)
always_along g p n (call q l m k w is other) = (
  Always,
  always_along g q l w,
  record {
    choice = nothing_given;
    is_choice = IsChoice-nothing g q l;
    entry = Always;
    exit = Always;
    enters = tt;
    follows = always_along g k.callee (exit_of g k.callee) other;
    returns = tt;
  },
  tt,
)

pub calls_are_exact : CallsAreExact
calls_are_exact g fit p n m k is inside exact u v slots state leads =
    let entry : IsState g k.callee 0 (entered g.client k u) no_slots =
    entered_state g p n m k (fit.calls p n k m is) u slots state nothing_given (IsChoice-nothing g p n)
    in
    let left : IsState g k.callee (exit_of g k.callee) v no_slots =
    (states_kept g fit k.callee (exit_of g k.callee) inside (entered g.client k u) v no_slots entry leads).0
    in
    record {
      each = λ e fact filled. (
        back left e fact,
        λ h. forth g fit p n m k is inside exact u v slots state left leads h.0 e filled h.2 h.3,
      );
    }
  where
    back : IsState g k.callee (exit_of g k.callee) v no_slots → (e : Fact) → IsFact g p m e → Holds g (returned k u v) slots e →
        (d : Fact) × IsFact g p n d × FollowsCall g p n k (FollowsInside g k inside) d e × Holds g u slots d
    back left Always fact holds = (
      Always,
      tt,
      record {
        choice = nothing_given;
        is_choice = IsChoice-nothing g p n;
        entry = Always;
        exit = Always;
        enters = tt;
        follows = always_along g k.callee (exit_of g k.callee) inside;
        returns = tt;
      },
      tt,
    )
    back left (Of family args) fact holds = back_of g fit p n m k is inside exact u v slots state left leads family args fact holds
