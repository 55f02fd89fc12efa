-- Facts whose names stand for one another.
use Rattle.std.proofs.Common.{◌≡◌, ◌≢◌, inl, inr, ⊎_elim, ℕ, List, [], ◌∷◌, refl, sym, subst, ◌∙◌, true}
use Rattle.std.specs.List.{AllZip}
use Rattle.access_paths.specs.{by_objects, cube_holds}
use Rattle.client_facts.specs.Calls.{AllThree, Match}
use Rattle.client_facts.specs.FactSlots.{AllSlots, AtSlot, HasSlot, IsAmong, IsFilled}
use Rattle.client_facts.specs.Facts.{HasObject, Holds, IsFact, classes_of, literals_of, objects_by}
use Rattle.client_facts.specs.Names.{IsNameAt, Slots, object_in, object_named}
use Rattle.client_facts.specs.Setting.{Setting}
use Rattle.client_facts.specs.declared.fact.Fact.{Fact}
use Rattle.client_facts.specs.declared.fact.Fact.TheVariants.{Always, Of}
use Rattle.client_model.specs.Codes.{Name, Result, Slot, Static, Variable, name_of}
use Rattle.client_steps.specs.States.{State}
use Rattle.walk_laws.proofs.Three.{right_of, three_all, three_left, three_objects, three_right, three_swap, zip_all}

module _ (g : Setting) where
  pub matches_swap : (R : ℕ → ℕ → ℕ → Type 0) (d e : Fact) → Match g R d e → Match g (λ x z y. R x y z) e d
  matches_swap R Always Always h = tt
  matches_swap R Always (Of f codes) h = absurd h
  matches_swap R (Of f args) Always h = absurd h
  matches_swap R (Of f args) (Of o codes) h =
      (sym h.0, subst (λ f. AllThree (λ x z y. R x y z) (classes_of g f) codes args) h.0 (three_swap R (classes_of g f) args codes h.1))

  pub matches_all : (R S : ℕ → ℕ → ℕ → Type 0) → ((x y z : ℕ) → R x y z → S x y z) → (d e : Fact) → Match g R d e → Match g S d e
  matches_all R S f Always Always h = tt
  matches_all R S f Always (Of o codes) h = absurd h
  matches_all R S f (Of o args) Always h = absurd h
  matches_all R S f (Of o args) (Of r codes) h = (h.0, three_all R S f (classes_of g o) args codes h.1)

  -- what the names of the first fact are
  pub matches_left : (R : ℕ → ℕ → ℕ → Type 0) (p n : ℕ) (d e : Fact) → Match g R d e → IsFact g p n d → Match g (λ x y z. R x y z × IsNameAt g p n x y) d e
  matches_left R p n Always Always h fact = tt
  matches_left R p n Always (Of f codes) h fact = absurd h
  matches_left R p n (Of f args) Always h fact = absurd h
  matches_left R p n (Of f args) (Of o codes) h fact = (h.0, three_left R (IsNameAt g p n) (classes_of g f) args codes h.1 fact.1)

  -- what the names of the second fact are
  pub matches_right : (R : ℕ → ℕ → ℕ → Type 0) (p n : ℕ) (d e : Fact) → Match g R d e → IsFact g p n e → Match g (λ x y z. R x y z × IsNameAt g p n x z) d e
  matches_right R p n d e h fact =
      matches_swap (λ x z y. R x y z × IsNameAt g p n x z) e d (matches_left (λ x z y. R x y z) p n e d (matches_swap R d e h) fact)

  -- what is said of the slots of the second fact
  pub with_slots : (R : ℕ → ℕ → ℕ → Type 0) (F : ℕ → ℕ → Type 0) (d e : Fact) → Match g R d e → AllSlots g F e →
      Match g (λ x y z. R x y z × AtSlot F x (name_of z)) d e
  with_slots R F Always Always h all = tt
  with_slots R F Always (Of f codes) h all = absurd h
  with_slots R F (Of f args) Always h all = absurd h
  with_slots R F (Of f args) (Of o codes) h all = (
    h.0,
    three_right R (λ x z. AtSlot F x (name_of z)) (classes_of g f) args codes h.1
        (subst (λ f. AllZip (λ class code. AtSlot F class (name_of code)) (classes_of g f) codes) (sym h.0) all),
  )

  -- what is said of slots
  pub slots_across : (R : ℕ → ℕ → ℕ → Type 0) (F G : ℕ → ℕ → Type 0) → ((x y z : ℕ) → R x y z → AtSlot F x (name_of y) → AtSlot G x (name_of z)) →
      (d e : Fact) → Match g R d e → AllSlots g F d → AllSlots g G e
  slots_across R F G f Always Always h all = tt
  slots_across R F G f Always (Of o codes) h all = absurd h
  slots_across R F G f (Of o args) Always h all = absurd h
  slots_across R F G f (Of o args) (Of r codes) h all =
      subst (λ r. AllSlots g G (Of r codes)) h.0
      (right_of (λ x y z. R x y z × AtSlot F x (name_of y)) (λ x z. AtSlot G x (name_of z)) (λ x y z k. f x y z k.0 k.1) (classes_of g o) args codes
      (three_left R (λ x y. AtSlot F x (name_of y)) (classes_of g o) args codes h.1 all))

  at_slot_all : (F G : ℕ → ℕ → Type 0) → ((class number : ℕ) → F class number → G class number) → (class : ℕ) (x : Name) → AtSlot F class x → AtSlot G class x
  at_slot_all F G f class (Static k) h = tt
  at_slot_all F G f class (Variable j) h = tt
  at_slot_all F G f class (Slot j) h = f class j h
  at_slot_all F G f class (Result j) h = tt

  pub slots_all : (F G : ℕ → ℕ → Type 0) → ((class number : ℕ) → F class number → G class number) → (e : Fact) → AllSlots g F e → AllSlots g G e
  slots_all F G f Always h = tt
  slots_all F G f (Of o args) h =
      zip_all (λ class code. AtSlot F class (name_of code)) (λ class code. AtSlot G class (name_of code))
      (λ class code. at_slot_all F G f class (name_of code)) (classes_of g o) args h

  among_all : (P : ℕ → ℕ → Type 0) (classes args : List ℕ) → AllZip P classes args → (class code : ℕ) → IsAmong classes args class code → P class code
  among_all P [] args all class code among = absurd among
  among_all P (x ∷ classes) [] all class code among = absurd all
  among_all P (x ∷ classes) (a ∷ args) all class code among =
      ⊎_elim
      (λ (here : (x ≡ class) × (a ≡ code)). subst (λ y. P y code) here.0 (subst (P x) here.1 all.0))
      (λ (later : IsAmong classes args class code). among_all P classes args all.1 class code later)
      among

  all_among : (P Q : ℕ → ℕ → Type 0) (classes args : List ℕ) → AllZip Q classes args → ((class code : ℕ) → IsAmong classes args class code → P class code) →
      AllZip P classes args
  all_among P Q [] [] all f = tt
  all_among P Q [] (a ∷ args) all f = absurd all
  all_among P Q (x ∷ classes) [] all f = absurd all
  all_among P Q (x ∷ classes) (a ∷ args) all f = (f x a (inl (refl, refl)), all_among P Q classes args all.1 (λ class code among. f class code (inr among)))

  slot_so : (F : ℕ → ℕ → Type 0) (e : Fact) → AllSlots g F e → (class number : ℕ) → HasSlot g e class number → F class number
  slot_so F Always all class number has = absurd has
  slot_so F (Of o args) all class number has =
      subst (AtSlot F class) has.2 (among_all (λ class code. AtSlot F class (name_of code)) (classes_of g o) args all class has.0 has.1)

  slots_so : (F : ℕ → ℕ → Type 0) (p n : ℕ) (d : Fact) → IsFact g p n d → ((class number : ℕ) → HasSlot g d class number → F class number) → AllSlots g F d
  slots_so F p n Always fact f = tt
  slots_so F p n (Of o args) fact f =
      all_among (λ class code. AtSlot F class (name_of code)) (IsNameAt g p n) (classes_of g o) args fact.1
      (λ class code among. of_name class code among (name_of code) refl)
    where
      of_name : (class code : ℕ) → IsAmong (classes_of g o) args class code → (x : Name) → name_of code ≡ x → AtSlot F class x
      of_name class code among (Static k) is = tt
      of_name class code among (Variable j) is = tt
      of_name class code among (Slot j) is = f class j (code, among, is)
      of_name class code among (Result j) is = tt

  -- what is said of all slots of one fact is said of those of another whose slots are among them
  pub slots_among : (F : ℕ → ℕ → Type 0) (p n : ℕ) (d e : Fact) → IsFact g p n d → ((class number : ℕ) → HasSlot g d class number → HasSlot g e class number) →
      AllSlots g F e → AllSlots g F d
  slots_among F p n d e fact among all = slots_so F p n d fact (λ class number has. slot_so F e all class number (among class number has))

  has_filled : (s : State) (slots : Slots) (class : ℕ) (x : Name) → object_named s slots class x ≢ 0 → AtSlot (λ class number. slots class number ≢ 0) class x
  has_filled s slots class (Static k) h = tt
  has_filled s slots class (Variable j) h = tt
  has_filled s slots class (Slot j) h = h
  has_filled s slots class (Result j) h = tt

  -- the slots of a true fact have objects
  pub holds_filled : (s : State) (slots : Slots) (e : Fact) → Holds g s slots e → IsFilled g slots e
  holds_filled s slots Always h = tt
  holds_filled s slots (Of o args) h =
      zip_all (HasObject s slots) (λ class code. AtSlot (λ class number. slots class number ≢ 0) class (name_of code))
      (λ class code. has_filled s slots class (name_of code)) (classes_of g o) args h.0

  holds_list : (R : ℕ → ℕ → ℕ → Type 0) (s t : State) (slots others : Slots) → s.heap ≡ t.heap →
      ((x y z : ℕ) → R x y z → object_in s slots x y ≡ object_in t others x z) → (o : ℕ) (args codes : List ℕ) → AllThree R (classes_of g o) args codes →
      Holds g s slots (Of o args) → Holds g t others (Of o codes)
  holds_list R s t slots others heap same o args codes all h =
      let objects = three_objects R (object_in s slots) (object_in t others) same (classes_of g o) args codes all in (
        right_of (λ x y z. R x y z × HasObject s slots x y) (HasObject t others) (λ x y z k none. k.1 (same x y z k.0 ∙ none)) (classes_of g o) args codes
            (three_left R (HasObject s slots) (classes_of g o) args codes all h.0),
        subst (λ heap. cube_holds (by_objects heap (objects_by (object_in t others) (classes_of g o) codes)) (literals_of g o) ≡ true) heap
            (subst (λ os. cube_holds (by_objects s.heap os) (literals_of g o) ≡ true) objects h.1),
      )

  -- truth goes over where names have the same objects
  pub holds_across : (R : ℕ → ℕ → ℕ → Type 0) (s t : State) (slots others : Slots) → s.heap ≡ t.heap →
      ((x y z : ℕ) → R x y z → object_in s slots x y ≡ object_in t others x z) → (d e : Fact) → Match g R d e → Holds g s slots d → Holds g t others e
  holds_across R s t slots others heap same Always Always match h = tt
  holds_across R s t slots others heap same Always (Of o codes) match h = absurd match
  holds_across R s t slots others heap same (Of o args) Always match h = absurd match
  holds_across R s t slots others heap same (Of o args) (Of r codes) match h =
      subst (λ r. Holds g t others (Of r codes)) match.0 (holds_list R s t slots others heap same o args codes match.1 h)

  pub holds_back : (R : ℕ → ℕ → ℕ → Type 0) (s t : State) (slots others : Slots) → s.heap ≡ t.heap →
      ((x y z : ℕ) → R x y z → object_in s slots x y ≡ object_in t others x z) → (d e : Fact) → Match g R d e → Holds g t others e → Holds g s slots d
  holds_back R s t slots others heap same d e match h =
      holds_across (λ x z y. R x y z) t s others slots (sym heap) (λ x z y r. sym (same x y z r)) e d (matches_swap R d e match) h
