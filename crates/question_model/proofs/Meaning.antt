-- What symbolic values and writes stand for in a heap.
use Rattle.std.proofs.Common.{◌≡◌, ℕ, suc, ◌+◌, ◌==◌, ◌&&◌, if◌then◌else◌, List, [], ◌∷◌, length, Option, Some, slice_get, slice_index}
use Rattle.easl_model.specs.Form.{Form}
use Rattle.easl_heap.specs.{IsFull, IsObjectOf, KeepsClasses, Object, get}
use Rattle.access_paths.specs.{IsTermOf, object_of}
use Rattle.easl_heap.proofs.Reading.{AreWide}
use Rattle.question_model.specs.declared.value.Value.TheVariants.{Before, Fresh, Nothing}
use Rattle.question_model.specs.declared.value.Value.{Value}
use Rattle.question_model.specs.declared.value.Write.{Write}

-- a full heap before a call, with the objects of variables that have these classes
pub record Start (form : Form) (variables : List (Option ℕ)) (before : List Object) (objects : List ℕ) : Type 0 where
  pub full : IsFull form before
  pub given : (n class : ℕ) → slice_get variables n ≡ Some (Some class) → IsObjectOf before class (slice_index objects n)

module _ (before : List Object) (objects : List ℕ) where
  -- the object that a value is; 0 where it is none
  abbrev pub denote : Value → ℕ
  denote (Before class t) = object_of before objects t
  denote (Fresh class n) = length before + suc n
  denote Nothing = 0

  -- what a field holds after these writes
  abbrev pub after : List Write → ℕ → ℕ → ℕ
  after [] n p = get before n p
  after (w ∷ older) n p = if denote w.owner == n && w.position == p then denote w.value else after older n p

module _ (form : Form) (variables : List (Option ℕ)) (before : List Object) (objects : List ℕ) where
  -- a value is of the class that it says, in the heap as it is now
  abbrev pub IsGood : List Object → Value → Type 0
  IsGood now (Before class t) = IsTermOf form variables t class
  IsGood now (Fresh class n) = IsObjectOf now class (length before + suc n)
  IsGood now Nothing = Unit {0}

  abbrev pub AllGood : List Object → List Value → Type 0
  AllGood now [] = Unit {0}
  AllGood now (v ∷ vs) = IsGood now v × AllGood now vs

  pub record IsGoodWrite (now : List Object) (w : Write) : Type 0 where
    pub owner : IsGood now w.owner
    pub of : IsObjectOf now w.class (denote before objects w.owner)
    pub value : IsGood now w.value

  abbrev pub AllGoodWrites : List Object → List Write → Type 0
  AllGoodWrites now [] = Unit {0}
  AllGoodWrites now (w ∷ older) = IsGoodWrite now w × AllGoodWrites now older

  -- the heap as it is now is the one before after these writes, with so many objects made
  pub record Matches (writes : List Write) (count : ℕ) (now : List Object) : Type 0 where
    pub made : length now ≡ length before + count
    pub kept : KeepsClasses before now
    pub wide : AreWide form now
    pub good : AllGoodWrites now writes
    pub fields : (n p : ℕ) → get now n p ≡ after before objects writes n p

  pub stays_good : (now next : List Object) (v : Value) → KeepsClasses now next → IsGood now v → IsGood next v
  stays_good now next (Before class t) kept good = good
  stays_good now next (Fresh class n) kept good = kept class (length before + suc n) good
  stays_good now next Nothing kept good = good

  pub stay_good : (now next : List Object) (vs : List Value) → KeepsClasses now next → AllGood now vs → AllGood next vs
  stay_good now next [] kept good = tt
  stay_good now next (v ∷ vs) kept good = (stays_good now next v kept good.0, stay_good now next vs kept good.1)

  pub writes_stay : (now next : List Object) (ws : List Write) → KeepsClasses now next → AllGoodWrites now ws → AllGoodWrites next ws
  writes_stay now next [] kept good = tt
  writes_stay now next (w ∷ ws) kept good = (
    record {
      owner = stays_good now next w.owner kept good.0.owner;
      of = kept w.class (denote before objects w.owner) good.0.of;
      value = stays_good now next w.value kept good.0.value;
    },
    writes_stay now next ws kept good.1,
  )
