-- Places of edges by context.
use Rattle.std.specs.Prelude.{◌≡◌, ◌⊎◌, ℕ, List, Contains, Some, slice_get}
use Rattle.client_facts.specs.NameLists.{at_class}
use Rattle.tabulation.specs.declared.table.Context.{Context}

-- the contexts by their numbers, and by number the places of each
pub record PlaceLists : Type 0 where
  pub contexts : List Context
  pub lists : List (List ℕ)

-- the place is one of the context's
pub record IsPlaced (t : PlaceLists) (c : Context) (p : ℕ) : Type 0 where
  pub number : ℕ
  pub context : slice_get t.contexts number ≡ Some c
  pub place : Contains (at_class t.lists number) p

-- the place is in one of the lists
pub record HasPlace (t : PlaceLists) (p : ℕ) : Type 0 where
  pub number : ℕ
  pub place : Contains (at_class t.lists number) p

abbrev pub HasNone : PlaceLists → Type 0
HasNone t = (p : ℕ) → HasPlace t p → ⊥

-- the new places are the old ones, and this one of the context
pub record IsWithPlace (old : PlaceLists) (c : Context) (p : ℕ) (new : PlaceLists) : Type 0 where
  pub kept : (d : Context) (q : ℕ) → IsPlaced old d q → IsPlaced new d q
  pub added : IsPlaced new c p
  pub only : (q : ℕ) → HasPlace new q → HasPlace old q ⊎ (q ≡ p)
