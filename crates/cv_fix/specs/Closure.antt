-- What a list and its rules give, in which order it is found, and how the search for it ends.
use Rattle.std.specs.Prelude.{◌≡◌, ℕ, zero, suc, ◌<◌, ◌≤◌, Bool, List, [], ◌++◌, length, take, slice_index_or, Contains, Option, Some, None, Err, Result, IsOk}
use Rattle.std.specs.Result.{result_unwrap_or}
use Rattle.indexmap.specs.IndexSet.{insert_all}

-- the different ones of these, each where it stands first; `eq` tells whether two are one
abbrev pub distinct : {T : Type 0} → (T → T → Bool) → List T → List T
distinct eq xs = insert_all eq [] xs

-- `follows xs` is what follows from the last item of xs and the items before it, or the refusal.
module _ {T S : Type 0} (follows : List T → Result (List T) S) where
  -- what the item at place n gives; nothing where it refuses
  abbrev pub given_at : List T → ℕ → List T
  given_at items n = result_unwrap_or (follows (take (suc n) items)) []

  -- what the first n items give, in order
  abbrev pub given : List T → ℕ → List T
  given items zero = []
  given items (suc n) = given items n ++ given_at items n

  -- the item at place n gives x
  pub record Gives (items : List T) (n : ℕ) (x : T) : Type 0 where
    pub place : n < length items
    pub gives : Contains (given_at items n) x

  -- The items hold what each of them gives.
  abbrev pub IsClosed : List T → Type 0
  IsClosed items = (n : ℕ) (x : T) → Gives items n x → Contains items x

  -- the item at place n is the first that gives x, which no start is
  pub record IsFirstGiver (starts items : List T) (n : ℕ) (x : T) : Type 0 where
    pub new : ¬ Contains starts x
    pub gives : Gives items n x
    pub first : (k : ℕ) → k < n → ¬ Gives items k x

  -- Why the item x at place m is there: a start has no cause, another item has the first that gives it, which stands before it.
  abbrev pub IsCause : (starts items : List T) → ℕ → T → Option ℕ → Type 0
  IsCause starts items m x None = Contains starts x
  IsCause starts items m x (Some n) = (n < m) × IsFirstGiver starts items n x

  -- each item has its cause, place by place
  pub record HaveCauses (starts items : List T) (causes : List (Option ℕ)) : Type 0 where
    pub as_many : length causes ≡ length items
    pub each : (m : ℕ) (x : T) (c : Option ℕ) → m < length items → IsCause starts items m (slice_index_or items m x) (slice_index_or causes m c)

  -- Below, `eq` tells whether two items are one.
  module _ (eq : T → T → Bool) (starts : List T) where
    -- The different starts in order, and then for each of the first n items in order what it gives that is new.
    abbrev pub found : List T → ℕ → List T
    found items n = distinct eq (starts ++ given items n)

    -- The first n of these items were asked: each was found by then and did not refuse, and these items are what is found.
    pub record IsSoFar (items : List T) (n : ℕ) : Type 0 where
      pub order : items ≡ found items n
      pub known : (k : ℕ) → k < n → k < length (found items k)
      pub accepted : (k : ℕ) → k < n → IsOk (follows (take (suc k) items))

    -- All items were asked: nothing more follows.
    abbrev pub IsClosure : List T → Type 0
    IsClosure items = IsSoFar items (length items)

    -- With at most `limit` items found, the item at place n is asked next.
    pub record IsAsked (limit : ℕ) (items : List T) (n : ℕ) : Type 0 where
      pub so_far : IsSoFar items n
      pub next : n < length items
      pub room : length items ≤ limit

    -- The first item that refuses stands at place n, and refuses with `stop`.
    pub record Refuses (limit n : ℕ) (stop : S) : Type 0 where
      pub items : List T
      pub asked : IsAsked limit items n
      pub refused : follows (take (suc n) items) ≡ Err stop

    -- The item at place n gives so many that there are more than `limit`.
    pub record Exceeds (limit n : ℕ) : Type 0 where
      pub items : List T
      pub asked : IsAsked limit items n
      pub beyond : limit < length (found items (suc n))
