-- Matched paths: how a procedure is entered, and then a walk of it.
use Rattle.std.specs.Prelude.{◌≡◌, ◌⊎◌, ℕ, Bool, List, [], ◌++◌}
use Rattle.client_facts.specs.Over.{EntersAt}
use Rattle.client_facts.specs.Setting.{IsCall, Setting}
use Rattle.client_walks.specs.Walks.{Follows, Leads, Walk, choices_on}
use Rattle.client_facts.specs.declared.fact.Fact.{Fact}
use Rattle.client_facts.specs.declared.fact.Fact.TheVariants.{Always}
use Rattle.client_steps.specs.States.{Call, State, entered}

-- the walks before the last one: the first is of the start, and each ends at a call of the next one's procedure
pub data Entry (g : Setting) : ℕ → Type 0 where
  start : Entry g 0
  inside : (p n m : ℕ) (k : Call) → Entry g p → Walk g p n → IsCall g p n k m → Entry g k.callee

-- a path to a point of a procedure
pub record Path (g : Setting) (p n : ℕ) : Type 0 where
  pub entry : Entry g p
  pub walk : Walk g p n

-- the fact is true where the procedure is entered so
abbrev pub IsTrueAtEntry : (g : Setting) (p : ℕ) → Entry g p → Fact → Type 0
IsTrueAtEntry g p start d = d ≡ Always
IsTrueAtEntry g p (inside q n m k into w is) d = (e f : Fact) × IsTrueAtEntry g q into e × Follows g q n w e f × EntersAt g q n k f d

-- the fact is true along the path
abbrev pub IsTrueAlong : (g : Setting) (p n : ℕ) → Path g p n → Fact → Type 0
IsTrueAlong g p n path e = (d : Fact) × IsTrueAtEntry g p path.entry d × Follows g p n path.walk d e

-- the procedure is entered with the fact: `Always` wherever a path enters it, another one where it is true there
abbrev pub IsEntered : (g : Setting) (p : ℕ) → Fact → Type 0
IsEntered g p d = ((d ≡ Always) × Entry g p) ⊎ ((into : Entry g p) × IsTrueAtEntry g p into d)

-- from the one state, before the first initialiser, the procedure is entered so in the other, and no clause is false
abbrev pub LeadsIn : (g : Setting) (p : ℕ) → Entry g p → State → State → Type 0
LeadsIn g p start s t = s ≡ t
LeadsIn g p (inside q n m k into w is) s t = (u v : State) × LeadsIn g q into s u × Leads g q n w u v × (entered g.client k v ≡ t)

abbrev pub LeadsTo : (g : Setting) (p n : ℕ) → Path g p n → State → State → Type 0
LeadsTo g p n path s t = (u : State) × LeadsIn g p path.entry s u × Leads g p n path.walk u t

abbrev pub choices_in : (g : Setting) (p : ℕ) → Entry g p → List Bool
choices_in g p start = []
choices_in g p (inside q n m k into w is) = choices_in g q into ++ choices_on g q n w

-- the outcomes of the tests along a path, in order
abbrev pub choices_along : (g : Setting) (p n : ℕ) → Path g p n → List Bool
choices_along g p n path = choices_in g p path.entry ++ choices_on g p n path.walk
