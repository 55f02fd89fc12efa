-- The facts of all clauses, by call and clause.
use Rattle.std.specs.Prelude.{◌≡◌, ℕ, suc, List, Contains, Some, length, slice_get}
use Rattle.std.specs.Option.{option_map_or}
use Rattle.std.specs.Global.{Vec}
use Rattle.client_facts.specs.Flows.{IsClauseFact}
use Rattle.client_facts.specs.Setting.{Setting}
use Rattle.client_facts.specs.declared.fact.Fact.{Fact}

-- exactly the facts of this clause of the call
abbrev pub AreFactsOf : Setting → ℕ → ℕ → List Fact → Type 0
AreFactsOf g call clause facts = (f : Fact) → (Contains facts f → IsClauseFact g call clause f) × (IsClauseFact g call clause f → Contains facts f)

-- how many clauses the method of a call has
abbrev pub clauses_at : Setting → ℕ → ℕ
clauses_at g call =
    option_map_or (λ site. option_map_or (λ m. length m.clauses) (slice_get g.form.methods site.method) 0) (slice_get g.client.calls call) 0

-- this is true of each item and its number
abbrev pub IsTrueOfEach : {X : Type 0} → (ℕ → X → Type 0) → List X → Type 0
IsTrueOfEach R xs = (number : ℕ) (x : _) → slice_get xs number ≡ Some x → R number x

-- the facts of the first clauses of the call, so many
pub record AreFirstFacts (g : Setting) (call many : ℕ) (row : List (Vec Fact)) : Type 0 where
  pub length_is : length row ≡ many
  pub each : IsTrueOfEach (λ number facts. AreFactsOf g call (suc number) facts.items) row

-- the facts of each clause of the first calls, so many
pub record AreClauseFacts (g : Setting) (many : ℕ) (table : List (Vec (Vec Fact))) : Type 0 where
  pub length_is : length table ≡ many
  pub each : IsTrueOfEach (λ call row. AreFirstFacts g call (clauses_at g call) row.items) table
