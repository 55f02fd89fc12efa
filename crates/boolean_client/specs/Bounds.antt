-- How many facts procedures may have.
use Rattle.std.specs.Prelude.{◌≡◌, ℕ, ◌<◌, ◌≤◌, length}
use Rattle.boolean_client.specs.declared.counting.BigFault.{BigFault}
use Rattle.boolean_client.specs.declared.counting.BigFault.TheVariants as fault
use Rattle.client_facts.specs.Counts.{count_facts}
use Rattle.client_facts.specs.Setting.{Setting}

abbrev pub most_facts : ℕ
most_facts = 65536

-- the first procedures, so many, have few facts each
abbrev pub FirstHaveFew : Setting → ℕ → Type 0
FirstHaveFew g many = (p : ℕ) → p < many → count_facts g p ≤ most_facts

-- each procedure has few facts
abbrev pub HasFewFacts : Setting → Type 0
HasFewFacts g = FirstHaveFew g (length g.client.procedures)

-- the first procedure with more facts, and how many it has
pub record IsFirstBig (g : Setting) (procedure many : ℕ) : Type 0 where
  pub there : procedure < length g.client.procedures
  pub before : FirstHaveFew g procedure
  pub counted : many ≡ count_facts g procedure
  pub more : most_facts < many

-- why there is no boolean client; want of memory says nothing of it
abbrev pub IsBig : Setting → BigFault → Type 0
IsBig g (fault.Facts procedure count) = IsFirstBig g procedure count
IsBig g fault.Memory = Unit {0}
