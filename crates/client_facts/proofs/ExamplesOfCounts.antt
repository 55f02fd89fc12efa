-- How many facts a procedure with many variables has, by computing.
use Rattle.std.proofs.Common.{◌≡◌, ℕ, [], ◌∷◌, refl}
use Rattle.std.specs.Prelude.{Some, None, replicate}
use Rattle.client_facts.proofs.Cmp.{setting}
use Rattle.client_facts.specs.Counts.{count_facts, count_names}
use Rattle.client_model.specs.CheckedForm.{ClientForm}
use Rattle.client_model.specs.Nodes.{end}

-- a procedure with `Set v` and so many iterators
abbrev with_iterators : ℕ → ClientForm
with_iterators many = record {
  statics = [];
  procedures =
      record { name = []; params = []; result = None; variables = Some 1 ∷ replicate many (Some 0); points = []; shape = end; set = [] } ∷ [];
  calls = [];
}

-- v and three slots
sets : count_names (setting (with_iterators 250)) 0 1 ≡ 4
sets = refl

just_few : count_facts (setting (with_iterators 250)) 0 ≡ 65290
just_few = refl

too_many : count_facts (setting (with_iterators 251)) 0 ≡ 65802
too_many = refl
