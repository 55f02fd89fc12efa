-- How many facts a procedure has.
use Rattle.std.specs.Prelude.{ℕ, ◌+◌, ◌*◌, ◌==◌, Bool, false, List, Option, count_by, fold, if◌then◌else◌, sum_by}
use Rattle.std.specs.Option.{option_map_or}
use Rattle.client_facts.specs.Setting.{Setting, result_of, variables_of}

abbrev pub is_of : ℕ → Option ℕ → Bool
is_of class known = option_map_or (λ other. class == other) known false

-- how many names may stand at a position of this class: statics, parameters and locals, three slots, and the result
abbrev pub count_names : Setting → ℕ → ℕ → ℕ
count_names g p class =
    count_by (is_of class) g.client.statics + count_by (is_of class) (variables_of g p) + 3 + (if is_of class (result_of g p) then 1 else 0)

-- a family with each of these names for each of its variables
abbrev pub count_instances : Setting → ℕ → List ℕ → ℕ
count_instances g p classes = fold (λ count class. count * count_names g p class) 1 classes

-- besides what is always true
abbrev pub count_facts : Setting → ℕ → ℕ
count_facts g p = sum_by (λ f. count_instances g p f.classes) g.abstraction.families
