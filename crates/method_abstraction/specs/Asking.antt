-- Questions in the order of asking: all clauses by method; then for each family all methods, with each set of result positions.
use Rattle.std.specs.Prelude.{ℕ, suc, ◌/◌, ◌%◌, Bool, true, false, not, ◌==◌, ◌&&◌, ◌||◌, List, [], ◌∷◌, ◌++◌, Option, Some, None, if◌then◌else◌, length, map}
use Rattle.std.specs.List.{filter, range_with_len}
use Rattle.std.specs.Option.{option_map_or}
use Rattle.easl_model.specs.Form.{Form}
use Rattle.easl_model.specs.declared.form.Method.{Method}
use Rattle.access_paths.specs.{family_classes}
use Rattle.access_paths.specs.declared.term.Family.{Family}
use Rattle.method_abstraction.specs.declared.entry.Question.{Question}
use Rattle.method_abstraction.specs.declared.entry.Question.TheVariants.{Clause, Update}

-- a constructor has no clauses
abbrev pub clause_count : Method → ℕ
clause_count m = if m.constructor then 0 else length m.clauses

-- the clause questions of methods that are numbered from here on
abbrev pub clauses_from : ℕ → List Method → List Question
clauses_from n [] = []
clauses_from n (m ∷ ms) = map (λ k. Clause n k) (range_with_len 1 (clause_count m)) ++ clauses_from (suc n) ms

abbrev pub clause_questions : Form → List Question
clause_questions form = clauses_from 0 form.methods

-- whether the method's result is of the class of a family's variable, where there is one
abbrev pub gives : Method → Option ℕ → Bool
gives m None = false
gives m (Some class) = option_map_or (λ result. result == class) m.result false

-- whether it is so at each position whose bit is set
abbrev pub so_at : ℕ → List Bool → Bool
so_at positions [] = true
so_at positions (b ∷ bs) = (not (positions % 2 == 1) || b) && so_at (positions / 2) bs

-- whether the result may stand at these positions of the family
abbrev pub may_stand : Method → Family → ℕ → Bool
may_stand m family results = so_at results (map (gives m) (family_classes family))

-- the sets of result positions, as numbers with their bits, in order; the empty one is 0
abbrev pub result_sets : Method → Family → List ℕ
result_sets m family = filter (may_stand m family) (range_with_len 0 8)

-- the update questions of a family, by methods that are numbered from here on
abbrev pub updates_by : ℕ → Family → ℕ → List Method → List Question
updates_by number family n [] = []
updates_by number family n (m ∷ ms) = map (λ results. Update n results number) (result_sets m family) ++ updates_by number family (suc n) ms

-- those of families that are numbered from here on
abbrev pub updates_from : Form → ℕ → List Family → List Question
updates_from form number [] = []
updates_from form number (family ∷ rest) = updates_by number family 0 form.methods ++ updates_from form (suc number) rest

abbrev pub update_questions : Form → List Family → List Question
update_questions form families = updates_from form 0 families

-- all questions over these families
abbrev pub questions : Form → List Family → List Question
questions form families = clause_questions form ++ update_questions form families
