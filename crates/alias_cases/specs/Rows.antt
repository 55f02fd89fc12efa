-- Where literals are true, among the configurations of a term list.
use Rattle.std.specs.Prelude.{◌≡◌, ℕ, ◌/◌, ◌%◌, ◌<◌, Bool, true, false, List, [], All, get_or, length, map, slice_get}
use Rattle.std.specs.List.{AllZip}
use Rattle.std.specs.Option.{option_map_or}
use Rattle.access_paths.specs.{literal_holds}
use Rattle.access_paths.specs.declared.term.Literal.{Literal}
use Rattle.case_model.specs.{by_blocks}
use Rattle.cube_search.specs.Cubes.{IsSet}
use Rattle.cube_search.specs.Truths.{IsRowOf}
use Rattle.alias_cases.specs.declared.case.Cases.{Cases}
use Rattle.alias_cases.specs.declared.rows.Rows.{Rows}

-- in which configurations a literal is true
abbrev pub truths_of : Cases → Literal → List Bool
truths_of cases l = map (λ bs. literal_holds (by_blocks cases.terms.list bs) l) cases.list

-- how many literals and how many configurations there are
abbrev pub literal_count : Rows → ℕ
literal_count rows = length rows.rows.items

abbrev pub case_count : Rows → ℕ
case_count rows = rows.count

-- the rows of these literals in these configurations
pub record AreRowsOf (cases : Cases) (literals : List Literal) (table : Rows) : Type 0 where
  pub count : case_count table ≡ length cases.list
  pub rows : AllZip (λ l row. IsRowOf (truths_of cases l) row) literals table.rows.items

-- whether the literal of this number is true in the configuration of this number
abbrev pub is_true_at : Cases → List Literal → ℕ → ℕ → Bool
is_true_at cases literals number k = option_map_or (literal_holds (by_blocks cases.terms.list (get_or cases.list k []))) (slice_get literals number) false

-- the bit is set in the rows of all these numbers
abbrev pub AreAllSet : List (List ℕ) → List ℕ → ℕ → ℕ → Type 0
AreAllSet rows numbers word bit = All (λ n. IsSet (get_or rows n []) word bit) numbers

-- the bit of configuration k is set
abbrev pub IsChosen : List ℕ → ℕ → Type 0
IsChosen chosen k = IsSet chosen (k / 64) (k % 64)

-- in a chosen configuration all the literals of these numbers are true
abbrev pub AreMet : Cases → List Literal → List ℕ → List ℕ → Type 0
AreMet cases literals numbers chosen = (k : ℕ) × (k < length cases.list) × IsChosen chosen k × All (λ n. is_true_at cases literals n k ≡ true) numbers
