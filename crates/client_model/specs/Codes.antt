-- Name codes: the numbers by which a procedure's names stand in its checked form and in facts.
use Rattle.std.specs.Prelude.{◌≡◌, ℕ, zero, suc, ◌*◌, ◌+◌, ◌/◌, ◌%◌}

-- the static of this number
abbrev pub static_code : ℕ → ℕ
static_code number = 4 * number

-- the parameter or local of this number in its procedure
abbrev pub variable_code : ℕ → ℕ
variable_code number = 4 * number + 1

-- the hidden slot of this number
abbrev pub slot_code : ℕ → ℕ
slot_code number = 4 * number + 2

-- the result, the only one of its kind
abbrev pub result_code : ℕ
result_code = 3

-- what a code names; the result has number 0
pub data Name : Type 0 where
  Static : ℕ → Name
  Variable : ℕ → Name
  Slot : ℕ → Name
  Result : ℕ → Name

-- the name of this kind and number
abbrev pub name_by : ℕ → ℕ → Name
name_by zero number = Static number
name_by (suc zero) number = Variable number
name_by (suc (suc zero)) number = Slot number
name_by (suc (suc (suc more))) number = Result number

abbrev pub name_of : ℕ → Name
name_of code = name_by (code % 4) (code / 4)

-- no two names have one code: each code tells its name
pub record CodesTellNames : Type 0 where
  pub statics : (k : ℕ) → name_of (static_code k) ≡ Static k
  pub variables : (j : ℕ) → name_of (variable_code j) ≡ Variable j
  pub slots : (j : ℕ) → name_of (slot_code j) ≡ Slot j
  pub result : name_of result_code ≡ Result 0
