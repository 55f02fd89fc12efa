-- Counts of statements in place, as far as the limit.
use Rattle.std.specs.Prelude.{ℕ, zero, suc, ◌+◌, List, [], ◌∷◌, ◌++◌, Option, Some, None, if◌then◌else◌, length, map, min, nat_lt, slice_get, unwrap_or}
use Rattle.easl_model.specs.{body_of, broken_if, statements_of, total_count, value_count}
use Rattle.easl_model.specs.Form.{Form}
use Rattle.easl_model.specs.declared.fault.Fault.{Fault}
use Rattle.easl_model.specs.declared.fault.Rule.TheVariants as rule
use Rattle.easl_model.specs.declared.form.Method.{Method}
use Rattle.easl_model.specs.declared.place.Place.{Place}

-- beyond the limit all counts are one
abbrev pub cut : ℕ → ℕ
cut n = min n 1025

-- what the list counts for a class's constructor
abbrev pub count_at : List ℕ → ℕ → ℕ
count_at counts class = unwrap_or (slice_get counts class) 0

-- what constructors execute, where those that they call are counted so
abbrev pub next_counts : Form → List ℕ → List ℕ
next_counts form counts = map (λ c. cut (total_count (count_at counts) (body_of form c.constructor))) form.classes

-- what they execute with those that they call, so deep
abbrev pub counts_after : Form → ℕ → List ℕ
counts_after form zero = []
counts_after form (suc depth) = next_counts form (counts_after form depth)

abbrev pub count_by : List ℕ → Method → ℕ
count_by counts m =
    if m.constructor then count_at counts m.class else total_count (count_at counts) (statements_of m.body) + value_count (count_at counts) m.value

abbrev pub long_at : List ℕ → Option Method → Place → List Fault
long_at counts None place = []
long_at counts (Some m) place = broken_if (nat_lt 1024 (cut (count_by counts m))) rule.TooLong place

-- of the methods from this number on, whose names stand at these places
abbrev pub long_from : List ℕ → List Method → ℕ → List Place → List Fault
long_from counts methods k [] = []
long_from counts methods k (place ∷ places) = long_at counts (slice_get methods k) place ++ long_from counts methods (suc k) places

abbrev pub long_methods : Form → List Place → List Fault
long_methods form places = long_from (counts_after form (length form.classes)) form.methods 0 places
