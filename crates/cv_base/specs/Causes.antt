-- What the outside tells: counts of faults, what is held, what was taken.
use Rattle.std.specs.Prelude.{◌≡◌, ℕ, ◌+◌, ◌-◌, ◌^◌, ◌≤◌, List, ◌++◌, Option, Some, min, take, IfSome}

-- where counters stand still
abbrev pub last_count : ℕ
last_count = 2 ^ 64 - 1

-- a counter's next value: the next number, or the last value again
abbrev pub next_count : ℕ → ℕ
next_count n = min (n + 1) last_count

-- a count rose, or stands at its last value
abbrev pub Rose : ℕ → ℕ → Type 0
Rose before now = next_count before ≤ now

-- where it is told, what was taken grew by these bytes
abbrev pub Appends : Option (List ℕ) → Option (List ℕ) → List ℕ → Type 0
Appends old new bytes = IfSome old (λ taken. new ≡ Some (taken ++ bytes))

-- where it is told what is held, these bytes are the first of it: one more than most at the most
abbrev pub Begins : Option (List ℕ) → ℕ → List ℕ → Type 0
Begins held most bytes = IfSome held (λ text. bytes ≡ take (most + 1) text)
