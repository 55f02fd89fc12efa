-- A shelf and a sink in memory, and what a load and a write do to them.
use Rattle.std.specs.Prelude.{◌≡◌, ℕ, ◌+◌, ◌-◌, ◌==◌, Bool, true, false, ◌||◌, List, [], ◌∷◌, ◌++◌, length, take, min, Option, Some, None, Result, Ok, Err, Vec, nat_eq, if◌then◌else◌, is_none, IfSome}
use Rattle.std.specs.List.{list_any}
use Rattle.std.specs.Cmp.Lexicographic.{pointwise}
use Rattle.std.specs.declared.alloc.Global.{Global}
use Rattle.cv_base.specs.Causes.{next_count}
use Rattle.cv_base.specs.declared.mem_shelf.Held.{Held}
use Rattle.cv_base.specs.declared.shelf.LoadFault.{LoadFault}
use Rattle.cv_base.specs.declared.shelf.LoadFault.TheVariants.{Failed, Memory}
use Rattle.cv_base.specs.declared.sink.SinkFault.{SinkFault}

-- a shelf: its entries, the count of faults that all missing names share, the numbers of the loads
-- that fail, and the number of the next load
pub record Files : Type 0 where
  pub files : List Held
  pub missing : ℕ
  pub fails : List ℕ
  pub loads : ℕ

abbrev pub is_named : List ℕ → Held → Bool
is_named name entry = pointwise nat_eq entry.name name

-- what is held under a name: the first entry counts
abbrev pub text_under : List Held → List ℕ → Option (List ℕ)
text_under [] name = None
text_under (h ∷ hs) name = if is_named name h then Some h.text else text_under hs name

-- the name's count of faults, or that of all missing names
abbrev pub count_under : List Held → ℕ → List ℕ → ℕ
count_under [] missing name = missing
count_under (h ∷ hs) missing name = if is_named name h then h.faults else count_under hs missing name

abbrev pub held : Files → List ℕ → Option (List ℕ)
held s name = text_under s.files name

abbrev pub faults : Files → List ℕ → ℕ
faults s name = count_under s.files s.missing name

-- the entries with one more fault at the first entry of the name, if there is one
abbrev pub raised : List Held → List ℕ → List Held
raised [] name = []
raised (h ∷ hs) name = if is_named name h then record h { faults = next_count h.faults } ∷ hs else h ∷ raised hs name

-- the count of all missing names, after a fault of the name
abbrev pub missing_after : List Held → ℕ → List ℕ → ℕ
missing_after entries missing name = if is_none (text_under entries name) then next_count missing else missing

-- the shelf after a load
abbrev pub counted : Files → Files
counted s = record s { loads = next_count s.loads }

-- the shelf after a load of the name that failed
abbrev pub faulted : Files → List ℕ → Files
faulted s name = record (counted s) {
  files = raised s.files name;
  missing = missing_after s.files s.missing name;
}

-- whether the next load fails, of this name
abbrev pub load_fails : Files → List ℕ → Bool
load_fails s name = list_any (λ n. n == s.loads) s.fails || is_none (held s name)

-- a load of the name: what it answers, and the shelf before and after it
abbrev pub Loads : Files → Files → List ℕ → ℕ → Result (Vec ℕ Global) LoadFault → Type 0
Loads old new name max (Ok v) = (load_fails old name ≡ false) × (new ≡ counted old) × IfSome (held old name) (λ text. v.items ≡ take (max + 1) text)
Loads old new name max (Err Failed) = (load_fails old name ≡ true) × (new ≡ faulted old name)
Loads old new name max (Err Memory) = (load_fails old name ≡ false) × (new ≡ counted old)

-- a sink: the bytes that it took, how many it can take, the numbers of the writes that fail, the
-- number of the next write, and how many failed
pub record Filled : Type 0 where
  pub taken : List ℕ
  pub room : ℕ
  pub fails : List ℕ
  pub writes : ℕ
  pub faults : ℕ

-- it tells all that it took
abbrev pub told : Filled → Option (List ℕ)
told s = Some s.taken

abbrev pub count : Filled → ℕ
count s = s.faults

abbrev pub left : Filled → ℕ
left s = s.room - length s.taken

-- whether the next write fails
abbrev pub write_fails : Filled → Bool
write_fails s = list_any (λ n. n == s.writes) s.fails || (left s == 0)

-- a write of a piece: what it answers, and the sink before and after it
abbrev pub Writes : Filled → Filled → List ℕ → Result ℕ SinkFault → Type 0
Writes old new piece (Ok n) = (write_fails old ≡ false) × (n ≡ min (length piece) (left old))
    × (new ≡ record old { taken = old.taken ++ take n piece; writes = next_count old.writes })
Writes old new piece (Err _) = (write_fails old ≡ true)
    × (new ≡ record old { writes = next_count old.writes; faults = next_count old.faults })
