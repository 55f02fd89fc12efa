-- Requires clauses.
use Rattle.std.specs.Prelude.{◌==◌, ℕ, Bool, true, false, not, ◌&&◌, ◌||◌, List, map, Option, None, slice_get, if◌then◌else◌}
use Rattle.std.specs.Option.{option_map_or}
use Rattle.std.specs.List.{position_from}
use Rattle.easl_model.specs.Form.{Form}
use Rattle.easl_model.specs.{Condition, condition_of}
use Rattle.easl_model.specs.Conditions.{Conditions, Same, Differ, All, Any, none, ◌▸◌}
use Rattle.easl_model.specs.declared.form.Method.{Method}
use Rattle.easl_heap.specs.Heap.{Object, reached}

abbrev mutual
  -- whether a condition is true
  pub holds : List Object → List ℕ → Condition → Bool
  holds heap slots (Same left right) = reached heap slots left == reached heap slots right
  holds heap slots (Differ left right) = not (reached heap slots left == reached heap slots right)
  holds heap slots (All cs) = all_hold heap slots cs
  holds heap slots (Any cs) = any_holds heap slots cs

  pub all_hold : List Object → List ℕ → Conditions → Bool
  all_hold heap slots none = true
  all_hold heap slots (c ▸ cs) = holds heap slots c && all_hold heap slots cs

  pub any_holds : List Object → List ℕ → Conditions → Bool
  any_holds heap slots none = false
  any_holds heap slots (c ▸ cs) = holds heap slots c || any_holds heap slots cs

-- the first of these that is false, from 1
abbrev pub first_false : List Object → List ℕ → List Condition → Option ℕ
first_false heap slots cs = position_from (λ c. not (holds heap slots c)) 1 cs

-- the first false clause of a method on its receiver and arguments; a constructor has no clauses
abbrev pub first_failing : Method → List Object → List ℕ → Option ℕ
first_failing m heap args = if m.constructor then None else first_false heap args (map condition_of m.clauses)

abbrev pub requires_of : List Object → Form → ℕ → List ℕ → Option ℕ
requires_of heap form method args = option_map_or (λ m. first_failing m heap args) (slice_get form.methods method) None
