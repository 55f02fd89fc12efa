-- The truth of conditions where it is known which terms are equal, and the care list.
use Rattle.std.specs.Prelude.{ℕ, Bool, true, false, not, ◌&&◌, ◌||◌, List, filter}
use Rattle.std.specs.List.{list_all}
use Rattle.easl_model.specs.{Condition}
use Rattle.easl_model.specs.Conditions.{Conditions, Same, Differ, All, Any, none, ◌▸◌}
use Rattle.easl_model.specs.declared.form.Method.{Method}
use Rattle.access_paths.specs.{Equals}
use Rattle.access_paths.specs.declared.term.Term.{Term}
use Rattle.case_model.specs.Configurations.{by_blocks}
use Rattle.case_model.specs.TermLists.{clauses_of, first_variable, term_of}

-- whether a condition is true, slot 0 being this variable
abbrev mutual
  pub condition_holds : ℕ → Equals → Condition → Bool
  condition_holds first equal (Same left right) = equal (term_of first left) (term_of first right)
  condition_holds first equal (Differ left right) = not (equal (term_of first left) (term_of first right))
  condition_holds first equal (All cs) = all_hold first equal cs
  condition_holds first equal (Any cs) = any_holds first equal cs

  pub all_hold : ℕ → Equals → Conditions → Bool
  all_hold first equal none = true
  all_hold first equal (c ▸ cs) = condition_holds first equal c && all_hold first equal cs

  pub any_holds : ℕ → Equals → Conditions → Bool
  any_holds first equal none = false
  any_holds first equal (c ▸ cs) = condition_holds first equal c || any_holds first equal cs

-- all clauses of the method are true
abbrev pub clauses_hold : Method → Equals → Bool
clauses_hold m equal = list_all (condition_holds (first_variable m) equal) (clauses_of m)

-- of these configurations those in which all clauses of the method are true
abbrev pub care_list : Method → List Term → List (List ℕ) → List (List ℕ)
care_list m ts all = filter (λ bs. clauses_hold m (by_blocks ts bs)) all
