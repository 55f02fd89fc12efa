-- The steps of the search's loops.
use Rattle.std.proofs.Common.{◌≡◌, ℕ, zero, suc, ◌+◌, ◌-◌, ◌<◌, ◌≤◌, Bool, true, false, not, cond, ◌&&◌, ◌||◌, List, [], ◌∷◌, ◌++◌, length, get_or, drop, refl, ap, sym, ◌∙◌, arith, add-one, drop-cons, drop_of_length-le}
use Rattle.std.proofs.lemmas.List.Folds.{list_any-append}
use Rattle.cube_search.specs.Rows.{both, is_some, meets}
use Rattle.cube_search.specs.Search.{how_many, is_mentioned, has_variable, is_few, candidate, kept_of, offered, considered, longer, visited, all_visited}
use Rattle.cube_search.specs.declared.searching.Candidate.{Candidate}
use Rattle.cube_search.specs.declared.searching.Task.{Task}
use Rattle.cube_search.proofs.RowLaws.{some_both, meets_turned}

pub how_many_next : (variables : List (ℕ × ℕ)) (cube : List ℕ) (n : ℕ)
    → how_many variables cube (n + 1) ≡ how_many variables cube n + cond (has_variable variables cube n) 1 0
how_many_next variables cube n = rw (add-one n) refl

pub kept_of-append : (task : Task) (xs ys kept : List Candidate) → kept_of task (xs ++ ys) kept ≡ kept_of task ys (kept_of task xs kept)
kept_of-append task [] ys kept = refl
kept_of-append task (x ∷ xs) ys kept = kept_of-append task xs ys (considered task x kept)

-- no literal more
pub visited_none : (never : List ℕ) (left from : ℕ) (rest : List (List ℕ)) (row cube : List ℕ) → left ≡ 0
    → visited never left from rest row cube ≡ candidate row cube ∷ []
visited_none never left from rest row cube e = rw e refl

-- a cube that is never true where the tree is false
pub visited_stop : (never : List ℕ) (left from : ℕ) (rest : List (List ℕ)) (row cube : List ℕ) → (left ≡ 0 → ⊥) → meets row never ≡ false
    → visited never left from rest row cube ≡ []
visited_stop never zero from rest row cube n m = absurd (n refl)
visited_stop never (suc left) from rest row cube n m = rw m refl

pub visited_more : (never : List ℕ) (left from : ℕ) (rest : List (List ℕ)) (row cube : List ℕ) → (left ≡ 0 → ⊥) → meets row never ≡ true
    → visited never left from rest row cube ≡ longer (visited never (left - 1)) from rest row cube
visited_more never zero from rest row cube n m = absurd (n refl)
visited_more never (suc left) from rest row cube n m =
    let less : suc left - 1 ≡ left = omega arith in
    rw (m, less) refl

pub visited_last : (never : List ℕ) (left from : ℕ) (rest : List (List ℕ)) (row cube : List ℕ) → left ≡ 1 → meets row never ≡ true
    → visited never left from rest row cube ≡ longer (visited never 0) from rest row cube
visited_last never left from rest row cube e m = rw (e, m) refl

pub visited_pair : (never : List ℕ) (left from : ℕ) (rest : List (List ℕ)) (row cube : List ℕ) → left ≡ 2 → meets row never ≡ true
    → visited never left from rest row cube ≡ longer (visited never 1) from rest row cube
visited_pair never left from rest row cube e m = rw (e, m) refl

pub has_one_more : (variables : List (ℕ × ℕ)) (cube : List ℕ) (literal variable : ℕ)
    → has_variable variables (cube ++ literal ∷ []) variable ≡ (has_variable variables cube variable || is_mentioned variables variable literal)
has_one_more variables cube literal variable =
    list_any-append (is_mentioned variables variable) cube (literal ∷ [])
    ∙ ap (λ b. has_variable variables cube variable || b) (or_false (is_mentioned variables variable literal))
  where
    or_false : (b : Bool) → (b || false) ≡ b
    or_false true = refl
    or_false false = refl

-- what is true where the tree is false is not kept
pub unfit : (task : Task) (bad row other cube : List ℕ) (kept : List Candidate) → bad ≡ both row task.never → meets bad other ≡ true
    → considered task (candidate (both row other) cube) kept ≡ kept
unfit task bad row other cube kept e m =
    by (is_some (both row other)) (meets (both row other) task.never) (is_few task.variables.items cube)
    (sym (meets_turned row other task.never) ∙ ap (λ b. meets b other) (sym e) ∙ m)
  where
    by : (b c d : Bool) → c ≡ true → cond (b && not c && d) (offered (candidate (both row other) cube) kept) kept ≡ kept
    by true true d m = refl
    by false true d m = refl
    by b false d m = absurd (cc)

-- what is true nowhere is not kept
pub idle : (task : Task) (row other cube : List ℕ) (kept : List Candidate) → meets row other ≡ false
    → considered task (candidate (both row other) cube) kept ≡ kept
idle task row other cube kept m =
    ap (λ b. cond (b && not (meets (both row other) task.never) && is_few task.variables.items cube) (offered (candidate (both row other) cube) kept) kept)
    (some_both row other ∙ m)

-- What is left of a loop's work, from literal `at` on, gives what the whole gives.
abbrev pub IsAlong : Task → ℕ → ℕ → List ℕ → List ℕ → List Candidate → ℕ → List Candidate → Type 0
IsAlong task left from row cube kept at now =
    kept_of task (longer (visited task.never left) at (drop at task.rows.items) row cube) now
    ≡ kept_of task (longer (visited task.never left) from (drop from task.rows.items) row cube) kept

pub along_next : (task : Task) (left from at : ℕ) (row cube : List ℕ) (kept now new : List Candidate) (d : List ℕ) → at < length task.rows.items
    → IsAlong task left from row cube kept at now
    → new ≡ kept_of task (visited task.never left (at + 1) (drop (at + 1) task.rows.items) (both row (get_or task.rows.items at d)) (cube ++ at ∷ [])) now
    → IsAlong task left from row cube kept (at + 1) new
along_next task left from at row cube kept now new d h along is =
    let next = add-one at in
    let rest = drop-cons task.rows.items at d h in
    let deeper = visited task.never left in
    let first : kept_of task (longer deeper at (drop at task.rows.items) row cube) now ≡ kept_of task
    (longer deeper (suc at) (drop (suc at) task.rows.items) row cube)
    (kept_of task (deeper (suc at) (drop (suc at) task.rows.items) (both row (get_or task.rows.items at d)) (cube ++ at ∷ [])) now) =
    ap (λ l. kept_of task (longer deeper at l row cube) now) rest
    ∙ kept_of-append task (deeper (suc at) (drop (suc at) task.rows.items) (both row (get_or task.rows.items at d)) (cube ++ at ∷ []))
    (longer deeper (suc at) (drop (suc at) task.rows.items) row cube) now in
    rw (is, next) (sym first ∙ along)

pub along_end : (task : Task) (left from at : ℕ) (row cube : List ℕ) (kept now : List Candidate) → length task.rows.items ≤ at
    → IsAlong task left from row cube kept at now → now ≡ kept_of task (longer (visited task.never left) from (drop from task.rows.items) row cube) kept
along_end task left from at row cube kept now h along =
    let none = drop_of_length-le task.rows.items h in
    sym (ap (λ l. kept_of task (longer (visited task.never left) at l row cube) now) none) ∙ along

-- all sizes below
pub sizes_next : (task : Task) (n : ℕ) (now new : List Candidate) → now ≡ kept_of task (all_visited task n) []
    → new ≡ kept_of task (visited task.never n 0 (drop 0 task.rows.items) task.all []) now → new ≡ kept_of task (all_visited task (n + 1)) []
sizes_next task n now new is next =
    rw (add-one n) (next ∙ ap (kept_of task (visited task.never n 0 task.rows.items task.all [])) is ∙ sym
    (kept_of-append task (all_visited task n) (visited task.never n 0 task.rows.items task.all []) []))
