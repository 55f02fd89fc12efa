-- Which names are set in the procedures of a client, one item after another.
use Rattle.std.proofs.Common.{◌≡◌, ℕ, suc, ◌+◌, Bool, true, false, List, [], ◌∷◌, ◌++◌, ap, append_assoc, arith, drop, map, refl, sym, ◌∙◌}
use Rattle.std.proofs.lemmas.List.{drop_more, map-append}
use Rattle.std.specs.List.{flat_map}
use Rattle.std.specs.Prelude.{◌<◌, Some, filter_map, get_or, length, slice_get}
use Rattle.client_bodies.proofs.InOrder.{procedure_next, static_next}
use Rattle.client_bodies.specs.InTextOrder.{SetsStay, faults_behind, sets_in_end}
use Rattle.client_bodies.specs.Walking.{AreSets}
use Rattle.client_bodies.specs.declared.bodies.Progress.{Progress}
use Rattle.client_model.specs.Bodies.{Body, all_in, bodies_from, body_of, end_of, initialiser}
use Rattle.client_model.specs.BodyFaults.{faults_at}
use Rattle.client_model.specs.Contexts.{call_count}
use Rattle.client_model.specs.Faults.{Fault}
use Rattle.client_model.specs.Rules.{faults_of_body, faults_of_end}
use Rattle.client_model.specs.Settings.{Setting}
use Rattle.client_model.specs.Trees.{Item, Procedure as ProcedureItem, items_of, procedure_of}
use Rattle.client_model.specs.declared.form.Procedure.{Procedure}
use Rattle.client_model.specs.declared.tree.Client.{Client}
use Rattle.client_model.specs.declared.tree.Proc.{Proc}
use Rattle.client_model.specs.declared.tree.Static.{Static}
use Rattle.client_points.specs.Wholes.{sets_by, sets_in}

none_first : (xs ys : List Fault) → xs ++ ys ≡ [] → xs ≡ []
none_first [] ys none = refl
none_first (x ∷ xs) ys none = absurd cc

none_second : (xs ys : List Fault) → xs ++ ys ≡ [] → ys ≡ []
none_second [] ys none = none
none_second (x ∷ xs) ys none = absurd cc

-- the faults of items, and these sets with those of items
abbrev FaultsOf : Setting → ℕ → ℕ → ℕ → List Item → List Fault
FaultsOf s static procedure calls items = flat_map faults_of_body (bodies_from s static procedure calls items)

abbrev SetsOf : Setting → List (List (List ℕ)) → ℕ → ℕ → ℕ → List Item → List (List (List ℕ))
SetsOf s sets static procedure calls items = sets ++ filter_map (λ b. sets_by b b.item) (bodies_from s static procedure calls items)

abbrev set_of : Procedure → List (List ℕ)
set_of p = p.set

-- behind an initialiser, which has none
pub initialiser_sets : (s : Setting) (order : List Bool) (ss : List Static) (ps : List Proc) (number next procedure calls behind : ℕ) (x : Static)
    (sets : List (List (List ℕ))) → Some x ≡ slice_get ss number → suc number ≡ next → calls + call_count x.value ≡ behind
    → FaultsOf s number procedure calls (items_of (true ∷ order) (drop number ss) ps) ≡ []
    → (FaultsOf s next procedure behind (items_of order (drop next ss) ps) ≡ [])
    × (SetsOf s sets next procedure behind (items_of order (drop next ss) ps) ≡ SetsOf s sets number procedure calls (items_of (true ∷ order) (drop number ss) ps))
initialiser_sets s order ss ps number next procedure calls behind x sets there more counted none =
    let here = static_next order ss ps number x (sym there) in
    let rest = FaultsOf s (suc number) procedure (calls + call_count x.value) (items_of order (drop (suc number) ss) ps) in
    let left : rest ≡ [] = none_second (faults_of_body (initialiser s number calls x)) rest (sym (ap (FaultsOf s number procedure calls) here) ∙ none) in (
      sym (ap (λ n. FaultsOf s n procedure behind (items_of order (drop n ss) ps)) more)
          ∙ sym (ap (λ k. FaultsOf s (suc number) procedure k (items_of order (drop (suc number) ss) ps)) counted) ∙ left,
      sym (ap (λ n. SetsOf s sets n procedure behind (items_of order (drop n ss) ps)) more)
          ∙ sym (ap (λ k. SetsOf s sets (suc number) procedure k (items_of order (drop (suc number) ss) ps)) counted)
          ∙ sym (ap (SetsOf s sets number procedure calls) here),
    )

-- behind a procedure, whose form has its own
pub procedure_sets : (s : Setting) (order : List Bool) (ss : List Static) (ps : List Proc) (static before number calls behind : ℕ) (p : Proc)
    (forms more : List Procedure) (f : Procedure) → Some p ≡ slice_get ps before → number ≡ before + 1
    → behind ≡ (end_of (body_of s number calls (procedure_of p))).calls → more ≡ forms ++ f ∷ [] → AreSets (body_of s number calls (procedure_of p)) f.set
    → FaultsOf s static (suc before) calls (items_of (false ∷ order) ss (drop before ps)) ≡ []
    → (FaultsOf s static (suc number) behind (items_of order ss (drop number ps)) ≡ [])
    × (SetsOf s (map set_of more) static (suc number) behind (items_of order ss (drop number ps))
    ≡ SetsOf s (map set_of forms) static (suc before) calls (items_of (false ∷ order) ss (drop before ps)))
procedure_sets s order ss ps static before number calls behind p forms more f there is counted pushed own none =
    let next : number ≡ suc before = omega arith in
    let q = procedure_of p in
    let b = body_of s number calls q in
    let items = items_of order ss (drop number ps) in
    let same : items_of (false ∷ order) ss (drop before ps) ≡ ProcedureItem q ∷ items =
    procedure_next order ss ps before p (sym there) ∙ sym (ap (λ n. ProcedureItem q ∷ items_of order ss (drop n ps)) next) in
    let rest = FaultsOf s static (suc number) (end_of b).calls items in
    let all : faults_of_body b ++ rest ≡ [] =
    ap (λ n. FaultsOf s static n calls (ProcedureItem q ∷ items)) next ∙ sym (ap (FaultsOf s static (suc before) calls) same) ∙ none in
    let free : flat_map faults_at (all_in b) ≡ [] =
    none_first (flat_map faults_at (all_in b)) (faults_of_end b.item) (none_first (faults_of_body b) rest all) in
    let others = filter_map (λ x. sets_by x x.item) (bodies_from s static (suc number) (end_of b).calls items) in (
      ap (λ k. FaultsOf s static (suc number) k items) counted ∙ none_second (faults_of_body b) rest all,
      ap (λ k. SetsOf s (map set_of more) static (suc number) k items) counted
          ∙ ap (λ xs. xs ++ others) (ap (map set_of) pushed ∙ map-append set_of forms (f ∷ []))
          ∙ append_assoc (map set_of forms) (f.set ∷ []) others
          ∙ ap (λ x. map set_of forms ++ x ∷ others) (own free)
          ∙ ap (λ n. SetsOf s (map set_of forms) static n calls (ProcedureItem q ∷ items)) next
          ∙ sym (ap (SetsOf s (map set_of forms) static (suc before) calls) same),
    )

-- where nothing is passed
pub same_sets : (s : Setting) (sets : List (List (List ℕ))) (static procedure calls : ℕ) (items others : List Item) → items ≡ others
    → FaultsOf s static procedure calls others ≡ []
    → (FaultsOf s static procedure calls items ≡ []) × (SetsOf s sets static procedure calls items ≡ SetsOf s sets static procedure calls others)
same_sets s sets static procedure calls items others same none =
    (ap (FaultsOf s static procedure calls) same ∙ none, ap (SetsOf s sets static procedure calls) same)

-- before the first item
pub sets_begun : (s : Setting) (order : List Bool) (ss : List Static) (ps : List Proc) (forms : List Procedure) (static calls : ℕ) → forms ≡ []
    → 0 ≡ static → 0 ≡ calls → FaultsOf s 0 1 0 (items_of order ss ps) ≡ []
    → (FaultsOf s static 1 calls (items_of order (drop static ss) ps) ≡ [])
    × (SetsOf s (map set_of forms) static 1 calls (items_of order (drop static ss) ps)
    ≡ filter_map (λ b. sets_by b b.item) (bodies_from s 0 1 0 (items_of order ss ps)))
sets_begun s order ss ps forms static calls empty first zero none = (
  sym (ap (λ n. FaultsOf s n 1 calls (items_of order (drop n ss) ps)) first) ∙ sym (ap (λ k. FaultsOf s 0 1 k (items_of order ss ps)) zero) ∙ none,
  ap (λ fs. SetsOf s (map set_of fs) static 1 calls (items_of order (drop static ss) ps)) empty
      ∙ sym (ap (λ n. SetsOf s [] n 1 calls (items_of order (drop n ss) ps)) first)
      ∙ sym (ap (λ k. SetsOf s [] 0 1 k (items_of order ss ps)) zero),
)

-- behind one item more
pub item_sets : (s : Setting) (client : Client) (old new : Progress) (order : List Bool) (k : ℕ) (d : Bool) (sets : List (List (List ℕ)))
    → k < length order → SetsStay s client old new (get_or order k d)
    → (faults_behind s client old (drop k order) ≡ []) × (sets_in_end s client old (drop k order) ≡ sets)
    → (faults_behind s client new (drop (k + 1) order) ≡ []) × (sets_in_end s client new (drop (k + 1) order) ≡ sets)
item_sets s client old new order k d sets inside stay known =
    let is : drop k order ≡ get_or order k d ∷ drop (k + 1) order = drop_more order k d inside in
    let next = stay (drop (k + 1) order) (sym (ap (faults_behind s client old) is) ∙ known.0) in
    (next.0, next.1 ∙ sym (ap (sets_in_end s client old) is) ∙ known.1)
