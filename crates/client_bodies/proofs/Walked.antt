-- A walk over statements.
use Rattle.std.proofs.Common.{◌≡◌, ℕ, zero, suc, ◌+◌, ◌<◌, ◌≤◌, [], ◌∷◌, ◌++◌, List, ap, append_assoc, arith, drop, get_or, length, inl, inr, refl, subst, sym, ◌∙◌}
use Rattle.std.proofs.lemmas.Grind.{flat_map-append}
use Rattle.std.proofs.lemmas.List.{append-nil, drop_more}
use Rattle.std.specs.Prelude.{Bool, Option, None, option_map, ◌⊎◌}
use Rattle.client_values.specs.Knowing.{Knows}
use Rattle.client_bodies.proofs.Coded.{coded_after}
use Rattle.client_bodies.proofs.Passing.{passed_both, passed_none, passed_on, passed_one, these_left, these_right}
use Rattle.client_model.specs.Points.{at_return}
use Rattle.client_model.specs.SetNumbers.{AllThese, AreAssigned, AreThese}
use Rattle.client_points.specs.Writing.{at}
use Rattle.easl_model.specs.declared.tree.Sort.{Sort}
use Rattle.set_names.specs.Names.{Names}
use Rattle.client_values.specs.ToldFaults.{Finds, fault_told}
use Rattle.client_bodies.specs.Walking.{AreVariables, Notes, Passed, Walks, block, faults_here, faults_inside, faults_of_branches, faults_of_trees, with_inside}
use Rattle.client_values.specs.declared.context.Context.{Context as Known}
use Rattle.client_values.specs.declared.fault.Fault.{Fault}
use Rattle.client_model.proofs.PlainStatements.{plain_assign, plain_break, plain_continue, plain_declare, plain_do, plain_if, plain_return, plain_while}
use Rattle.client_model.specs.declared.tree.Return.{Return}
use Rattle.client_model.specs.declared.tree.Rhs.{Rhs}
use Rattle.client_model.specs.declared.tree.Stmt.{Stmt}
use Rattle.client_model.specs.declared.tree.Stmt.TheVariants as stmt
use Rattle.client_model.specs.declared.tree.Test.{Test}
use Rattle.easl_model.specs.declared.tree.Word.{Word}
use Rattle.client_model.specs.BodyFaults.{faults_at}
use Rattle.client_model.specs.Contexts.{Context, Situated, after, after_all, counting, entered, evaluated, situated, situated_in, stopped, value_of_test}
use Rattle.client_model.specs.Faults.{Fault as Told, comes_before}
use Rattle.client_model.specs.Settings.{Setting}
use Rattle.client_model.specs.Statements.{Statement, Statements, Assign, Break, Continue, Declare, Do, If, Return as ReturnOf, While, none, statement_of, ◌▸◌}
use Rattle.easl_model.proofs.Finding.{both}
use Rattle.easl_model.specs.Faults.{first_with}
use Rattle.easl_model.specs.declared.place.Place.{Place}

-- the walk of these statements that began in the first context stands where these are left
pub record Stands (s : Setting) (c : Context) (all : Statements) (start : Option Fault) (known : Known) (found : Option Fault) (rest : Statements) : Type 0 where
  pub here : Context
  pub knows : Walks s here known
  pub behind : after_all s here rest ≡ after_all s c all
  pub first : first_with comes_before (option_map fault_told found) (faults_of_trees s here rest) ≡ first_with comes_before (option_map fault_told start) (faults_of_trees s c all)

pub begins : (s : Setting) (c : Context) (all : Statements) (start : Option Fault) (known : Known) → Walks s c known → Stands s c all start known start all
begins s c all start known knows = record { here = c; knows = knows; behind = refl; first = refl }

-- a statement, what it holds, and what follows
apart : (s : Setting) (c : Context) (x : Statement) (xs : Statements)
    → faults_of_trees s c (x ▸ xs) ≡ (faults_here s c x ++ (faults_inside s c x ++ faults_of_trees s (after s c x) xs))
apart s c x xs = ap (λ fs. faults_here s c x ++ fs) (flat_map-append faults_at (situated_in s c x) (situated s (after s c x) xs))

-- the first of some, then of others
pub then : (found middle first : Option Fault) (xs ys : List Told) → Finds found middle xs → Finds middle first ys → Finds found first (xs ++ ys)
then found middle first xs ys one other =
    other ∙ ap (λ f. first_with comes_before f ys) one ∙ sym (both comes_before (option_map fault_told found) xs ys)

pub goes : (s : Setting) (c : Context) (all : Statements) (start : Option Fault) (known next : Known) (found middle first : Option Fault) (x : Statement) (rest : Statements)
    → ((d : Context) → Walks s d known → Finds found middle (faults_here s d x))
    → ((d : Context) → Walks s d known → Finds middle first (faults_inside s d x))
    → ((d : Context) → Walks s d known → Walks s (after s d x) next)
    → Stands s c all start known found (x ▸ rest) → Stands s c all start next first rest
goes s c all start known next found middle first x rest own inside behind stands =
    let d = stands.here in
    let old = option_map fault_told found in
    let others = faults_of_trees s (after s d x) rest in
    record {
      here = after s d x;
      knows = behind d stands.knows;
      behind = stands.behind;
      first =
          ap (λ f. first_with comes_before f others) (inside d stands.knows ∙ ap (λ f. first_with comes_before f (faults_inside s d x)) (own d stands.knows))
          ∙ sym (both comes_before (first_with comes_before old (faults_here s d x)) (faults_inside s d x) others)
          ∙ sym (both comes_before old (faults_here s d x) (faults_inside s d x ++ others))
          ∙ sym (ap (first_with comes_before old) (apart s d x rest))
          ∙ stands.first;
    }

pub ends_found : (s : Setting) (c : Context) (all : Statements) (start : Option Fault) (known : Known) (found : Option Fault)
    → Stands s c all start known found none → Finds start found (faults_of_trees s c all)
ends_found s c all start known found stands = stands.first

pub ends_behind : (s : Setting) (c : Context) (all : Statements) (start : Option Fault) (known : Known) (found : Option Fault)
    → Stands s c all start known found none → Walks s (after_all s c all) known
ends_behind s c all start known found stands = subst (λ d. Walks s d known) stands.behind stands.knows

pub all_dropped : {A : Type 0} (xs : List A) (k : ℕ) → length xs ≤ k → drop k xs ≡ []
all_dropped [] zero few = refl
all_dropped [] (suc k) few = refl
all_dropped (x ∷ xs) zero few = absurd (omega (arith, few))
all_dropped (x ∷ xs) (suc k) few = all_dropped xs k (omega (arith, few))

pub rest_is : {A : Type 0} (xs : List A) (k : ℕ) (x : A) → k < length xs → x ≡ get_or xs k x → drop k xs ≡ x ∷ drop (k + 1) xs
rest_is xs k x within is = drop_more xs k x within ∙ ap (λ y. y ∷ drop (k + 1) xs) (sym is)

pub written_assign : (x : Stmt) (w : Word) (v : Rhs) → x ≡ stmt.Assign w v → statement_of x ≡ Assign w v
written_assign x w v is = ap statement_of is ∙ plain_assign w v

pub written_do : (x : Stmt) (v : Rhs) → x ≡ stmt.Do v → statement_of x ≡ Do v
written_do x v is = ap statement_of is ∙ plain_do v

pub written_while : (x : Stmt) (place : Place) (t : Test) (inner xs : List Stmt) → x ≡ stmt.While place t inner → xs ≡ inner → statement_of x ≡ While place t (block xs)
written_while x place t inner xs is same = ap statement_of is ∙ plain_while place t inner ∙ ap (λ ys. While place t (block ys)) (sym same)

pub written_if : (x : Stmt) (place : Place) (t : Test) (first second xs ys : List Stmt) (b : Bool) → x ≡ stmt.If place t first second b → xs ≡ first → ys ≡ second
    → statement_of x ≡ If place t (block xs) (block ys) b
written_if x place t first second xs ys b is one other =
    ap statement_of is ∙ plain_if place t first second b
    ∙ ap (λ zs. If place t (block zs) (block second) b) (sym one)
    ∙ ap (λ zs. If place t (block xs) (block zs) b) (sym other)

-- the blocks of an `if`
pub branches : (s : Setting) (c : Context) (x : Stmt) (place : Place) (t : Test) (first second xs ys : List Stmt) (b : Bool)
    → x ≡ stmt.If place t first second b → xs ≡ first → ys ≡ second
    → faults_inside s c (statement_of x) ≡ faults_of_branches s (evaluated (value_of_test t) c) (block xs) (block ys)
branches s c x place t first second xs ys b is one other =
    let start = evaluated (value_of_test t) c in
    ap (faults_inside s c) (written_if x place t first second xs ys b is one other)
    ∙ flat_map-append faults_at (situated s (entered start) (block xs)) (situated s (entered (counting start (after_all s (entered start) (block xs)))) (block ys))

pub written_declare : (x : Stmt) (place : Place) (sort : Sort) (w : Word) (v : Option Rhs) → x ≡ stmt.Declare place sort w v → statement_of x ≡ Declare place sort w v
written_declare x place sort w v is = ap statement_of is ∙ plain_declare place sort w v

-- a statement that stops, and is no `return`
abbrev pub Stops : Stmt → Statement → Type 0
Stops x y = (statement_of x ≡ y) × ((s : Setting) (c : Context) → after s c y ≡ stopped (evaluated None c)) ×
    ((s : Setting) (c : Context) → at_return (at s c y) ≡ None) × ((s : Setting) (c : Context) → situated_in s c y ≡ [])

pub stops : (x : Stmt) → ((p : Place) × (x ≡ stmt.Break p)) ⊎ ((p : Place) × (x ≡ stmt.Continue p)) → (y : Statement) × Stops x y
stops x (inl (p, is)) = (Break p, (ap statement_of is ∙ plain_break p, (λ s c. refl), (λ s c. refl), (λ s c. refl)))
stops x (inr (p, is)) = (Continue p, (ap statement_of is ∙ plain_continue p, (λ s c. refl), (λ s c. refl), (λ s c. refl)))

pub written_return : (x : Stmt) (r : Return) → x ≡ stmt.Return r → statement_of x ≡ ReturnOf r
written_return x r is = ap statement_of is ∙ plain_return r

-- what the walk knows behind a step
pub walks_at : (s : Setting) (c d : Context) (known next : Known) → Walks s c known → Knows d next → d.scope ≡ c.scope → d.variables ≡ c.variables → d.assigned ≡ c.assigned → Walks s d next
walks_at s c d known next walks knows scope variables assigned = record {
  knows = knows;
  coded = record {
    scope = subst (λ n. AreVariables n d.scope) (sym variables) (subst (AreVariables c.variables) (sym scope) walks.coded.scope);
    statics = subst (AreAssigned s.statics) (sym assigned) walks.coded.statics;
  };
}

pub walks_after : (s : Setting) (c : Context) (x y : Statement) (known next : Known) → Walks s c known → x ≡ y → Knows (after s c y) next → Walks s (after s c x) next
walks_after s c x y known next walks is knows =
    record { knows = subst (λ z. Knows (after s c z) next) (sym is) knows; coded = coded_after s c x walks.coded }

-- of these statements, which began in the first context, those were passed that stand before the rest
pub record Passes (s : Setting) (c : Context) (all : Statements) (old : Names) (known : Known) (rest : Statements) : Type 0 where
  pub here : Context
  pub walks : Walks s here known
  pub done : List Situated
  pub split : situated s c all ≡ done ++ situated s here rest
  pub passed : Passed done old known.assigned.names

pub passes_all : (s : Setting) (c : Context) (all : Statements) (known : Known) → Walks s c known → Passes s c all known.assigned.names known all
passes_all s c all known walks =
    record { here = c; walks = walks; done = []; split = refl; passed = passed_none known.assigned.names known.assigned.names refl refl }

pub passes_next : (s : Setting) (c : Context) (all : Statements) (old : Names) (known next : Known) (x : Statement) (rest : Statements) → AllThese (situated s c all)
    → ((d : Context) → Walks s d known → AreThese d.assigned → AllThese (situated_in s d x) → Passed (with_inside s d x) known.assigned.names next.assigned.names)
    → ((d : Context) → Walks s d known → Walks s (after s d x) next)
    → Passes s c all old known (x ▸ rest) → Passes s c all old next rest
passes_next s c all old known next x rest these holds goes stands =
    let d = stands.here in
    let own = with_inside s d x in
    let others = situated s (after s d x) rest in
    let left : AllThese (own ++ others) = these_right stands.done (own ++ others) (subst AllThese stands.split these) in
    record {
      here = after s d x;
      walks = goes d stands.walks;
      done = stands.done ++ own;
      split = stands.split ∙ sym (append_assoc stands.done own others);
      passed =
          passed_both stands.done own old known.assigned.names next.assigned.names stands.passed
          (holds d stands.walks left.0 (these_left (situated_in s d x) others left.1));
    }

pub passes_none : (s : Setting) (c : Context) (all : Statements) (old : Names) (known : Known) → Passes s c all old known none → Passed (situated s c all) old known.assigned.names
passes_none s c all old known stands =
    subst (λ xs. Passed xs old known.assigned.names) (sym (append-nil stands.done) ∙ sym stands.split) stands.passed

-- a statement that holds no others
pub passed_leaf : (s : Setting) (c : Context) (x y : Statement) (known next : Known) → x ≡ y → situated_in s c y ≡ [] → at_return (at s c y) ≡ None
    → Walks s c known → AreThese c.assigned → Notes known next → Passed (with_inside s c x) known.assigned.names next.assigned.names
passed_leaf s c x y known next is holds stays walks these notes =
    subst (λ z. Passed (with_inside s c z) known.assigned.names next.assigned.names) (sym is)
    (subst (λ zs. Passed (at s c y ∷ zs) known.assigned.names next.assigned.names) (sym holds)
    (passed_one s c y known next walks.knows these notes stays))

-- one that holds others: its point, and then those
pub passed_holding : (s : Setting) (c : Context) (x y : Statement) (known middle last : Known) (next : Names) (inner : List Situated) → x ≡ y → situated_in s c y ≡ inner
    → at_return (at s c y) ≡ None → Walks s c known → AreThese c.assigned → Notes known middle → Passed inner middle.assigned.names last.assigned.names
    → next.before ≡ last.assigned.names.before → next.left ≡ last.assigned.names.left
    → Passed (with_inside s c x) known.assigned.names next
passed_holding s c x y known middle last next inner is holds stays walks these notes passed before left =
    subst (λ z. Passed (with_inside s c z) known.assigned.names next) (sym is)
    (subst (λ zs. Passed (at s c y ∷ zs) known.assigned.names next) (sym holds)
    (passed_on (at s c y ∷ inner) known.assigned.names last.assigned.names next
    (passed_both (at s c y ∷ []) inner known.assigned.names middle.assigned.names last.assigned.names
    (passed_one s c y known middle walks.knows these notes stays) passed) before left))
