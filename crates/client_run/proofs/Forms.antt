-- In the checked form of a client the points go on as the statements do.
use Rattle.std.proofs.Common.{◌≡◌, ℕ, zero, suc, ◌+◌, ◌<◌, Bool, true, false, List, [], ◌∷◌, ◌++◌, map, length, refl, sym, ap, subst, ◌∙◌, arith, append-nil}
use Rattle.std.specs.Prelude.{Option, Some, None, filter_map, flat_map, if◌then◌else◌, option_and_then, slice_get}
use Rattle.std.proofs.lemmas.List.{length-append, length-map, map-append}
use Rattle.std.proofs.lemmas.List.FromFn.{length-range_with_len}
use Rattle.client_run.proofs.Lists.{Each, Sits, each_both, each_made, each_made_of, each_more, each_none, sits_back, sits_front, sits_head, sits_tail, sits_whole}
use Rattle.client_run.specs.Graph.{Agree, Agrees, AreAgreed, GoesTo, IsAgreed, Leaves, Tests, is_test, whole}
use Rattle.flow_graph.specs.Points.{exit_of, next_in}
use Rattle.client_run.specs.Laws.{FormsAgree}
use Rattle.client_model.specs.Nodes.{count, count_in, node_at, shape_from}
use Rattle.client_model.specs.Statements.{Statement, Statements, Assign, Break, Continue, Declare, Do, If, Return, While, none, ◌▸◌}
use Rattle.client_model.specs.declared.form.Point.{Point}
use Rattle.client_model.specs.declared.form.Point.TheVariants as point
use Rattle.client_model.specs.declared.tree.Rhs.{Rhs}
use Rattle.client_model.specs.declared.tree.Rhs.TheVariants as rhs
use Rattle.client_model.specs.declared.tree.Test.{Test}
use Rattle.client_model.specs.declared.tree.Test.TheVariants as test
use Rattle.client_model.proofs.Numbering.{each_has_ways, first_is_first, points_after, points_behind, points_numbered}
use Rattle.client_model.specs.Bodies.{Body, all_in, bodies_from, bodies_of, body_of, initialiser}
use Rattle.client_model.specs.CheckedForm.{ProcedureForm, call_of_main, form_by, form_of, in_start, procedure_form, start_form, steps_from}
use Rattle.client_model.specs.Contexts.{Context, Situated, after, after_all, counting, entered, evaluated, looping, situated, situated_in, value_of_test}
use Rattle.client_model.specs.HeaderFaults.{is_main}
use Rattle.client_model.specs.Points.{assigns, branch, call_by, call_of, done_at, point_of, returned}
use Rattle.client_model.specs.Settings.{Called, Callee, Header, Method, Procedure, Setting, callee_of, procedure_from, setting_of}
use Rattle.client_model.specs.Trees.{Client, Initialiser, Item, Proc, procedures_in}
use Rattle.client_model.specs.Trees as written
use Rattle.client_model.specs.Ways.{Ways, first_point, in_loop, ways_in, ways_of}
use Rattle.client_steps.specs.States.{Call, call_in}
use Rattle.easl_model.specs.Form.{Form}
use Rattle.easl_model.specs.declared.place.Place.{Place}
use Rattle.easl_model.specs.declared.tree.Word.{Word}
use Rattle.client_model.specs.Lookups.{is_same}

-- no test is done at the point
abbrev Plain : Point → Type 0
Plain here = is_test (Some here) ≡ false

called_plain : (target : Option ℕ) (args : List (Option ℕ)) (place : Place) (c : Called) → Plain (call_of target args place c)
called_plain target args place (Method number) = refl
called_plain target args place (Procedure number) = refl

call_plain : (target : Option ℕ) (args : List (Option ℕ)) (place : Place) (m : Option Callee) → Plain (call_by target args place m)
call_plain target args place None = refl
call_plain target args place (Some m) = called_plain target args place m.called

assigns_plain : (s : Setting) (c : Context) (target : Option ℕ) (v : Rhs) → Plain (assigns s c target v)
assigns_plain s c target (rhs.Copy w) = refl
assigns_plain s c target (rhs.New x) = refl
assigns_plain s c target (rhs.Component x) = refl
assigns_plain s c target (rhs.Call x) = call_plain target _ _ (callee_of s c.scope (rhs.Call x))

branch_test : (c : Context) (t : Test) → is_test (Some (branch c t)) ≡ true
branch_test c (test.Free place) = refl
branch_test c (test.Call x) = refl

declare_plain : (s : Setting) (c : Context) (place : Place) (sort : _) (w : Word) (v : Option Rhs) → Plain (done_at s c (Declare place sort w v))
declare_plain s c place sort w None = refl
declare_plain s c place sort w (Some v) = assigns_plain s c _ v

returned_plain : (s : Setting) (c : Context) (v : Option Word) → (Plain (returned s c v)) × (call_in (returned s c v) ≡ None)
returned_plain s c None = (refl, refl)
returned_plain s c (Some w) = (refl, refl)

points_here : (s : Setting) (c : Context) (xs : Statements) → length (map point_of (situated s c xs)) ≡ count xs
points_here s c xs =
    length-map (situated s c xs) point_of
    ∙ (sym (length-map (situated s c xs) (λ z. z.context.points)) ∙ (ap length (points_numbered s c xs) ∙ length-range_with_len c.points (count xs)))

ways_here : (w : Ways) (number : ℕ) (x : Statement) → length (ways_in w (node_at number x)) ≡ count_in x
ways_here w number x =
    let one : length (ways_in w (node_at number x) ++ []) ≡ count_in x + 0 = each_has_ways w number (x ▸ none) in
    let same : length (ways_in w (node_at number x)) ≡ length (ways_in w (node_at number x) ++ []) = ap length (sym (append-nil (ways_in w (node_at number x)))) in
    omega arith

module _ (table : List (ℕ × ℕ)) (points : List Point) where
  goes_to : (number on : ℕ) (here : Point) (later : List Point) → Sits table number ((on, on) ∷ []) → Sits points number (here ∷ later) → Plain here →
      GoesTo (slice_get table number) (slice_get points number) on
  goes_to number on here later next there plain = record {
    ways = sits_head table number (on, on) [] next;
    plain = ap is_test (sits_head points number here later there) ∙ plain;
  }

  leaves_to : (number on : ℕ) (here : Point) (later : List Point) → Sits table number ((on, on) ∷ []) → Sits points number (here ∷ later) →
      (Plain here) × (call_in here ≡ None) → Leaves (slice_get table number) (slice_get points number) on
  leaves_to number on here later next there plain = record {
    goes = goes_to number on here later next there plain.0;
    plain = ap (λ o. option_and_then call_in o) (sits_head points number here later there) ∙ plain.1;
  }

  tests_to : (number : ℕ) (ways : ℕ × ℕ) (others : List (ℕ × ℕ)) (here : Point) (later : List Point) → Sits table number (ways ∷ others) →
      Sits points number (here ∷ later) → is_test (Some here) ≡ true → Tests (slice_get table number) (slice_get points number) ways.0 ways.1
  tests_to number ways others here later next there test = record {
    ways = sits_head table number ways others next;
    test = ap is_test (sits_head points number here later there) ∙ test;
  }

  mutual
    all_agree : (s : Setting) (c : Context) (xs : Statements) (w : Ways) → Sits table c.points (ways_of w (shape_from c.points xs)) →
        Sits points c.points (map point_of (situated s c xs)) → Agree (slice_get table) (slice_get points) (shape_from c.points xs) w
    all_agree s c none w next there = tt
    all_agree s c (x ▸ xs) w next there =
        let inner : Ways = record w { on = first_point (shape_from (c.points + count_in x) xs) w.on } in
        let z : Situated = record { setting = s; context = c; statement = x } in
        let split : map point_of (z ∷ situated_in s c x ++ situated s (after s c x) xs)
        ≡ map point_of (z ∷ situated_in s c x) ++ map point_of (situated s (after s c x) xs) =
        map-append point_of (z ∷ situated_in s c x) (situated s (after s c x) xs) in
        let parts : Sits points c.points (map point_of (z ∷ situated_in s c x) ++ map point_of (situated s (after s c x) xs)) =
        subst (Sits points c.points) split there in
        let from : (after s c x).points ≡ c.points + count_in x = points_after s c x in
        let one : length (map point_of (z ∷ situated_in s c x ++ [])) ≡ count_in x + 0 = points_here s c (x ▸ none) in
        let single : length (map point_of (z ∷ situated_in s c x)) ≡ length (map point_of (z ∷ situated_in s c x ++ [])) =
        ap (λ l. length (map point_of (z ∷ l))) (sym (append-nil (situated_in s c x))) in
        let many : length (ways_in inner (node_at c.points x)) ≡ count_in x = ways_here inner c.points x in
        let rest : Sits table (after s c x).points (ways_of w (shape_from (c.points + count_in x) xs)) =
        sits_back table c.points (after s c x).points (ways_in inner (node_at c.points x)) (ways_of w (shape_from (c.points + count_in x) xs))
        (omega arith) next in
        let later : Agree (slice_get table) (slice_get points) (shape_from (after s c x).points xs) w =
        all_agree s (after s c x) xs w (subst (λ n. Sits table (after s c x).points (ways_of w (shape_from n xs))) (sym from) rest)
        (sits_back points c.points (after s c x).points (map point_of (z ∷ situated_in s c x)) (map point_of (situated s (after s c x) xs))
        (omega arith) parts) in (
          one_agrees s c x inner
              (sits_front table c.points (ways_in inner (node_at c.points x)) (ways_of w (shape_from (c.points + count_in x) xs)) next)
              (sits_front points c.points (map point_of (z ∷ situated_in s c x)) (map point_of (situated s (after s c x) xs)) parts),
          subst (λ n. Agree (slice_get table) (slice_get points) (shape_from n xs) w) from later,
        )

    one_agrees : (s : Setting) (c : Context) (x : Statement) (w : Ways) → Sits table c.points (ways_in w (node_at c.points x)) →
        Sits points c.points (done_at s c x ∷ map point_of (situated_in s c x)) → Agrees (slice_get table) (slice_get points) (node_at c.points x) w
    one_agrees s c (Declare place sort name v) w next there = goes_to c.points w.on _ [] next there (declare_plain s c place sort name v)
    one_agrees s c (Assign name v) w next there = goes_to c.points w.on _ [] next there (assigns_plain s c _ v)
    one_agrees s c (Do v) w next there = goes_to c.points w.on _ [] next there (assigns_plain s c None v)
    one_agrees s c (If place t first second has_else) w next there =
        let start : Context = entered (evaluated (value_of_test t) c) in
        let behind : Context = entered (counting (evaluated (value_of_test t) c) (after_all s start first)) in
        let ways : ℕ × ℕ =
        (first_point (shape_from (suc c.points) first) w.on, first_point (shape_from (suc c.points + count first) second) w.on) in
        let one : List (ℕ × ℕ) = ways_of w (shape_from (suc c.points) first) in
        let other : List (ℕ × ℕ) = ways_of w (shape_from (suc c.points + count first) second) in
        let here : List Point = map point_of (situated s start first) in
        let others : List Point = map point_of (situated s behind second) in
        let tail : Sits table (suc c.points) (ways_of w (shape_from (suc c.points) first) ++ ways_of w (shape_from (suc c.points + count first) second)) =
        sits_tail table c.points ways (one ++ other) next in
        let split : map point_of (situated s start first ++ situated s behind second) ≡ map point_of (situated s start first)
        ++ map point_of (situated s behind second) = map-append point_of (situated s start first) (situated s behind second) in
        let parts : Sits points (suc c.points) (map point_of (situated s start first) ++ map point_of (situated s behind second)) =
        subst (Sits points (suc c.points)) split
        (sits_tail points c.points (branch c t) (map point_of (situated s start first ++ situated s behind second)) there) in
        let from : behind.points ≡ suc c.points + count first = points_behind s start first in
        let ways_first : length (ways_of w (shape_from (suc c.points) first)) ≡ count first = each_has_ways w (suc c.points) first in
        let points_first : length (map point_of (situated s start first)) ≡ count first = points_here s start first in
        let second_ways : Sits table behind.points (ways_of w (shape_from (suc c.points + count first) second)) =
        sits_back table (suc c.points) behind.points (ways_of w (shape_from (suc c.points) first))
        (ways_of w (shape_from (suc c.points + count first) second)) (omega arith) tail in
        let later : Agree (slice_get table) (slice_get points) (shape_from behind.points second) w =
        all_agree s behind second w (subst (λ n. Sits table behind.points (ways_of w (shape_from n second))) (sym from) second_ways)
        (sits_back points (suc c.points) behind.points (map point_of (situated s start first)) (map point_of (situated s behind second))
        (omega arith) parts) in (
          tests_to c.points ways (one ++ other) (branch c t) (map point_of (situated s start first ++ situated s behind second)) next there
              (branch_test c t),
          all_agree s start first w (sits_front table (suc c.points) one other tail) (sits_front points (suc c.points) here others parts),
          subst (λ n. Agree (slice_get table) (slice_get points) (shape_from n second) w) from later,
        )
    one_agrees s c (While place t inner) w next there =
        let start : Context = looping (evaluated (value_of_test t) c) in
        let ways : ℕ × ℕ = (first_point (shape_from (suc c.points) inner) c.points, w.on) in
        let block : List (ℕ × ℕ) = ways_of (in_loop c.points w) (shape_from (suc c.points) inner) in (
          tests_to c.points ways block (branch c t) (map point_of (situated s start inner)) next there (branch_test c t),
          all_agree s start inner (in_loop c.points w) (sits_tail table c.points ways block next)
              (sits_tail points c.points (branch c t) (map point_of (situated s start inner)) there),
        )
    one_agrees s c (Break place) w next there = leaves_to c.points w.broken point.Nothing [] next there (refl, refl)
    one_agrees s c (Continue place) w next there = leaves_to c.points w.again point.Nothing [] next there (refl, refl)
    one_agrees s c (Return r) w next there = leaves_to c.points w.exit (returned s c r.value) [] next there (returned_plain s c r.value)

-- the body of a procedure
body_agreed : (form : Form) (s : Setting) (number call : ℕ) (p : Proc) → IsAgreed (procedure_form form (body_of s number call p) p)
body_agreed form s number call p =
    let b : Body = body_of s number call p in
    let x : ProcedureForm = procedure_form form b p in
    let many : length (map point_of (all_in b)) ≡ count p.body = points_here b.setting b.start p.body in
    let each : length (next_in x) ≡ count p.body = each_has_ways (whole (exit_of x)) 0 p.body in
    let end : exit_of x ≡ 0 + count p.body = omega arith in
    record {
      agree = all_agree (next_in x) x.points b.setting b.start p.body (whole (exit_of x)) (sits_whole (next_in x)) (sits_whole x.points);
      first = ap (first_point x.shape) end ∙ first_is_first 0 p.body;
      many = each ∙ sym many;
    }

-- a procedure call at the point is not of the start
abbrev Fine : Point → Type 0
Fine here = (k : Call) → call_in here ≡ Some k → 0 < k.callee

fine_none : (here : Point) → call_in here ≡ None → Fine here
fine_none here no_call k is = absurd (cc (sym no_call ∙ is))

same_call : (k l : Call) → Some k ≡ Some l → k.callee ≡ l.callee
same_call k l is = cc

fine_call : (target : Option ℕ) (number : ℕ) (args : List (Option ℕ)) (place : Place) → 0 < number → Fine (point.Call target number args place)
fine_call target number args place more k is =
    let same : number ≡ k.callee = same_call _ k is in
    omega arith

abbrev IsLater : Called → Type 0
IsLater (Method number) = Unit {0}
IsLater (Procedure number) = 0 < number

abbrev IsFound : Option Callee → Type 0
IsFound None = Unit {0}
IsFound (Some m) = IsLater m.called

found_if : (b : Bool) (m : Callee) (o : Option Callee) → IsLater m.called → IsFound o → IsFound (if b then Some m else o)
found_if true m o here later = here
found_if false m o here later = later

procedure_found : (number : ℕ) (hs : List Header) (name : List ℕ) → 0 < number → IsFound (procedure_from number hs name)
procedure_found number [] name more = tt
procedure_found number (h ∷ hs) name more =
    found_if (is_same h.name name) _ (procedure_from (suc number) hs name) more (procedure_found (suc number) hs name (omega arith))

called_fine : (target : Option ℕ) (args : List (Option ℕ)) (place : Place) (c : Called) → IsLater c → Fine (call_of target args place c)
called_fine target args place (Method number) later = fine_none point.Nothing refl
called_fine target args place (Procedure number) later = fine_call target number args place later

call_fine : (target : Option ℕ) (args : List (Option ℕ)) (place : Place) (m : Option Callee) → IsFound m → Fine (call_by target args place m)
call_fine target args place None found = fine_none point.Nothing refl
call_fine target args place (Some m) found = called_fine target args place m.called found

assigns_fine : (s : Setting) (c : Context) (target : Option ℕ) (v : Rhs) → Fine (assigns s c target v)
assigns_fine s c target (rhs.Copy w) = fine_none (assigns s c target (rhs.Copy w)) refl
assigns_fine s c target (rhs.New x) = fine_none (assigns s c target (rhs.New x)) refl
assigns_fine s c target (rhs.Component x) = fine_none (assigns s c target (rhs.Component x)) refl
assigns_fine s c target (rhs.Call x) = call_fine target _ _ (callee_of s c.scope (rhs.Call x)) (procedure_found 1 s.procedures x.procedure.name (omega arith))

branch_fine : (c : Context) (t : Test) → Fine (branch c t)
branch_fine c (test.Free place) = fine_none (branch c (test.Free place)) refl
branch_fine c (test.Call x) = fine_none (branch c (test.Call x)) refl

done_fine : (s : Setting) (c : Context) (x : Statement) → Fine (done_at s c x)
done_fine s c (Declare place sort w None) = fine_none point.Nothing refl
done_fine s c (Declare place sort w (Some v)) = assigns_fine s c _ v
done_fine s c (Assign w v) = assigns_fine s c _ v
done_fine s c (Do v) = assigns_fine s c None v
done_fine s c (If place t first second has_else) = branch_fine c t
done_fine s c (While place t inner) = branch_fine c t
done_fine s c (Break place) = fine_none point.Nothing refl
done_fine s c (Continue place) = fine_none point.Nothing refl
done_fine s c (Return r) = fine_none (returned s c r.value) (returned_plain s c r.value).1

abbrev point_fine : (z : Situated) → Fine (point_of z)
point_fine z = done_fine z.setting z.context z.statement

main_if : (P : Point → Type 0) (b : Bool) (x y : Point) → P x → P y → P (if b then x else y)
main_if P true x y here later = here
main_if P false x y here later = later

main_fine : (number : ℕ) (ps : List Proc) → 0 < number → (Fine (call_of_main number ps)) × (Plain (call_of_main number ps))
main_fine number [] more = (fine_none point.Nothing refl, refl)
main_fine number (p ∷ ps) more =
    let rest = main_fine (suc number) ps (omega arith) in (
      main_if Fine (is_main p) _ (call_of_main (suc number) ps) (fine_call None number [] p.name.place more) rest.0,
      main_if Plain (is_main p) _ (call_of_main (suc number) ps) refl rest.1,
    )

-- the procedures of these items
abbrev IsGood : ProcedureForm → Type 0
IsGood x = (IsAgreed x) × Each Fine x.points

procedures_good : (form : Form) (s : Setting) (static procedure call : ℕ) (items : List Item) →
    Each IsGood (filter_map (λ b. form_by form b b.item) (bodies_from s static procedure call items))
procedures_good form s static procedure call [] = each_none IsGood
procedures_good form s static procedure call (Initialiser x ∷ rest) = procedures_good form s (suc static) procedure _ rest
procedures_good form s static procedure call (written.Procedure p ∷ rest) =
    let b : Body = body_of s procedure call p in
    each_more IsGood (procedure_form form b p) _ (body_agreed form s procedure call p, each_made Fine point_of (all_in b) point_fine)
    (procedures_good form s static (suc procedure) _ rest)

initial_plain : (s : Setting) (static procedure call : ℕ) (items : List Item) →
    Each (λ z. Plain (point_of z)) (flat_map (λ b. in_start b b.item) (bodies_from s static procedure call items))
initial_plain s static procedure call [] = each_none (λ z. Plain (point_of z))
initial_plain s static procedure call (Initialiser x ∷ rest) =
    let b : Body = initialiser s static call x in
    each_more (λ z. Plain (point_of z)) (record { setting = s; context = b.start; statement = Assign x.name x.value }) _
    (assigns_plain s b.start _ x.value) (initial_plain s (suc static) procedure _ rest)
initial_plain s static procedure call (written.Procedure p ∷ rest) = initial_plain s static (suc procedure) _ rest

-- steps in a row
steps_count : (w : Ways) (number more : ℕ) → length (ways_of w (steps_from number more)) ≡ more
steps_count w number zero = refl
steps_count w number (suc more) = ap suc (steps_count w (suc number) more)

plain_at : (points : List Point) → Each Plain points → (number : ℕ) (o : Option Point) → slice_get points number ≡ o → is_test o ≡ false
plain_at points plain number None is = refl
plain_at points plain number (Some here) is = plain number here is

steps_agree : (table : List (ℕ × ℕ)) (points : List Point) (number more : ℕ) (w : Ways) → Each Plain points →
    Sits table number (ways_of w (steps_from number more)) → Agree (slice_get table) (slice_get points) (steps_from number more) w
steps_agree table points number zero w plain next = tt
steps_agree table points number (suc more) w plain next =
    let on : ℕ = first_point (steps_from (suc number) more) w.on in (
      record { ways = sits_head table number (on, on) _ next; plain = plain_at points plain number (slice_get points number) refl },
      steps_agree table points (suc number) more w plain (sits_tail table number (on, on) _ next),
    )

same_pair : (x y : ℕ × ℕ) → Some x ≡ Some y → y ≡ x
same_pair x y is = cc

steps_rise : (w : Ways) (number more k : ℕ) (ways : ℕ × ℕ) → w.on ≡ number + more → slice_get (ways_of w (steps_from number more)) k ≡ Some ways →
    ways ≡ (number + suc k, number + suc k)
steps_rise w number zero zero ways end is = absurd cc
steps_rise w number zero (suc k) ways end is = absurd cc
steps_rise w number (suc zero) zero ways end is = same_pair (w.on, w.on) ways is ∙ (λ i. (end i, end i))
steps_rise w number (suc (suc more)) zero ways end is =
    let next : suc number ≡ number + 1 = omega arith in
    same_pair (suc number, suc number) ways is ∙ (λ i. (next i, next i))
steps_rise w number (suc more) (suc k) ways end is =
    let next : suc number + suc k ≡ number + suc (suc k) = omega arith in
    steps_rise w (suc number) more k ways (omega arith) is ∙ (λ i. (next i, next i))

module _ (form : Form) (client : Client) where
  abbrev initial : List Situated
  initial = flat_map (λ b. in_start b b.item) (bodies_of form client)

  abbrev last_point : Point
  last_point = call_of_main 1 (procedures_in client.items)

  last_good : (Fine last_point) × (Plain last_point)
  last_good = main_fine 1 (procedures_in client.items) (omega arith)

  start_exit : length (map point_of initial ++ last_point ∷ []) ≡ suc (length initial)
  start_exit =
      let both : length (map point_of initial ++ last_point ∷ []) ≡ length (map point_of initial) + 1 = length-append (map point_of initial) (last_point ∷ []) in
      let made : length (map point_of initial) ≡ length initial = length-map initial point_of in
      omega arith

  start_plain : Each Plain (map point_of initial ++ last_point ∷ [])
  start_plain =
      each_both Plain (map point_of initial) (last_point ∷ []) (each_made_of Plain point_of initial (initial_plain (setting_of form client) 0 1 0 client.items))
      (each_more Plain last_point [] last_good.1 (each_none Plain))

  start_good : IsGood (start_form form client)
  start_good =
      let x : ProcedureForm = start_form form client in (
        record {
          agree = steps_agree (next_in x) x.points 0 (suc (length initial)) (whole (exit_of x)) start_plain (sits_whole (next_in x));
          first = refl;
          many = steps_count (whole (exit_of x)) 0 (suc (length initial)) ∙ sym start_exit;
        },
        each_both Fine (map point_of initial) (last_point ∷ []) (each_made Fine point_of initial point_fine)
            (each_more Fine last_point [] last_good.0 (each_none Fine)),
      )

  all_good : Each IsGood (form_of form client).procedures
  all_good = each_more IsGood (start_form form client) _ start_good (procedures_good form (setting_of form client) 0 1 0 client.items)

  form_agreed : AreAgreed (form_of form client)
  form_agreed = record {
    procedures = λ p x is. (all_good p x is).0;
    start = λ number ways is.
        let end : exit_of (start_form form client) ≡ 0 + suc (length initial) = start_exit ∙ omega arith in
        let next : 0 + suc number ≡ suc number = omega arith in
        steps_rise (whole (length (map point_of initial ++ last_point ∷ []))) 0 (suc (length initial)) number ways end is ∙ (λ i. (next i, next i));
    called = λ p number x here k is there call. (all_good p x is).1 number here there k call;
  }

pub forms_agree : FormsAgree
forms_agree form c fits = subst AreAgreed (sym fits.is) (form_agreed form fits.client)
