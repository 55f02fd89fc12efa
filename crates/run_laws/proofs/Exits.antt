-- Where a point goes on there is a point of the procedure or its exit, and the exit alone goes nowhere.
use Rattle.std.proofs.Common.{◌≡◌, ℕ, zero, suc, ◌≤◌, ◌<◌, Bool, List, [], ◌∷◌, ◌++◌, All, length, refl, ap, ◌∙◌, arith}
use Rattle.std.specs.Prelude.{Option, Some, None, option_and_then, option_map, slice_get}
use Rattle.std.specs.Option.{option_map_or}
use Rattle.std.proofs.lemmas.List.Elements.{All-append, All-cons, All-nil}
use Rattle.std.proofs.lemmas.Option.{same_Some, slice_get_past, slice_get_within}
use Rattle.client_facts.specs.Setting.{GoesOn, Setting, way}
use Rattle.client_model.specs.CheckedForm.{ClientForm, ProcedureForm}
use Rattle.client_model.specs.Nodes.{Tree, Trees, Step, If, While, Break, Continue, Return, end, ◌▹◌}
use Rattle.client_model.specs.Ways.{Ways, first_point, in_loop, point_of, ways_in, ways_of}
use Rattle.client_model.specs.declared.form.Point.{Point}
use Rattle.client_run.specs.Graph.{Agree, Agrees, AreAgreed, IsAgreed, whole}
use Rattle.client_steps.specs.States.{call_at, call_in, point_at, procedure_at}
use Rattle.easl_model.proofs.Items.{all_at}
use Rattle.flow_graph.specs.Points.{exit_at, exit_of, next_in, ways_at}

-- points that go on so, where each of them is before the exit
module _ (next : ℕ → Option (ℕ × ℕ)) (points : ℕ → Option Point) (exit : ℕ) (before : (k : ℕ) (ways : ℕ × ℕ) → next k ≡ Some ways → k < exit) where
  abbrev IsWithin : ℕ × ℕ → Type 0
  IsWithin ways = (ways.0 ≤ exit) × (ways.1 ≤ exit)

  record AreWithin (w : Ways) : Type 0 where
    on : w.on ≤ exit
    broken : w.broken ≤ exit
    again : w.again ≤ exit
    out : w.exit ≤ exit

  head_before : (x : Tree) (w : Ways) → Agrees next points x w → point_of x < exit
  head_before (Step number) w agree = before number (w.on, w.on) agree.ways
  head_before (If number first second) w agree = before number (first_point first w.on, first_point second w.on) agree.0.ways
  head_before (While number inner) w agree = before number (first_point inner number, w.on) agree.0.ways
  head_before (Break number) w agree = before number (w.broken, w.broken) agree.goes.ways
  head_before (Continue number) w agree = before number (w.again, w.again) agree.goes.ways
  head_before (Return number) w agree = before number (w.exit, w.exit) agree.goes.ways

  first_within : (xs : Trees) (w : Ways) → Agree next points xs w → w.on ≤ exit → first_point xs w.on ≤ exit
  first_within end w agree on = on
  first_within (x ▹ xs) w agree on =
      let less : point_of x < exit = head_before x (record w { on = first_point xs w.on }) agree.0 in
      omega arith

  one_within : (a b : ℕ) → a ≤ exit → b ≤ exit → All IsWithin ((a, b) ∷ [])
  one_within a b first second = All-cons IsWithin (a, b) [] (first, second) (All-nil IsWithin)

  mutual
    row_within : (xs : Trees) (w : Ways) → Agree next points xs w → AreWithin w → All IsWithin (ways_of w xs)
    row_within end w agree are = All-nil IsWithin
    row_within (x ▹ xs) w agree are =
        All-append IsWithin (ways_in (record w { on = first_point xs w.on }) x) (ways_of w xs)
        (tree_within x (record w { on = first_point xs w.on }) agree.0
        (record { on = first_within xs w agree.1 are.on; broken = are.broken; again = are.again; out = are.out }))
        (row_within xs w agree.1 are)

    tree_within : (x : Tree) (w : Ways) → Agrees next points x w → AreWithin w → All IsWithin (ways_in w x)
    tree_within (Step number) w agree are = one_within w.on w.on are.on are.on
    tree_within (If number first second) w agree are =
        All-cons IsWithin (first_point first w.on, first_point second w.on) (ways_of w first ++ ways_of w second)
        (first_within first w agree.1 are.on, first_within second w agree.2 are.on)
        (All-append IsWithin (ways_of w first) (ways_of w second) (row_within first w agree.1 are) (row_within second w agree.2 are))
    tree_within (While number inner) w agree are =
        let less : number < exit = before number (first_point inner number, w.on) agree.0.ways in
        let most : number ≤ exit = omega arith in
        All-cons IsWithin (first_point inner number, w.on) (ways_of (in_loop number w) inner)
        (first_within inner (in_loop number w) agree.1 most, are.on)
        (row_within inner (in_loop number w) agree.1 (record { on = most; broken = are.on; again = most; out = are.out }))
    tree_within (Break number) w agree are = one_within w.broken w.broken are.broken are.broken
    tree_within (Continue number) w agree are = one_within w.again w.again are.again are.again
    tree_within (Return number) w agree are = one_within w.exit w.exit are.out are.out

item_there : {A : Type 0} (xs : List A) (n : ℕ) → n < length xs → (x : A) × (slice_get xs n ≡ Some x)
item_there [] n less = absurd (omega arith)
item_there (x ∷ xs) zero less = (x, refl)
item_there (x ∷ xs) (suc n) less = item_there xs n (omega arith)

none_within : {A : Type 0} (xs : List A) (n : ℕ) → slice_get xs n ≡ None → n ≤ length xs → n ≡ length xs
none_within [] n is most = omega arith
none_within (x ∷ xs) zero is most = absurd cc
none_within (x ∷ xs) (suc n) is most =
    let less : n ≤ length xs = omega arith in
    ap suc (none_within xs n is less)

-- of one procedure
module _ (x : ProcedureForm) (agreed : IsAgreed x) where
  ways_before : (k : ℕ) (ways : ℕ × ℕ) → slice_get (next_in x) k ≡ Some ways → k < exit_of x
  ways_before k ways is =
      let less : k < length (next_in x) = slice_get_within (next_in x) k ways is in
      let many = agreed.many in
      omega arith

  ways_within : (k : ℕ) (ways : ℕ × ℕ) → slice_get (next_in x) k ≡ Some ways → (ways.0 ≤ exit_of x) × (ways.1 ≤ exit_of x)
  ways_within k ways is =
      let most : exit_of x ≤ exit_of x = omega arith in
      all_at (IsWithin (slice_get (next_in x)) (slice_get x.points) (exit_of x) ways_before) (next_in x) k ways
      (row_within (slice_get (next_in x)) (slice_get x.points) (exit_of x) ways_before x.shape (whole (exit_of x)) agreed.agree
      (record { on = most; broken = most; again = most; out = most })) is

-- whatever procedure is there, or none
module _ where
  abbrev ways_by : Option ProcedureForm → ℕ → Option (ℕ × ℕ)
  ways_by o number = option_and_then (λ x. slice_get (next_in x) number) o

  abbrev points_by : Option ProcedureForm → ℕ → Option Point
  points_by o number = option_and_then (λ x. slice_get x.points number) o

  closed_by : (o : Option ProcedureForm) → ((x : ProcedureForm) → o ≡ Some x → IsAgreed x) → ways_by o (option_map_or exit_of o 0) ≡ None
  closed_by None all = refl
  closed_by (Some x) all = slice_get_past (next_in x) (exit_of x) (let many = (all x refl).many in omega arith)

  within_by : (o : Option ProcedureForm) → ((x : ProcedureForm) → o ≡ Some x → IsAgreed x) → (n : ℕ) (ways : ℕ × ℕ) → ways_by o n ≡ Some ways →
      (ways.0 ≤ option_map_or exit_of o 0) × (ways.1 ≤ option_map_or exit_of o 0)
  within_by None all n ways is = absurd cc
  within_by (Some x) all n ways is = ways_within x (all x refl) n ways is

  exit_by : (o : Option ProcedureForm) → ((x : ProcedureForm) → o ≡ Some x → IsAgreed x) → (n : ℕ) → ways_by o n ≡ None →
      n ≤ option_map_or exit_of o 0 → n ≡ option_map_or exit_of o 0
  exit_by None all n is most = omega arith
  exit_by (Some x) all n is most =
      let many : length (next_in x) ≡ exit_of x = (all x refl).many in
      let less : n ≤ length (next_in x) = omega arith in
      none_within (next_in x) n is less ∙ many

  point_by : (o : Option ProcedureForm) → ((x : ProcedureForm) → o ≡ Some x → IsAgreed x) → (n : ℕ) (ways : ℕ × ℕ) → ways_by o n ≡ Some ways →
      (here : Point) × (points_by o n ≡ Some here)
  point_by None all n ways is = absurd cc
  point_by (Some x) all n ways is = item_there x.points n (ways_before x (all x refl) n ways is)

  goes_by : (o : Option ProcedureForm) → ((x : ProcedureForm) → o ≡ Some x → IsAgreed x) → (n : ℕ) (here : Point) → points_by o n ≡ Some here →
      (ways : ℕ × ℕ) × (ways_by o n ≡ Some ways)
  goes_by None all n here is = absurd cc
  goes_by (Some x) all n here is =
      let less : n < length x.points = slice_get_within x.points n here is in
      let many : length (next_in x) ≡ length x.points = (all x refl).many in
      item_there (next_in x) n (omega arith)

module _ (client : ClientForm) (agreed : AreAgreed client) where
  -- the exit goes nowhere
  pub exit_closed : (p : ℕ) → ways_at client p (exit_at client p) ≡ None
  exit_closed p = closed_by (procedure_at client p) (agreed.procedures p)

  -- and what goes nowhere is the exit
  pub exit_is : (p n : ℕ) → ways_at client p n ≡ None → n ≤ exit_at client p → n ≡ exit_at client p
  exit_is p n = exit_by (procedure_at client p) (agreed.procedures p) n

  pub ways_inside : (p n : ℕ) (ways : ℕ × ℕ) → ways_at client p n ≡ Some ways → (ways.0 ≤ exit_at client p) × (ways.1 ≤ exit_at client p)
  ways_inside p n ways = within_by (procedure_at client p) (agreed.procedures p) n ways

  pub point_there : (p n : ℕ) (ways : ℕ × ℕ) → ways_at client p n ≡ Some ways → (here : Point) × (point_at client p n ≡ Some here)
  point_there p n ways = point_by (procedure_at client p) (agreed.procedures p) n ways

  pub ways_there : (p n : ℕ) (here : Point) → point_at client p n ≡ Some here → (ways : ℕ × ℕ) × (ways_at client p n ≡ Some ways)
  ways_there p n here = goes_by (procedure_at client p) (agreed.procedures p) n here

-- a point that calls no procedure
pub no_call : (client : ClientForm) (p n : ℕ) (here : Point) → point_at client p n ≡ Some here → call_in here ≡ None → call_at client p n ≡ None
no_call client p n here at plain = ap (option_and_then call_in) at ∙ plain

-- the ways by which a point goes on there
pub way_found : (g : Setting) (p n : ℕ) (b : Bool) (m : ℕ) → GoesOn g p n b m → (ways : ℕ × ℕ) × (ways_at g.client p n ≡ Some ways) × (way b ways ≡ m)
way_found g p n b m goes = of_ways (ways_at g.client p n) refl goes
  where
    of_ways : (o : Option (ℕ × ℕ)) → ways_at g.client p n ≡ o → option_map (way b) o ≡ Some m →
        (ways : ℕ × ℕ) × (ways_at g.client p n ≡ Some ways) × (way b ways ≡ m)
    of_ways None at is = absurd cc
    of_ways (Some ways) at is = (ways, at, same_Some (way b ways) m is)
