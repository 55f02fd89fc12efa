-- The form of a client that a short text spells has few statics, procedures, points, names and calls.
use Rattle.std.proofs.Common.{◌≡◌, ℕ, suc, ◌+◌, ◌≤◌, List, [], ◌∷◌, ap, arith, length, map, subst, sym, ◌∙◌}
use Rattle.std.specs.Prelude.{Option, Some, None, filter_map}
use Rattle.std.specs.List.{AllByRecursion, cons_option, flat_map}
use Rattle.std.proofs.lemmas.List.{length-append, length-map}
use Rattle.std.proofs.lemmas.List.Elements.{All-from_recursion}
use Rattle.std.proofs.lemmas.List.FromFn.{length-range_with_len}
use Rattle.client_model.proofs.Numbering.{points_numbered}
use Rattle.client_model.proofs.StartSets.{as_many_statics}
use Rattle.client_model.proofs.TokenCounts.{few_in_client, few_tokens, size_of}
use Rattle.client_model.specs.Bodies.{Body, all_in, bodies_from, bodies_of, body_of, end_of, initialiser, whole_of}
use Rattle.client_model.specs.Checked.{IsInRange, procedure_seen, seen}
use Rattle.client_model.specs.CheckedForm.{ClientForm, ProcedureForm, call_of_main, classes_of, form_by, form_of, in_start, procedure_form}
use Rattle.client_model.specs.CheckedForm.{start_form}
use Rattle.client_model.specs.Contexts.{Situated}
use Rattle.client_model.specs.Nodes.{count}
use Rattle.client_model.specs.Points.{declared_at, point_of, site_at}
use Rattle.client_model.specs.Program as program
use Rattle.client_model.specs.Settings.{Setting, class_in, kind_of, setting_of, statics_from}
use Rattle.client_model.specs.Spelling.{Spells}
use Rattle.client_model.specs.Trees.{Client, Initialiser, Item, Proc, Procedure, client_of, procedures_in, statics_in}
use Rattle.client_model.specs.declared.form.Point.{Point}
use Rattle.client_model.specs.declared.tree.Client.{Client as Written}
use Rattle.easl_model.specs.Form.{Form}

one_more : {Y : Type 0} (o : Option Y) (ys : List Y) (n : ℕ) → length ys ≤ n → length (cons_option o ys) ≤ suc n
one_more None ys n few = omega arith
one_more (Some y) ys n few = omega arith

few_kept : {X Y : Type 0} (h : X → Option Y) (xs : List X) → length (filter_map h xs) ≤ length xs
few_kept h [] = omega arith
few_kept h (x ∷ xs) = one_more (h x) (filter_map h xs) (length xs) (few_kept h xs)

-- of each item of the list, by what it is mapped to
of_mapped : {X Y : Type 0} (P : Y → Type 0) (f : X → Y) (xs : List X) → AllByRecursion P (map f xs) → AllByRecursion (λ x. P (f x)) xs
of_mapped P f [] all = tt
of_mapped P f (x ∷ xs) all = (all.0, of_mapped P f xs all.1)

all_in_counted : (b : Body) → length (all_in b) ≡ count b.statements
all_in_counted b =
    sym (length-map (all_in b) (λ z. z.context.points))
    ∙ ap length (points_numbered b.setting b.start b.statements)
    ∙ length-range_with_len b.start.points (count b.statements)

few_statics_in : (items : List Item) → length (statics_in items) ≤ size_of items
few_statics_in [] = omega arith
few_statics_in (Initialiser x ∷ rest) = omega (arith, few_statics_in rest)
few_statics_in (Procedure p ∷ rest) = omega (arith, few_statics_in rest)

abbrev Few : ℕ → ProcedureForm → Type 0
Few most x = length x.points ≤ most

-- so many statics, with its variables
abbrev SeesFew : ℕ → ℕ → ProcedureForm → Type 0
SeesFew most statics x = statics + length x.variables ≤ most

module _ (s : Setting) where
  few_forms : (form : Form) (static procedure call : ℕ) (items : List Item)
      → length (filter_map (λ b. form_by form b b.item) (bodies_from s static procedure call items)) ≤ size_of items
  few_forms form static procedure call [] = omega arith
  few_forms form static procedure call (Initialiser x ∷ rest) =
      omega (arith, few_forms form (suc static) procedure (end_of (initialiser s static call x)).calls rest)
  few_forms form static procedure call (Procedure p ∷ rest) =
      omega (arith, few_forms form static (suc procedure) (end_of (body_of s procedure call p)).calls rest)

  few_initial : (static procedure call : ℕ) (items : List Item)
      → length (flat_map (λ b. in_start b b.item) (bodies_from s static procedure call items)) ≤ size_of items
  few_initial static procedure call [] = omega arith
  few_initial static procedure call (Initialiser x ∷ rest) = omega (arith, few_initial (suc static) procedure (end_of (initialiser s static call x)).calls rest)
  few_initial static procedure call (Procedure p ∷ rest) = omega (arith, few_initial static (suc procedure) (end_of (body_of s procedure call p)).calls rest)

  few_in_whole : (static procedure call : ℕ) (items : List Item) → length (flat_map all_in (bodies_from s static procedure call items)) ≤ size_of items
  few_in_whole static procedure call [] = omega arith
  few_in_whole static procedure call (Initialiser x ∷ rest) =
      omega (arith, few_in_whole (suc static) procedure (end_of (initialiser s static call x)).calls rest)
  few_in_whole static procedure call (Procedure p ∷ rest) =
      let b : Body = body_of s procedure call p in
      let others : List Situated = flat_map all_in (bodies_from s static (suc procedure) (end_of b).calls rest) in
      omega (arith, length-append (all_in b) others, all_in_counted b, few_in_whole static (suc procedure) (end_of b).calls rest)

  each_has_few : (form : Form) (most static procedure call : ℕ) (items : List Item) → size_of items ≤ most
      → AllByRecursion (Few most) (filter_map (λ b. form_by form b b.item) (bodies_from s static procedure call items))
  each_has_few form most static procedure call [] few = tt
  each_has_few form most static procedure call (Initialiser x ∷ rest) few =
      each_has_few form most (suc static) procedure (end_of (initialiser s static call x)).calls rest (omega arith)
  each_has_few form most static procedure call (Procedure p ∷ rest) few =
      let b : Body = body_of s procedure call p in
      let here : length (map point_of (all_in b)) ≤ most = omega (arith, length-map (all_in b) point_of, all_in_counted b) in
      (here, each_has_few form most static (suc procedure) (end_of b).calls rest (omega arith))

  -- a procedure has no more variables than parameters and statements
  few_variables : (form : Form) (procedure call : ℕ) (p : Proc)
      → length (procedure_form form (body_of s procedure call p) p).variables ≤ length p.params + count p.body
  few_variables form procedure call p =
      let b : Body = body_of s procedure call p in
      let declared : List (Option ℕ) = filter_map declared_at (all_in b) in
      omega (
        arith,
        length-append (classes_of form p.params) declared,
        length-map p.params (λ x. class_in (kind_of form x.sort)),
        few_kept declared_at (all_in b),
        all_in_counted b,
      )

  -- so many statics in all, of which these come before the items
  each_sees_few : (form : Form) (most all before static procedure call : ℕ) (items : List Item) → all ≡ before + length (statics_in items)
      → before + size_of items ≤ most
      → AllByRecursion (SeesFew most all) (filter_map (λ b. form_by form b b.item) (bodies_from s static procedure call items))
  each_sees_few form most all before static procedure call [] is few = tt
  each_sees_few form most all before static procedure call (Initialiser x ∷ rest) is few =
      each_sees_few form most all (suc before) (suc static) procedure (end_of (initialiser s static call x)).calls rest (omega (arith, is)) (omega (arith, few))
  each_sees_few form most all before static procedure call (Procedure p ∷ rest) is few =
      let b : Body = body_of s procedure call p in (
        omega (arith, is, few, few_variables form procedure call p, few_statics_in rest),
        each_sees_few form most all before static (suc procedure) (end_of b).calls rest is (omega (arith, few)),
      )

-- the start has one point more than there are statics
few_at_start : (form : Form) (client : Client) (most : ℕ) → size_of client.items ≤ most → length (start_form form client).points ≤ suc most
few_at_start form client most few =
    let initial : List Situated = flat_map (λ b. in_start b b.item) (bodies_of form client) in
    let called : List Point = call_of_main 1 (procedures_in client.items) ∷ [] in
    omega (arith, length-append (map point_of initial) called, length-map initial point_of, few_initial (setting_of form client) 0 1 0 client.items)

more : (most : ℕ) (xs : List ProcedureForm) → AllByRecursion (Few most) xs → AllByRecursion (Few (suc most)) xs
more most [] all = tt
more most (x ∷ xs) all = let here = all.0 in (omega arith, more most xs all.1)

of_form : (form : Form) (client : Client) (c : program.ClientForm) → size_of client.items ≤ 524288 → seen c ≡ form_of form client → IsInRange c
of_form form client c few is =
    let s : Setting = setting_of form client in
    let statics : length c.statics ≡ length (map (λ v. class_in v.kind) s.statics) = ap (λ (x : ClientForm). length x.statics) is in
    let forms : List ProcedureForm = filter_map (λ b. form_by form b b.item) (bodies_of form client) in
    let procedures : length (map procedure_seen c.procedures) ≡ suc (length forms) =
    ap (λ (x : ClientForm). length x.procedures) is in
    let calls : length c.calls ≡ length (filter_map site_at (whole_of form client)) = ap (λ (x : ClientForm). length x.calls) is in
    let each : AllByRecursion (Few 1048577) (map procedure_seen c.procedures) =
    subst (AllByRecursion (Few 1048577)) (sym (ap (λ (x : ClientForm). x.procedures) is))
    (few_at_start form client 1048576 (omega (arith, few)), more 1048576 _ (each_has_few s form 1048576 0 1 0 client.items (omega (arith, few)))) in
    let all : length c.statics ≡ length (statics_in client.items) =
    statics ∙ length-map s.statics (λ v. class_in v.kind) ∙ as_many_statics form 0 (statics_in client.items) in
    let sees : AllByRecursion (SeesFew 524288 (length c.statics)) (map procedure_seen c.procedures) =
    subst (AllByRecursion (SeesFew 524288 (length c.statics))) (sym (ap (λ (x : ClientForm). x.procedures) is)) (
      omega (arith, all, few, few_statics_in client.items),
      each_sees_few s form 524288 (length c.statics) 0 0 1 0 client.items (omega (arith, all)) (omega (arith, few)),
    ) in
    record {
      few_statics = omega (arith, length-map s.statics (λ v. class_in v.kind), as_many_statics form 0 (statics_in client.items), few_statics_in client.items);
      few_procedures = omega (arith, length-map c.procedures procedure_seen, few_forms s form 0 1 0 client.items);
      few_points = All-from_recursion (λ p. length p.points ≤ 1048577) c.procedures (of_mapped (Few 1048577) procedure_seen c.procedures each);
      few_names = All-from_recursion (λ p. length c.statics + length p.variables ≤ 524288) c.procedures
          (of_mapped (SeesFew 524288 (length c.statics)) procedure_seen c.procedures sees);
      few_calls = omega (arith, few_kept site_at (whole_of form client), few_in_whole s 0 1 0 client.items);
    }

pub in_range : (text : List ℕ) (form : Form) (client : Written) (c : program.ClientForm) → length text ≤ 1048576 → Spells text client
    → seen c ≡ form_of form (client_of client) → IsInRange c
in_range text form client c few spells is =
    of_form form (client_of client) c
    (omega (arith, few_tokens text spells.tokens spells.cut, few_in_client text spells.tokens.end spells.tokens.list client spells.spelled)) is
