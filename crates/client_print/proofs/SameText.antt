-- What is printed depends on no place.
use Rattle.std.proofs.Common.{◌≡◌, ℕ, ◌+◌, Bool, true, false, List, [], ◌∷◌, ◌++◌, Option, Some, None, drop, map, encode_utf8_all, refl, sym, ap, ◌∙◌}
use Rattle.std.specs.Option.{option_map}
use Rattle.client_model.specs.Statements.{Statement, Statements, Declare, Assign, Do, If, While, Break, Continue, Return, none, ◌▸◌}
use Rattle.client_model.specs.declared.tree.Client as tree
use Rattle.client_model.specs.declared.tree.Component.{Component}
use Rattle.client_model.specs.declared.tree.Proc.{Proc}
use Rattle.client_model.specs.declared.tree.Rhs.{Rhs}
use Rattle.client_model.specs.declared.tree.Rhs.TheVariants as rhs
use Rattle.client_model.specs.declared.tree.Static.{Static}
use Rattle.client_model.specs.declared.tree.Test.{Test}
use Rattle.client_model.specs.declared.tree.Test.TheVariants as tests
use Rattle.easl_model.specs.declared.token.Key.{Key}
use Rattle.easl_model.specs.declared.token.Key.TheVariants as keyword
use Rattle.easl_model.specs.declared.token.Mark.TheVariants as sign
use Rattle.easl_model.specs.declared.tree.Param.{Param}
use Rattle.easl_model.specs.declared.tree.Sort.{Sort}
use Rattle.easl_model.specs.declared.tree.Sort.TheVariants as sorts
use Rattle.easl_model.specs.declared.tree.Word.{Word}
use Rattle.cv_layout.specs.Layout.{Line, key, mark, line, braced, separated, parens, layout}
use Rattle.cv_layout.specs.Words.{named, bare_word}
use Rattle.easl_print.specs.Bare.{bare_sort, bare_param}
use Rattle.easl_print.specs.Lines.{sort, param, params, ended, alternative}
use Rattle.client_print.specs.Bare.{Client, Procedure, bare_component, bare_value, bare_test, bare, bare_all, bare_static, bare_procedure, bare_client}
use Rattle.client_print.specs.Lines.{argument, args, component, value, set, maybe_set, test, guard, statement_lines, block_lines, block_of, returned}
use Rattle.client_print.specs.Lines.{static_line, procedure_lines, first_static, item_lines, client_lines, client_text}

each : {A B C : Type 0} (f : A → C) (g : B → C) (h : A → B) → ((x : A) → f x ≡ g (h x)) → (xs : List A) → map f xs ≡ map g (map h xs)
each f g h e [] = refl
each f g h e (x ∷ xs) = ap (λ y. y ∷ map f xs) (e x) ∙ ap (λ ys. g (h x) ∷ ys) (each f g h e xs)

args_same : (ws : List Word) → args ws ≡ args (map bare_word ws)
args_same ws = ap (λ l. parens (separated sign.Comma l)) (each argument argument bare_word (λ w. refl) ws)

component_same : (x : Component) → component x ≡ component (bare_component x)
component_same x = ap (λ l. named x.receiver ∷ mark sign.Dot ∷ named x.method ∷ l) (args_same x.args)

value_same : (v : Rhs) → value v ≡ value (bare_value v)
value_same (rhs.Copy w) = refl
value_same (rhs.New x) = ap (λ l. key keyword.New ∷ named x.class ∷ l) (args_same x.args)
value_same (rhs.Component x) = component_same x
value_same (rhs.Call x) = ap (λ l. named x.procedure ∷ l) (args_same x.args)

set_same : (v : Rhs) → set v ≡ set (bare_value v)
set_same v = ap (λ l. mark sign.Assign ∷ ended l) (value_same v)

maybe_same : (v : Option Rhs) → maybe_set v ≡ maybe_set (option_map bare_value v)
maybe_same None = refl
maybe_same (Some v) = set_same v

test_same : (t : Test) → test t ≡ test (bare_test t)
test_same (tests.Free place) = refl
test_same (tests.Call x) = component_same x

guard_same : (k : Key) (t : Test) → guard k t ≡ guard k (bare_test t)
guard_same k t = ap (λ l. key k ∷ parens l ++ mark sign.Begin ∷ []) (test_same t)

sort_same : (s : Sort) → sort s ≡ sort (bare_sort s)
sort_same sorts.Void = refl
sort_same (sorts.Opaque o) = refl
sort_same (sorts.Class w) = refl

params_same : (ps : List Param) → params ps ≡ params (map bare_param ps)
params_same ps = ap (λ l. parens (separated sign.Comma l)) (each param param bare_param (λ p. ap (λ x. x ∷ named p.name ∷ []) (sort_same p.sort)) ps)

returned_same : (w : Option Word) → returned w ≡ returned (option_map bare_word w)
returned_same None = refl
returned_same (Some w) = refl

mutual
  statement_same : (d : ℕ) (w : Statement) → statement_lines d w ≡ statement_lines d (bare w)
  statement_same d (Declare place s n v) =
      ap (λ x. line d (x ∷ named n ∷ maybe_set v)) (sort_same s) ∙ ap (λ l. line d (sort (bare_sort s) ∷ named n ∷ l)) (maybe_same v)
  statement_same d (Assign n v) = ap (λ l. line d (named n ∷ l)) (set_same v)
  statement_same d (Do v) = ap (λ l. line d (ended l)) (value_same v)
  statement_same d (If place t xs ys b) =
      let first = block_lines (d + 1) xs in
      let last = alternative d b (block_lines (d + 1) ys) in
      ap (λ l. line d l ++ (first ++ last)) (guard_same keyword.If t) ∙ ap (λ l. line d (guard keyword.If (bare_test t)) ++ (l ++ last)) (block_same (d + 1) xs)
      ∙ ap (λ l. line d (guard keyword.If (bare_test t)) ++ (block_lines (d + 1) (bare_all xs) ++ alternative d b l)) (block_same (d + 1) ys)
  statement_same d (While place t xs) =
      let first = block_lines (d + 1) xs in
      let last = line d (mark sign.End ∷ []) in
      ap (λ l. line d l ++ (first ++ last)) (guard_same keyword.While t)
      ∙ ap (λ l. line d (guard keyword.While (bare_test t)) ++ (l ++ last)) (block_same (d + 1) xs)
  statement_same d (Break place) = refl
  statement_same d (Continue place) = refl
  statement_same d (Return r) = ap (λ l. line d (ended (key keyword.Return ∷ l))) (returned_same r.value)

  block_same : (d : ℕ) (xs : Statements) → block_lines d xs ≡ block_lines d (bare_all xs)
  block_same d none = refl
  block_same d (x ▸ xs) = ap (λ l. l ++ block_lines d xs) (statement_same d x) ∙ ap (λ l. statement_lines d (bare x) ++ l) (block_same d xs)

static_same : (x : Static) → static_line x ≡ static_line (bare_static x)
static_same x =
    ap (λ y. line 0 (key keyword.Static ∷ y ∷ named x.name ∷ set x.value)) (sort_same x.sort)
    ∙ ap (λ l. line 0 (key keyword.Static ∷ sort (bare_sort x.sort) ∷ named x.name ∷ l)) (set_same x.value)

-- the lines of procedures without places
abbrev plain_procedure : Procedure → List Line
plain_procedure p = braced 0 (sort p.result ∷ named p.name ∷ params p.params) (block_lines 1 p.body)

procedure_same : (p : Proc) → procedure_lines p ≡ plain_procedure (bare_procedure p)
procedure_same p =
    let body = block_lines 1 (block_of p.body) in
    ap (λ x. braced 0 (x ∷ named p.name ∷ params p.params) body) (sort_same p.result)
    ∙ ap (λ l. braced 0 (sort (bare_sort p.result) ∷ named p.name ∷ l) body) (params_same p.params)
    ∙ ap (braced 0 (sort (bare_sort p.result) ∷ named p.name ∷ params (map bare_param p.params))) (block_same 1 (block_of p.body))

abbrev plain_first : List Procedure → List Line
plain_first [] = []
plain_first (p ∷ ps) = plain_procedure p

abbrev plain_items : List Bool → List Static → List Procedure → List Line
plain_items [] xs ys = []
plain_items (true ∷ order) xs ys = first_static xs ++ plain_items order (drop 1 xs) ys
plain_items (false ∷ order) xs ys = plain_first ys ++ plain_items order xs (drop 1 ys)

items_same : (order : List Bool) (xs : List Static) (ys : List Proc) → item_lines order xs ys ≡ plain_items order (map bare_static xs) (map bare_procedure ys)
items_same [] xs ys = refl
items_same (true ∷ order) [] ys = items_same order [] ys
items_same (true ∷ order) (x ∷ xs) ys =
    ap (λ l. l ++ item_lines order xs ys) (static_same x) ∙ ap (λ l. static_line (bare_static x) ++ l) (items_same order xs ys)
items_same (false ∷ order) xs [] = items_same order xs []
items_same (false ∷ order) xs (y ∷ ys) =
    ap (λ l. l ++ item_lines order xs ys) (procedure_same y) ∙ ap (λ l. plain_procedure (bare_procedure y) ++ l) (items_same order xs ys)

client_same : (c : tree.Client) → client_lines c ≡ (let p = bare_client c in plain_items p.order p.statics p.procedures)
client_same c = items_same c.order c.statics c.procedures

-- two clients that are the same, places aside, have the same text
pub same_text : (x y : tree.Client) → bare_client x ≡ bare_client y → client_text x ≡ client_text y
same_text x y e =
    ap (λ ls. encode_utf8_all (layout ls)) (client_same x ∙ ap (λ (c : Client). plain_items c.order c.statics c.procedures) e ∙ sym (client_same y))
