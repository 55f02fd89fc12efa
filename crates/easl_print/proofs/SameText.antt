-- What is printed depends on no place.
use Rattle.std.proofs.Common.{◌≡◌, ℕ, ◌+◌, ◌||◌, List, [], ◌∷◌, ◌++◌, Option, Some, None, flat_map, map, encode_utf8_all, refl, sym, ap, ◌∙◌}
use Rattle.std.specs.Option.{option_map}
use Rattle.easl_model.specs.{Assign, Block, Clause, Declare, Written, block_of, clause_of, more}
use Rattle.easl_model.specs.Clauses.{Clauses, none}
use Rattle.easl_model.specs.Clauses as written
use Rattle.easl_model.specs.Steps.{If, ◌▸◌}
use Rattle.easl_model.specs.Steps as steps
use Rattle.easl_model.specs.declared.token.Key.TheVariants as keyword
use Rattle.easl_model.specs.declared.token.Mark.TheVariants as sign
use Rattle.easl_model.specs.declared.tree.Arg.{Arg}
use Rattle.easl_model.specs.declared.tree.Arg.TheVariants as arg
use Rattle.easl_model.specs.declared.tree.Class as tree
use Rattle.easl_model.specs.declared.tree.Code as tree_code
use Rattle.easl_model.specs.declared.tree.Member as tree_member
use Rattle.easl_model.specs.declared.tree.Member.TheVariants as member
use Rattle.easl_model.specs.declared.tree.Param.{Param}
use Rattle.easl_model.specs.declared.tree.Path.{Path}
use Rattle.easl_model.specs.declared.tree.Return.{Return}
use Rattle.easl_model.specs.declared.tree.Sort.{Sort}
use Rattle.easl_model.specs.declared.tree.Sort.TheVariants as sorts
use Rattle.easl_model.specs.declared.tree.Spec.{Spec}
use Rattle.easl_model.specs.declared.tree.Value.{Value}
use Rattle.easl_model.specs.declared.tree.Value.TheVariants as value_of
use Rattle.easl_model.specs.declared.tree.Word.{Word}
use Rattle.cv_layout.specs.{Lexeme, Line, bare_word, braced, key, layout, line, mark, named, parens, separated}
use Rattle.easl_print.specs.Bare.{Code, Member, Field, Constructor, Method, Class, bare_path, bare, bare_all, bare_arg, bare_value, bare_step, bare_block, bare_clause, bare_return, bare_sort, bare_param, bare_code, bare_member, bare_class, bare_spec}
use Rattle.easl_print.specs.Lines.{head, fields, path, is_any, is_all, parens_where, condition, in_all, in_any, argument, value, sort, param, params, ended, clause_line, set, guard, alternative, step_lines, block_lines, return_line, body_lines, member_lines, class_lines, spec_lines, spec_text}

each : {A B C : Type 0} (f : A → C) (g : B → C) (h : A → B) → ((x : A) → f x ≡ g (h x)) → (xs : List A) → map f xs ≡ map g (map h xs)
each f g h e [] = refl
each f g h e (x ∷ xs) = ap (λ y. y ∷ map f xs) (e x) ∙ ap (λ ys. g (h x) ∷ ys) (each f g h e xs)

lines_each : {A B : Type 0} (f : A → List Line) (g : B → List Line) (h : A → B) → ((x : A) → f x ≡ g (h x)) → (xs : List A) → flat_map f xs ≡ flat_map g
    (map h xs)
lines_each f g h e [] = refl
lines_each f g h e (x ∷ xs) = ap (λ l. l ++ flat_map f xs) (e x) ∙ ap (λ l. g (h x) ++ l) (lines_each f g h e xs)

-- paths and conditions
fields_same : (ws : List Word) → fields ws ≡ fields (map bare_word ws)
fields_same [] = refl
fields_same (w ∷ ws) = ap (λ l. mark sign.Dot ∷ named w ∷ l) (fields_same ws)

head_same : (h : Option Word) → head h ≡ head (option_map bare_word h)
head_same None = refl
head_same (Some w) = refl

path_same : (p : Path) → path p ≡ path (bare_path p)
path_same p = ap (λ x. x ∷ fields p.fields) (head_same p.head) ∙ ap (λ l. head (option_map bare_word p.head) ∷ l) (fields_same p.fields)

any_same : (c : Clause) → is_any c ≡ is_any (bare c)
any_same (written.Same p q) = refl
any_same (written.Differ p q) = refl
any_same (written.All cs) = refl
any_same (written.Any cs) = refl

all_same : (c : Clause) → (is_any c || is_all c) ≡ (is_any (bare c) || is_all (bare c))
all_same (written.Same p q) = refl
all_same (written.Differ p q) = refl
all_same (written.All cs) = refl
all_same (written.Any cs) = refl

compared : (p q : Path) (x : Lexeme) → path p ++ x ∷ path q ≡ path (bare_path p) ++ x ∷ path (bare_path q)
compared p q x = ap (λ l. l ++ x ∷ path q) (path_same p) ∙ ap (λ l. path (bare_path p) ++ x ∷ l) (path_same q)

mutual
  condition_same : (c : Clause) → condition c ≡ condition (bare c)
  condition_same (written.Same p q) = compared p q (mark sign.Same)
  condition_same (written.Differ p q) = compared p q (mark sign.Differ)
  condition_same (written.All cs) = ap (separated sign.And) (in_all_same cs)
  condition_same (written.Any cs) = ap (separated sign.Or) (in_any_same cs)

  in_all_same : (cs : Clauses) → in_all cs ≡ in_all (bare_all cs)
  in_all_same none = refl
  in_all_same (more c cs) =
      ap (λ w. parens_where w (condition c) ∷ in_all cs) (all_same c)
      ∙ ap (λ l. parens_where (is_any (bare c) || is_all (bare c)) l ∷ in_all cs) (condition_same c)
      ∙ ap (λ l. parens_where (is_any (bare c) || is_all (bare c)) (condition (bare c)) ∷ l) (in_all_same cs)

  in_any_same : (cs : Clauses) → in_any cs ≡ in_any (bare_all cs)
  in_any_same none = refl
  in_any_same (more c cs) =
      ap (λ w. parens_where w (condition c) ∷ in_any cs) (any_same c) ∙ ap (λ l. parens_where (is_any (bare c)) l ∷ in_any cs) (condition_same c)
      ∙ ap (λ l. parens_where (is_any (bare c)) (condition (bare c)) ∷ l) (in_any_same cs)

-- values and steps
argument_same : (x : Arg) → argument x ≡ argument (bare_arg x)
argument_same (arg.Path p) = path_same p
argument_same (arg.Literal w) = refl

value_same : (v : Value) → value v ≡ value (bare_value v)
value_same (value_of.Path p) = path_same p
value_same (value_of.New n) =
    ap (λ l. key keyword.New ∷ named n.class ∷ parens (separated sign.Comma l)) (each argument argument bare_arg argument_same n.args)

set_same : (v : Value) → set v ≡ set (bare_value v)
set_same v = ap (λ l. mark sign.Assign ∷ ended l) (value_same v)

mutual
  step_same : (d : ℕ) (w : Written) → step_lines d w ≡ step_lines d (bare_step w)
  step_same d (Declare class name v) = ap (λ l. line d (named class ∷ named name ∷ l)) (set_same v)
  step_same d (Assign p v) = ap (λ l. line d (l ++ set v)) (path_same p) ∙ ap (λ l. line d (path (bare_path p) ++ l)) (set_same v)
  step_same d (If place c xs ys b) =
      let first = block_lines (d + 1) xs in
      let last = alternative d b (block_lines (d + 1) ys) in
      ap (λ l. line d (key keyword.If ∷ parens l ++ mark sign.Begin ∷ []) ++ (first ++ last)) (condition_same c)
      ∙ ap (λ l. line d (guard (bare c)) ++ (l ++ last)) (block_same (d + 1) xs)
      ∙ ap (λ l. line d (guard (bare c)) ++ (block_lines (d + 1) (bare_block xs) ++ alternative d b l)) (block_same (d + 1) ys)

  block_same : (d : ℕ) (xs : Block) → block_lines d xs ≡ block_lines d (bare_block xs)
  block_same d steps.none = refl
  block_same d (x ▸ xs) = ap (λ l. l ++ block_lines d xs) (step_same d x) ∙ ap (λ l. step_lines d (bare_step x) ++ l) (block_same d xs)

sort_same : (s : Sort) → sort s ≡ sort (bare_sort s)
sort_same sorts.Void = refl
sort_same (sorts.Opaque o) = refl
sort_same (sorts.Class w) = refl

params_same : (ps : List Param) → params ps ≡ params (map bare_param ps)
params_same ps = ap (λ l. parens (separated sign.Comma l)) (each param param bare_param (λ p. ap (λ x. x ∷ named p.name ∷ []) (sort_same p.sort)) ps)

-- the lines of trees without places
abbrev plain_clause : ℕ → Clause → List Line
plain_clause d c = line d (ended (key keyword.Requires ∷ condition c))

abbrev plain_return : ℕ → Option Value → List Line
plain_return d None = []
plain_return d (Some v) = line d (ended (key keyword.Return ∷ value v))

abbrev plain_body : ℕ → Code → List Line
plain_body d c = flat_map (plain_clause d) c.clauses ++ (block_lines d c.body ++ plain_return d c.value)

abbrev plain_member : ℕ → Member → List Line
plain_member d (Field class name) = line d (ended (named class ∷ named name ∷ []))
plain_member d (Constructor c) = braced d (named c.name ∷ params c.params) (plain_body (d + 1) c)
plain_member d (Method c) = braced d (sort c.result ∷ named c.name ∷ params c.params) (plain_body (d + 1) c)

abbrev plain_class : ℕ → Class → List Line
plain_class d c = braced d (key keyword.Class ∷ named c.name ∷ []) (flat_map (plain_member (d + 1)) c.members)

return_same : (d : ℕ) (r : Option Return) → return_line d r ≡ plain_return d (option_map bare_return r)
return_same d None = refl
return_same d (Some r) = ap (λ l. line d (ended (key keyword.Return ∷ l))) (value_same r.value)

body_same : (d : ℕ) (c : tree_code.Code) → body_lines d c ≡ plain_body d (bare_code c)
body_same d c =
    let clauses = flat_map (plain_clause d) (map bare_clause c.clauses) in
    ap (λ l. l ++ (block_lines d (block_of c.body) ++ return_line d c.value))
    (lines_each (clause_line d) (plain_clause d) bare_clause
    (λ x. ap (λ l. line d (ended (key keyword.Requires ∷ l))) (condition_same (clause_of x.condition))) c.clauses)
    ∙ ap (λ l. clauses ++ (l ++ return_line d c.value)) (block_same d (block_of c.body))
    ∙ ap (λ l. clauses ++ (block_lines d (bare_block (block_of c.body)) ++ l)) (return_same d c.value)

member_same : (d : ℕ) (m : tree_member.Member) → member_lines d m ≡ plain_member d (bare_member m)
member_same d (member.Field f) = refl
member_same d (member.Constructor c) =
    ap (λ l. braced d (named c.name ∷ l) (body_lines (d + 1) c)) (params_same c.params)
    ∙ ap (λ l. braced d (named c.name ∷ params (map bare_param c.params)) l) (body_same (d + 1) c)
member_same d (member.Method c) =
    ap (λ x. braced d (x ∷ named c.name ∷ params c.params) (body_lines (d + 1) c)) (sort_same c.result)
    ∙ ap (λ l. braced d (sort (bare_sort c.result) ∷ named c.name ∷ l) (body_lines (d + 1) c)) (params_same c.params)
    ∙ ap (λ l. braced d (sort (bare_sort c.result) ∷ named c.name ∷ params (map bare_param c.params)) l) (body_same (d + 1) c)

class_same : (d : ℕ) (c : tree.Class) → class_lines d c ≡ plain_class d (bare_class c)
class_same d c =
    ap (λ l. braced d (key keyword.Class ∷ named c.name ∷ []) l)
    (lines_each (member_lines (d + 1)) (plain_member (d + 1)) bare_member (member_same (d + 1)) c.members)

spec_same : (s : Spec) → spec_lines s ≡ flat_map (plain_class 0) (bare_spec s)
spec_same s = lines_each (class_lines 0) (plain_class 0) bare_class (class_same 0) s.classes

-- two trees that are the same, places aside, have the same text
pub same_text : (x y : Spec) → bare_spec x ≡ bare_spec y → spec_text x ≡ spec_text y
same_text x y e = ap (λ ls. encode_utf8_all (layout ls)) (spec_same x ∙ ap (flat_map (plain_class 0)) e ∙ sym (spec_same y))
