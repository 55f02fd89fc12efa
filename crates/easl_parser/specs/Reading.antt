-- How a specification is read from the left. Where rules begin alike, the common part is read first.
use Rattle.std.specs.Prelude.{ℕ, zero, suc, Bool, true, false, ◌||◌, Option, Some, None, List, [], ◌∷◌}
use Rattle.easl_model.specs.{is_literal}
use Rattle.easl_model.specs.declared.place.Place.{Place}
use Rattle.easl_model.specs.declared.token.Key.TheVariants as key
use Rattle.easl_model.specs.declared.token.Kind.{Kind}
use Rattle.easl_model.specs.declared.token.Mark.TheVariants as mark
use Rattle.easl_model.specs.declared.token.Token.{Token}
use Rattle.easl_model.specs.declared.tree.Arg.{Arg}
use Rattle.easl_model.specs.declared.tree.Arg.TheVariants as arg
use Rattle.easl_model.specs.declared.tree.Class.{Class}
use Rattle.easl_model.specs.declared.tree.Cond.{Cond}
use Rattle.easl_model.specs.declared.tree.Cond.TheVariants as cond
use Rattle.easl_model.specs.declared.tree.Member.{Member}
use Rattle.easl_model.specs.declared.tree.Member.TheVariants as member
use Rattle.easl_model.specs.declared.tree.Path.{Path}
use Rattle.easl_model.specs.declared.tree.Requires.{Requires}
use Rattle.easl_model.specs.declared.tree.Return.{Return}
use Rattle.easl_model.specs.declared.tree.Sort.{Sort}
use Rattle.easl_model.specs.declared.tree.Sort.TheVariants as sort
use Rattle.easl_model.specs.declared.tree.Spec.{Spec}
use Rattle.easl_model.specs.declared.tree.Step.{Step}
use Rattle.easl_model.specs.declared.tree.Step.TheVariants as step
use Rattle.easl_model.specs.declared.tree.Value.{Value}
use Rattle.easl_model.specs.declared.tree.Value.TheVariants as value
use Rattle.easl_model.specs.declared.tree.Word.{Word}
use Rattle.cv_read.specs.{Deep, Got, before_mark, behind_key, behind_mark, choose, is_key, is_mark, is_name, is_opaque, items_at, key_place_at, listed_at}
use Rattle.cv_read.specs.{literal_at, mark_at, mark_place_at, name_at, params_at, parens_at, placed_opaque, step_at, take_at, type_starts, ◌>>=◌}
use Rattle.cv_read.specs.Read.{Read}

-- paths
abbrev pub field_at : List ℕ → List Token → Read (Option Word)
field_at text = step_at (is_mark mark.Dot) (behind_mark mark.Dot (name_at text))

-- the fields behind a head
abbrev pub path_of : List ℕ → Option Word → Place → List Token → Read Path
path_of text head at ts = items_at (field_at text) ts >>= λ ws us. Got (record { head = head; place = at; fields = ws }) us

abbrev pub this_path_at : List ℕ → List Token → Read Path
this_path_at text ts = key_place_at key.This ts >>= λ at us. path_of text None at us

abbrev pub named_path_at : List ℕ → List Token → Read Path
named_path_at text ts = name_at text ts >>= λ w us. path_of text (Some w) w.place us

unfoldable pub path_at : List ℕ → List Token → Read Path
path_at text = choose (is_key key.This) (this_path_at text) (named_path_at text)

-- arguments and values
abbrev pub path_starts : Kind → Bool
path_starts k = is_name k || is_key key.This k

abbrev pub arg_starts : Kind → Bool
arg_starts k = is_literal k || path_starts k

abbrev pub literal_arg_at : List ℕ → List Token → Read Arg
literal_arg_at text ts = literal_at text ts >>= λ w us. Got (arg.Literal w) us

abbrev pub path_arg_at : List ℕ → List Token → Read Arg
path_arg_at text ts = path_at text ts >>= λ p us. Got (arg.Path p) us

unfoldable pub arg_at : List ℕ → List Token → Read Arg
arg_at text = choose is_literal (literal_arg_at text) (path_arg_at text)

unfoldable pub args_at : List ℕ → List Token → Read (List Arg)
args_at text = parens_at (listed_at arg_starts (arg_at text))

-- a construction behind its `new`
abbrev pub new_behind : List ℕ → Place → List Token → Read Value
new_behind text at ts = name_at text ts >>= λ c us. args_at text us >>= λ xs vs. Got (value.New (record { place = at; class = c; args = xs })) vs

abbrev pub new_at : List ℕ → List Token → Read Value
new_at text ts = key_place_at key.New ts >>= λ at us. new_behind text at us

abbrev pub path_value_at : List ℕ → List Token → Read Value
path_value_at text ts = path_at text ts >>= λ p us. Got (value.Path p) us

unfoldable pub value_at : List ℕ → List Token → Read Value
value_at text = choose (is_key key.New) (new_at text) (path_value_at text)

-- conditions
abbrev pub sign_at : List Token → Read Bool
sign_at = choose (is_mark mark.Same) (behind_mark mark.Same (λ us. Got true us)) (behind_mark mark.Differ (λ us. Got false us))

abbrev pub compare : Bool → Path → Path → Cond
compare true p q = cond.Same p q
compare false p q = cond.Differ p q

unfoldable pub comparison_at : List ℕ → List Token → Read Cond
comparison_at text ts = path_at text ts >>= λ p us. sign_at us >>= λ same vs. path_at text vs >>= λ q ws. Got (compare same p q) ws

abbrev pub one_or_all : Cond → List Cond → Cond
one_or_all x [] = x
one_or_all x (y ∷ ys) = cond.All (x ∷ y ∷ ys)

abbrev pub one_or_any : Cond → List Cond → Cond
one_or_any x [] = x
one_or_any x (y ∷ ys) = cond.Any (x ∷ y ∷ ys)

-- the rules of conditions, each over what reads what stands in it
abbrev pub and_by : (List Token → Read Cond) → List Token → Read (Option Cond)
and_by atom = step_at (is_mark mark.And) (behind_mark mark.And atom)

abbrev pub or_by : (List Token → Read Cond) → List Token → Read (Option Cond)
or_by all = step_at (is_mark mark.Or) (behind_mark mark.Or all)

abbrev pub atom_by : List ℕ → (List Token → Read Cond) → List Token → Read Cond
atom_by text any = choose (is_mark mark.Open) (behind_mark mark.Open (before_mark mark.Close any)) (comparison_at text)

unfoldable pub all_by : (List Token → Read Cond) → List Token → Read Cond
all_by atom ts = atom ts >>= λ x us. items_at (and_by atom) us >>= λ xs vs. Got (one_or_all x xs) vs

unfoldable pub any_by : (List Token → Read Cond) → List Token → Read Cond
any_by all ts = all ts >>= λ x us. items_at (or_by all) us >>= λ xs vs. Got (one_or_any x xs) vs

-- with fewer than so many conditions in one another
unfoldable pub any_at : List ℕ → ℕ → List Token → Read Cond
any_at text zero ts = Deep
any_at text (suc d) ts = any_by (all_by (atom_by text (any_at text d))) ts

abbrev pub atom_at : List ℕ → ℕ → List Token → Read Cond
atom_at text d = atom_by text (any_at text d)

abbrev pub all_at : List ℕ → ℕ → List Token → Read Cond
all_at text d = all_by (atom_at text d)

-- values that are assigned, and steps that hold no others
unfoldable pub set_at : List ℕ → List Token → Read Value
set_at text = behind_mark mark.Assign (before_mark mark.Semicolon (value_at text))

abbrev pub assign_at : List ℕ → Option Word → Place → List Token → Read Step
assign_at text head at ts = path_of text head at ts >>= λ p us. set_at text us >>= λ x vs. Got (step.Assign p x) vs

abbrev pub declare_at : List ℕ → Word → List Token → Read Step
declare_at text c ts = name_at text ts >>= λ n us. set_at text us >>= λ x vs. Got (step.Declare c n x) vs

-- a step behind its first name
abbrev pub step_behind : List ℕ → Word → List Token → Read Step
step_behind text w = choose is_name (declare_at text w) (assign_at text (Some w) w.place)

abbrev pub named_step_at : List ℕ → List Token → Read Step
named_step_at text ts = name_at text ts >>= λ w us. step_behind text w us

abbrev pub this_step_at : List ℕ → List Token → Read Step
this_step_at text ts = key_place_at key.This ts >>= λ at us. assign_at text None at us

unfoldable pub simple_at : List ℕ → List Token → Read Step
simple_at text = choose (is_key key.This) (this_step_at text) (named_step_at text)

-- "(" comparison ")"
unfoldable pub guard_at : List ℕ → List Token → Read Cond
guard_at text = parens_at (comparison_at text)

-- the rules of steps, each over what reads the steps or the block that stand in it
abbrev pub block_by : (List Token → Read (List Step)) → List Token → Read (List Step)
block_by steps = behind_mark mark.Begin (before_mark mark.End steps)

abbrev pub else_by : (List Token → Read (List Step)) → Place → Cond → List Step → List Token → Read Step
else_by block at c xs ts = behind_key key.Else block ts >>= λ ys us. Got (step.If at c xs ys true) us

abbrev pub end_if_by : (List Token → Read (List Step)) → Place → Cond → List Step → List Token → Read Step
end_if_by block at c xs = choose (is_key key.Else) (else_by block at c xs) (λ ts. Got (step.If at c xs [] false) ts)

-- a conditional behind its `if`
unfoldable pub if_by : List ℕ → (List Token → Read (List Step)) → Place → List Token → Read Step
if_by text block at ts = guard_at text ts >>= λ c us. block us >>= λ xs vs. end_if_by block at c xs vs

abbrev pub if_step_by : List ℕ → (List Token → Read (List Step)) → List Token → Read Step
if_step_by text block ts = key_place_at key.If ts >>= λ at us. if_by text block at us

abbrev pub step_by : List ℕ → (List Token → Read (List Step)) → List Token → Read Step
step_by text block = choose (is_key key.If) (if_step_by text block) (simple_at text)

abbrev pub step_starts : Kind → Bool
step_starts k = is_key key.If k || path_starts k

abbrev pub maybe_step_by : List ℕ → (List Token → Read (List Step)) → List Token → Read (Option Step)
maybe_step_by text block = step_at step_starts (step_by text block)

-- with fewer than so many lists of steps in one another
unfoldable pub steps_at : List ℕ → ℕ → List Token → Read (List Step)
steps_at text zero ts = Deep
steps_at text (suc d) ts = items_at (maybe_step_by text (block_by (steps_at text d))) ts

abbrev pub block_at : List ℕ → ℕ → List Token → Read (List Step)
block_at text d = block_by (steps_at text d)

abbrev pub step_read : List ℕ → ℕ → List Token → Read Step
step_read text d = step_by text (block_at text d)

abbrev pub maybe_step_at : List ℕ → ℕ → List Token → Read (Option Step)
maybe_step_at text d = maybe_step_by text (block_at text d)

-- a clause behind its keyword
abbrev pub condition_at : List ℕ → ℕ → List Token → Read Cond
condition_at text d = before_mark mark.Semicolon (any_at text d)

abbrev pub clause_behind : List ℕ → ℕ → Place → List Token → Read Requires
clause_behind text d at ts = condition_at text d ts >>= λ x us. Got (record { place = at; condition = x }) us

unfoldable pub clause_at : List ℕ → ℕ → List Token → Read Requires
clause_at text d ts = key_place_at key.Requires ts >>= λ at us. clause_behind text d at us

abbrev pub maybe_clause_at : List ℕ → ℕ → List Token → Read (Option Requires)
maybe_clause_at text d = step_at (is_key key.Requires) (clause_at text d)

abbrev pub clauses_at : List ℕ → ℕ → List Token → Read (List Requires)
clauses_at text d = items_at (maybe_clause_at text d)

-- a return behind its keyword
abbrev pub return_behind : List ℕ → Place → List Token → Read (Option Return)
return_behind text at ts = before_mark mark.Semicolon (value_at text) ts >>= λ x us. Got (Some (record { place = at; value = x })) us

abbrev pub return_some : List ℕ → List Token → Read (Option Return)
return_some text ts = key_place_at key.Return ts >>= λ at us. return_behind text at us

unfoldable pub return_at : List ℕ → List Token → Read (Option Return)
return_at text = choose (is_key key.Return) (return_some text) (λ ts. Got None ts)

-- a constructor behind its name, and a method behind its name, whose result begins at the place
unfoldable pub constructor_at : List ℕ → ℕ → Word → List Token → Read Member
constructor_at text d n ts =
    params_at text ts >>= λ ps us. mark_at mark.Begin us >>= λ _ vs. steps_at text d vs >>= λ xs ws. mark_place_at mark.End ws >>= λ e zs.
    Got (member.Constructor (record { place = n.place; result = sort.Void; name = n; params = ps; clauses = []; body = xs; value = None; end = e })) zs

unfoldable pub method_at : List ℕ → ℕ → Place → Sort → Word → List Token → Read Member
method_at text d at r n ts =
    params_at text ts >>= λ ps us. mark_at mark.Begin us >>= λ _ vs. clauses_at text d vs >>= λ cs ws. steps_at text d ws >>= λ xs ys.
    return_at text ys >>= λ x bs. mark_place_at mark.End bs >>= λ e zs.
    Got (member.Method (record { place = at; result = r; name = n; params = ps; clauses = cs; body = xs; value = x; end = e })) zs

-- a method behind its result
abbrev pub behind_result : List ℕ → ℕ → Place → Sort → List Token → Read Member
behind_result text d at r ts = name_at text ts >>= λ n us. method_at text d at r n us

-- a field or a method behind its two names
abbrev pub behind_two : List ℕ → ℕ → Word → Word → List Token → Read Member
behind_two text d c n =
    choose (is_mark mark.Semicolon) (behind_mark mark.Semicolon (λ us. Got (member.Field (record { class = c; name = n })) us))
    (method_at text d c.place (sort.Class c) n)

abbrev pub two_names_at : List ℕ → ℕ → Word → List Token → Read Member
two_names_at text d c ts = name_at text ts >>= λ n us. behind_two text d c n us

-- a member behind its first name
abbrev pub behind_one : List ℕ → ℕ → Word → List Token → Read Member
behind_one text d c = choose (is_mark mark.Open) (constructor_at text d c) (two_names_at text d c)

abbrev pub named_member_at : List ℕ → ℕ → List Token → Read Member
named_member_at text d ts = name_at text ts >>= λ c us. behind_one text d c us

-- a method whose result is no class
abbrev pub void_method_at : List ℕ → ℕ → List Token → Read Member
void_method_at text d ts = key_place_at key.Void ts >>= λ at us. behind_result text d at sort.Void us

abbrev pub opaque_method_at : List ℕ → ℕ → List Token → Read Member
opaque_method_at text d ts = take_at is_opaque placed_opaque ts >>= λ o us. behind_result text d o.0 (sort.Opaque o.1) us

abbrev pub plain_method_at : List ℕ → ℕ → List Token → Read Member
plain_method_at text d = choose (is_key key.Void) (void_method_at text d) (opaque_method_at text d)

unfoldable pub member_at : List ℕ → ℕ → List Token → Read Member
member_at text d = choose is_name (named_member_at text d) (plain_method_at text d)

-- classes
abbrev pub member_starts : Kind → Bool
member_starts k = is_key key.Void k || type_starts k

abbrev pub maybe_member_at : List ℕ → ℕ → List Token → Read (Option Member)
maybe_member_at text d = step_at member_starts (member_at text d)

abbrev pub members_at : List ℕ → ℕ → List Token → Read (List Member)
members_at text d = items_at (maybe_member_at text d)

unfoldable pub class_at : List ℕ → ℕ → List Token → Read Class
class_at text d ts =
    key_place_at key.Class ts >>= λ at us. name_at text us >>= λ n vs. mark_at mark.Begin vs >>= λ _ ws. members_at text d ws >>= λ xs ys.
    mark_at mark.End ys >>= λ _ zs. Got (record { place = at; name = n; members = xs }) zs

abbrev pub maybe_class_at : List ℕ → ℕ → List Token → Read (Option Class)
maybe_class_at text d = step_at (is_key key.Class) (class_at text d)

abbrev pub classes_at : List ℕ → ℕ → List Token → Read (List Class)
classes_at text d = items_at (maybe_class_at text d)

unfoldable pub spec_at : List ℕ → ℕ → Place → List Token → Read Spec
spec_at text d end ts = class_at text d ts >>= λ x us. classes_at text d us >>= λ xs vs. Got (record { classes = x ∷ xs; end = end }) vs
