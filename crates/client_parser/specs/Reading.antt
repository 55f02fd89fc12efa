-- How a client is read from the left. Where rules begin alike, the common part is read first.
use Rattle.std.specs.Prelude.{ℕ, zero, suc, Bool, true, false, ◌||◌, Option, Some, None, List, [], ◌∷◌, ◌++◌}
use Rattle.easl_model.specs.Lexemes.{is_literal}
use Rattle.easl_model.specs.declared.place.Place.{Place}
use Rattle.easl_model.specs.declared.token.Key.TheVariants as key
use Rattle.easl_model.specs.declared.token.Kind.{Kind}
use Rattle.easl_model.specs.declared.token.Mark.TheVariants as mark
use Rattle.easl_model.specs.declared.token.Token.{Token}
use Rattle.easl_model.specs.declared.tree.Sort.{Sort}
use Rattle.easl_model.specs.declared.tree.Sort.TheVariants as sort
use Rattle.easl_model.specs.declared.tree.Word.{Word}
use Rattle.client_model.specs.declared.tree.Client.{Client}
use Rattle.client_model.specs.declared.tree.Component.{Component}
use Rattle.client_model.specs.declared.tree.Proc.{Proc}
use Rattle.client_model.specs.declared.tree.Return.{Return}
use Rattle.client_model.specs.declared.tree.Rhs.{Rhs}
use Rattle.client_model.specs.declared.tree.Rhs.TheVariants as rhs
use Rattle.client_model.specs.declared.tree.Static.{Static}
use Rattle.client_model.specs.declared.tree.Stmt.{Stmt}
use Rattle.client_model.specs.declared.tree.Stmt.TheVariants as stmt
use Rattle.client_model.specs.declared.tree.Test.{Test}
use Rattle.client_model.specs.declared.tree.Test.TheVariants as test
use Rattle.cv_read.specs.Read.{Read, Got, Deep, ◌>>=◌, choose, is_mark, is_key, is_name, take_at, mark_at, key_place_at, mark_place_at, name_at, literal_at}
use Rattle.cv_read.specs.Read.{behind_mark, behind_key, before_mark, step_at, items_at, listed_at, parens_at}
use Rattle.cv_read.specs.Types.{is_opaque, placed_opaque, type_at, type_starts, params_at}
use Rattle.client_parser.specs.declared.items.Item.{Item}
use Rattle.client_parser.specs.declared.items.Item.TheVariants as item

-- arguments
abbrev pub arg_starts : Kind → Bool
arg_starts k = is_name k || is_literal k

abbrev pub arg_at : List ℕ → List Token → Read Word
arg_at text = choose is_literal (literal_at text) (name_at text)

unfoldable pub args_at : List ℕ → List Token → Read (List Word)
args_at text = parens_at (listed_at arg_starts (arg_at text))

-- a call of a component behind its receiver
unfoldable pub component_behind : List ℕ → Word → List Token → Read Component
component_behind text r ts = mark_at mark.Dot ts >>= λ _ us. name_at text us >>= λ m vs. args_at text vs >>= λ ws zs. Got
    (record { receiver = r; method = m; args = ws }) zs

abbrev pub component_at : List ℕ → List Token → Read Component
component_at text ts = name_at text ts >>= λ r us. component_behind text r us

-- values: a construction behind its `new`, calls behind their first names, a literal
abbrev pub new_behind : List ℕ → Place → List Token → Read Rhs
new_behind text at ts = name_at text ts >>= λ c us. args_at text us >>= λ ws vs. Got (rhs.New (record { place = at; class = c; args = ws })) vs

abbrev pub new_at : List ℕ → List Token → Read Rhs
new_at text ts = key_place_at key.New ts >>= λ at us. new_behind text at us

abbrev pub component_value : List ℕ → Word → List Token → Read Rhs
component_value text r ts = component_behind text r ts >>= λ x us. Got (rhs.Component x) us

abbrev pub call_value : List ℕ → Word → List Token → Read Rhs
call_value text p ts = args_at text ts >>= λ ws us. Got (rhs.Call (record { procedure = p; args = ws })) us

abbrev pub literal_value_at : List ℕ → List Token → Read Rhs
literal_value_at text ts = literal_at text ts >>= λ w us. Got (rhs.Copy w) us

-- a value that begins with a name, behind it
abbrev pub initial_behind : List ℕ → Word → List Token → Read Rhs
initial_behind text w = choose (is_mark mark.Dot) (component_value text w) (λ ts. Got (rhs.Copy w) ts)

abbrev pub rhs_behind : List ℕ → Word → List Token → Read Rhs
rhs_behind text w = choose (is_mark mark.Open) (call_value text w) (initial_behind text w)

-- a value that is no construction, and any value, over what reads on behind a name
abbrev pub named_by : List ℕ → (Word → List Token → Read Rhs) → List Token → Read Rhs
named_by text behind ts = name_at text ts >>= λ w us. behind w us

abbrev pub plain_by : List ℕ → (Word → List Token → Read Rhs) → List Token → Read Rhs
plain_by text behind = choose is_literal (literal_value_at text) (named_by text behind)

abbrev pub value_by : List ℕ → (Word → List Token → Read Rhs) → List Token → Read Rhs
value_by text behind = choose (is_key key.New) (new_at text) (plain_by text behind)

unfoldable pub initial_at : List ℕ → List Token → Read Rhs
initial_at text = value_by text (initial_behind text)

unfoldable pub rhs_at : List ℕ → List Token → Read Rhs
rhs_at text = value_by text (rhs_behind text)

-- declarations, assignments and actions
unfoldable pub set_at : List ℕ → List Token → Read Rhs
set_at text = behind_mark mark.Assign (before_mark mark.Semicolon (rhs_at text))

-- a declaration behind its type and name, and behind its type, which begins at the place
abbrev pub declare_set_at : List ℕ → Place → Sort → Word → List Token → Read Stmt
declare_set_at text at s n ts = set_at text ts >>= λ x us. Got (stmt.Declare at s n (Some x)) us

abbrev pub declare_behind : List ℕ → Place → Sort → Word → List Token → Read Stmt
declare_behind text at s n = choose (is_mark mark.Semicolon) (behind_mark mark.Semicolon (λ us. Got (stmt.Declare at s n None) us)) (declare_set_at text at s n)

abbrev pub declare_at : List ℕ → Place → Sort → List Token → Read Stmt
declare_at text at s ts = name_at text ts >>= λ n us. declare_behind text at s n us

abbrev pub opaque_declare_at : List ℕ → List Token → Read Stmt
opaque_declare_at text ts = take_at is_opaque placed_opaque ts >>= λ o us. declare_at text o.0 (sort.Opaque o.1) us

abbrev pub assign_at : List ℕ → Word → List Token → Read Stmt
assign_at text n ts = set_at text ts >>= λ x us. Got (stmt.Assign n x) us

-- an action and its semicolon
abbrev pub done_by : (List Token → Read Rhs) → List Token → Read Stmt
done_by action ts = before_mark mark.Semicolon action ts >>= λ x us. Got (stmt.Do x) us

abbrev pub action_behind : List ℕ → Word → List Token → Read Rhs
action_behind text w = choose (is_mark mark.Dot) (component_value text w) (call_value text w)

abbrev pub new_done_at : List ℕ → List Token → Read Stmt
new_done_at text ts = key_place_at key.New ts >>= λ at us. done_by (new_behind text at) us

-- a statement that begins with a name, behind it
abbrev pub used_behind : List ℕ → Word → List Token → Read Stmt
used_behind text w = choose (is_mark mark.Assign) (assign_at text w) (done_by (action_behind text w))

abbrev pub stmt_behind : List ℕ → Word → List Token → Read Stmt
stmt_behind text w = choose is_name (declare_at text w.place (sort.Class w)) (used_behind text w)

abbrev pub named_stmt_at : List ℕ → List Token → Read Stmt
named_stmt_at text ts = name_at text ts >>= λ w us. stmt_behind text w us

abbrev pub typed_stmt_at : List ℕ → List Token → Read Stmt
typed_stmt_at text = choose is_name (named_stmt_at text) (opaque_declare_at text)

unfoldable pub simple_at : List ℕ → List Token → Read Stmt
simple_at text = choose (is_key key.New) (new_done_at text) (typed_stmt_at text)

-- behind `return`
abbrev pub bare_return_at : Place → List Token → Read Return
bare_return_at at = behind_mark mark.Semicolon (λ us. Got (record { place = at; value = None }) us)

abbrev pub value_return_at : List ℕ → Place → List Token → Read Return
value_return_at text at ts = before_mark mark.Semicolon (arg_at text) ts >>= λ w us. Got (record { place = at; value = Some w }) us

abbrev pub return_behind : List ℕ → Place → List Token → Read Return
return_behind text at = choose (is_mark mark.Semicolon) (bare_return_at at) (value_return_at text at)

abbrev pub return_stmt_behind : List ℕ → Place → List Token → Read Stmt
return_stmt_behind text at ts = return_behind text at ts >>= λ r us. Got (stmt.Return r) us

-- a statement whose keyword was read, and its semicolon
abbrev pub ended_by : Stmt → List Token → Read Stmt
ended_by x = behind_mark mark.Semicolon (λ us. Got x us)

abbrev pub break_at : List Token → Read Stmt
break_at ts = key_place_at key.Break ts >>= λ at us. ended_by (stmt.Break at) us

abbrev pub continue_at : List Token → Read Stmt
continue_at ts = key_place_at key.Continue ts >>= λ at us. ended_by (stmt.Continue at) us

abbrev pub return_at : List ℕ → List Token → Read Stmt
return_at text ts = key_place_at key.Return ts >>= λ at us. return_stmt_behind text at us

-- statements that hold no others
abbrev pub no_continue_at : List ℕ → List Token → Read Stmt
no_continue_at text = choose (is_key key.Return) (return_at text) (simple_at text)

abbrev pub no_break_at : List ℕ → List Token → Read Stmt
no_break_at text = choose (is_key key.Continue) continue_at (no_continue_at text)

unfoldable pub no_while_at : List ℕ → List Token → Read Stmt
no_while_at text = choose (is_key key.Break) break_at (no_break_at text)

-- tests
abbrev pub free_at : List Token → Read Test
free_at ts = mark_place_at mark.Choice ts >>= λ at us. Got (test.Free at) us

abbrev pub call_test_at : List ℕ → List Token → Read Test
call_test_at text ts = component_at text ts >>= λ x us. Got (test.Call x) us

abbrev pub test_at : List ℕ → List Token → Read Test
test_at text = choose (is_mark mark.Choice) free_at (call_test_at text)

unfoldable pub guard_at : List ℕ → List Token → Read Test
guard_at text = parens_at (test_at text)

-- the rules of statements, each over what reads what stands in it
abbrev pub block_by : (List Token → Read (List Stmt)) → List Token → Read (List Stmt)
block_by stmts = behind_mark mark.Begin (before_mark mark.End stmts)

abbrev pub else_by : (List Token → Read (List Stmt)) → Place → Test → List Stmt → List Token → Read Stmt
else_by block at t xs ts = behind_key key.Else block ts >>= λ ys us. Got (stmt.If at t xs ys true) us

abbrev pub end_if_by : (List Token → Read (List Stmt)) → Place → Test → List Stmt → List Token → Read Stmt
end_if_by block at t xs = choose (is_key key.Else) (else_by block at t xs) (λ ts. Got (stmt.If at t xs [] false) ts)

-- behind `if`, and behind `while`
unfoldable pub if_by : List ℕ → (List Token → Read (List Stmt)) → Place → List Token → Read Stmt
if_by text block at ts = guard_at text ts >>= λ t us. block us >>= λ xs vs. end_if_by block at t xs vs

unfoldable pub while_by : List ℕ → (List Token → Read (List Stmt)) → Place → List Token → Read Stmt
while_by text block at ts = guard_at text ts >>= λ t us. block us >>= λ xs vs. Got (stmt.While at t xs) vs

abbrev pub if_stmt_by : List ℕ → (List Token → Read (List Stmt)) → List Token → Read Stmt
if_stmt_by text block ts = key_place_at key.If ts >>= λ at us. if_by text block at us

abbrev pub while_stmt_by : List ℕ → (List Token → Read (List Stmt)) → List Token → Read Stmt
while_stmt_by text block ts = key_place_at key.While ts >>= λ at us. while_by text block at us

abbrev pub no_if_by : List ℕ → (List Token → Read (List Stmt)) → List Token → Read Stmt
no_if_by text block = choose (is_key key.While) (while_stmt_by text block) (no_while_at text)

abbrev pub stmt_by : List ℕ → (List Token → Read (List Stmt)) → List Token → Read Stmt
stmt_by text block = choose (is_key key.If) (if_stmt_by text block) (no_if_by text block)

abbrev pub simple_starts : Kind → Bool
simple_starts k = is_key key.New k || type_starts k

abbrev pub no_continue_starts : Kind → Bool
no_continue_starts k = is_key key.Return k || simple_starts k

abbrev pub no_break_starts : Kind → Bool
no_break_starts k = is_key key.Continue k || no_continue_starts k

abbrev pub no_while_starts : Kind → Bool
no_while_starts k = is_key key.Break k || no_break_starts k

abbrev pub no_if_starts : Kind → Bool
no_if_starts k = is_key key.While k || no_while_starts k

abbrev pub stmt_starts : Kind → Bool
stmt_starts k = is_key key.If k || no_if_starts k

abbrev pub maybe_stmt_by : List ℕ → (List Token → Read (List Stmt)) → List Token → Read (Option Stmt)
maybe_stmt_by text block = step_at stmt_starts (stmt_by text block)

-- with fewer than so many lists of statements in one another
unfoldable pub stmts_at : List ℕ → ℕ → List Token → Read (List Stmt)
stmts_at text zero ts = Deep
stmts_at text (suc d) ts = items_at (maybe_stmt_by text (block_by (stmts_at text d))) ts

abbrev pub block_at : List ℕ → ℕ → List Token → Read (List Stmt)
block_at text d = block_by (stmts_at text d)

abbrev pub stmt_at : List ℕ → ℕ → List Token → Read Stmt
stmt_at text d = stmt_by text (block_at text d)

abbrev pub maybe_stmt_at : List ℕ → ℕ → List Token → Read (Option Stmt)
maybe_stmt_at text d = maybe_stmt_by text (block_at text d)

-- statics and procedures
unfoldable pub initialised_at : List ℕ → List Token → Read Rhs
initialised_at text = behind_mark mark.Assign (before_mark mark.Semicolon (initial_at text))

-- a static behind its keyword
unfoldable pub static_behind : List ℕ → Place → List Token → Read Static
static_behind text at ts = type_at text ts >>= λ s us. name_at text us >>= λ n vs. initialised_at text vs >>= λ x ws. Got
    (record { place = at; sort = s; name = n; value = x }) ws

abbrev pub static_at : List ℕ → List Token → Read Static
static_at text ts = key_place_at key.Static ts >>= λ at us. static_behind text at us

-- results with the places of their tokens
abbrev pub opaque_result_at : List Token → Read (Place × Sort)
opaque_result_at ts = take_at is_opaque placed_opaque ts >>= λ o us. Got (o.0, sort.Opaque o.1) us

abbrev pub class_result_at : List ℕ → List Token → Read (Place × Sort)
class_result_at text ts = name_at text ts >>= λ w us. Got (w.place, sort.Class w) us

abbrev pub some_result_at : List ℕ → List Token → Read (Place × Sort)
some_result_at text = choose is_opaque opaque_result_at (class_result_at text)

abbrev pub void_result_at : List Token → Read (Place × Sort)
void_result_at ts = key_place_at key.Void ts >>= λ at us. Got (at, sort.Void) us

abbrev pub result_at : List ℕ → List Token → Read (Place × Sort)
result_at text = choose (is_key key.Void) void_result_at (some_result_at text)

unfoldable pub proc_at : List ℕ → ℕ → List Token → Read Proc
proc_at text d ts = result_at text ts >>= λ r us. name_at text us >>= λ n vs. params_at text vs >>= λ ps ws. mark_at mark.Begin ws >>= λ _ xs. stmts_at text d
    xs >>= λ ss ys. mark_place_at mark.End ys >>= λ e zs.
    Got (record { place = r.0; result = r.1; name = n; params = ps; body = ss; end = e }) zs

-- items
abbrev pub static_item_at : List ℕ → List Token → Read Item
static_item_at text ts = static_at text ts >>= λ x us. Got (item.Static x) us

abbrev pub proc_item_at : List ℕ → ℕ → List Token → Read Item
proc_item_at text d ts = proc_at text d ts >>= λ x us. Got (item.Procedure x) us

abbrev pub item_at : List ℕ → ℕ → List Token → Read Item
item_at text d = choose (is_key key.Static) (static_item_at text) (proc_item_at text d)

abbrev pub proc_starts : Kind → Bool
proc_starts k = is_key key.Void k || type_starts k

abbrev pub item_starts : Kind → Bool
item_starts k = is_key key.Static k || proc_starts k

abbrev pub maybe_item_at : List ℕ → ℕ → List Token → Read (Option Item)
maybe_item_at text d = step_at item_starts (item_at text d)

-- the client with one more item
abbrev pub with_item : Client → Item → Client
with_item c (item.Static x) = record { statics = c.statics ++ x ∷ []; procedures = c.procedures; order = c.order ++ true ∷ []; end = c.end }
with_item c (item.Procedure x) = record { statics = c.statics; procedures = c.procedures ++ x ∷ []; order = c.order ++ false ∷ []; end = c.end }

abbrev pub with_items : Client → List Item → Client
with_items c [] = c
with_items c (x ∷ xs) = with_items (with_item c x) xs

-- the client without items whose text ends at the place
abbrev pub empty_client : Place → Client
empty_client end = record { statics = []; procedures = []; order = []; end = end }

-- all items, put into a client
unfoldable pub gathered_at : (List Token → Read (Option Item)) → Place → List Token → Read Client
gathered_at step end ts = items_at step ts >>= λ xs us. Got (with_items (empty_client end) xs) us

abbrev pub client_at : List ℕ → ℕ → Place → List Token → Read Client
client_at text d = gathered_at (maybe_item_at text d)
