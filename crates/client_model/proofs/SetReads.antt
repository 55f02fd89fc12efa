-- What a statement that breaks no rule reads is set.
use Rattle.std.proofs.Common.{◌≡◌, ℕ, Bool, true, false, not, List, [], ◌∷◌, ◌++◌, refl, ap, subst}
use Rattle.std.specs.Prelude.{Option, Some, None, if◌then◌else◌, is_some, map, option_and_then, option_map, unwrap_or}
use Rattle.std.specs.List.{AllByRecursion}
use Rattle.std.specs.Option.{option_map_or}
use Rattle.client_model.specs.Lookups.{is_literal}
use Rattle.client_model.specs.declared.form.CallSite.{CallSite}
use Rattle.client_model.specs.declared.tree.Component.{Component}
use Rattle.client_model.specs.declared.tree.Rhs.{Rhs}
use Rattle.client_model.specs.declared.tree.Rhs.TheVariants as rhs
use Rattle.client_model.specs.declared.tree.Test.{Test}
use Rattle.client_model.specs.declared.tree.Test.TheVariants as test
use Rattle.client_model.specs.BodyFaults.{differs, faults_at, faults_of_arguments, faults_of_call, faults_of_read, faults_of_returned}
use Rattle.client_model.specs.BodyFaults.{faults_of_statement, faults_of_taken, faults_of_test, faults_of_value, named_twice, no_method, no_procedure}
use Rattle.client_model.specs.BodyFaults.{no_test, no_variable, opaque_receiver, returned_to_none, unreachable, wrong_number}
use Rattle.client_model.specs.Codes.{variable_code}
use Rattle.client_model.specs.Contexts.{Assigned, Context, Situated, has, value_of_test}
use Rattle.client_model.specs.Faults.{Fault, Unknown, Unset, broken_if}
use Rattle.client_model.specs.HeaderFaults.{no_class, no_type}
use Rattle.client_model.specs.Points.{argument_of, arguments_of, assigns, branch, call_by, call_of, code_by, code_of, done_at, returned, site_by, value_in}
use Rattle.client_model.specs.Reads.{ArgumentsAreSet, IsSet, ReadsAreSet, names_read}
use Rattle.client_model.specs.Settings.{Called, Callee, Kind, Method, Procedure, Setting, Variable, callee_of, class_in, kind_of, kind_of_value, kind_of_word, variable_named}
use Rattle.client_model.specs.Statements.{Statement, Declare, Assign, Do, If, While, Break, Continue, Return}
use Rattle.client_model.specs.Trees.{place_of_value}
use Rattle.easl_model.proofs.None.{none_of_both, none_of_three, none_of_four}
use Rattle.easl_model.specs.declared.place.Place.{Place}
use Rattle.easl_model.specs.declared.tree.Word.{Word}

not_unset : (has_it : Bool) (place : Place) → broken_if (not has_it) Unset place ≡ [] → has_it ≡ true
not_unset true place h = refl
not_unset false place h = absurd cc

code_set : (a : Assigned) (own code : ℕ) (class : Option ℕ) → has a own ≡ true → option_map (λ k. own) class ≡ Some code → has a code ≡ true
code_set a own code None h is = absurd cc
code_set a own code (Some class) h is = subst (λ k. has a k ≡ true) (ap (λ o. unwrap_or o own) is) h

read_by : (literal : Bool) (o : Option Variable) (a : Assigned) (place : Place) (code : ℕ) →
    (if literal then [] else broken_if (not (is_some o)) Unknown place ++ broken_if (option_map_or (λ v. not (has a v.code)) o false) Unset place)
    ≡ [] → (if literal then None else option_and_then (λ v. code_by v.code v.kind) o) ≡ Some code → has a code ≡ true
read_by true o a place code free is = absurd cc
read_by false None a place code free is = absurd cc
read_by false (Some v) a place code free is = code_set a v.code code (class_in v.kind) (not_unset (has a v.code) place free) is

read_set : (s : Setting) (c : Context) (w : Word) → faults_of_read s c w ≡ [] → IsSet c (argument_of s c w)
read_set s c w free code is = read_by (is_literal w.name) (variable_named s c.scope w.name) c.assigned w.place code free is

all_set : (s : Setting) (c : Context) (params : List Kind) (args : List Word) → faults_of_arguments s c params args ≡ [] →
    AllByRecursion (IsSet c) (map (argument_of s c) args)
all_set s c params [] free = tt
all_set s c [] (w ∷ ws) free =
    let parts = none_of_both (faults_of_read s c w) (faults_of_arguments s c [] ws) free in
    (read_set s c w parts.0, all_set s c [] ws parts.1)
all_set s c (p ∷ params) (w ∷ ws) free =
    let parts = none_of_three (differs w.place p (kind_of_word s c.scope w)) (faults_of_read s c w) (faults_of_arguments s c params ws) free in
    (read_set s c w parts.1, all_set s c params ws parts.2)

called_set : (s : Setting) (c : Context) (place : Place) (m : Option Callee) (args : List Word) → faults_of_call s c place m args ≡ [] →
    AllByRecursion (IsSet c) (map (argument_of s c) args)
called_set s c place None args free = all_set s c [] args free
called_set s c place (Some m) args free = all_set s c m.params args (none_of_both (wrong_number place m.params args)
    (faults_of_arguments s c m.params args) free).1

-- of a value
value_set : (s : Setting) (c : Context) (v : Rhs) → faults_of_value s c v ≡ [] → AllByRecursion (IsSet c) (arguments_of s c v)
value_set s c (rhs.Copy w) free = tt
value_set s c (rhs.New x) free = called_set s c x.place (callee_of s c.scope (rhs.New x)) x.args (none_of_both (no_class s.form x.class)
    (faults_of_call s c x.place (callee_of s c.scope (rhs.New x)) x.args) free).1
value_set s c (rhs.Component x) free =
    let receiver : Kind = kind_of_word s c.scope x.receiver in
    let parts = none_of_four (faults_of_read s c x.receiver) (opaque_receiver x.receiver.place receiver) (no_method s receiver x.method)
    (faults_of_call s c x.receiver.place (callee_of s c.scope (rhs.Component x)) x.args) free in
    (read_set s c x.receiver parts.0, called_set s c x.receiver.place (callee_of s c.scope (rhs.Component x)) x.args parts.3)
value_set s c (rhs.Call x) free = called_set s c x.procedure.place (callee_of s c.scope (rhs.Call x)) x.args (none_of_both
    (no_procedure s x.procedure) (faults_of_call s c x.procedure.place (callee_of s c.scope (rhs.Call x)) x.args) free).1

call_of_set : (c : Context) (target : Option ℕ) (args : List (Option ℕ)) (place : Place) (called : Called) → AllByRecursion (IsSet c) args →
    AllByRecursion (IsSet c) (names_read (call_of target args place called))
call_of_set c target args place (Method number) h = tt
call_of_set c target args place (Procedure number) h = h

call_set : (c : Context) (target : Option ℕ) (args : List (Option ℕ)) (place : Place) (m : Option Callee) → AllByRecursion (IsSet c) args →
    AllByRecursion (IsSet c) (names_read (call_by target args place m))
call_set c target args place None h = tt
call_set c target args place (Some m) h = call_of_set c target args place m.called h

assigns_set : (s : Setting) (c : Context) (target : Option ℕ) (v : Rhs) → faults_of_value s c v ≡ [] →
    AllByRecursion (IsSet c) (names_read (assigns s c target v))
assigns_set s c target (rhs.Copy w) free = (read_set s c w free, tt)
assigns_set s c target (rhs.New x) free = tt
assigns_set s c target (rhs.Component x) free = tt
assigns_set s c target (rhs.Call x) free = call_set c target (map (argument_of s c) x.args) x.procedure.place (callee_of s c.scope (rhs.Call x))
    (value_set s c (rhs.Call x) free)

taken_free : (s : Setting) (c : Context) (taken : Kind) (v : Rhs) → faults_of_taken s c taken v ≡ [] → faults_of_value s c v ≡ []
taken_free s c taken v free = (none_of_both (differs (place_of_value v) taken (kind_of_value s c.scope v)) (faults_of_value s c v) free).1

declared_free : (s : Setting) (c : Context) (w : Word) (v : Rhs) (types : List Fault) (kind : Kind) →
    types ++ named_twice c w ++ faults_of_taken s c kind v ≡ [] → faults_of_value s c v ≡ []
declared_free s c w v types kind free = taken_free s c kind v (none_of_three types (named_twice c w) (faults_of_taken s c kind v) free).2

assigned_free : (s : Setting) (c : Context) (w : Word) (v : Rhs) → no_variable s c w ++ faults_of_taken s c (kind_of_word s c.scope w) v ≡ [] →
    faults_of_value s c v ≡ []
assigned_free s c w v free = taken_free s c (kind_of_word s c.scope w) v (none_of_both (no_variable s c w) (faults_of_taken s c
    (kind_of_word s c.scope w) v) free).1

test_free : (s : Setting) (c : Context) (x : Component) → faults_of_test s c (test.Call x) ≡ [] → faults_of_value s c (rhs.Component x) ≡ []
test_free s c x free = (none_of_both (no_test x.receiver.place (kind_of_value s c.scope (rhs.Component x))) (faults_of_value s c (rhs.Component x)) free).1

branch_reads : (c : Context) (t : Test) → AllByRecursion (IsSet c) (names_read (branch c t))
branch_reads c (test.Free place) = tt
branch_reads c (test.Call x) = tt

returned_set : (s : Setting) (c : Context) (place : Place) (v : Option Word) → faults_of_returned s c place v ≡ [] →
    AllByRecursion (IsSet c) (names_read (returned s c v))
returned_set s c place None free = tt
returned_set s c place (Some w) free = (
  read_set s c w (none_of_three (returned_to_none place s.result) (differs w.place s.result
      (kind_of_word s c.scope w)) (faults_of_read s c w) free).2,
  tt,
)

statement_reads : (s : Setting) (c : Context) (x : Statement) → faults_of_statement s c x ≡ [] → AllByRecursion (IsSet c) (names_read (done_at s c x))
statement_reads s c (Declare place sort w None) free = tt
statement_reads s c (Declare place sort w (Some v)) free = assigns_set s c (code_by (variable_code c.variables) (kind_of s.form sort)) v
    (declared_free s c w v (no_type s.form sort) (kind_of s.form sort) free)
statement_reads s c (Assign w v) free = assigns_set s c (code_of s c w) v (assigned_free s c w v free)
statement_reads s c (Do v) free = assigns_set s c None v free
statement_reads s c (If place t first second has_else) free = branch_reads c t
statement_reads s c (While place t inner) free = branch_reads c t
statement_reads s c (Break place) free = tt
statement_reads s c (Continue place) free = tt
statement_reads s c (Return r) free = returned_set s c r.place r.value free

pub statement_free : (x : Situated) → faults_at x ≡ [] → faults_of_statement x.setting x.context x.statement ≡ []
statement_free x free = (none_of_both (unreachable x.context x.statement) (faults_of_statement x.setting x.context x.statement) free).1

pub reads_set : ReadsAreSet
reads_set x free = statement_reads x.setting x.context x.statement (statement_free x free)

-- of the value that a statement evaluates
same_value : (s : Setting) (c : Context) (u v : Rhs) → faults_of_value s c u ≡ [] → Some u ≡ Some v → faults_of_value s c v ≡ []
same_value s c u v free is = subst (λ k. faults_of_value s c k ≡ []) (ap (λ o. unwrap_or o u) is) free

tested_free : (s : Setting) (c : Context) (t : Test) (v : Rhs) → faults_of_test s c t ≡ [] → value_of_test t ≡ Some v → faults_of_value s c v ≡ []
tested_free s c (test.Free place) v free is = absurd cc
tested_free s c (test.Call x) v free is = same_value s c (rhs.Component x) v (test_free s c x free) is

pub value_free : (s : Setting) (c : Context) (x : Statement) (v : Rhs) → faults_of_statement s c x ≡ [] → value_in x ≡ Some v → faults_of_value s c v ≡ []
value_free s c (Declare place sort w None) v free is = absurd cc
value_free s c (Declare place sort w (Some u)) v free is = same_value s c u v (declared_free s c w u (no_type s.form sort) (kind_of s.form sort) free) is
value_free s c (Assign w u) v free is = same_value s c u v (assigned_free s c w u free) is
value_free s c (Do u) v free is = same_value s c u v free is
value_free s c (If place t first second has_else) v free is = tested_free s c t v free is
value_free s c (While place t inner) v free is = tested_free s c t v free is
value_free s c (Break place) v free is = absurd cc
value_free s c (Continue place) v free is = absurd cc
value_free s c (Return r) v free is = absurd cc

-- of a call site
site_by_args : (x : Situated) (v : Rhs) (called : Called) (site : CallSite) → site_by x v called ≡ Some site → arguments_of x.setting x.context v ≡ site.args
site_by_args x v (Procedure number) site is = absurd cc
site_by_args x v (Method number) site is = ap (λ o. option_map_or (λ k. k.args) o []) is

site_args : (x : Situated) (v : Rhs) (m : Option Callee) (site : CallSite) → option_and_then (λ k. site_by x v k.called) m ≡ Some site →
    arguments_of x.setting x.context v ≡ site.args
site_args x v None site is = absurd cc
site_args x v (Some m) site is = site_by_args x v m.called site is

site_set : (x : Situated) (o : Option Rhs) (site : CallSite) → ((v : Rhs) → o ≡ Some v →
    AllByRecursion (IsSet x.context) (arguments_of x.setting x.context v)) →
    option_and_then (λ v. option_and_then (λ m. site_by x v m.called) (callee_of x.setting x.context.scope v)) o ≡ Some site →
    AllByRecursion (IsSet x.context) site.args
site_set x None site sets is = absurd cc
site_set x (Some v) site sets is = subst (AllByRecursion (IsSet x.context)) (site_args x v (callee_of x.setting x.context.scope v) site is) (sets v refl)

pub arguments_set : ArgumentsAreSet
arguments_set x site free is = site_set x (value_in x.statement) site (λ v of. value_set x.setting x.context v
    (value_free x.setting x.context x.statement v (statement_free x free) of)) is
