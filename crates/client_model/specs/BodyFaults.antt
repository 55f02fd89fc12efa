-- Where an initialiser or a body breaks a rule: one word a rule, and then which rules are asked of what.
use Rattle.std.specs.Prelude.{false, not, ◌&&◌, ◌==◌, List, [], ◌∷◌, ◌++◌, Option, Some, None, if◌then◌else◌, is_some, length}
use Rattle.std.specs.List.{list_any}
use Rattle.std.specs.Option.{option_map_or}
use Rattle.client_model.specs.Lookups.{is_literal, is_same, method_named}
use Rattle.client_model.specs.declared.tree.Rhs.{Rhs}
use Rattle.client_model.specs.declared.tree.Rhs.TheVariants as rhs
use Rattle.client_model.specs.declared.tree.Test.{Test}
use Rattle.client_model.specs.declared.tree.Test.TheVariants as test
use Rattle.client_model.specs.Contexts.{Context, Situated, ends_going_on, has}
use Rattle.client_model.specs.Faults.{Duplicate, Fault, Mismatch, NoReturn, OutsideLoop, Unknown, Unreachable, Unset, broken_if, fault}
use Rattle.client_model.specs.HeaderFaults.{no_class, no_type}
use Rattle.client_model.specs.Settings.{Callee, Kind, Object, Opaque, Setting, Void, callee_of, fits, kind_of, kind_of_value, kind_of_word, variable_named}
use Rattle.client_model.specs.Statements.{Statement, Declare, Assign, Do, If, While, Break, Continue, Return}
use Rattle.client_model.specs.Trees.{Proc, place_of, place_of_value}
use Rattle.easl_model.specs.CheckedForm.{has_values}
use Rattle.easl_model.specs.declared.place.Place.{Place}
use Rattle.easl_model.specs.declared.tree.Word.{Word}

-- the rules

-- Duplicate: a local is named as a parameter or local in scope, at its name
abbrev pub named_twice : Context → Word → List Fault
named_twice c w = broken_if (list_any (λ v. is_same v.name w.name) c.scope) Duplicate w.place

-- Unknown: a variable is not there, at its name
abbrev pub no_variable : Setting → Context → Word → List Fault
no_variable s c w = broken_if (not (is_some (variable_named s c.scope w.name))) Unknown w.place

-- Unknown: the class of a receiver has no such method, at its name
abbrev pub no_method : Setting → Kind → Word → List Fault
no_method s (Object class) w = broken_if (not (is_some (method_named s.form class w.name))) Unknown w.place
no_method s receiver w = []

-- Unknown: a procedure is not there, at its name
abbrev pub no_procedure : Setting → Word → List Fault
no_procedure s w = broken_if (not (list_any (λ h. is_same h.name w.name) s.procedures)) Unknown w.place

-- Mismatch: a value, an argument or a returned value is of another type than what takes it, or is a call without result, at
-- its first token
abbrev pub differs : Place → Kind → Kind → List Fault
differs place taken given = broken_if (not (fits taken given)) Mismatch place

-- Mismatch: arguments are too many or too few, at the call's place
abbrev pub wrong_number : Place → List Kind → List Word → List Fault
wrong_number place params args = broken_if (not (length params == length args)) Mismatch place

-- Mismatch: a receiver is opaque, at the call's place
abbrev pub opaque_receiver : Place → Kind → List Fault
opaque_receiver place Opaque = fault Mismatch place ∷ []
opaque_receiver place receiver = []

-- Mismatch: a test's call gives no opaque value, at the call's place
abbrev pub no_test : Place → Kind → List Fault
no_test place given = broken_if (not (fits Opaque given)) Mismatch place

-- Mismatch: a value is returned where there is no result, at the `return`
abbrev pub returned_to_none : Place → Kind → List Fault
returned_to_none place Void = fault Mismatch place ∷ []
returned_to_none place result = []

-- Unset: a variable is read where it is not surely assigned, at its name
abbrev pub unset : Setting → Context → Word → List Fault
unset s c w = broken_if (option_map_or (λ v. not (has c.assigned v.code)) (variable_named s c.scope w.name) false) Unset w.place

-- NoReturn: a `return` without value where there is a result, at that `return`
abbrev pub nothing_returned : Place → Kind → List Fault
nothing_returned place Void = []
nothing_returned place result = fault NoReturn place ∷ []

-- NoReturn: a procedure has a result, and its body goes on at its end, at its closing brace
abbrev pub no_return : Proc → List Fault
no_return p = broken_if (has_values p.result && ends_going_on p.body) NoReturn p.end

-- Unreachable: a statement stands in its block behind one that does not go on, at its first token
abbrev pub unreachable : Context → Statement → List Fault
unreachable c x = broken_if (not c.reached) Unreachable (place_of x)

-- OutsideLoop: no `while` holds a `break` or `continue`, at its keyword
abbrev pub outside_loop : Context → Place → List Fault
outside_loop c place = broken_if (not c.looped) OutsideLoop place

-- what is asked of words, values and statements

-- of a word that is read
abbrev pub faults_of_read : Setting → Context → Word → List Fault
faults_of_read s c w = if is_literal w.name then [] else no_variable s c w ++ unset s c w

-- of arguments and the kinds that take them; one that nothing takes is only read
abbrev pub faults_of_arguments : Setting → Context → List Kind → List Word → List Fault
faults_of_arguments s c params [] = []
faults_of_arguments s c [] (w ∷ ws) = faults_of_read s c w ++ faults_of_arguments s c [] ws
faults_of_arguments s c (p ∷ params) (w ∷ ws) = differs w.place p (kind_of_word s c.scope w) ++ faults_of_read s c w ++ faults_of_arguments s c params ws

-- of a call at this place, by what is called
abbrev pub faults_of_call : Setting → Context → Place → Option Callee → List Word → List Fault
faults_of_call s c place None args = faults_of_arguments s c [] args
faults_of_call s c place (Some m) args = wrong_number place m.params args ++ faults_of_arguments s c m.params args

-- of a value by itself
abbrev pub faults_of_value : Setting → Context → Rhs → List Fault
faults_of_value s c (rhs.Copy w) = faults_of_read s c w
faults_of_value s c (rhs.New x) = no_class s.form x.class ++ faults_of_call s c x.place (callee_of s c.scope (rhs.New x)) x.args
faults_of_value s c (rhs.Component x) =
    let receiver = kind_of_word s c.scope x.receiver
    in faults_of_read s c x.receiver
    ++ opaque_receiver x.receiver.place receiver
    ++ no_method s receiver x.method
    ++ faults_of_call s c x.receiver.place (callee_of s c.scope (rhs.Component x)) x.args
faults_of_value s c (rhs.Call x) = no_procedure s x.procedure ++ faults_of_call s c x.procedure.place (callee_of s c.scope (rhs.Call x)) x.args

-- of a value and what takes it
abbrev pub faults_of_taken : Setting → Context → Kind → Rhs → List Fault
faults_of_taken s c taken v = differs (place_of_value v) taken (kind_of_value s c.scope v) ++ faults_of_value s c v

abbrev pub faults_of_test : Setting → Context → Test → List Fault
faults_of_test s c (test.Free place) = []
faults_of_test s c (test.Call x) = no_test x.receiver.place (kind_of_value s c.scope (rhs.Component x)) ++ faults_of_value s c (rhs.Component x)

-- of what a `return` at this place gives, by the result
abbrev pub faults_of_returned : Setting → Context → Place → Option Word → List Fault
faults_of_returned s c place None = nothing_returned place s.result
faults_of_returned s c place (Some w) = returned_to_none place s.result ++ differs w.place s.result (kind_of_word s c.scope w) ++ faults_of_read s c w

-- of a statement, what it holds aside
abbrev pub faults_of_statement : Setting → Context → Statement → List Fault
faults_of_statement s c (Declare place sort w None) = no_type s.form sort ++ named_twice c w
faults_of_statement s c (Declare place sort w (Some v)) = no_type s.form sort ++ named_twice c w ++ faults_of_taken s c (kind_of s.form sort) v
faults_of_statement s c (Assign w v) = no_variable s c w ++ faults_of_taken s c (kind_of_word s c.scope w) v
faults_of_statement s c (Do v) = faults_of_value s c v
faults_of_statement s c (If place t first second has_else) = faults_of_test s c t
faults_of_statement s c (While place t inner) = faults_of_test s c t
faults_of_statement s c (Break place) = outside_loop c place
faults_of_statement s c (Continue place) = outside_loop c place
faults_of_statement s c (Return r) = faults_of_returned s c r.place r.value

abbrev pub faults_at : Situated → List Fault
faults_at x = unreachable x.context x.statement ++ faults_of_statement x.setting x.context x.statement
