-- The text of an abstraction.
use Rattle.std.specs.Prelude.{ℕ, suc, ◌+◌, ◌-◌, ◌/◌, ◌%◌, Bool, true, false, ◌==◌, ◌&&◌, List, [], ◌∷◌, ◌++◌, if◌then◌else◌, codes, decimal, encode_utf8_all, length, map, nat_lt, slice_get, slice_index}
use Rattle.std.specs.List.{flat_map, list_any}
use Rattle.std.specs.Option.{option_map, option_map_or, unwrap_or}
use Rattle.easl_model.specs.{field_names_of, fields_of}
use Rattle.easl_model.specs.Form.{Form}
use Rattle.access_paths.specs.declared.term.Family.{Family}
use Rattle.access_paths.specs.declared.term.Literal.{Literal}
use Rattle.access_paths.specs.declared.term.Term.{Term}
use Rattle.access_paths.specs.declared.term.Var.{Var}
use Rattle.method_abstraction.specs.declared.entry.Abstraction.{Abstraction}
use Rattle.method_abstraction.specs.declared.entry.ClauseFacts.{ClauseFacts}
use Rattle.method_abstraction.specs.declared.entry.Disjunct.{Disjunct}
use Rattle.method_abstraction.specs.declared.entry.Disjunct.TheVariants.{Always, Of}
use Rattle.method_abstraction.specs.declared.entry.Update.{Update}

-- texts with another between each two
abbrev pub joined : List ℕ → List (List ℕ) → List ℕ
joined between [] = []
joined between (x ∷ []) = x
joined between (x ∷ y ∷ rest) = x ++ (between ++ joined between (y ∷ rest))

abbrev pub class_name_of : Form → ℕ → List ℕ
class_name_of form class = unwrap_or (option_map (λ c. c.name) (slice_get form.classes class)) []

-- x1 to x3, `this`, p1 and on
abbrev pub variable_text : ℕ → List ℕ
variable_text n = if nat_lt n 3 then codes "x" ++ decimal (n + 1) else if n == 3 then codes "this" else codes "p" ++ decimal (n - 3)

-- the names of fields from a class on
abbrev pub fields_text : Form → ℕ → List ℕ → List ℕ
fields_text form class [] = []
fields_text form class (p ∷ ps) =
    codes "." ++ (encode_utf8_all (unwrap_or (slice_get (field_names_of form class) p) []) ++ fields_text form (slice_index (fields_of form class) p) ps)

abbrev pub term_text : Form → List ℕ → Term → List ℕ
term_text form classes t = variable_text t.var.0 ++ fields_text form (slice_index classes t.var.0) t.fields

abbrev pub literal_text : Form → List ℕ → Literal → List ℕ
literal_text form classes l =
    term_text form classes l.less ++ ((if l.same then codes " == " else codes " != ") ++ term_text form classes l.more)

abbrev pub cube_text : Form → List ℕ → List Literal → List ℕ
cube_text form classes ls = joined (codes ", ") (map (literal_text form classes) ls)

-- a variable of a family with its class, from number n on
abbrev pub variables_text : Form → ℕ → List ℕ → List (List ℕ)
variables_text form n [] = []
variables_text form n (class ∷ rest) = (encode_utf8_all (class_name_of form class) ++ (codes " " ++ variable_text n)) ∷ variables_text form (suc n) rest

-- families are printed from 1 on
abbrev pub family_name : ℕ → List ℕ
family_name number = codes "F" ++ decimal (number + 1)

-- a family without its name
abbrev pub family_text : Form → Family → List ℕ
family_text form family =
    codes "(" ++ (joined (codes ", ") (variables_text form 0 family.classes) ++ (codes ") " ++ cube_text form family.classes family.cube.literals))

abbrev pub families_text : Form → ℕ → List Family → List ℕ
families_text form n [] = []
families_text form n (family ∷ rest) = family_name n ++ (codes " " ++ (family_text form family ++ (codes "\n" ++ families_text form (suc n) rest)))

abbrev pub names_text : List Var → List ℕ
names_text vars = joined (codes ", ") (map (λ v. variable_text v.0) vars)

-- a family with the variables that stand for its own
abbrev pub instance_text : ℕ → List Var → List ℕ
instance_text number vars = family_name number ++ (codes "(" ++ (names_text vars ++ codes ")"))

abbrev pub disjunct_text : Disjunct → List ℕ
disjunct_text Always = codes "always"
disjunct_text (Of number vars) = instance_text number vars

abbrev pub is_always : Disjunct → Bool
is_always Always = true
is_always (Of number vars) = false

-- `always` among others stands alone
abbrev pub facts_text : List Disjunct → List ℕ
facts_text ds =
    if length ds == 0
    then codes "never"
    else if list_any is_always ds
    then codes "always"
    else joined (codes " or ") (map disjunct_text ds)

-- a method, or `C.new`
abbrev pub method_text : Form → ℕ → List ℕ
method_text form method =
    option_map_or
    (λ m. encode_utf8_all (class_name_of form m.class) ++ (codes "." ++ (if m.constructor then codes "new" else encode_utf8_all m.name)))
    (slice_get form.methods method)
    []

abbrev pub var : ℕ → Var
var number = record { 0 = number }

-- of these variables those at whose positions a bit is set
abbrev pub chosen_of : ℕ → List Var → List Var
chosen_of positions [] = []
chosen_of positions (v ∷ vs) = (if positions % 2 == 1 then v ∷ [] else []) ++ chosen_of (positions / 2) vs

abbrev pub chosen_variables : ℕ → List Var
chosen_variables results = chosen_of results (var 0 ∷ var 1 ∷ var 2 ∷ [])

abbrev pub results_text : ℕ → List ℕ
results_text results = codes "{" ++ (names_text (chosen_variables results) ++ codes "}")

abbrev pub clause_line : Form → ClauseFacts → List ℕ
clause_line form e =
    method_text form e.method ++ (codes " " ++ (decimal e.clause ++ (codes ": " ++ (facts_text e.disjuncts ++ codes "\n"))))

-- the variables are those from number n on
abbrev pub are_in_order : ℕ → List Var → Bool
are_in_order n [] = true
are_in_order n (v ∷ vs) = (v.0 == n) && are_in_order (suc n) vs

-- the family of this number itself, which has so many variables
abbrev pub is_itself : ℕ → ℕ → Disjunct → Bool
is_itself number count Always = false
is_itself number count (Of other vars) = (other == number) && ((length vars == count) && are_in_order 0 vars)

abbrev pub is_only_itself : ℕ → ℕ → List Disjunct → Bool
is_only_itself number count [] = false
is_only_itself number count (d ∷ []) = is_itself number count d
is_only_itself number count (d ∷ e ∷ ds) = false

-- an update that leaves its family as it is: there is no result, and its only disjunct is the family itself
abbrev pub is_left_out : List Family → Update → Bool
is_left_out families e =
    (e.results == 0) && is_only_itself e.family (option_map_or (λ f. length f.classes) (slice_get families e.family) 0) e.disjuncts

-- the question that an update answers
abbrev pub asked_text : Form → Update → List ℕ
asked_text form e = method_text form e.method ++ (codes " " ++ (results_text e.results ++ (codes " " ++ family_name e.family)))

abbrev pub written_line : Form → Update → List ℕ
written_line form e = asked_text form e ++ (codes ": " ++ (facts_text e.disjuncts ++ codes "\n"))

abbrev pub update_line : Form → List Family → Update → List ℕ
update_line form families e = if is_left_out families e then [] else written_line form e

abbrev pub abstraction_text : Form → Abstraction → List ℕ
abstraction_text form a =
    codes "families " ++ (decimal (length a.families) ++ (codes "\n" ++ (families_text form 0 a.families ++ (codes "clauses\n"
    ++ (flat_map (clause_line form) a.clauses ++ (codes "updates\n" ++ flat_map (update_line form a.families) a.updates))))))
