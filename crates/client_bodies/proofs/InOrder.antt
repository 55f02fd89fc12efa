-- The next item of a client, and those behind it.
use Rattle.std.proofs.Common.{◌≡◌, ℕ, zero, suc, ◌+◌, ◌++◌, Bool, true, false, List, [], ◌∷◌, ap, append_assoc, arith, drop, length, map, refl, sym, ◌∙◌}
use Rattle.std.proofs.lemmas.List.{append-nil, length_push}
use Rattle.std.specs.List.{flat_map}
use Rattle.std.specs.Prelude.{Option, Some, None, option_map, slice_get}
use Rattle.client_model.specs.Statements.{Assign}
use Rattle.client_model.specs.declared.tree.Proc.{Proc}
use Rattle.client_model.specs.declared.tree.Static.{Static}
use Rattle.client_model.specs.Bodies.{before_initialiser, bodies_from, body_of, end_of, initialiser}
use Rattle.client_model.specs.BodyFaults.{faults_of_statement}
use Rattle.client_model.specs.Codes.{static_code}
use Rattle.client_model.specs.Contexts.{call_count}
use Rattle.client_model.specs.Faults.{Fault as Told, comes_before}
use Rattle.client_model.specs.Rules.{faults_of_body}
use Rattle.client_model.specs.Settings.{Header, Setting, Variable, header_of, kind_of, statics_from}
use Rattle.client_model.specs.Trees.{Initialiser, Item, Procedure, items_of, procedure_of, procedures_in, statics_in}
use Rattle.client_values.proofs.NamesFound.{rest_is}
use Rattle.client_values.specs.ToldFaults.{Finds, fault_told}
use Rattle.client_values.specs.declared.fault.Fault.{Fault}
use Rattle.easl_model.proofs.Finding.{both}
use Rattle.easl_model.specs.Faults.{first_with}
use Rattle.easl_model.specs.Form.{Form}

none_left : {A : Type 0} (xs : List A) (k : ℕ) → slice_get xs k ≡ None → drop k xs ≡ []
none_left [] zero is = refl
none_left [] (suc k) is = refl
none_left (x ∷ xs) zero is = absurd cc
none_left (x ∷ xs) (suc k) is = none_left xs k is

-- a static is next, or there is none
pub static_next : (order : List Bool) (ss : List Static) (ps : List Proc) (k : ℕ) (x : Static) → slice_get ss k ≡ Some x
    → items_of (true ∷ order) (drop k ss) ps ≡ Initialiser x ∷ items_of order (drop (suc k) ss) ps
static_next order ss ps k x is = ap (λ xs. items_of (true ∷ order) xs ps) (rest_is ss k x is)

pub no_static : (order : List Bool) (ss : List Static) (ps : List Proc) (k n : ℕ) → k ≡ n → None ≡ slice_get ss k
    → items_of order (drop n ss) ps ≡ items_of (true ∷ order) (drop n ss) ps
no_static order ss ps k n is none =
    let left = none_left ss n (sym (none ∙ ap (slice_get ss) is)) in
    ap (λ xs. items_of order xs ps) left ∙ sym (ap (λ xs. items_of (true ∷ order) xs ps) left)

-- a procedure is next, or there is none
pub procedure_next : (order : List Bool) (ss : List Static) (ps : List Proc) (k : ℕ) (p : Proc) → slice_get ps k ≡ Some p
    → items_of (false ∷ order) ss (drop k ps) ≡ Procedure (procedure_of p) ∷ items_of order ss (drop (suc k) ps)
procedure_next order ss ps k p is = ap (items_of (false ∷ order) ss) (rest_is ps k p is)

pub no_procedure : (order : List Bool) (ss : List Static) (ps : List Proc) (k n : ℕ) → k ≡ n → None ≡ slice_get ps k
    → items_of order ss (drop n ps) ≡ items_of (false ∷ order) ss (drop n ps)
no_procedure order ss ps k n is none =
    let left = none_left ps n (sym (none ∙ ap (slice_get ps) is)) in
    ap (items_of order ss) left ∙ sym (ap (items_of (false ∷ order) ss) left)

-- the tables in the end, with one static more
pub static_added : (form : Form) (order : List Bool) (ss : List Static) (ps : List Proc) (vs ws : List Variable) (v : Variable) (k : ℕ) (x : Static)
    → k ≡ length vs → Some x ≡ slice_get ss k → v ≡ record { name = x.name.name; kind = kind_of form x.sort; code = static_code k } → ws ≡ vs ++ v ∷ []
    → ws ++ statics_from form (length ws) (statics_in (items_of order (drop (length ws) ss) ps))
    ≡ vs ++ statics_from form (length vs) (statics_in (items_of (true ∷ order) (drop (length vs) ss) ps))
static_added form order ss ps vs ws v k x count there is made =
    let more : length ws ≡ suc k = omega (arith, ap length made, length_push vs v, count) in
    let left = λ (n : ℕ). statics_from form n (statics_in (items_of order (drop n ss) ps)) in
    ap (λ n. ws ++ left n) more
    ∙ ap (λ xs. xs ++ left (suc k)) made
    ∙ append_assoc vs (v ∷ []) (left (suc k))
    ∙ ap (λ u. vs ++ u ∷ left (suc k)) is
    ∙ sym (ap (λ items. vs ++ statics_from form k (statics_in items)) (static_next order ss ps k x (sym there)))
    ∙ ap (λ n. vs ++ statics_from form n (statics_in (items_of (true ∷ order) (drop n ss) ps))) count

pub headers_stay : (form : Form) (order : List Bool) (ss : List Static) (ps : List Proc) (vs ws : List Variable) (v : Variable) (hs : List Header) (k : ℕ) (x : Static)
    → k ≡ length vs → Some x ≡ slice_get ss k → ws ≡ vs ++ v ∷ []
    → hs ++ map (header_of form) (procedures_in (items_of order (drop (length ws) ss) ps))
    ≡ hs ++ map (header_of form) (procedures_in (items_of (true ∷ order) (drop (length vs) ss) ps))
headers_stay form order ss ps vs ws v hs k x count there made =
    let more : length ws ≡ suc k = omega (arith, ap length made, length_push vs v, count) in
    ap (λ n. hs ++ map (header_of form) (procedures_in (items_of order (drop n ss) ps))) more
    ∙ sym (ap (λ items. hs ++ map (header_of form) (procedures_in items)) (static_next order ss ps k x (sym there)))
    ∙ ap (λ n. hs ++ map (header_of form) (procedures_in (items_of (true ∷ order) (drop n ss) ps))) count

-- with one header more
pub header_added : (form : Form) (order : List Bool) (ss : List Static) (ps : List Proc) (hs is : List Header) (h : Header) (k : ℕ) (p : Proc)
    → k ≡ length hs → Some p ≡ slice_get ps k → h ≡ header_of form (procedure_of p) → is ≡ hs ++ h ∷ []
    → is ++ map (header_of form) (procedures_in (items_of order ss (drop (length is) ps)))
    ≡ hs ++ map (header_of form) (procedures_in (items_of (false ∷ order) ss (drop (length hs) ps)))
header_added form order ss ps hs is h k p count there same made =
    let more : length is ≡ suc k = omega (arith, ap length made, length_push hs h, count) in
    let left = λ (n : ℕ). map (header_of form) (procedures_in (items_of order ss (drop n ps))) in
    ap (λ n. is ++ left n) more
    ∙ ap (λ xs. xs ++ left (suc k)) made
    ∙ append_assoc hs (h ∷ []) (left (suc k))
    ∙ ap (λ g. hs ++ g ∷ left (suc k)) same
    ∙ sym (ap (λ items. hs ++ map (header_of form) (procedures_in items)) (procedure_next order ss ps k p (sym there)))
    ∙ ap (λ n. hs ++ map (header_of form) (procedures_in (items_of (false ∷ order) ss (drop n ps)))) count

pub statics_stay : (form : Form) (order : List Bool) (ss : List Static) (ps : List Proc) (vs : List Variable) (n : ℕ) (hs is : List Header) (h : Header) (k : ℕ) (p : Proc)
    → k ≡ length hs → Some p ≡ slice_get ps k → is ≡ hs ++ h ∷ []
    → vs ++ statics_from form n (statics_in (items_of order ss (drop (length is) ps)))
    ≡ vs ++ statics_from form n (statics_in (items_of (false ∷ order) ss (drop (length hs) ps)))
statics_stay form order ss ps vs n hs is h k p count there made =
    let more : length is ≡ suc k = omega (arith, ap length made, length_push hs h, count) in
    ap (λ m. vs ++ statics_from form n (statics_in (items_of order ss (drop m ps)))) more
    ∙ sym (ap (λ items. vs ++ statics_from form n (statics_in items)) (procedure_next order ss ps k p (sym there)))
    ∙ ap (λ m. vs ++ statics_from form n (statics_in (items_of (false ∷ order) ss (drop m ps)))) count

-- an initialiser is one statement, which is reached
faults_of_initialiser : (s : Setting) (number calls : ℕ) (x : Static)
    → faults_of_body (initialiser s number calls x) ≡ faults_of_statement s (before_initialiser s number calls) (Assign x.name x.value)
faults_of_initialiser s number calls x =
    let own = faults_of_statement s (before_initialiser s number calls) (Assign x.name x.value) in
    append-nil (own ++ []) ∙ append-nil own

-- the first of what was found and of the faults of items
abbrev First : Setting → Option Fault → ℕ → ℕ → ℕ → List Item → Option Told
First s found static procedure calls items = first_with comes_before (option_map fault_told found) (flat_map faults_of_body (bodies_from s static procedure calls items))

-- it stays behind an initialiser whose faults were taken in
pub initialiser_passed : (s : Setting) (order : List Bool) (ss : List Static) (ps : List Proc) (number next procedure calls behind : ℕ) (x : Static) (found first : Option Fault)
    → Some x ≡ slice_get ss number → suc number ≡ next → calls + call_count x.value ≡ behind
    → Finds found first (faults_of_statement s (before_initialiser s number calls) (Assign x.name x.value))
    → First s first next procedure behind (items_of order (drop next ss) ps) ≡ First s found number procedure calls (items_of (true ∷ order) (drop number ss) ps)
initialiser_passed s order ss ps number next procedure calls behind x found first there more counted own =
    let told = option_map fault_told found in
    let b = initialiser s number calls x in
    let rest = flat_map faults_of_body (bodies_from s (suc number) procedure (calls + call_count x.value) (items_of order (drop (suc number) ss) ps)) in
    sym (ap (λ n. First s first n procedure behind (items_of order (drop n ss) ps)) more)
    ∙ sym (ap (λ k. First s first (suc number) procedure k (items_of order (drop (suc number) ss) ps)) counted)
    ∙ ap (λ f. first_with comes_before f rest) (own ∙ ap (first_with comes_before told) (sym (faults_of_initialiser s number calls x)))
    ∙ sym (both comes_before told (faults_of_body b) rest)
    ∙ sym (ap (First s found number procedure calls) (static_next order ss ps number x (sym there)))

-- and behind such a procedure
pub procedure_passed : (s : Setting) (order : List Bool) (ss : List Static) (ps : List Proc) (static before number calls behind : ℕ) (p : Proc) (found first : Option Fault)
    → Some p ≡ slice_get ps before → number ≡ before + 1
    → Finds found first (faults_of_body (body_of s number calls (procedure_of p)))
    → behind ≡ (end_of (body_of s number calls (procedure_of p))).calls
    → First s first static (suc number) behind (items_of order ss (drop number ps)) ≡ First s found static (suc before) calls (items_of (false ∷ order) ss (drop before ps))
procedure_passed s order ss ps static before number calls behind p found first there is own counted =
    let more : number ≡ suc before = omega arith in
    let told = option_map fault_told found in
    let b = body_of s number calls (procedure_of p) in
    let rest = flat_map faults_of_body (bodies_from s static (suc number) (end_of b).calls (items_of order ss (drop number ps))) in
    ap (λ k. First s first static (suc number) k (items_of order ss (drop number ps))) counted
    ∙ ap (λ f. first_with comes_before f rest) own
    ∙ sym (both comes_before told (faults_of_body b) rest)
    ∙ ap (λ n. First s found static n calls (Procedure (procedure_of p) ∷ items_of order ss (drop n ps))) more
    ∙ sym (ap (First s found static (suc before) calls) (procedure_next order ss ps before p (sym there)))

-- where nothing is passed
pub none_passed : (s : Setting) (found : Option Fault) (static procedure calls : ℕ) (items others : List Item) → items ≡ others
    → First s found static procedure calls items ≡ First s found static procedure calls others
none_passed s found static procedure calls items others = ap (First s found static procedure calls)

-- before the first item
pub begun : (s : Setting) (order : List Bool) (ss : List Static) (ps : List Proc) (static calls : ℕ) → 0 ≡ static → 0 ≡ calls
    → First s None static 1 calls (items_of order (drop static ss) ps) ≡ First s None 0 1 0 (items_of order ss ps)
begun s order ss ps static calls first none =
    sym (ap (λ n. First s None n 1 calls (items_of order (drop n ss) ps)) first) ∙ sym (ap (λ k. First s None 0 1 k (items_of order ss ps)) none)
