-- The component calls of a checked client can be made.
use Rattle.std.proofs.Common.{◌≡◌, ℕ, suc, ◌+◌, ◌<◌, Bool, true, false, not, ◌&&◌, ◌==◌, List, [], ◌∷◌, ◌++◌, All, map, length, refl, sym, ap, subst, ◌∙◌, arith}
use Rattle.std.specs.Prelude.{IfSome, Option, Some, None, filter_map, flat_map, if◌then◌else◌, option_and_then, option_map, slice_get}
use Rattle.std.specs.List.{cons_option, position_from}
use Rattle.std.proofs.lemmas.Bool.{eqb-true}
use Rattle.std.proofs.lemmas.List.{length-map}
use Rattle.std.proofs.lemmas.Option.{slice_get_within}
use Rattle.client_run.proofs.Lists.{Each, each_both, each_more, each_none}
use Rattle.client_run.specs.Fitting.{CallFits}
use Rattle.client_model.specs.Lookups.{class_named, is_same, method_named}
use Rattle.client_model.specs.Statements.{Statement, Statements, Assign, Break, Continue, Declare, Do, If, Return, While, none, ◌▸◌}
use Rattle.client_model.specs.declared.form.CallSite.{CallSite}
use Rattle.client_model.specs.declared.tree.Component.{Component}
use Rattle.client_model.specs.declared.tree.New.{New}
use Rattle.client_model.specs.declared.tree.Rhs.{Rhs}
use Rattle.client_model.specs.declared.tree.Rhs.TheVariants as rhs
use Rattle.client_model.proofs.SetReads.{statement_free, value_free}
use Rattle.client_model.specs.Bodies.{Body, all_in, bodies_from, bodies_of, body_of, initialiser, whole_of}
use Rattle.client_model.specs.BodyFaults.{faults_at, faults_of_arguments, faults_of_call, faults_of_read, faults_of_value, no_method, opaque_receiver, wrong_number}
use Rattle.client_model.specs.CheckedForm.{form_of}
use Rattle.client_model.specs.Contexts.{Context, Situated, after, after_all, counting, entered, evaluated, looping, situated, situated_in, value_of_test}
use Rattle.client_model.specs.Faults.{Mismatch, broken_if}
use Rattle.client_model.specs.HeaderFaults.{no_class}
use Rattle.client_model.specs.Points.{argument_of, arguments_of, site_at, site_by, value_in}
use Rattle.client_model.specs.Rules.{faults_of_body, faults_of_end}
use Rattle.client_model.specs.Settings.{Called, Callee, Header, Kind, Method, Procedure, Setting, callee_by, callee_of, class_in, kind_of_word, method_at, procedure_from, setting_of, valued}
use Rattle.client_model.specs.Trees.{Client, Initialiser, Item}
use Rattle.client_model.specs.Trees as written
use Rattle.easl_heap.specs.Body.{argument_count}
use Rattle.easl_model.proofs.CheckedForms.{checked_typed}
use Rattle.easl_model.proofs.Items.{all_from_places}
use Rattle.easl_model.proofs.None.{none_at, none_of_both, none_of_four}
use Rattle.easl_model.specs.Checked.{IsChecked}
use Rattle.easl_model.specs.Form.{Form, constructor_of}
use Rattle.easl_model.specs.TypedBodies.{HasConstructor, IsTyped}
use Rattle.easl_model.specs.declared.form.Method.{Method as MethodForm}
use Rattle.easl_model.specs.declared.place.Place.{Place}
use Rattle.easl_model.specs.declared.tree.Word.{Word}

-- what is found in a list by a test
record IsFound {A : Type 0} (test : A → Bool) (start : ℕ) (xs : List A) (n : ℕ) : Type 0 where
  place : ℕ
  item : A
  number : n ≡ start + place
  there : slice_get xs place ≡ Some item
  so : test item ≡ true

found_by : {A : Type 0} (test : A → Bool) (start : ℕ) (x : A) (xs : List A) (n : ℕ) (b : Bool) → test x ≡ b →
    (position_from test (start + 1) xs ≡ Some n → IsFound test (start + 1) xs n) →
    (if b then Some start else position_from test (start + 1) xs) ≡ Some n → IsFound test start (x ∷ xs) n
found_by test start x xs n true so later is =
    let same : start ≡ n = cc in
    record { place = 0; item = x; number = omega arith; there = refl; so = so }
found_by test start x xs n false so later is =
    let rest = later is in
    let number : n ≡ start + 1 + rest.place = rest.number in
    record { place = suc rest.place; item = rest.item; number = omega arith; there = rest.there; so = rest.so }

found_at : {A : Type 0} (test : A → Bool) (start : ℕ) (xs : List A) (n : ℕ) → position_from test start xs ≡ Some n → IsFound test start xs n
found_at test start [] n is = absurd cc
found_at test start (x ∷ xs) n is = found_by test start x xs n (test x) refl (found_at test (start + 1) xs n) is

found_first : {A : Type 0} (test : A → Bool) (xs : List A) (n : ℕ) → position_from test 0 xs ≡ Some n → (x : A) × (slice_get xs n ≡ Some x) × (test x ≡ true)
found_first test xs n is =
    let found = found_at test 0 xs n is in
    let number : n ≡ 0 + found.place = found.number in
    let at : found.place ≡ n = omega arith in
    (found.item, subst (λ k. slice_get xs k ≡ Some found.item) at found.there, found.so)

-- so many arguments as are taken
right_number : (b : Bool) (place : Place) → broken_if (not b) Mismatch place ≡ [] → b ≡ true
right_number true place free = refl
right_number false place free = absurd cc

right_count : (s : Setting) (c : Context) (place : Place) (m : Callee) (args : List Word) → faults_of_call s c place (Some m) args ≡ [] →
    length m.params ≡ length args
right_count s c place m args free =
    eqb-true (length m.params) (length args) (right_number (length m.params == length args) place
    (none_of_both (wrong_number place m.params args) (faults_of_arguments s c m.params args) free).0)

-- a call of this method with so many arguments can be made
record MethodFits (form : Form) (method count : ℕ) : Type 0 where
  there : method < length form.methods
  args : IfSome (slice_get form.methods method) (λ m. count ≡ argument_count m)

record IsNumbered (form : Form) (number : ℕ) (m : Callee) : Type 0 where
  method : MethodForm
  there : slice_get form.methods number ≡ Some method
  is : callee_by number method ≡ m

numbered_by : (form : Form) (number : ℕ) (m : Callee) (o : Option MethodForm) → slice_get form.methods number ≡ o →
    option_map (callee_by number) o ≡ Some m → IsNumbered form number m
numbered_by form number m None at is = absurd cc
numbered_by form number m (Some k) at is = record { method = k; there = at; is = cc }

numbered_at : (form : Form) (number : ℕ) (m : Callee) → method_at form number ≡ Some m → IsNumbered form number m
numbered_at form number m is = numbered_by form number m (slice_get form.methods number) refl is

same_method : (m n : ℕ) → Method m ≡ Method n → m ≡ n
same_method m n is = cc

-- a method or constructor that is called with as many arguments as its callee takes
method_fits : (form : Form) (number called count : ℕ) (m : Callee) (k : IsNumbered form number m) → m.called ≡ Method called →
    count ≡ argument_count k.method → MethodFits form called count
method_fits form number called count m k is same =
    let at : number ≡ called = same_method number called (ap (λ z. z.called) k.is ∙ is) in
    subst (λ n. MethodFits form n count) at (record {
      there = slice_get_within form.methods number k.method k.there;
      args = subst (λ o. IfSome o (λ z. count ≡ argument_count z)) (sym k.there) same;
    })

params_many : (form : Form) (number : ℕ) (m : Callee) (k : IsNumbered form number m) → length m.params ≡ length k.method.params
params_many form number m k = ap (λ z. length z.params) (sym k.is) ∙ length-map k.method.params valued

count_by : (m : MethodForm) (b : Bool) → m.constructor ≡ b → argument_count m ≡ (if b then length m.params else suc (length m.params))
count_by m b is = ap (λ c. if c then length m.params else suc (length m.params)) is

same_found : (m k : MethodForm) → Some m ≡ Some k → m ≡ k
same_found m k is = cc

made_fits : (s : Setting) (c : Context) (x : New) (called : ℕ) (m : Callee) (o : Option ℕ) → IsTyped s.form → class_named s.form x.class.name ≡ o →
    option_and_then (λ class. method_at s.form (constructor_of s.form class)) o ≡ Some m → length m.params ≡ length x.args → m.called ≡ Method called →
    MethodFits s.form called (length (arguments_of s c (rhs.New x)))
made_fits s c x called m None typed named is count of = absurd cc
made_fits s c x called m (Some class) typed named is count of =
    let found = found_first (λ d. is_same d.name x.class.name) s.form.classes class named in
    let has : HasConstructor s.form class = typed.constructors class (slice_get_within s.form.classes class found.0 found.1) in
    let k : IsNumbered s.form (constructor_of s.form class) m = numbered_at s.form (constructor_of s.form class) m is in
    let same : has.method ≡ k.method = same_found has.method k.method (sym has.found ∙ k.there) in
    let constructs : k.method.constructor ≡ true = ap (λ z. z.constructor) (sym same) ∙ has.constructs in
    let many : length (arguments_of s c (rhs.New x)) ≡ length x.args = length-map x.args (argument_of s c) in
    let params : length m.params ≡ length k.method.params = params_many s.form (constructor_of s.form class) m k in
    let taken : argument_count k.method ≡ length k.method.params = count_by k.method true constructs in
    method_fits s.form (constructor_of s.form class) called (length (arguments_of s c (rhs.New x))) m k of (omega arith)

and_first : (a b : Bool) → (a && b) ≡ true → a ≡ true
and_first true b is = refl
and_first false b is = absurd cc

not_true : (b : Bool) → not b ≡ true → b ≡ false
not_true false is = refl
not_true true is = absurd cc

given_by_method : (s : Setting) (c : Context) (x : Component) (called : ℕ) (m : Callee) (class : ℕ) (o : Option ℕ) →
    method_named s.form class x.method.name ≡ o → option_and_then (method_at s.form) o ≡ Some m → length m.params ≡ length x.args → m.called ≡ Method called →
    MethodFits s.form called (length (arguments_of s c (rhs.Component x)))
given_by_method s c x called m class None named is count of = absurd cc
given_by_method s c x called m class (Some number) named is count of =
    let found = found_first (λ d. not d.constructor && (d.class == class) && is_same d.name x.method.name) s.form.methods number named in
    let k : IsNumbered s.form number m = numbered_at s.form number m is in
    let same : found.0 ≡ k.method = same_found found.0 k.method (sym found.1 ∙ k.there) in
    let plain : found.0.constructor ≡ false =
    not_true found.0.constructor (and_first (not found.0.constructor) (found.0.class == class) (and_first (not found.0.constructor
    && (found.0.class == class)) (is_same found.0.name x.method.name) found.2)) in
    let here : k.method.constructor ≡ false = ap (λ z. z.constructor) (sym same) ∙ plain in
    let many : length (map (argument_of s c) x.args) ≡ length x.args = length-map x.args (argument_of s c) in
    let params : length m.params ≡ length k.method.params = params_many s.form number m k in
    let taken : argument_count k.method ≡ suc (length k.method.params) = count_by k.method false here in
    method_fits s.form number called (length (arguments_of s c (rhs.Component x))) m k of (omega arith)

given_fits : (s : Setting) (c : Context) (x : Component) (called : ℕ) (m : Callee) (o : Option ℕ) →
    option_and_then (method_at s.form) (option_and_then (λ class. method_named s.form class x.method.name) o) ≡ Some m → length m.params ≡ length x.args →
    m.called ≡ Method called → MethodFits s.form called (length (arguments_of s c (rhs.Component x)))
given_fits s c x called m None is count of = absurd cc
given_fits s c x called m (Some class) is count of =
    given_by_method s c x called m class (method_named s.form class x.method.name) refl is count of

-- a procedure is no method
abbrev IsNoMethod : Called → Type 0
IsNoMethod (Method number) = ⊥
IsNoMethod (Procedure number) = Unit {0}

abbrev CallsNone : Option Callee → Type 0
CallsNone None = Unit {0}
CallsNone (Some m) = IsNoMethod m.called

none_if : (b : Bool) (m : Callee) (o : Option Callee) → IsNoMethod m.called → CallsNone o → CallsNone (if b then Some m else o)
none_if true m o here later = here
none_if false m o here later = later

procedures_none : (number : ℕ) (hs : List Header) (name : List ℕ) → CallsNone (procedure_from number hs name)
procedures_none number [] name = tt
procedures_none number (h ∷ hs) name = none_if (is_same h.name name) _ (procedure_from (suc number) hs name) tt (procedures_none (suc number) hs name)

procedure_fits : (o : Option Callee) (m : Callee) (called : ℕ) → CallsNone o → o ≡ Some m → m.called ≡ Method called → ⊥
procedure_fits o m called calls is of = subst IsNoMethod of (subst CallsNone is calls)

call_free : (s : Setting) (c : Context) (place : Place) (m : Callee) (o : Option Callee) (args : List Word) → o ≡ Some m → faults_of_call s c place o args ≡ [] →
    length m.params ≡ length args
call_free s c place m o args is free = right_count s c place m args (subst (λ z. faults_of_call s c place z args ≡ []) is free)

value_fits : (s : Setting) (c : Context) (v : Rhs) (called : ℕ) (m : Callee) → IsTyped s.form → faults_of_value s c v ≡ [] →
    callee_of s c.scope v ≡ Some m → m.called ≡ Method called → MethodFits s.form called (length (arguments_of s c v))
value_fits s c (rhs.Copy w) called m typed free is of = absurd cc
value_fits s c (rhs.New x) called m typed free is of =
    let count : length m.params ≡ length x.args =
    call_free s c x.place m (callee_of s c.scope (rhs.New x)) x.args is
    (none_of_both (no_class s.form x.class) (faults_of_call s c x.place (callee_of s c.scope (rhs.New x)) x.args) free).1 in
    made_fits s c x called m (class_named s.form x.class.name) typed refl is count of
value_fits s c (rhs.Component x) called m typed free is of =
    let receiver : Kind = kind_of_word s c.scope x.receiver in
    let count : length m.params ≡ length x.args =
    call_free s c x.receiver.place m (callee_of s c.scope (rhs.Component x)) x.args is
    (none_of_four (faults_of_read s c x.receiver) (opaque_receiver x.receiver.place receiver) (no_method s receiver x.method)
    (faults_of_call s c x.receiver.place (callee_of s c.scope (rhs.Component x)) x.args) free).3 in
    given_fits s c x called m (class_in (kind_of_word s c.scope x.receiver)) is count of
value_fits s c (rhs.Call x) called m typed free is of =
    absurd (procedure_fits (procedure_from 1 s.procedures x.procedure.name) m called (procedures_none 1 s.procedures x.procedure.name) is of)

same_site : (a b : CallSite) → Some a ≡ Some b → a ≡ b
same_site a b is = cc

-- the call of a statement that breaks no rule
site_fits_by : (z : Situated) (v : Rhs) (m : Callee) (site : CallSite) (called : Called) → IsTyped z.setting.form → faults_of_value z.setting z.context v ≡ [] →
    callee_of z.setting z.context.scope v ≡ Some m → m.called ≡ called → site_by z v called ≡ Some site → CallFits z.setting.form site
site_fits_by z v m site (Procedure number) typed free is of made = absurd cc
site_fits_by z v m site (Method number) typed free is of made =
    let fits = value_fits z.setting z.context v number m typed free is of in
    subst (CallFits z.setting.form) (same_site _ site made) (record { there = fits.there; args = fits.args })

site_fits_of : (z : Situated) (v : Rhs) (site : CallSite) (o : Option Callee) → IsTyped z.setting.form → faults_of_value z.setting z.context v ≡ [] →
    callee_of z.setting z.context.scope v ≡ o → option_and_then (λ m. site_by z v m.called) o ≡ Some site → CallFits z.setting.form site
site_fits_of z v site None typed free is made = absurd cc
site_fits_of z v site (Some m) typed free is made = site_fits_by z v m site m.called typed free is refl made

site_fits_in : (z : Situated) (site : CallSite) (o : Option Rhs) → IsTyped z.setting.form → faults_at z ≡ [] → value_in z.statement ≡ o →
    option_and_then (λ v. option_and_then (λ m. site_by z v m.called) (callee_of z.setting z.context.scope v)) o ≡ Some site → CallFits z.setting.form site
site_fits_in z site None typed free is made = absurd cc
site_fits_in z site (Some v) typed free is made =
    site_fits_of z v site (callee_of z.setting z.context.scope v) typed
    (value_free z.setting z.context z.statement v (statement_free z free) is) refl made

-- statements stand in the setting of their body
abbrev Stands : Setting → Situated → Type 0
Stands s z = z.setting ≡ s

mutual
  stand_in : (s : Setting) (c : Context) (x : Statement) → Each (Stands s) (situated_in s c x)
  stand_in s c (Declare place sort w v) = each_none (Stands s)
  stand_in s c (Assign w v) = each_none (Stands s)
  stand_in s c (Do v) = each_none (Stands s)
  stand_in s c (If place t first second has_else) =
      let start : Context = evaluated (value_of_test t) c in
      let behind : Context = entered (counting start (after_all s (entered start) first)) in
      each_both (Stands s) (situated s (entered start) first) (situated s behind second) (stand_all s (entered start) first) (stand_all s behind second)
  stand_in s c (While place t inner) = stand_all s (looping (evaluated (value_of_test t) c)) inner
  stand_in s c (Break place) = each_none (Stands s)
  stand_in s c (Continue place) = each_none (Stands s)
  stand_in s c (Return r) = each_none (Stands s)

  stand_all : (s : Setting) (c : Context) (xs : Statements) → Each (Stands s) (situated s c xs)
  stand_all s c none = each_none (Stands s)
  stand_all s c (x ▸ xs) =
      each_more (Stands s) (record { setting = s; context = c; statement = x }) (situated_in s c x ++ situated s (after s c x) xs) refl
      (each_both (Stands s) (situated_in s c x) (situated s (after s c x) xs) (stand_in s c x) (stand_all s (after s c x) xs))

abbrev IsBodyOf : Form → Body → Type 0
IsBodyOf form b = b.setting.form ≡ form

bodies_in : (s : Setting) (static procedure call : ℕ) (items : List Item) → Each (IsBodyOf s.form) (bodies_from s static procedure call items)
bodies_in s static procedure call [] = each_none (IsBodyOf s.form)
bodies_in s static procedure call (Initialiser x ∷ rest) =
    each_more (IsBodyOf s.form) (initialiser s static call x) _ refl (bodies_in s (suc static) procedure _ rest)
bodies_in s static procedure call (written.Procedure p ∷ rest) =
    each_more (IsBodyOf s.form) (body_of s procedure call p) _ refl (bodies_in s static (suc procedure) _ rest)

-- lists that are made of others
each_flat : {A B : Type 0} (P : B → Type 0) (f : A → List B) (xs : List A) → Each (λ x. Each P (f x)) xs → Each P (flat_map f xs)
each_flat P f [] all = each_none P
each_flat P f (x ∷ xs) all = each_both P (f x) (flat_map f xs) (all 0 x refl) (each_flat P f xs (λ k y is. all (suc k) y is))

each_if : {B : Type 0} (P : B → Type 0) (o : Option B) (ys : List B) → ((y : B) → o ≡ Some y → P y) → Each P ys → Each P (cons_option o ys)
each_if P None ys here rest = rest
each_if P (Some y) ys here rest = each_more P y ys (here y refl) rest

each_filtered : {A B : Type 0} (P : B → Type 0) (f : A → Option B) (xs : List A) → Each (λ x. (y : B) → f x ≡ Some y → P y) xs → Each P (filter_map f xs)
each_filtered P f [] all = each_none P
each_filtered P f (x ∷ xs) all = each_if P (f x) (filter_map f xs) (all 0 x refl) (each_filtered P f xs (λ k y is. all (suc k) y is))

pub calls_fit : (form : Form) (client : Client) → IsChecked form → flat_map faults_of_body (bodies_of form client) ≡ [] →
    All (CallFits form) (form_of form client).calls
calls_fit form client checked free =
    all_from_places (CallFits form) (form_of form client).calls
    (each_filtered (CallFits form) site_at (whole_of form client)
    (each_flat (λ z. (site : CallSite) → site_at z ≡ Some site → CallFits form site) all_in (bodies_of form client) (λ k b is j z at site made.
    let body : b.setting.form ≡ form = bodies_in (setting_of form client) 0 1 0 client.items k b is in
    let here : z.setting.form ≡ form = ap (λ s. s.form) (stand_all b.setting b.start b.statements j z at) ∙ body in
    let rules : flat_map faults_at (all_in b) ++ faults_of_end b.item ≡ [] = none_at faults_of_body (bodies_of form client) k b free is in
    let one : faults_at z ≡ [] = none_at faults_at (all_in b) j z (none_of_both (flat_map faults_at (all_in b)) (faults_of_end b.item) rules).0 at in
    let typed : IsTyped z.setting.form = subst IsTyped (sym here) (checked_typed form checked) in
    subst (λ f. CallFits f site) here (site_fits_in z site (value_in z.statement) typed one refl made))))
