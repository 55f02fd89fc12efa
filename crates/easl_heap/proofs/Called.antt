-- Constructions and calls.
use Rattle.std.proofs.Common.{◌≡◌, ℕ, zero, suc, ◌+◌, ◌-◌, ◌<◌, ◌≤◌, List, [], ◌∷◌, ◌++◌, length, arith, ap, sym, ◌∙◌, length-append}
use Rattle.std.specs.Prelude.{true, false, Option, Some, None, IfSome, slice_get}
use Rattle.easl_model.specs.{HasFewArguments, MethodInRange, MethodKeepsLimits, body_of, constructor_of, statements_of}
use Rattle.easl_model.specs.Form.{Form}
use Rattle.easl_model.specs.declared.form.Method.{Method}
use Rattle.easl_model.specs.declared.form.Source.{Source}
use Rattle.easl_heap.specs.{Comes, Fits, Gives, HasArguments, Making, Moment, Object, Outcome, argument_count, body, called, counted, fresh, made, moment}
use Rattle.easl_heap.specs.{outcome, returned, run}
use Rattle.easl_heap.proofs.Counting.{called_most, value_later}

body_fits : (form : Form) (m : Method) (slots : List ℕ) → MethodKeepsLimits form m → length slots ≤ 5 → Fits slots (statements_of m.body)
body_fits form m slots k few = record { room = omega (arith, k.written); arguments = k.body }

pub body_found : (form : Form) (n : ℕ) (m : Method) → slice_get form.methods n ≡ Some m → body_of form n ≡ statements_of m.body
body_found form n m there = rw there

-- a construction, one deeper
made_next : (form : Form) (depth class : ℕ) (args : List ℕ) (heap : List Object) (steps : ℕ) → 0 < depth → (m : Moment)
    → m ≡ run (made form (depth - 1)) (body_of form (constructor_of form class)) (moment (heap ++ fresh form class ∷ []) ((length heap + 1) ∷ args) steps)
    → made form depth class args heap steps ≡ outcome m.heap (length heap + 1) m.steps
made_next form zero class args heap steps some m is_run = absurd (omega arith)
made_next form (suc depth) class args heap steps some m is_run =
    let e : suc depth - 1 ≡ depth = omega arith
    in let start : Moment = moment (heap ++ fresh form class ∷ []) ((length heap + 1) ∷ args) steps
    in let same : m ≡ run (made form depth) (body_of form (constructor_of form class)) start = is_run ∙ ap (λ d. run (made form d) (body_of form (constructor_of form class)) start) e
    in ap (λ (x : Moment). outcome x.heap (length heap + 1) x.steps) (sym same)

pub constructed : (form : Form) (depth class : ℕ) (args : List ℕ) (heap : List Object) (steps : ℕ) (m : Method) (this : ℕ) (slots : List ℕ) (begun : List Object) (done : Moment)
    → 0 < depth → slice_get form.methods (constructor_of form class) ≡ Some m → this ≡ length begun → begun ≡ heap ++ fresh form class ∷ []
    → (length args ≤ 68 → slots ≡ this ∷ args)
    → (Fits slots (statements_of m.body) → Comes done (run (made form (depth - 1)) (statements_of m.body) (moment begun slots steps)))
    → MethodKeepsLimits form m → length args ≤ 4 → Gives (outcome done.heap this done.steps) (made form depth class args heap steps)
constructed form depth class args heap steps m this slots begun done some there is_this is_begun is_slots comes keeps few short =
    let number : this ≡ length heap + 1 = omega (arith, ap length is_begun, length-append heap (fresh form class ∷ []))
    in let are : slots ≡ (length heap + 1) ∷ args = is_slots (omega arith) ∙ ap (λ n. n ∷ args) number
    in let fits : Fits slots (statements_of m.body) = body_fits form m slots keeps (omega (arith, ap length are))
    in let told : Moment = run (made form (depth - 1)) (statements_of m.body) (moment begun slots steps)
    in let found : body_of form (constructor_of form class) ≡ statements_of m.body = body_found form (constructor_of form class) m there
    in let same : told ≡ run (made form (depth - 1)) (body_of form (constructor_of form class)) (moment (heap ++ fresh form class ∷ []) ((length heap + 1) ∷ args) steps) = cc
    in let is_made : made form depth class args heap steps ≡ outcome told.heap (length heap + 1) told.steps = made_next form depth class args heap steps some told same
    in let soon : told.steps ≤ 1024 = omega (arith, ap (λ (o : Outcome). o.steps) is_made)
    in let is_done : done ≡ told = comes fits soon
    in cc

-- where no statement is left, a `return` is over the limit
pub not_returned : (form : Form) (depth : ℕ) (source : Option Source) (v : Source) (m : Moment) (o : Outcome) → source ≡ Some v → 1024 ≤ m.steps
    → Gives o (returned (made form depth) source m)
not_returned form depth None v m o is_some out short = cc
not_returned form depth (Some w) v m o is_some out short =
    absurd (omega (arith, value_later form depth w (counted m)))

returned-later : (form : Form) (depth : ℕ) (source : Option Source) (m : Moment) → m.steps ≤ (returned (made form depth) source m).steps
returned-later form depth None m = omega arith
returned-later form depth (Some v) m = omega (arith, value_later form depth v (counted m))

pub body_called : (form : Form) (n : ℕ) (m : Method) (args : List ℕ) (heap : List Object) → slice_get form.methods n ≡ Some m
    → body form n args heap ≡ called form m args heap
body_called form n m args heap there = rw there

pub constructor_called : (form : Form) (m : Method) (args : List ℕ) (heap : List Object) → m.constructor ≡ true
    → called form m args heap ≡ made form (length form.classes) m.class args heap 0
constructor_called form m args heap is_constructor = rw is_constructor

pub method_called : (form : Form) (m : Method) (args : List ℕ) (heap : List Object) → m.constructor ≡ false
    → called form m args heap ≡ returned (made form (length form.classes)) m.value (run (made form (length form.classes)) (statements_of m.body) (moment heap args 0))
method_called form m args heap is_method = rw is_method

few_arguments : (form : Form) (n : ℕ) (m : Method) (args : List ℕ) → slice_get form.methods n ≡ Some m → HasArguments form n args → length args ≡ argument_count m
few_arguments form n m args there has = rw there at has

arguments_few : (form : Form) (n : ℕ) (m : Method) (args : List ℕ) → MethodInRange (length form.classes) m → slice_get form.methods n ≡ Some m
    → HasArguments form n args → m.constructor ≡ true → length args ≤ 4
arguments_few form n m args r there has is_constructor =
    let e : argument_count m ≡ length m.params = rw is_constructor
    in omega (arith, e, few_arguments form n m args there has, r.few)

receiver_few : (form : Form) (n : ℕ) (m : Method) (args : List ℕ) → MethodInRange (length form.classes) m → slice_get form.methods n ≡ Some m
    → HasArguments form n args → m.constructor ≡ false → length args ≤ 5
receiver_few form n m args r there has is_method =
    let e : argument_count m ≡ suc (length m.params) = rw is_method
    in omega (arith, e, few_arguments form n m args there has, r.few)

pub by_constructor : (form : Form) (n depth : ℕ) (m : Method) (args : List ℕ) (heap : List Object) (o : Outcome)
    → MethodInRange (length form.classes) m → MethodKeepsLimits form m → slice_get form.methods n ≡ Some m → HasArguments form n args
    → m.constructor ≡ true → depth ≡ length form.classes → (length args ≤ 4 → Gives o (made form depth m.class args heap 0))
    → o ≡ body form n args heap
by_constructor form n depth m args heap o r k there has is_constructor deep gives =
    let same : made form depth m.class args heap 0 ≡ called form m args heap = ap (λ d. made form d m.class args heap 0) deep ∙ sym (constructor_called form m args heap is_constructor)
    in let few : length args ≤ 4 = arguments_few form n m args r there has is_constructor
    in let short : (made form depth m.class args heap 0).steps ≤ 1024 = omega (arith, ap (λ (x : Outcome). x.steps) same, called_most form m args heap, k.in_place)
    in gives few short ∙ same ∙ sym (body_called form n m args heap there)

pub by_method : (form : Form) (n depth : ℕ) (m : Method) (args slots : List ℕ) (heap : List Object) (done : Moment) (o : Outcome)
    → MethodInRange (length form.classes) m → MethodKeepsLimits form m → slice_get form.methods n ≡ Some m → HasArguments form n args
    → m.constructor ≡ false → depth ≡ length form.classes → (length args ≤ 69 → slots ≡ args)
    → (Fits slots (statements_of m.body) → Comes done (run (made form depth) (statements_of m.body) (moment heap slots 0)))
    → (IfSome m.value HasFewArguments → Gives o (returned (made form depth) m.value done)) → o ≡ body form n args heap
by_method form n depth m args slots heap done o r k there has is_method deep is_slots comes gives =
    let make : Making = made form depth
    in let few : length args ≤ 5 = receiver_few form n m args r there has is_method
    in let are : slots ≡ args = is_slots (omega arith)
    in let told : Moment = run make (statements_of m.body) (moment heap args 0)
    in let same : returned make m.value told ≡ called form m args heap = ap (λ d. returned (made form d) m.value (run (made form d) (statements_of m.body) (moment heap args 0))) deep ∙ sym (method_called form m args heap is_method)
    in let short : (returned make m.value told).steps ≤ 1024 = omega (arith, ap (λ (x : Outcome). x.steps) same, called_most form m args heap, k.in_place)
    in let soon : told.steps ≤ 1024 = omega (arith, returned-later form depth m.value told)
    in let ran : run make (statements_of m.body) (moment heap slots 0) ≡ told = ap (λ s. run make (statements_of m.body) (moment heap s 0)) are
    in let fits : Fits slots (statements_of m.body) = body_fits form m slots k (omega (arith, ap length are))
    in let is_done : done ≡ told = comes fits (omega (arith, ap (λ (x : Moment). x.steps) ran)) ∙ ran
    in let returns : returned make m.value done ≡ returned make m.value told = ap (returned make m.value) is_done
    in gives k.value (omega (arith, ap (λ (x : Outcome). x.steps) returns)) ∙ returns ∙ same ∙ sym (body_called form n m args heap there)
