-- What calls are given and what they give on a full heap.
use Rattle.std.specs.Prelude.{◌≡◌, ℕ, List, [], ◌∷◌, Option, Some, None, IfSome, slice_get, if◌then◌else◌}
use Rattle.std.specs.List.{AllZip}
use Rattle.easl_model.specs.{fields_of}
use Rattle.easl_model.specs.Form.{Form}
use Rattle.easl_model.specs.declared.form.Method.{Method}
use Rattle.easl_heap.specs.Heap.{Object, IsObjectOf}

-- from a class, the fields at these positions lead to a class
abbrev pub FieldsLead : Form → ℕ → List ℕ → ℕ → Type 0
FieldsLead form class [] end = class ≡ end
FieldsLead form class (p ∷ ps) end = (next : ℕ) × (slice_get (fields_of form class) p ≡ Some next) × FieldsLead form next ps end

-- each object of a class stays one
abbrev pub KeepsClasses : List Object → List Object → Type 0
KeepsClasses old new = (class n : ℕ) → IsObjectOf old class n → IsObjectOf new class n

-- an object of the class; 0 where there is none
abbrev pub IsGiven : List Object → Option ℕ → ℕ → Type 0
IsGiven heap None n = n ≡ 0
IsGiven heap (Some class) n = IsObjectOf heap class n

-- what a method takes: an object of its class, where it is no constructor, and then its parameters
abbrev pub taken_by : Method → List (Option ℕ)
taken_by m = if m.constructor then m.params else Some m.class ∷ m.params

-- the receiver and the arguments are objects of the method's classes, and 0 where it takes an opaque value
abbrev pub AreOfClasses : Form → ℕ → List Object → List ℕ → Type 0
AreOfClasses form method heap args = IfSome (slice_get form.methods method) (λ m. AllZip (IsGiven heap) (taken_by m) args)

-- the method's result is an object of its class, and 0 where the method gives none
abbrev pub GivesClass : Form → ℕ → List Object → ℕ → Type 0
GivesClass form method heap n = IfSome (slice_get form.methods method) (λ m. IsGiven heap m.result n)
