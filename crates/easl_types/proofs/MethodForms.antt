-- The checked form of a constructor or a method, part by part.
use Rattle.std.proofs.Common.{◌≡◌, ℕ, Bool, List, map, refl}
use Rattle.std.specs.Prelude.{Option, Some, if◌then◌else◌, ◌||◌}
use Rattle.easl_model.specs.{Body, class_of, has_values, method_of}
use Rattle.easl_model.specs.declared.form.Act.{Act}
use Rattle.easl_model.specs.declared.form.Method.{Method}
use Rattle.easl_model.specs.declared.form.Source.{Source}
use Rattle.easl_model.specs.declared.form.Test.{Test}
use Rattle.easl_model.specs.declared.tree.Param.{Param}
use Rattle.easl_model.specs.declared.tree.Spec.{Spec}

pub method_is : (spec : Spec) (b : Body) (listed : List Param) (class : ℕ) (name : List ℕ) (params : List (Option ℕ)) (names : List (List ℕ)) (result : Option ℕ) (gives : Bool)
    (clauses : List Test) (body : List Act) (value : Option Source)
    → listed ≡ b.code.params → class ≡ b.class → name ≡ b.code.name.name → params ≡ map (λ (p : Param). class_of spec p.sort) listed → names ≡ map (λ (p : Param). p.name.name) listed
    → result ≡ (if b.constructor then Some b.class else class_of spec b.code.result) → gives ≡ (b.constructor || has_values b.code.result)
    → clauses ≡ (method_of spec b).clauses → body ≡ (method_of spec b).body → value ≡ (method_of spec b).value
    → (let m : Method = record { class = class; name = name; constructor = b.constructor; params = params; names = names; result = result; gives = gives; clauses = clauses; body = body; value = value } in m)
    ≡ method_of spec b
method_is spec b listed class name params names result gives clauses body value a d e f g h i j k l =
    rw (d, e, f, g, h, i, j, k, l, a) refl
