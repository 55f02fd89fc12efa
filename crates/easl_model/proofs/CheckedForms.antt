-- What every checked form keeps.
use Rattle.std.proofs.Common.{◌≡◌, ℕ, ◌<◌, true, List, get_or, ap, subst, sym}
use Rattle.std.specs.Option.{option_map, unwrap_or}
use Rattle.std.specs.Prelude.{Option, IfSome, slice_get, length}
use Rattle.std.proofs.lemmas.Option.{slice_get-get_or}
use Rattle.easl_model.specs.{ConstructorsNest, IsChecked, IsInRange, IsTyped}
use Rattle.easl_model.specs.Form.{Form}
use Rattle.easl_model.specs.declared.form.ClassForm.{ClassForm}
use Rattle.easl_model.specs.declared.form.Method.{Method}
use Rattle.easl_model.proofs.BodyTypes.{form_typed}
use Rattle.easl_model.proofs.InRange.{checked_in_range}
use Rattle.easl_model.proofs.Nesting.{constructors_nest}

-- a checked form is typed
pub checked_typed : (form : Form) → IsChecked form → IsTyped form
checked_typed form checked = subst IsTyped (sym checked.form) (form_typed checked.tree checked.well_formed)

-- and its constructors stand in one another at most as deep as there are classes
pub checked_nests : (form : Form) → IsChecked form → ConstructorsNest form
checked_nests form checked = subst ConstructorsNest (sym checked.form) (constructors_nest checked.tree checked.well_formed)

-- the method of a class's constructor is a constructor
pub constructs_at : (form : Form) (class : ℕ) (classes : List ClassForm) (d : ClassForm) → IsChecked form → classes ≡ form.classes → class < length form.classes
    → IfSome (slice_get form.methods (get_or classes class d).constructor) (λ m. m.constructor ≡ true)
constructs_at form class classes d checked same within =
    let has = (checked_typed form checked).constructors class within in
    let at = slice_get-get_or form.classes class d within in
    let number = ap (λ (o : Option ClassForm). unwrap_or (option_map (λ (k : ClassForm). k.constructor) o) 0) at in
    rw same (subst (λ n. IfSome (slice_get form.methods n) (λ (m : Method). m.constructor ≡ true)) number (rw has.found has.constructs))

-- the parts of a checked form, put together
pub put_together : (classes others : List ClassForm) (methods more : List Method) → others ≡ classes → more ≡ methods
    → IsChecked (record { classes = classes; methods = methods })
    → IsChecked (record { classes = others; methods = more }) × IsInRange (record { classes = others; methods = more })
put_together classes others methods more same same_methods checked =
    let moved : IsChecked (record { classes = others; methods = more }) =
    subst (λ cs. IsChecked (record { classes = cs; methods = more })) (sym same)
    (subst (λ ms. IsChecked (record { classes = classes; methods = ms })) (sym same_methods) checked) in
    (moved, checked_in_range (record { classes = others; methods = more }) moved)
