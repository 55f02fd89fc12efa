use Rattle.std.proofs.Common.{◌≡◌, ◌∙◌, rules}
use Rattle.std.specs.Prelude.{None}
use Rattle.easl_model.specs.{first_fault}
use Rattle.easl_types.proofs.Checking.{ArePartsOf, long_is, parts_are, parts_checked, tells}
use Rattle.easl_types.proofs.check.check_spec.Goals as goal

pub returns-in-Some-long : goal.returns-in-Some-long
returns-in-Some-long c =
    let none : c.in_ok-fault.field-0 ≡ None = search rules in
    let parts : ArePartsOf c.args.spec c.in_ok-parts.parts.classes.items c.in_ok-parts.parts.methods.items c.in_ok-parts.parts.places.items =
    record { classes_are = c.in_ok-parts.ensures.classes; methods_are = c.in_ok-parts.ensures.methods; places_are = c.in_ok-parts.ensures.places } in
    let first = long_is c.args.spec c.in_ok-fault.field-0 c.in_ok-long.long _ c.as_slice.result.now _ c.as_slice-2.result.now _ c.as_slice-3.result.now c.requires c.in_ok-fault.ensures none parts
    c.as_slice.ensures.value c.as_slice-2.ensures.value c.as_slice-3.ensures.value c.in_ok-long.ensures in
    tells (first_fault c.args.spec) c.in-Some-long.fault c.told-in-Some-long.result (first ∙ c.in-Some-long.is) c.told-in-Some-long.ensures

pub new-requires : goal.new-requires
new-requires c =
    let none : c.in_ok-fault.field-0 ≡ None = search rules in
    let parts : ArePartsOf c.args.spec c.in_ok-parts.parts.classes.items c.in_ok-parts.parts.methods.items c.in_ok-parts.parts.places.items =
    record { classes_are = c.in_ok-parts.ensures.classes; methods_are = c.in_ok-parts.ensures.methods; places_are = c.in_ok-parts.ensures.places } in
    let first = long_is c.args.spec c.in_ok-fault.field-0 c.in_ok-long.long _ c.as_slice.result.now _ c.as_slice-2.result.now _ c.as_slice-3.result.now c.requires c.in_ok-fault.ensures none parts
    c.as_slice.ensures.value c.as_slice-2.ensures.value c.as_slice-3.ensures.value c.in_ok-long.ensures in
    parts_checked c.args.spec _ _ _ c.requires (first ∙ c.in-None.is) parts

pub returns : goal.returns
returns c =
    let none : c.in_ok-fault.field-0 ≡ None = search rules in
    let parts : ArePartsOf c.args.spec c.in_ok-parts.parts.classes.items c.in_ok-parts.parts.methods.items c.in_ok-parts.parts.places.items =
    record { classes_are = c.in_ok-parts.ensures.classes; methods_are = c.in_ok-parts.ensures.methods; places_are = c.in_ok-parts.ensures.places } in
    let first = long_is c.args.spec c.in_ok-fault.field-0 c.in_ok-long.long _ c.as_slice.result.now _ c.as_slice-2.result.now _ c.as_slice-3.result.now c.requires c.in_ok-fault.ensures none parts
    c.as_slice.ensures.value c.as_slice-2.ensures.value c.as_slice-3.ensures.value c.in_ok-long.ensures in
    (first ∙ c.in-None.is, parts_are c.args.spec c.new.result _ _ _ c.new.ensures parts)
