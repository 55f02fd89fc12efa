use Rattle.std.proofs.Common.{◌≡◌, ℕ, ◌+◌, [], ◌∷◌, ◌++◌, ap, arith, drop, length, map, sym, ◌∙◌}
use Rattle.easl_model.specs.{Body, bodies_from, classes_from, method_of}
use Rattle.easl_model.specs.declared.form.ClassForm.{ClassForm}
use Rattle.easl_types.specs.Forms.{class_form}
use Rattle.easl_types.proofs.PartsGrown.{classes_grown, methods_grown, places_grown}
use Rattle.easl_bodies.proofs.Walks.{rest_is}
use Rattle.easl_types.proofs.methods.parts_of.Goals as goal

pub each-preserved : goal.each-preserved
each-preserved c =
    let spec = c.args.spec.now in
    let at = c.each.at in
    let class = c.index-given-at.result in
    let given = c.as_slice-given.result.now in
    let rest = drop (at + 1) given in
    let split = rest_is given at class (omega arith) c.index-given-at.is in
    let number : c.in_ok-constructor.constructor ≡ length c.each.methods.items = omega arith in
    let one : c.push.new.self.items ≡ c.each.classes.items ++ class_form spec (length c.each.methods.items) class ∷ [] =
    c.in_ok-push.ensures.items ∙ ap (λ (f : ClassForm). c.each.classes.items ++ f ∷ []) (c.in_ok-class_form.ensures ∙ ap (λ (n : ℕ). class_form spec n class) number) in
    record {
      classes = classes_grown spec at class rest c.each.methods.items c.add_methods.new.methods.items c.each.classes.items c.push.new.self.items _ c.in_ok-add_methods.ensures one
          (ap (λ cs. c.each.classes.items ++ classes_from spec (length c.each.methods.items) cs) (sym split) ∙ c.each.invariant.classes);
      methods = methods_grown spec at class rest c.each.methods.items c.add_methods.new.methods.items _ c.in_ok-add_methods.ensures
          (ap (λ cs. c.each.methods.items ++ map (method_of spec) (bodies_from at cs)) (sym split) ∙ c.each.invariant.methods);
      places = places_grown at class rest c.each.places.items c.add_places.new.places.items _ c.in_ok-add_places.ensures
          (ap (λ cs. c.each.places.items ++ map (λ (b : Body). b.code.name.place) (bodies_from at cs)) (sym split) ∙ c.each.invariant.places);
    }
