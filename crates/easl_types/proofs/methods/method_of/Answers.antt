use Rattle.easl_model.specs.{Body}
use Rattle.easl_types.proofs.MethodForms.{method_is}
use Rattle.easl_types.proofs.methods.method_of.Goals as goal

pub returns : goal.returns
returns c =
    let b : Body = record { class = c.args.class; constructor = c.args.is_constructor; code = c.args.code.now } in
    method_is c.args.spec.now b c.as_slice-params.result.now c.in_ok-class.class c.in_ok-name.name c.in_ok-classes.classes c.in_ok-names.names c.in_ok-result_class.result_class
    c.gives_value-gives.result c.in_ok-inner.inner.clauses c.in_ok-inner.inner.body c.in_ok-inner.inner.value c.as_slice-params.ensures c.in_ok-class.ensures c.in_ok-name.ensures
    c.in_ok-classes.ensures c.in_ok-names.ensures c.in_ok-result_class.ensures c.gives_value-gives.ensures c.in_ok-inner.ensures.clauses c.in_ok-inner.ensures.body c.in_ok-inner.ensures.value
