use Rattle.std.proofs.Common.{◌≡◌}
use Rattle.std.specs.List.{flat_map}
use Rattle.std.proofs.lemmas.Result.{IfOk-weaker}
use Rattle.easl_model.specs.{codes_in, faults_of_class, faults_of_header, first_with}
use Rattle.easl_model.specs.Faults.{comes_before}
use Rattle.easl_types.proofs.Seconds.{all_of_class}
use Rattle.easl_types.proofs.headers.faults_of_class.Goals as goal

pub returns : goal.returns
returns c =
    IfOk-weaker c.faults_of_headers.result
    (λ f. f ≡ first_with comes_before c.names_of_constructors-found.result (flat_map (faults_of_header c.args.spec.now) (codes_in c.as_slice-members.result.now)))
    (λ f. f ≡ first_with comes_before c.args.found (faults_of_class c.args.spec.now c.args.class.now))
    (λ f last. all_of_class c.args.spec.now c.args.class.now c.as_slice-members.result.now c.args.found c.in_ok-found.found c.in_ok-found-2.found
    c.second_constructors-found.result c.types_of_fields-found.result c.names_of_constructors-found.result f c.as_slice-members.ensures
    c.in_ok-found.ensures c.in_ok-found-2.ensures c.second_constructors-found.ensures c.types_of_fields-found.ensures c.names_of_constructors-found.ensures last)
    c.faults_of_headers.ensures
