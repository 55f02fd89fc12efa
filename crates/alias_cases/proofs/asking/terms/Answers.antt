use Rattle.std.proofs.Common.{◌≡◌, Some, sym, subst, ◌∙◌}
use Rattle.std.specs.Option.{option_copied}
use Rattle.access_paths.specs.{tree_of}
use Rattle.case_model.specs.{HaveClasses, question_variables}
use Rattle.alias_cases.proofs.Typed.{question_classes}
use Rattle.alias_cases.proofs.asking.terms.Goals as goal

pub returns-clause-classes : goal.returns-clause-classes
returns-clause-classes c = λ m at.
    let here = question_classes c.args.spec.now c.args.method c.method-asked.result.now (option_copied c.args.family) (tree_of c.args.tree.now) c.args.with_clauses c.in_ok-list.list.items
    c.method-asked.ensures.checked c.method-asked.ensures.value
    (c.requires.typed c.method-asked.result.now c.method-asked.ensures.value)
    c.in_ok-list.ensures in
    let both : Some c.method-asked.result.now ≡ Some m = sym c.method-asked.ensures.value ∙ at in
    let same : c.method-asked.result.now ≡ m = cc in
    subst (λ x. HaveClasses c.args.spec.now (question_variables x (option_copied c.args.family)) c.from_vec.result c.in_ok-classes.classes) same
    (rw (c.from_vec.ensures, c.in_ok-classes.ensures, c.deref.ensures.value) here)
