use Rattle.derivation.proofs.Replying.{is_term_list, stands}
use Rattle.derivation.proofs.ask.cases_of.Goals as goal

pub configurations-requires : goal.configurations-requires
configurations-requires c =
    let called = stands c.args.spec.now.methods c.args.method c.requires.method in
    is_term_list _ _ _ _ _ (c.in_ok-terms.ensures.terms called.0 called.1) (c.in_ok-terms.ensures.classes called.0 called.1)
