use Rattle.std.proofs.Common.{sym, subst}
use Rattle.std.specs.Str.{IsValidUpTo}
use Rattle.cv_lex.proofs.Decoding.{not_utf8}
use Rattle.cv_lex.proofs.scan.decoded.Goals as goal

pub returns-in_ok-end-in-Err-clause-refused : goal.returns-in_ok-end-in-Err-clause-refused
returns-in_ok-end-in-Err-clause-refused c =
    let text = c.args.text.now in
    not_utf8 text c.valid_up_to.result c.in_ok-end-in-Err.end (subst (IsValidUpTo text) (sym c.valid_up_to.ensures) c.in-Err.ensures.cases.1) c.in_ok-end-in-Err.ensures
