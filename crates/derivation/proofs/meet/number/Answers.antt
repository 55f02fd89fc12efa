use Rattle.std.proofs.Common.{[], ◌∷◌, sym, subst}
use Rattle.derivation.specs.Closing.{AreTooMany}
use Rattle.derivation.specs.Meeting.{IsFull}
use Rattle.derivation.proofs.Meeting.{full_so, too_many}
use Rattle.derivation.proofs.meet.number.Goals as goal

pub returns-in-Err : goal.returns-in-Err
returns-in-Err c =
    subst (λ p. IsFull (AreTooMany c.args.families.now.items (p ∷ [])) c.in-Err.fault) (sym c.in-Of.is)
    (full_so _ _ c.in-Err.fault (λ so. too_many c.args.families.now.items c.in-Of.instance so.0 so.1) c.in-Err.ensures)
