-- What a sink takes, piece after piece.
use Rattle.std.proofs.Common.{ℕ, List, ◌++◌, Option, Some, None, ◌∙◌, ap, append_assoc, subst}
use Rattle.cv_base.specs.Causes.{Appends}

-- two pieces taken one after another are taken as one
pub appended : (old mid new : Option (List ℕ)) (front back : List ℕ) → Appends old mid front → Appends mid new back → Appends old new (front ++ back)
appended None mid new front back first second = tt
appended (Some taken) mid new front back first second =
    let rest : Appends (Some (taken ++ front)) new back = subst (λ (m : Option (List ℕ)). Appends m new back) first second in
    rest ∙ ap Some (append_assoc taken front back)
