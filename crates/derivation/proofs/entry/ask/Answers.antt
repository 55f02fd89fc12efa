use Rattle.std.proofs.Common.{sym, subst}
use Rattle.derivation.specs.Closing.{Comes}
use Rattle.derivation.specs.Rounds.{IsQuestion}
use Rattle.derivation.proofs.Rounds.{update_comes}
use Rattle.derivation.proofs.entry.ask.Goals as goal

pub returns-in-Update : goal.returns-in-Update
returns-in-Update c =
    subst (λ q. Comes c.args.spec.now c.args.families.now q c.ask_update.result) (sym c.in-Update.is)
    (update_comes c.args.spec.now c.args.families.now c.in-Update.method c.in-Update.results c.in-Update.family c.index-families-family.result
    c.ask_update.result (subst (IsQuestion c.args.spec.now c.args.families.now) c.in-Update.is c.requires) c.index-families-family.is c.ask_update.ensures)
