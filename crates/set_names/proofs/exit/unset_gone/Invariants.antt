use Rattle.std.proofs.Common.{◌≡◌, ℕ, ◌&&◌, ◌||◌, false, not, get_or, take}
use Rattle.set_names.specs.Names.{is_in}
use Rattle.set_names.proofs.exit.unset_gone.Given as goal

abbrev pub invariant-each : goal.invariant-each
invariant-each l = (k : ℕ)
    → get_or l.flags k false ≡ (get_or l.fn.flags k false && (is_in l.sets.now k || not (is_in (take l.variable-index l.gone) k)))
