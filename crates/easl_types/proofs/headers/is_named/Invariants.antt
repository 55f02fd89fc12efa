use Rattle.std.proofs.Common.{◌≡◌, drop}
use Rattle.std.specs.List.{list_any}
use Rattle.easl_model.specs.{is_same}
use Rattle.easl_types.proofs.headers.is_named.Given as goal

abbrev pub invariant-each : goal.invariant-each
invariant-each l =
    list_any (λ w. is_same w.name l.name) (drop l.word-index l.words)
    ≡ list_any (λ w. is_same w.name l.name) l.words
