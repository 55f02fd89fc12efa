use Rattle.std.proofs.Common.{◌≡◌, ℕ, length, take}
use Rattle.std.specs.Prelude.{◌||◌}
use Rattle.client_bodies.specs.Walking.{AreWithin, is_one_of}
use Rattle.set_names.specs.Names.{is_assigned}
use Rattle.client_bodies.proofs.blocks.set_all.Given as goal

abbrev pub invariant-each : goal.invariant-each
invariant-each l = record {
  assigned : AreWithin l.fn.names.variables l.numbers
      → (code : ℕ) → is_assigned l.names code ≡ (is_assigned l.fn.names code || is_one_of (take l.number-index l.numbers) code);
  grows : take (length l.fn.names.trail) l.names.trail ≡ l.fn.names.trail;
  others : l.names ≡ record l.fn.names { trail = l.names.trail };
}
