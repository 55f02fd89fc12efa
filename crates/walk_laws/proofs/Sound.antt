-- A sound setting meets the premises of the laws on walks.
use Rattle.std.proofs.Common.{ℕ, [], length, arith, inl, refl}
use Rattle.std.proofs.lemmas.List.{length-replicate}
use Rattle.client_facts.specs.Names.{IsNameAt, no_slots, object_named}
use Rattle.client_facts.specs.Setting.{Setting}
use Rattle.client_facts.specs.States.{IsObject, IsState}
use Rattle.client_model.specs.Codes.{Name, Result, Slot, Static, Variable, name_of}
use Rattle.client_steps.specs.States.{at_first, variable_count}
use Rattle.walk_laws.specs.Points.{SoundFits}
use Rattle.walk_laws.specs.Premises.{MayBeUnset}
use Rattle.walk_laws.proofs.Calling.{steps_are_exact}
use Rattle.walk_laws.proofs.ClauseFacts.{clauses_fit}

-- before the first initialiser there are slots alone, and none has an object
first_state : (g : Setting) → ((class code : ℕ) → IsNameAt g 0 0 class code → MayBeUnset (name_of code)) → IsState g 0 0 (at_first g.client) no_slots
first_state g unset = record {
  full = λ k d within. absurd (omega (arith, within));
  statics = length-replicate (length g.client.statics) 0;
  variables = length-replicate (variable_count g.client 0) 0;
  objects = λ class code named. no_object class (name_of code) (unset class code named);
}
  where
    no_object : (class : ℕ) (x : Name) → MayBeUnset x → IsObject [] class (object_named (at_first g.client) no_slots class x) x
    no_object class (Static k) may = absurd may
    no_object class (Variable j) may = absurd may
    no_object class (Slot j) may = inl refl
    no_object class (Result j) may = absurd may

pub sound_fits : SoundFits
sound_fits g sound = record {
  steps = steps_are_exact g sound;
  calls = sound.points.calls;
  clauses = clauses_fit g sound.exact sound.points;
  few = λ k f within. (sound.exact.fit k f within).few;
  some = λ k f within. (sound.exact.fit k f within).some;
  unset = sound.points.unset;
  first = first_state g sound.points.unset;
}
