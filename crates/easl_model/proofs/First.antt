-- The first of some faults, and a tree in which none is found.
use Rattle.std.proofs.Common.{◌≡◌, Bool, true, false, List, [], ◌∷◌, refl}
use Rattle.std.specs.Option.{option_or}
use Rattle.std.specs.Prelude.{Option, Some, None, if◌then◌else◌}
use Rattle.easl_model.specs.{IsWellFormed, faults_of_bodies, faults_of_cycles, faults_of_headers, faults_of_lengths, first_fault, first_of}
use Rattle.easl_model.specs.{first_with}
use Rattle.easl_model.specs.Faults.{comes_before}
use Rattle.easl_model.specs.declared.fault.Fault.{Fault}
use Rattle.easl_model.specs.declared.tree.Spec.{Spec}

-- what was found is not lost
found_stays : (f : Fault) (faults : List Fault) → first_with comes_before (Some f) faults ≡ None → ⊥
found_stays f [] none = absurd cc
found_stays f (g ∷ faults) none = by (comes_before g f) none (λ h. found_stays h faults)
  where
    by : (b : Bool) → first_with comes_before (if b then Some g else Some f) faults ≡ None → ((h : Fault) → first_with comes_before (Some h) faults ≡ None → ⊥) → ⊥
    by true is stays = stays g is
    by false is stays = stays f is

pub none_found : (faults : List Fault) → first_of faults ≡ None → faults ≡ []
none_found [] none = refl
none_found (f ∷ faults) none = absurd (found_stays f faults none)

-- the first of two passes
pub none_of_passes : (first second : Option Fault) → option_or first second ≡ None → (first ≡ None) × (second ≡ None)
none_of_passes None second none = (refl, none)
none_of_passes (Some f) second none = absurd cc

-- a tree in which no fault is found is well-formed
pub well_formed : (spec : Spec) → first_fault spec ≡ None → IsWellFormed spec
well_formed spec none =
    let bodies = first_of (faults_of_bodies spec) in
    let cycles = first_of (faults_of_cycles spec) in
    let lengths = first_of (faults_of_lengths spec) in
    let a = none_of_passes (first_of (faults_of_headers spec)) (option_or bodies (option_or cycles lengths)) none in
    let b = none_of_passes bodies (option_or cycles lengths) a.1 in
    let c = none_of_passes cycles lengths b.1 in
    record {
      headers = none_found (faults_of_headers spec) a.0;
      bodies = none_found (faults_of_bodies spec) b.0;
      cycles = none_found (faults_of_cycles spec) c.0;
      lengths = none_found (faults_of_lengths spec) c.1;
    }
