-- Headers of clients that break a rule, or none, by computing.
use Rattle.std.proofs.Common.{◌≡◌, [], ◌∷◌, refl}
use Rattle.std.specs.Prelude.{None}
use Rattle.client_model.proofs.Texts.{copy, faulty, first_in, int, new, of, param, procedure, static, void, w}
use Rattle.client_model.specs.Faults.{Duplicate, Mismatch, Unknown}
use Rattle.client_model.specs.Statements.{none}

-- static int a = 1; static Set a = new Set(); void main() { }
second_static : first_in (static int (w "a" 12) (copy (w "1" 16)) ∷ static (of "Set" 26) (w "a" 30) (new 34 (w "Set" 38) []) ∷ procedure void (w
    "main" 50) [] none 59 ∷ []) 60 ≡ faulty Duplicate 30
second_static = refl

-- void p() { } int p() { } void main() { }
second_procedure : first_in (procedure void (w "p" 6) [] none 12 ∷ procedure int (w "p" 18) [] none 24 ∷ procedure void (w "main" 31) [] none 40 ∷ [])
    41 ≡ faulty Duplicate 18
second_procedure = refl

-- void p(Set s, int s) { } void main() { }
second_parameter : first_in (procedure void (w "p" 6) (param 8 (of "Set" 8) (w "s" 12) ∷ param 15 int (w "s" 19) ∷ []) none 24 ∷ procedure void (w
    "main" 31) [] none 40 ∷ []) 41 ≡ faulty Duplicate 19
second_parameter = refl

-- static int p = 1; void p() { } void main() { }
static_and_procedure : first_in (static int (w "p" 12) (copy (w "1" 16)) ∷ procedure void (w "p" 24) [] none 30 ∷ procedure void (w "main" 37) [] none
    46 ∷ []) 47 ≡ None
static_and_procedure = refl

-- static Foo a = 1; void main() { }
type_of_static : first_in (static (of "Foo" 8) (w "a" 12) (copy (w "1" 16)) ∷ procedure void (w "main" 24) [] none 33 ∷ []) 34 ≡ faulty Unknown 8
type_of_static = refl

-- Foo p() { } void main() { }
type_of_result : first_in (procedure (of "Foo" 1) (w "p" 5) [] none 11 ∷ procedure void (w "main" 18) [] none 27 ∷ []) 28 ≡ faulty Unknown 1
type_of_result = refl

-- void p(Foo x) { } void main() { }
type_of_parameter : first_in (procedure void (w "p" 6) (param 8 (of "Foo" 8) (w "x" 12) ∷ []) none 17 ∷ procedure void (w "main" 24) [] none 33 ∷ [])
    34 ≡ faulty Unknown 8
type_of_parameter = refl

-- void main(Set s) { }
main_takes : first_in (procedure void (w "main" 6) (param 11 (of "Set" 11) (w "s" 15) ∷ []) none 20 ∷ []) 21 ≡ faulty Mismatch 6
main_takes = refl

-- int main() { }
main_gives : first_in (procedure int (w "main" 5) [] none 14 ∷ []) 15 ≡ faulty Mismatch 5
main_gives = refl

-- void main() { } int main() { }
two_mains : first_in (procedure void (w "main" 6) [] none 15 ∷ procedure int (w "main" 21) [] none 30 ∷ []) 31 ≡ faulty Duplicate 21
two_mains = refl
