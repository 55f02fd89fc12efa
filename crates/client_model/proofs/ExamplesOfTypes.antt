-- Types that break a rule, by computing.
use Rattle.std.proofs.Common.{◌≡◌, [], ◌∷◌, refl}
use Rattle.std.specs.Prelude.{false, Some}
use Rattle.client_model.proofs.Texts.{asks, at, calls, copy, faulty, first_in, gives, int, new, of, on, param, procedure, static, void, w}
use Rattle.client_model.specs.Faults.{Mismatch}
use Rattle.client_model.specs.Statements.{Declare, Assign, Do, If, While, none, ◌▸◌}

-- void main() { Set s = 1; }
value : first_in (procedure void (w "main" 6) [] (Declare (at 15) (of "Set" 15) (w "s" 19) (Some (copy (w "1" 23))) ▸ none) 26 ∷ []) 27 ≡ faulty
    Mismatch 23
value = refl

-- static int n = 1; void main() { n = new Set(); }
assigned_value : first_in (static int (w "n" 12) (copy (w "1" 16)) ∷ procedure void (w "main" 24) [] (Assign (w "n" 33) (new 37 (w "Set" 41) []) ▸
    none) 48 ∷ []) 49 ≡ faulty Mismatch 37
assigned_value = refl

-- static Iterator i = new Set(); void main() { }
initial_value : first_in (static (of "Iterator" 8) (w "i" 17) (new 21 (w "Set" 25) []) ∷ procedure void (w "main" 37) [] none 46 ∷ []) 47 ≡ faulty
    Mismatch 21
initial_value = refl

-- void p(Set s, int n) { } void main() { Set s = new Set(); p(s, s); }
argument : first_in (procedure void (w "p" 6) (param 8 (of "Set" 8) (w "s" 12) ∷ param 15 int (w "n" 19) ∷ []) none 24 ∷ procedure void (w "main" 31)
    [] (Declare (at 40) (of "Set" 40) (w "s" 44) (Some (new 48 (w "Set" 52) [])) ▸ Do (calls (w "p" 59) ((w "s" 61) ∷ (w "s" 64) ∷ [])) ▸ none) 68 ∷ [])
    69 ≡ faulty Mismatch 64
argument = refl

-- void main() { Iterator i = new Iterator("s"); }
argument_of_new : first_in (procedure void (w "main" 6) [] (Declare (at 15) (of "Iterator" 15) (w "i" 24) (Some (new 28 (w "Iterator" 32) ((w "\"s\""
    41) ∷ []))) ▸ none) 47 ∷ []) 48 ≡ faulty Mismatch 41
argument_of_new = refl

-- void main() { Set s = new Set(); s.add(s); }
argument_of_method : first_in (procedure void (w "main" 6) [] (Declare (at 15) (of "Set" 15) (w "s" 19) (Some (new 23 (w "Set" 27) [])) ▸ Do (on (w
    "s" 34) (w "add" 36) ((w "s" 40) ∷ [])) ▸ none) 44 ∷ []) 45 ≡ faulty Mismatch 40
argument_of_method = refl

-- Set p() { return 1; } void main() { }
returned : first_in (procedure (of "Set" 1) (w "p" 5) [] (gives 11 (w "1" 18) ▸ none) 21 ∷ procedure void (w "main" 28) [] none 37 ∷ []) 38 ≡ faulty
    Mismatch 18
returned = refl

-- void main() { Set s = new Set(1); }
too_many : first_in (procedure void (w "main" 6) [] (Declare (at 15) (of "Set" 15) (w "s" 19) (Some (new 23 (w "Set" 27) ((w "1" 31) ∷ []))) ▸ none)
    35 ∷ []) 36 ≡ faulty Mismatch 23
too_many = refl

-- void main() { Set s = new Set(); s.add(); }
too_few : first_in (procedure void (w "main" 6) [] (Declare (at 15) (of "Set" 15) (w "s" 19) (Some (new 23 (w "Set" 27) [])) ▸ Do (on (w "s" 34) (w
    "add" 36) []) ▸ none) 43 ∷ []) 44 ≡ faulty Mismatch 34
too_few = refl

-- void p(Set s) { } void main() { p(); }
too_few_taken : first_in (procedure void (w "p" 6) (param 8 (of "Set" 8) (w "s" 12) ∷ []) none 17 ∷ procedure void (w "main" 24) [] (Do (calls (w "p"
    33) []) ▸ none) 38 ∷ []) 39 ≡ faulty Mismatch 33
too_few_taken = refl

-- void main() { int n = 1; n.add(n); }
opaque_receiver : first_in (procedure void (w "main" 6) [] (Declare (at 15) int (w "n" 19) (Some (copy (w "1" 23))) ▸ Do (on (w "n" 26) (w "add" 28)
    ((w "n" 32) ∷ [])) ▸ none) 36 ∷ []) 37 ≡ faulty Mismatch 26
opaque_receiver = refl

-- void p() { } void main() { int n = p(); }
nothing_given : first_in (procedure void (w "p" 6) [] none 12 ∷ procedure void (w "main" 19) [] (Declare (at 28) int (w "n" 32) (Some (calls (w "p"
    36) [])) ▸ none) 41 ∷ []) 42 ≡ faulty Mismatch 36
nothing_given = refl

-- void main() { Set s = new Set(); int n = s.add(1); }
nothing_given_by_method : first_in (procedure void (w "main" 6) [] (Declare (at 15) (of "Set" 15) (w "s" 19) (Some (new 23 (w "Set" 27) [])) ▸ Declare
    (at 34) int (w "n" 38) (Some (on (w "s" 42) (w "add" 44) ((w "1" 48) ∷ []))) ▸ none) 52 ∷ []) 53 ≡ faulty Mismatch 42
nothing_given_by_method = refl

-- void main() { Set s = new Set(); if (s.iterator()) { } }
test_of_a_class : first_in (procedure void (w "main" 6) [] (Declare (at 15) (of "Set" 15) (w "s" 19) (Some (new 23 (w "Set" 27) [])) ▸ If (at 34)
    (asks (w "s" 38) (w "iterator" 40) []) none none false ▸ none) 56 ∷ []) 57 ≡ faulty Mismatch 38
test_of_a_class = refl

-- void main() { Set s = new Set(); while (s.add(1)) { } }
test_of_nothing : first_in (procedure void (w "main" 6) [] (Declare (at 15) (of "Set" 15) (w "s" 19) (Some (new 23 (w "Set" 27) [])) ▸ While (at 34)
    (asks (w "s" 41) (w "add" 43) ((w "1" 47) ∷ [])) none ▸ none) 55 ∷ []) 56 ≡ faulty Mismatch 41
test_of_nothing = refl

-- void p() { return 1; } void main() { }
returned_to_none : first_in (procedure void (w "p" 6) [] (gives 12 (w "1" 19) ▸ none) 22 ∷ procedure void (w "main" 29) [] none 38 ∷ []) 39 ≡ faulty
    Mismatch 12
returned_to_none = refl
