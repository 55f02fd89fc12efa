-- Names that break a rule, or none, by computing.
use Rattle.std.proofs.Common.{◌≡◌, [], ◌∷◌, refl}
use Rattle.std.specs.Prelude.{true, false, Some, None}
use Rattle.client_model.proofs.Texts.{at, calls, copy, faulty, first_in, free, int, new, of, on, param, procedure, static, void, w}
use Rattle.client_model.specs.Faults.{Duplicate, Unknown}
use Rattle.client_model.specs.Statements.{Declare, Assign, Do, If, While, none, ◌▸◌}

-- void p(Set s) { int s; } void main() { }
local_as_parameter : first_in (procedure void (w "p" 6) (param 8 (of "Set" 8) (w "s" 12) ∷ []) (Declare (at 17) int (w "s" 21) None ▸ none) 24 ∷
    procedure void (w "main" 31) [] none 40 ∷ []) 41 ≡ faulty Duplicate 21
local_as_parameter = refl

-- void main() { int n; while (?) { int n; } }
local_as_local : first_in (procedure void (w "main" 6) [] (Declare (at 15) int (w "n" 19) None ▸ While (at 22) (free 29) (Declare (at 34) int (w "n"
    38) None ▸ none) ▸ none) 43 ∷ []) 44 ≡ faulty Duplicate 38
local_as_local = refl

-- void main() { if (?) { int n; } else { int n; } int n; }
name_free_again : first_in (procedure void (w "main" 6) [] (If (at 15) (free 19) (Declare (at 24) int (w "n" 28) None ▸ none) (Declare (at 40) int (w
    "n" 44) None ▸ none) true ▸ Declare (at 49) int (w "n" 53) None ▸ none) 56 ∷ []) 57 ≡ None
name_free_again = refl

-- static Set s = new Set(); void main() { Iterator s = s.iterator(); s.next(); }
local_hides_static : first_in (static (of "Set" 8) (w "s" 12) (new 16 (w "Set" 20) []) ∷ procedure void (w "main" 32) [] (Declare (at 41) (of
    "Iterator" 41) (w "s" 50) (Some (on (w "s" 54) (w "iterator" 56) [])) ▸ Do (on (w "s" 68) (w "next" 70) []) ▸ none) 78 ∷ []) 79 ≡ None
local_hides_static = refl

-- void main() { Set s = t; }
no_variable_read : first_in (procedure void (w "main" 6) [] (Declare (at 15) (of "Set" 15) (w "s" 19) (Some (copy (w "t" 23))) ▸ none) 26 ∷ []) 27 ≡
    faulty Unknown 23
no_variable_read = refl

-- void main() { Set s = s; }
no_variable_yet : first_in (procedure void (w "main" 6) [] (Declare (at 15) (of "Set" 15) (w "s" 19) (Some (copy (w "s" 23))) ▸ none) 26 ∷ []) 27 ≡
    faulty Unknown 23
no_variable_yet = refl

-- void main() { s = new Set(); }
no_variable_set : first_in (procedure void (w "main" 6) [] (Assign (w "s" 15) (new 19 (w "Set" 23) []) ▸ none) 30 ∷ []) 31 ≡ faulty Unknown 15
no_variable_set = refl

-- void main() { if (?) { int n = 1; } n = 2; }
no_variable_left : first_in (procedure void (w "main" 6) [] (If (at 15) (free 19) (Declare (at 24) int (w "n" 28) (Some (copy (w "1" 32))) ▸ none)
    none false ▸ Assign (w "n" 37) (copy (w "2" 41)) ▸ none) 44 ∷ []) 45 ≡ faulty Unknown 37
no_variable_left = refl

-- void main() { Set s = new Foo(); }
no_class_made : first_in (procedure void (w "main" 6) [] (Declare (at 15) (of "Set" 15) (w "s" 19) (Some (new 23 (w "Foo" 27) [])) ▸ none) 34 ∷ []) 35
    ≡ faulty Unknown 27
no_class_made = refl

-- void main() { Foo f; }
no_class_declared : first_in (procedure void (w "main" 6) [] (Declare (at 15) (of "Foo" 15) (w "f" 19) None ▸ none) 22 ∷ []) 23 ≡ faulty Unknown 15
no_class_declared = refl

-- void main() { Set s = new Set(); s.next(); }
no_method : first_in (procedure void (w "main" 6) [] (Declare (at 15) (of "Set" 15) (w "s" 19) (Some (new 23 (w "Set" 27) [])) ▸ Do (on (w "s" 34) (w
    "next" 36) []) ▸ none) 44 ∷ []) 45 ≡ faulty Unknown 36
no_method = refl

-- void main() { Set s = new Set(); s.Set(); }
constructor_is_no_method : first_in (procedure void (w "main" 6) [] (Declare (at 15) (of "Set" 15) (w "s" 19) (Some (new 23 (w "Set" 27) [])) ▸ Do (on
    (w "s" 34) (w "Set" 36) []) ▸ none) 43 ∷ []) 44 ≡ faulty Unknown 36
constructor_is_no_method = refl

-- void main() { p(); }
no_procedure : first_in (procedure void (w "main" 6) [] (Do (calls (w "p" 15) []) ▸ none) 20 ∷ []) 21 ≡ faulty Unknown 15
no_procedure = refl
