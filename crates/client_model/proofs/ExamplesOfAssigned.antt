-- Clients that break a rule on what is assigned or returned, or none, by computing.
use Rattle.std.proofs.Common.{◌≡◌, [], ◌∷◌, refl}
use Rattle.std.specs.Prelude.{true, false, None}
use Rattle.client_model.proofs.Texts.{at, copy, faulty, first_in, free, gives, int, new, of, on, param, procedure, returns, static, void, w}
use Rattle.client_model.specs.Faults.{NoReturn, Unreachable, Unset}
use Rattle.client_model.specs.Statements.{Declare, Assign, Do, If, While, Break, none, ◌▸◌}

-- void main() { Set s; s.add(1); }
never_set : first_in (procedure void (w "main" 6) [] (Declare (at 15) (of "Set" 15) (w "s" 19) None ▸ Do (on (w "s" 22) (w "add" 24) ((w "1" 28) ∷
    [])) ▸ none) 32 ∷ []) 33 ≡ faulty Unset 22
never_set = refl

-- static Set a = b; static Set b = new Set(); void main() { }
static_later : first_in (static (of "Set" 8) (w "a" 12) (copy (w "b" 16)) ∷ static (of "Set" 26) (w "b" 30) (new 34 (w "Set" 38) []) ∷ procedure void
    (w "main" 50) [] none 59 ∷ []) 60 ≡ faulty Unset 16
static_later = refl

-- static int n = n; void main() { }
static_itself : first_in (static int (w "n" 12) (copy (w "n" 16)) ∷ procedure void (w "main" 24) [] none 33 ∷ []) 34 ≡ faulty Unset 16
static_itself = refl

-- void main() { Set s; if (?) { s = new Set(); } s.add(1); }
set_in_one_block : first_in (procedure void (w "main" 6) [] (Declare (at 15) (of "Set" 15) (w "s" 19) None ▸ If (at 22) (free 26) (Assign (w "s" 31)
    (new 35 (w "Set" 39) []) ▸ none) none false ▸ Do (on (w "s" 48) (w "add" 50) ((w "1" 54) ∷ [])) ▸ none) 58 ∷ []) 59 ≡ faulty Unset 48
set_in_one_block = refl

-- void main() { Set s; if (?) { s = new Set(); } else { s = new Set(); } s.add(1); }
set_in_both_blocks : first_in (procedure void (w "main" 6) [] (Declare (at 15) (of "Set" 15) (w "s" 19) None ▸ If (at 22) (free 26) (Assign (w "s" 31)
    (new 35 (w "Set" 39) []) ▸ none) (Assign (w "s" 55) (new 59 (w "Set" 63) []) ▸ none) true ▸ Do (on (w "s" 72) (w "add" 74) ((w "1" 78) ∷ [])) ▸ none)
    82 ∷ []) 83 ≡ None
set_in_both_blocks = refl

-- void main() { Set s; if (?) { return; } else { s = new Set(); } s.add(1); }
set_where_it_goes_on : first_in (procedure void (w "main" 6) [] (Declare (at 15) (of "Set" 15) (w "s" 19) None ▸ If (at 22) (free 26) (returns 31 ▸
    none) (Assign (w "s" 48) (new 52 (w "Set" 56) []) ▸ none) true ▸ Do (on (w "s" 65) (w "add" 67) ((w "1" 71) ∷ [])) ▸ none) 75 ∷ []) 76 ≡ None
set_where_it_goes_on = refl

-- void main() { Set s; while (?) { s = new Set(); break; } s.add(1); }
set_in_a_loop : first_in (procedure void (w "main" 6) [] (Declare (at 15) (of "Set" 15) (w "s" 19) None ▸ While (at 22) (free 29) (Assign (w "s" 34)
    (new 38 (w "Set" 42) []) ▸ Break (at 49) ▸ none) ▸ Do (on (w "s" 58) (w "add" 60) ((w "1" 64) ∷ [])) ▸ none) 68 ∷ []) 69 ≡ faulty Unset 58
set_in_a_loop = refl

-- void main() { Set s; return; s.add(1); }
set_behind_return : first_in (procedure void (w "main" 6) [] (Declare (at 15) (of "Set" 15) (w "s" 19) None ▸ returns 22 ▸ Do (on (w "s" 30) (w "add"
    32) ((w "1" 36) ∷ [])) ▸ none) 40 ∷ []) 41 ≡ faulty Unset 30
set_behind_return = refl

-- void main() { Set s; if (?) { return; } else { return; } s.add(1); }
no_way_on : first_in (procedure void (w "main" 6) [] (Declare (at 15) (of "Set" 15) (w "s" 19) None ▸ If (at 22) (free 26) (returns 31 ▸ none)
    (returns 48 ▸ none) true ▸ Do (on (w "s" 58) (w "add" 60) ((w "1" 64) ∷ [])) ▸ none) 68 ∷ []) 69 ≡ faulty Unreachable 58
no_way_on = refl

-- Set p() { return; } void main() { }
return_alone : first_in (procedure (of "Set" 1) (w "p" 5) [] (returns 11 ▸ none) 19 ∷ procedure void (w "main" 26) [] none 35 ∷ []) 36 ≡ faulty
    NoReturn 11
return_alone = refl

-- int p() { } void main() { }
empty_with_result : first_in (procedure int (w "p" 5) [] none 11 ∷ procedure void (w "main" 18) [] none 27 ∷ []) 28 ≡ faulty NoReturn 11
empty_with_result = refl

-- Set p(Set s) { if (?) { return s; } } void main() { }
ends_going_on : first_in (procedure (of "Set" 1) (w "p" 5) (param 7 (of "Set" 7) (w "s" 11) ∷ []) (If (at 16) (free 20) (gives 25 (w "s" 32) ▸ none)
    none false ▸ none) 37 ∷ procedure void (w "main" 44) [] none 53 ∷ []) 54 ≡ faulty NoReturn 37
ends_going_on = refl
