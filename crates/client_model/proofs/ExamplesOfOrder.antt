-- Clients that break a rule on what goes on, or none, and which fault is the first, by computing.
use Rattle.std.proofs.Common.{◌≡◌, [], ◌∷◌, refl}
use Rattle.std.specs.Prelude.{true, false, None}
use Rattle.client_model.proofs.Texts.{at, calls, faulty, first_in, free, gives, int, of, param, procedure, returns, void, w}
use Rattle.client_model.specs.Faults.{NoMain, NoReturn, OutsideLoop, Unknown, Unreachable}
use Rattle.client_model.specs.Statements.{Declare, Do, If, While, Break, Continue, none, ◌▸◌}

-- Set p(Set s) { if (?) { return s; } else { return s; } } void main() { }
both_return : first_in (procedure (of "Set" 1) (w "p" 5) (param 7 (of "Set" 7) (w "s" 11) ∷ []) (If (at 16) (free 20) (gives 25 (w "s" 32) ▸ none)
    (gives 44 (w "s" 51) ▸ none) true ▸ none) 56 ∷ procedure void (w "main" 63) [] none 72 ∷ []) 73 ≡ None
both_return = refl

-- Set p(Set s) { while (?) { return s; } } void main() { }
loop_goes_on : first_in (procedure (of "Set" 1) (w "p" 5) (param 7 (of "Set" 7) (w "s" 11) ∷ []) (While (at 16) (free 23) (gives 28 (w "s" 35) ▸ none)
    ▸ none) 40 ∷ procedure void (w "main" 47) [] none 56 ∷ []) 57 ≡ faulty NoReturn 40
loop_goes_on = refl

-- void main() { return; main(); }
behind_return : first_in (procedure void (w "main" 6) [] (returns 15 ▸ Do (calls (w "main" 23) []) ▸ none) 31 ∷ []) 32 ≡ faulty Unreachable 23
behind_return = refl

-- void main() { while (?) { continue; int n; } }
behind_continue : first_in (procedure void (w "main" 6) [] (While (at 15) (free 22) (Continue (at 27) ▸ Declare (at 37) int (w "n" 41) None ▸ none) ▸
    none) 46 ∷ []) 47 ≡ faulty Unreachable 37
behind_continue = refl

-- void main() { break; }
break_alone : first_in (procedure void (w "main" 6) [] (Break (at 15) ▸ none) 22 ∷ []) 23 ≡ faulty OutsideLoop 15
break_alone = refl

-- void main() { while (?) { } if (?) { continue; } }
continue_behind_loop : first_in (procedure void (w "main" 6) [] (While (at 15) (free 22) none ▸ If (at 29) (free 33) (Continue (at 38) ▸ none) none
    false ▸ none) 50 ∷ []) 51 ≡ faulty OutsideLoop 38
continue_behind_loop = refl

-- void p() { }
no_main : first_in (procedure void (w "p" 6) [] none 12 ∷ []) 13 ≡ faulty NoMain 13
no_main = refl

-- the empty text
empty_text : first_in [] 1 ≡ faulty NoMain 1
empty_text = refl

-- void main() { break; } void p(Foo x) { }
headers_first : first_in (procedure void (w "main" 6) [] (Break (at 15) ▸ none) 22 ∷ procedure void (w "p" 29) (param 31 (of "Foo" 31) (w "x" 35) ∷
    []) none 40 ∷ []) 41 ≡ faulty Unknown 31
headers_first = refl

-- void p() { break; }
bodies_before_main : first_in (procedure void (w "p" 6) [] (Break (at 12) ▸ none) 19 ∷ []) 20 ≡ faulty OutsideLoop 12
bodies_before_main = refl

-- void main() { break; p(); }
place_before_number : first_in (procedure void (w "main" 6) [] (Break (at 15) ▸ Do (calls (w "p" 22) []) ▸ none) 27 ∷ []) 28 ≡ faulty OutsideLoop 15
place_before_number = refl

-- void main() { return; p(); }
number_at_one_place : first_in (procedure void (w "main" 6) [] (returns 15 ▸ Do (calls (w "p" 23) []) ▸ none) 28 ∷ []) 29 ≡ faulty Unknown 23
number_at_one_place = refl
