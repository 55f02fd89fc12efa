-- The points, ways, sets and calls of small clients, by computing.
use Rattle.std.proofs.Common.{◌≡◌, [], ◌∷◌, refl}
use Rattle.std.specs.Prelude.{true, false, Some, None, codes, map}
use Rattle.client_model.specs.declared.form.Point.TheVariants as point
use Rattle.client_model.proofs.Texts.{asks, at, calls, copy, free, gives, int, new, of, on, param, procedure, returns, static, void, w, small}
use Rattle.client_model.specs.CheckedForm.{form_of, start_form}
use Rattle.client_model.specs.Nodes.{Step, If, While, Break, Continue, Return, end, ◌▹◌}
use Rattle.client_model.specs.Rules.{IsWellFormed}
use Rattle.client_model.specs.Statements.{Declare, Assign, Do, none, ◌▸◌}
use Rattle.client_model.specs.Trees.{Client}
use Rattle.client_model.specs.Statements as written
use Rattle.client_model.specs.Ways.{next_of}

-- static Set s = new Set(); Set p(Set a, int n) { Set b; while (?) { Iterator i = a.iterator(); if (i.hasNext()) { b = a; break; } else {
-- continue; } } if (?) { return a; } b = s; return b; } void main() { Set t = p(s, 1); t.add("x"); }
abbrev looping : Client
looping = record {
  items = (static (of "Set" 8) (w "s" 12) (new 16 (w "Set" 20) []) ∷ procedure (of "Set" 27) (w "p" 31) (param 33 (of "Set" 33) (w
      "a" 37) ∷ param 40 int (w "n" 44) ∷ []) (Declare (at 49) (of "Set" 49) (w "b" 53) None ▸ written.While (at 56) (free 63) (Declare (at 68)
      (of "Iterator" 68)
      (w "i" 77) (Some (on (w "a" 81) (w "iterator" 83) [])) ▸ written.If (at 95) (asks (w "i" 99) (w "hasNext" 101) []) (Assign (w "b" 114) (copy
      (w "a" 118)) ▸
      written.Break (at 121) ▸ none) (written.Continue (at 137) ▸ none) true ▸ none) ▸ written.If (at 151) (free 155) (gives 160
      (w "a" 167) ▸ none) none false ▸ Assign (w "b" 172)
      (copy (w "s" 176)) ▸ gives 179 (w "b" 186) ▸ none) 189 ∷ procedure void (w "main" 196) [] (Declare (at 205) (of "Set" 205) (w "t" 209) (Some (calls (w
      "p" 213) ((w "s" 215) ∷ (w "1" 218) ∷ []))) ▸ Do (on (w "t" 222) (w "add" 224) ((w "\"x\"" 228) ∷ [])) ▸ none) 234 ∷ []);
  end = at 235;
}

-- in p: 0 is `Set b;`, 1 the `while`, 2 `Iterator i`, 3 the `if`, 4 `b = a`, 5 `break`, 6 `continue`, 7 the second `if`, 8 `return a`,
-- 9 `b = s` and 10 `return b`; s has the code 0, a has 1, n has 5, b has 9, i has 13, and the result 3
looping_form : form_of small looping ≡ record {
  statics = Some 0 ∷ [];
  procedures =
      record {
        name = codes "start";
        params = [];
        result = None;
        variables = [];
        points = point.Component (Some 0) 0 ∷ point.Call None 2 [] (at 196) ∷ [];
        shape = Step 0 ▹ Step 1 ▹ end;
        set = [] ∷ (0 ∷ []) ∷ (0 ∷ []) ∷ [];
      }
      ∷ record {
        name = codes "p";
        params = Some 0 ∷ None ∷ [];
        result = Some 0;
        variables = Some 0 ∷ None ∷ Some 0 ∷ Some 1 ∷ [];
        points =
            point.Nothing
            ∷ point.Branch None
            ∷ point.Component (Some 13) 1
            ∷ point.Branch (Some 2)
            ∷ point.Copy (Some 9) (Some 1)
            ∷ point.Nothing
            ∷ point.Nothing
            ∷ point.Branch None
            ∷ point.Copy (Some 3) (Some 1)
            ∷ point.Copy (Some 9) (Some 0)
            ∷ point.Copy (Some 3) (Some 9)
            ∷ [];
        shape =
            Step 0
            ▹ While 1 (Step 2 ▹ If 3 (Step 4 ▹ Break 5 ▹ end) (Continue 6 ▹ end) ▹ end)
            ▹ If 7 (Return 8 ▹ end) end
            ▹ Step 9
            ▹ Return 10
            ▹ end;
        set =
            (0 ∷ 1 ∷ 5 ∷ [])
            ∷ (0 ∷ 1 ∷ 5 ∷ [])
            ∷ (0 ∷ 1 ∷ 5 ∷ [])
            ∷ (0 ∷ 1 ∷ 5 ∷ 13 ∷ [])
            ∷ (0 ∷ 1 ∷ 5 ∷ 13 ∷ [])
            ∷ (0 ∷ 1 ∷ 5 ∷ 9 ∷ 13 ∷ [])
            ∷ (0 ∷ 1 ∷ 5 ∷ 13 ∷ [])
            ∷ (0 ∷ 1 ∷ 5 ∷ [])
            ∷ (0 ∷ 1 ∷ 5 ∷ [])
            ∷ (0 ∷ 1 ∷ 5 ∷ [])
            ∷ (0 ∷ 1 ∷ 5 ∷ 9 ∷ [])
            ∷ (0 ∷ 1 ∷ 5 ∷ [])
            ∷ [];
      }
      ∷ record {
        name = codes "main";
        params = [];
        result = None;
        variables = Some 0 ∷ [];
        points = point.Call (Some 1) 1 (Some 0 ∷ None ∷ []) (at 213) ∷ point.Component None 3 ∷ [];
        shape = Step 0 ▹ Step 1 ▹ end;
        set = (0 ∷ []) ∷ (0 ∷ 1 ∷ []) ∷ (0 ∷ 1 ∷ []) ∷ [];
      }
      ∷ [];
  calls =
      record { procedure = 0; point = 0; method = 0; args = []; place = at 16 }
      ∷ record { procedure = 1; point = 2; method = 2; args = Some 1 ∷ []; place = at 81 }
      ∷ record { procedure = 1; point = 3; method = 4; args = Some 13 ∷ []; place = at 99 }
      ∷ record { procedure = 2; point = 1; method = 1; args = Some 1 ∷ None ∷ []; place = at 222 }
      ∷ [];
}
looping_form = refl

-- where p's points go on, the exit being 11
looping_ways : next_of 11 (Step 0 ▹ While 1 (Step 2 ▹ If 3 (Step 4 ▹ Break 5 ▹ end) (Continue 6 ▹ end) ▹ end) ▹ If 7
    (Return 8 ▹ end) end ▹ Step 9 ▹ Return 10 ▹ end)
    ≡ (1, 1) ∷ (2, 7) ∷ (3, 3) ∷ (4, 6) ∷ (5, 5) ∷ (7, 7) ∷ (1, 1) ∷ (8, 9) ∷ (11, 11) ∷ (10, 10) ∷ (11, 11) ∷ []
looping_ways = refl

looping_is_well_formed : IsWellFormed small looping
looping_is_well_formed = record { headers = refl; bodies = refl; main = refl }

-- static Set a = new Set(); void main() { a.add(1); } static Set b = new Set();
abbrev interleaved : Client
interleaved = record {
  items = (static (of "Set" 8) (w "a" 12) (new 16 (w "Set" 20) []) ∷ procedure void (w "main" 32) [] (Do (on (w "a" 41) (w "add"
      43) ((w "1" 47) ∷ [])) ▸ none) 51 ∷ static (of "Set" 60) (w "b" 64) (new 68 (w "Set" 72) []) ∷ []);
  end = at 78;
}

-- calls are numbered in text order over all items, and the start holds the initialisers
interleaved_calls : (form_of small interleaved).calls
    ≡ record { procedure = 0; point = 0; method = 0; args = []; place = at 16 }
    ∷ record { procedure = 1; point = 0; method = 1; args = Some 0 ∷ None ∷ []; place = at 41 }
    ∷ record { procedure = 0; point = 1; method = 0; args = []; place = at 68 }
    ∷ []
interleaved_calls = refl

interleaved_start : start_form small interleaved ≡ record {
  name = codes "start";
  params = [];
  result = None;
  variables = [];
  points = point.Component (Some 0) 0 ∷ point.Component (Some 4) 2 ∷ point.Call None 1 [] (at 32) ∷ [];
  shape = Step 0 ▹ Step 1 ▹ Step 2 ▹ end;
  set = [] ∷ (0 ∷ []) ∷ (0 ∷ 4 ∷ []) ∷ (0 ∷ 4 ∷ []) ∷ [];
}
interleaved_start = refl

-- void main() { if (?) { Set s = new Set(); } else { return; } int n = 1; n = 2; }
abbrev out_of_scope : Client
out_of_scope = record {
  items = (procedure void (w "main" 6) [] (written.If (at 15) (free 19) (Declare (at 24) (of "Set" 24) (w "s" 28) (Some (new 32 (w "Set"
      36) [])) ▸ none) (returns 52 ▸ none) true ▸ Declare (at 62) int (w "n" 66) (Some (copy (w "1" 70))) ▸ Assign (w "n" 73) (copy (w "2" 77)) ▸ none) 80 ∷
      []);
  end = at 81;
}

-- s is surely assigned behind the `if`, since the other block does not go on; at the exit it is not, since it is not at the `return`
out_of_scope_sets : map (λ p. p.set) (form_of small out_of_scope).procedures ≡ ([] ∷ [] ∷ []) ∷ ([] ∷ [] ∷ [] ∷ (1 ∷ []) ∷ (1 ∷ 5 ∷ []) ∷ [] ∷ []) ∷ []
out_of_scope_sets = refl

-- void main() { while (?) { } while (?) { if (?) { } else { while (?) { break; } } } }
abbrev nested : Client
nested = record {
  items = (procedure void (w "main" 6) [] (written.While (at 15) (free 22) none ▸ written.While (at 29) (free 36) (written.If (at 41) (free 45) none
      (written.While
      (at 59) (free 66) (written.Break (at 71) ▸ none) ▸ none) true ▸ none) ▸ none) 84 ∷ []);
  end = at 85;
}

nested_shapes : map (λ p. p.shape) (form_of small nested).procedures
    ≡ (Step 0 ▹ end)
    ∷ (While 0 end ▹ While 1 (If 2 end (While 3 (Break 4 ▹ end) ▹ end) ▹ end) ▹ end)
    ∷ []
nested_shapes = refl

-- an empty block of a `while` is followed by the `while` itself
nested_ways : next_of 5 (While 0 end ▹ While 1 (If 2 end (While 3 (Break 4 ▹ end) ▹ end) ▹ end) ▹ end) ≡ (0, 1) ∷ (2, 5) ∷ (1, 3) ∷ (4, 1) ∷ (1, 1) ∷ []
nested_ways = refl
