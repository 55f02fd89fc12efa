-- A recursion that fails, its run constructed by the rules.
use Rattle.std.proofs.Common.{◌≡◌, ℕ, true, false, List, [], ◌∷◌, length, refl, sym, ap, ◌∙◌}
use Rattle.std.specs.Prelude.{Option, Some, None, codes, not}
use Rattle.std.specs.List.{position_from}
use Rattle.client_model.proofs.Texts.{at, calls, free, gives, method, new, of, on, param, procedure, static, void, w}
use Rattle.client_model.specs.CheckedForm.{form_of}
use Rattle.client_model.specs.Statements.{Assign, Declare, Do, none, ◌▸◌}
use Rattle.client_model.specs.Trees.{Client}
use Rattle.client_model.specs.Statements as written
use Rattle.client_steps.proofs.Alike.{fails_on_taken}
use Rattle.client_steps.specs.Deeds.{answered}
use Rattle.client_steps.specs.Runs.{Fails, IsRun, IsSafe, Leaves, Moment, Stopped, branches, charged, passing, enters, goes_on, leaves, no_more, on_false}
use Rattle.client_steps.specs.Runs.{on_true, plain, row, step}
use Rattle.client_steps.specs.Runs as runs
use Rattle.client_steps.specs.States.{State}
use Rattle.easl_heap.specs.Clause.{holds, requires_of}
use Rattle.easl_heap.specs.Heap.{Object}
use Rattle.easl_model.specs.Conditions.{Condition, Same, condition_of, rooted}
use Rattle.easl_model.specs.Form.{Form}
use Rattle.easl_model.specs.declared.form.Reach.{Reach}
use Rattle.easl_model.specs.declared.form.Test.TheFolds.{fold-roll-Test}
use Rattle.easl_model.specs.declared.form.Test.TheOpen as layer
use Rattle.easl_model.specs.declared.form.Test.TheVariants as test

abbrev slot : ℕ → Reach
slot n = record { slot = n; fields = [] }

-- class Set { void meet(Set s) requires (this == s) { } }
abbrev strict : Form
strict = record {
  classes = record { name = codes "Set"; field_names = []; field_classes = []; constructor = 0 } ∷ [];
  methods =
      method 0 "Set" true [] (Some 0) true
      ∷ record {
        class = 0;
        name = codes "meet";
        constructor = false;
        params = Some 0 ∷ [];
        names = codes "s" ∷ [];
        result = None;
        gives = false;
        clauses = test.Same (slot 0) (slot 1) ∷ [];
        body = [];
        value = None;
      }
      ∷ [];
}

same_objects : condition_of (test.Same (slot 0) (slot 1)) ≡ Same (slot 0) (slot 1)
same_objects = ap condition_of (sym (test.rolls-Same (slot 0) (slot 1))) ∙ fold-roll-Test Condition rooted (layer.Same (slot 0) (slot 1))

-- the clause is false of two objects
meet_false : (heap : List Object) → requires_of heap strict 1 (1 ∷ 2 ∷ []) ≡ Some 1
meet_false heap = ap (λ c. position_from (λ d. not (holds heap (1 ∷ 2 ∷ []) d)) 1 (c ∷ [])) same_objects

charged_fails : (target : Option ℕ) (call method clause : ℕ) (args : List ℕ) (s : State) (m : Moment) →
    requires_of s.heap strict method args ≡ Some clause →
    Leaves (Stopped (Fails call clause (length m.choices))) ≡ passing (charged (answered strict target call method args
    (requires_of s.heap strict method args) s) m)
charged_fails target call method clause args s m is = sym (ap (λ q. passing (charged (answered strict target call method args q s) m)) is)

-- static Set a = new Set(); void z(Set s, Set t) { if (?) { Set b = new Set(); z(t, b); } s.meet(t); } void main() { z(a, a); }
abbrev meeting : Client
meeting = record {
  items = (static (of "Set" 8) (w "a" 12) (new 16 (w "Set" 20) []) ∷ procedure void (w "z" 32) (param 34 (of "Set" 34) (w "s" 38) ∷ param 41
      (of "Set" 41)
      (w "t" 45) ∷ []) (written.If (at 50) (free 54) (Declare (at 59) (of "Set" 59) (w "b" 63) (Some (new 67 (w "Set" 71) []))
      ▸ Do (calls (w "z" 78) (w "t" 80 ∷ w "b" 83 ∷ [])) ▸ none) none false ▸ Do (on (w "s" 90) (w "meet" 92) (w "t" 97 ∷ [])) ▸ none) 101
      ∷ procedure void (w "main" 108) [] (Do (calls (w "z" 117) (w "a" 119 ∷ w "a" 122 ∷ [])) ▸ none) 126 ∷ []);
  end = at 127;
}

abbrev set : Object
set = record { class = 0; fields = [] }

-- where the called z meets the two objects
abbrev met : State
met = record { heap = set ∷ set ∷ []; statics = 1 ∷ []; variables = 1 ∷ 2 ∷ 0 ∷ []; result = 0 }

-- the called z meets two objects, and fails at the third call of the text with a choice left; its caller goes no further
meeting_fails : IsRun strict (form_of strict meeting) (true ∷ false ∷ true ∷ []) 8 (Fails 2 1 1)
meeting_fails = record {
  result = _;
  runs = row _ _ _ _ _ _ (step _ _ _ _ (plain _ _ _ _ refl)) (goes_on _ _ _ _ (row _ _ _ _ _ _ (step _ _ _ _ (runs.calls _ _ _ _ _ _ (enters _ _ _
      (row _ _ _ _ _ _ (step _ _ _ _ (runs.calls _ _ _ _ _ _ (enters _ _ _
      (row _ _ _ _ _ _ (branches _ _ _ _ _ _ (on_true _ _ _ _ _ (row _ _ _ _ _ _ (step _ _ _ _ (plain _ _ _ _ refl)) (goes_on _ _ _ _
      (row _ _ _ _ _ _ (step _ _ _ _ (runs.calls _ _ _ _ _ _ (enters _ _ _
      (row _ _ _ _ _ _ (branches _ _ _ _ _ _ (on_false _ _ _ _ _ (no_more _ _))) (goes_on _ _ _ _
      (row _ _ _ _ _ _ (step _ _ _ _ (plain _ _ _ _ (charged_fails None 2 1 1 (1 ∷ 2 ∷ []) met
      (record { state = met; choices = true ∷ []; budget = 1 }) (meet_false met.heap)))) (leaves _ _ _))))) refl)) (leaves _ _ _))))))
      (leaves _ _ _))) refl)) (leaves _ _ _))) refl)) (leaves _ _ _)));
  comes_to = refl;
}

-- and it does so on the two choices that it took
meeting_fails_on_taken : IsRun strict (form_of strict meeting) (true ∷ false ∷ []) 8 (Fails 2 1 0)
meeting_fails_on_taken = (fails_on_taken strict (form_of strict meeting) (true ∷ false ∷ true ∷ []) 8 2 1 1 meeting_fails).1

meeting_is_unsafe : IsSafe strict (form_of strict meeting) → ⊥
meeting_is_unsafe safe = safe (true ∷ false ∷ true ∷ []) 8 2 1 1 meeting_fails

-- static Set a = new Set(); Set p(Set s) { s = new Set(); return s; } void main() { Set b = p(a); a.meet(b); }
abbrev giving : Client
giving = record {
  items = (static (of "Set" 8) (w "a" 12) (new 16 (w "Set" 20) []) ∷ procedure (of "Set" 27) (w "p" 31) (param 33 (of "Set" 33) (w "s" 37) ∷ [])
      (Assign (w "s" 42) (new 46 (w "Set" 50) []) ▸ gives 57 (w "s" 64) ▸ none) 67
      ∷ procedure void (w "main" 74) [] (Declare (at 83) (of "Set" 83) (w "b" 87) (Some (calls (w "p" 91) (w "a" 93 ∷ [])))
      ▸ Do (on (w "a" 97) (w "meet" 99) (w "b" 104 ∷ [])) ▸ none) 108 ∷ []);
  end = at 109;
}

-- p changes its own parameter alone, and b is the object that it gives
abbrev given : State
given = record { heap = set ∷ set ∷ []; statics = 1 ∷ []; variables = 2 ∷ []; result = 0 }

giving_fails : IsRun strict (form_of strict giving) [] 5 (Fails 2 1 0)
giving_fails = record {
  result = _;
  runs = row _ _ _ _ _ _ (step _ _ _ _ (plain _ _ _ _ refl)) (goes_on _ _ _ _ (row _ _ _ _ _ _ (step _ _ _ _ (runs.calls _ _ _ _ _ _ (enters _ _ _
      (row _ _ _ _ _ _ (step _ _ _ _ (runs.calls _ _ _ _ _ _ (enters _ _ _
      (row _ _ _ _ _ _ (step _ _ _ _ (plain _ _ _ _ refl)) (goes_on _ _ _ _ (row _ _ _ _ _ _ (runs.returns _ _ _ _ refl) (leaves _ _ _))))) refl))
      (goes_on _ _ _ _ (row _ _ _ _ _ _ (step _ _ _ _ (plain _ _ _ _ (charged_fails None 2 1 1 (1 ∷ 2 ∷ []) given
      (record { state = given; choices = []; budget = 0 }) (meet_false given.heap)))) (leaves _ _ _))))) refl)) (leaves _ _ _)));
  comes_to = refl;
}
