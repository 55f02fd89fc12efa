-- An alarm whose path goes through a procedure that returns.
use Rattle.std.proofs.Common.{◌≡◌, ℕ, List, [], ◌∷◌, refl, arith}
use Rattle.std.specs.Prelude.{true, Option, Some, None}
use Rattle.client_facts.proofs.Cmp.{setting}
use Rattle.client_walks.specs.PathPrograms.{IsWellBuilt, at_call, begins, calls, choices_of, main, steps}
use Rattle.client_walks.specs.Paths.{Entry, inside, start}
use Rattle.client_facts.specs.Setting.{IsCall, IsStep, Setting}
use Rattle.client_walks.specs.Walks.{Walk}
use Rattle.client_walks.specs.Walks as walk
use Rattle.client_walks.specs.declared.alarm.Alarm.{Alarm}
use Rattle.client_walks.specs.declared.alarm.Item.TheVariants.{Inside}
use Rattle.client_model.specs.CheckedForm.{ClientForm}
use Rattle.client_model.specs.Nodes.{Step, end, ◌▹◌}
use Rattle.client_model.specs.declared.form.CallSite.{CallSite}
use Rattle.client_model.specs.declared.form.Point.TheVariants as point
use Rattle.client_steps.specs.States.{Call}
use Rattle.easl_model.specs.declared.place.Place.{Place}

abbrev at : ℕ → Place
at column = record { line = 1; col = column }

abbrev site : ℕ → ℕ → ℕ → List (Option ℕ) → CallSite
site p number method args = record { procedure = p; point = number; method = method; args = args; place = at number }

-- void touch(Set s) { s.add("a"); } void main() { Set v = new Set(); Iterator i = v.iterator(); touch(v); i.next(); }
abbrev client : ClientForm
client = record {
  statics = [];
  procedures =
      record { name = []; params = []; result = None; variables = []; points = point.Call None 2 [] (at 6) ∷ []; shape = Step 0 ▹ end; set = [] ∷ [] ∷ [] }
      ∷ record {
        name = [];
        params = Some 1 ∷ [];
        result = None;
        variables = Some 1 ∷ [];
        points = point.Component None 0 ∷ [];
        shape = Step 0 ▹ end;
        set = (1 ∷ []) ∷ (1 ∷ []) ∷ [];
      }
      ∷ record {
        name = [];
        params = [];
        result = None;
        variables = Some 1 ∷ Some 0 ∷ [];
        points = point.Component (Some 1) 1 ∷ point.Component (Some 5) 2 ∷ point.Call None 1 (Some 1 ∷ []) (at 3) ∷ point.Component None 3 ∷ [];
        shape = Step 0 ▹ Step 1 ▹ Step 2 ▹ Step 3 ▹ end;
        set = [] ∷ (1 ∷ []) ∷ (1 ∷ 5 ∷ []) ∷ (1 ∷ 5 ∷ []) ∷ (1 ∷ 5 ∷ []) ∷ [];
      }
      ∷ [];
  calls = site 1 0 5 (Some 1 ∷ None ∷ []) ∷ site 2 0 4 [] ∷ site 2 1 6 (Some 1 ∷ []) ∷ site 2 3 2 (Some 5 ∷ []) ∷ [];
}

abbrev g : Setting
g = setting client

abbrev of_main : Call
of_main = record { target = None; callee = 2; args = [] }

abbrev of_touch : Call
of_touch = record { target = None; callee = 1; args = Some 1 ∷ [] }

-- 0 main: the call at point 2, inside which is segment 1, returned; then the call at point 3
-- 1 touch:
abbrev alarm : Alarm
alarm = record {
  call = 3;
  clause = 1;
  path = record {
    segments = record { procedure = 2; items = Inside 2 1 true ∷ [] } ∷ record { procedure = 1; items = [] } ∷ [];
  };
}

abbrev calls_main : IsCall g 0 0 of_main 1
calls_main = record { call = refl; goes = refl }

abbrev makes_set : IsStep g 2 0 true 1
makes_set = record { here = _; is = refl; plain = refl; outcome = refl; goes = refl }

abbrev makes_iterator : IsStep g 2 1 true 2
makes_iterator = record { here = _; is = refl; plain = refl; outcome = refl; goes = refl }

abbrev calls_touch : IsCall g 2 2 of_touch 3
calls_touch = record { call = refl; goes = refl }

abbrev adds : IsStep g 1 0 true 1
adds = record { here = _; is = refl; plain = refl; outcome = refl; goes = refl }

abbrev in_touch : Walk g 1 1
in_touch = walk.step 1 0 1 true (walk.begin 1) adds

abbrev to_touch : Walk g 2 2
to_touch = walk.step 2 1 2 true (walk.step 2 0 1 true (walk.begin 2) makes_set) makes_iterator

abbrev in_main : Walk g 2 3
in_main = walk.call 2 2 3 of_touch to_touch calls_touch in_touch

abbrev into_main : Entry g 2
into_main = inside 0 0 1 of_main start (walk.begin 0) calls_main

abbrev well_built : IsWellBuilt g alarm
well_built = record {
  procedure = 2;
  point = 3;
  path = record { entry = into_main; walk = in_main };
  of = at_call 0 2 3 into_main in_main (record { procedure = 2; items = Inside 2 1 true ∷ [] })
      (record { site = site 2 3 2 (Some 5 ∷ []); site_is = refl; procedure = refl; point = refl }) (main 0 1 of_main (walk.begin 0) calls_main) refl
      refl
      (calls 0 2 2 3 1 of_touch [] to_touch calls_touch (record { procedure = 1; items = [] }) in_touch
      (steps 0 2 1 2 true [] (walk.step 2 0 1 true (walk.begin 2) makes_set) makes_iterator
      (steps 0 2 0 1 true [] (walk.begin 2) makes_set (begins 0 2)))
      (record { later = omega arith; there = refl; procedure = refl })
      (steps 1 1 0 1 true [] (walk.begin 1) adds (begins 1 1)));
}

-- no test is taken along it
no_choices : choices_of g alarm well_built ≡ []
no_choices = refl
