-- What facts of a client of sets and iterators follow from, by computing.
use Rattle.std.proofs.Common.{◌≡◌, ℕ, List, [], ◌∷◌, refl, arith}
use Rattle.std.specs.Prelude.{true, false, Option, Some, None}
use Rattle.client_facts.proofs.Cmp.{is, setting}
use Rattle.client_facts.specs.Flows.{FollowsStep, IsClauseFact, copied, positions}
use Rattle.client_facts.specs.Setting.{GoesOn, IsStep, Setting, exit_of}
use Rattle.client_facts.specs.declared.fact.Fact.TheVariants.{Always, Of}
use Rattle.client_model.specs.CheckedForm.{ClientForm}
use Rattle.client_model.specs.Nodes.{If, Step, end, ◌▹◌}
use Rattle.client_model.specs.declared.form.CallSite.{CallSite}
use Rattle.client_model.specs.declared.form.Point.TheVariants as point
use Rattle.easl_model.specs.declared.place.Place.{Place}

abbrev at : ℕ → Place
at column = record { line = 1; col = column }

abbrev site : ℕ → ℕ → List (Option ℕ) → CallSite
site number method args = record { procedure = 1; point = number; method = method; args = args; place = at number }

-- void main() { Set v = new Set(); Iterator i = v.iterator(); Iterator j = v.iterator(); Iterator k = i; i.remove(); if (?) { j.next(); } }
-- v has the code 1, i has 5, j has 9, and k has 13
abbrev client : ClientForm
client = record {
  statics = [];
  procedures =
      record {
        name = [];
        params = [];
        result = None;
        variables = [];
        points = point.Call None 1 [] (at 6) ∷ [];
        shape = Step 0 ▹ end;
        set = [] ∷ [] ∷ [];
      }
      ∷ record {
        name = [];
        params = [];
        result = None;
        variables = Some 1 ∷ Some 0 ∷ Some 0 ∷ Some 0 ∷ [];
        points =
            point.Component (Some 1) 0
            ∷ point.Component (Some 5) 1
            ∷ point.Component (Some 9) 2
            ∷ point.Copy (Some 13) (Some 5)
            ∷ point.Component None 3
            ∷ point.Branch None
            ∷ point.Component None 4
            ∷ [];
        shape = Step 0 ▹ Step 1 ▹ Step 2 ▹ Step 3 ▹ Step 4 ▹ If 5 (Step 6 ▹ end) end ▹ end;
        set =
            []
            ∷ (1 ∷ [])
            ∷ (1 ∷ 5 ∷ [])
            ∷ (1 ∷ 5 ∷ 9 ∷ [])
            ∷ (1 ∷ 5 ∷ 9 ∷ 13 ∷ [])
            ∷ (1 ∷ 5 ∷ 9 ∷ 13 ∷ [])
            ∷ (1 ∷ 5 ∷ 9 ∷ 13 ∷ [])
            ∷ (1 ∷ 5 ∷ 9 ∷ 13 ∷ [])
            ∷ [];
      }
      ∷ [];
  calls =
      site 0 4 [] ∷ site 1 6 (Some 1 ∷ []) ∷ site 2 6 (Some 1 ∷ []) ∷ site 4 1 (Some 5 ∷ []) ∷ site 6 2 (Some 9 ∷ []) ∷ [];
}

abbrev g : Setting
g = setting client

-- the test goes on in its block, or behind it
enters_block : GoesOn g 1 5 true 6
enters_block = refl

passes_block : GoesOn g 1 5 false (exit_of g 1)
passes_block = refl

skips : IsStep g 1 5 false 7
skips = record { here = point.Branch None; is = refl; plain = refl; outcome = tt; goes = refl }

-- F2(k, j) behind `k = i` follows from F2(i, j)
over_copy : FollowsStep g 1 3 (Of 1 (5 ∷ 9 ∷ [])) (Of 1 (13 ∷ 9 ∷ []))
over_copy = refl

-- a copy of something opaque leaves names as they are
over_opaque : copied None None (5 ∷ 9 ∷ []) ≡ 5 ∷ 9 ∷ []
over_opaque = refl

-- j stands for x2 in F2(i, j), and for x1 and x3 in a fact (j, i, j)
second_position : positions (Some 9) (5 ∷ 9 ∷ []) ≡ 2
second_position = refl

outer_positions : positions (Some 9) (9 ∷ 5 ∷ 9 ∷ []) ≡ 5
outer_positions = refl

-- F2(i, j) behind `j = v.iterator()` follows from F3(v, i): x2 is the result, and there is no x3
over_assigned_call : FollowsStep g 1 2 (Of 2 (1 ∷ 5 ∷ [])) (Of 1 (5 ∷ 9 ∷ []))
over_assigned_call = record {
  site = site 2 6 (Some 1 ∷ []);
  site_is = refl;
  method = _;
  method_is = refl;
  made = record {
    update = record { method = 6; results = 2; family = 1; disjuncts = is 2 (3 ∷ 0 ∷ []) ∷ [] };
    answers = record { there = (2, omega arith, refl); method_is = refl; results_are = refl; family_is = refl };
    chosen = is 2 (3 ∷ 0 ∷ []);
    among = (0, omega arith, refl);
    put_in = (1 ∷ 5 ∷ [], refl, (refl, (refl, tt)));
  };
}

-- F1(j) behind `i.remove()` follows from F2(j, i), `this` being i
over_call : FollowsStep g 1 4 (Of 1 (9 ∷ 5 ∷ [])) (Of 0 (9 ∷ []))
over_call = record {
  site = site 4 1 (Some 5 ∷ []);
  site_is = refl;
  method = _;
  method_is = refl;
  made = record {
    update = record { method = 1; results = 0; family = 0; disjuncts = is 0 (0 ∷ []) ∷ is 1 (0 ∷ 3 ∷ []) ∷ [] };
    answers = record { there = (0, omega arith, refl); method_is = refl; results_are = refl; family_is = refl };
    chosen = is 1 (0 ∷ 3 ∷ []);
    among = (1, omega arith, refl);
    put_in = (9 ∷ 5 ∷ [], refl, (refl, (refl, tt)));
  };
}

-- F4(v, v) behind `v = new Set()` follows from what is always true
over_construction : FollowsStep g 1 0 Always (Of 3 (1 ∷ 1 ∷ []))
over_construction = record {
  site = site 0 4 [];
  site_is = refl;
  method = _;
  method_is = refl;
  made = record {
    update = record { method = 4; results = 3; family = 3; disjuncts = _ ∷ [] };
    answers = record { there = (4, omega arith, refl); method_is = refl; results_are = refl; family_is = refl };
    chosen = _;
    among = (0, omega arith, refl);
    put_in = refl;
  };
}

-- F1(j) is a fact of the clause of `j.next()`
of_clause : IsClauseFact g 4 1 (Of 0 (9 ∷ []))
of_clause = record {
  site = site 6 2 (Some 9 ∷ []);
  site_is = refl;
  method = _;
  method_is = refl;
  facts = record { method = 2; clause = 1; disjuncts = is 0 (3 ∷ []) ∷ [] };
  there = (1, omega arith, refl);
  of_method = refl;
  of_clause = refl;
  chosen = is 0 (3 ∷ []);
  among = (0, omega arith, refl);
  put_in = (9 ∷ [], refl, (refl, tt));
}
