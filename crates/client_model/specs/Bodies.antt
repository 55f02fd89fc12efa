-- The bodies of a client, each with what stands around and before it, and all its statements in text order.
use Rattle.std.specs.Prelude.{ℕ, suc, true, false, List, [], ◌∷◌, ◌++◌, length, map, take}
use Rattle.std.specs.List.{flat_map}
use Rattle.client_model.specs.declared.tree.Static.{Static}
use Rattle.client_model.specs.Codes.{variable_code}
use Rattle.client_model.specs.Contexts.{Context, Situated, These, after_all, situated}
use Rattle.client_model.specs.Settings.{Setting, Variable, inside, kind_of, setting_of}
use Rattle.client_model.specs.Statements.{Statements, Assign, none, ◌▸◌}
use Rattle.client_model.specs.Trees.{Client, Item, Proc, Initialiser, Procedure}
use Rattle.easl_model.specs.Form.{Form}
use Rattle.easl_model.specs.declared.tree.Param.{Param}

-- the statements of an item, with what stands around them and what stands before the first
pub record Body : Type 0 where
  pub item : Item
  pub setting : Setting
  pub start : Context
  pub statements : Statements

-- what stands behind the last
abbrev pub end_of : Body → Context
end_of b = after_all b.setting b.start b.statements

abbrev pub all_in : Body → List Situated
all_in b = situated b.setting b.start b.statements

-- parameters that are numbered from here on
abbrev pub params_from : Form → ℕ → List Param → List Variable
params_from form number [] = []
params_from form number (p ∷ rest) = record { name = p.name.name; kind = kind_of form p.sort; code = variable_code number } ∷ params_from form (suc number) rest

abbrev pub codes_of : List Variable → List ℕ
codes_of variables = map (λ v. v.code) variables

-- before an initialiser: so many statics and calls stand before it, and those statics are assigned
abbrev pub before_initialiser : Setting → ℕ → ℕ → Context
before_initialiser s number calls = record {
  scope = [];
  assigned = These (codes_of (take number s.statics));
  reached = true;
  looped = false;
  variables = 0;
  points = number;
  calls = calls;
}

-- an initialiser is the assignment of its static, and a statement of the start
abbrev pub initialiser : Setting → ℕ → ℕ → Static → Body
initialiser s number calls x = record {
  item = Initialiser x;
  setting = s;
  start = before_initialiser s number calls;
  statements = Assign x.name x.value ▸ none;
}

-- at the entry of a procedure with these parameters, behind so many calls: all statics and the parameters are assigned
abbrev pub at_entry : Setting → ℕ → List Param → Context
at_entry s calls params =
    let variables = params_from s.form 0 params
    in record {
      scope = variables;
      assigned = These (codes_of (s.statics ++ variables));
      reached = true;
      looped = false;
      variables = length variables;
      points = 0;
      calls = calls;
    }

-- the body of the procedure of this number, behind so many calls
abbrev pub body_of : Setting → ℕ → ℕ → Proc → Body
body_of s number calls p = record {
  item = Procedure p;
  setting = inside number p s;
  start = at_entry s calls p.params;
  statements = p.body;
}

-- those of these items, where the next static, the next procedure and the next call have these numbers
abbrev pub bodies_from : Setting → ℕ → ℕ → ℕ → List Item → List Body
bodies_from s static procedure call [] = []
bodies_from s static procedure call (Initialiser x ∷ rest) =
    let b = initialiser s static call x
    in b ∷ bodies_from s (suc static) procedure (end_of b).calls rest
bodies_from s static procedure call (Procedure p ∷ rest) =
    let b = body_of s procedure call p
    in b ∷ bodies_from s static (suc procedure) (end_of b).calls rest

-- in text order. The start is procedure 0
abbrev pub bodies_of : Form → Client → List Body
bodies_of form client = bodies_from (setting_of form client) 0 1 0 client.items

-- the statements of the client in text order, an `if` or `while` before what it holds
abbrev pub whole_of : Form → Client → List Situated
whole_of form client = flat_map all_in (bodies_of form client)
