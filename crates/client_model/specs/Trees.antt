-- Clients as they are written: their items in text order.
use Rattle.std.specs.Prelude.{Bool, true, false, List, [], ◌∷◌, map}
use Rattle.client_model.specs.Statements.{Statement, Statements, Declare, Assign, Do, If, While, Break, Continue, Return, statement_of, statements}
use Rattle.client_model.specs.declared.tree.Client.{Client as Written}
use Rattle.client_model.specs.declared.tree.Proc.{Proc as WrittenProc}
use Rattle.client_model.specs.declared.tree.Rhs.{Rhs}
use Rattle.client_model.specs.declared.tree.Rhs.TheVariants as rhs
use Rattle.client_model.specs.declared.tree.Static.{Static}
use Rattle.easl_model.specs.declared.place.Place.{Place}
use Rattle.easl_model.specs.declared.tree.Param.{Param}
use Rattle.easl_model.specs.declared.tree.Sort.{Sort}
use Rattle.easl_model.specs.declared.tree.Word.{Word}

-- a procedure; `end` is the place of its closing brace
pub record Proc : Type 0 where
  pub result : Sort
  pub name : Word
  pub params : List Param
  pub body : Statements
  pub end : Place

-- a static with its initialiser, or a procedure
pub data Item : Type 0 where
  Initialiser : Static → Item
  Procedure : Proc → Item

-- the items in text order, and the place of the text's end
pub record Client : Type 0 where
  pub items : List Item
  pub end : Place

abbrev pub statics_in : List Item → List Static
statics_in [] = []
statics_in (Initialiser x ∷ rest) = x ∷ statics_in rest
statics_in (Procedure p ∷ rest) = statics_in rest

abbrev pub procedures_in : List Item → List Proc
procedures_in [] = []
procedures_in (Initialiser x ∷ rest) = procedures_in rest
procedures_in (Procedure p ∷ rest) = p ∷ procedures_in rest

abbrev pub procedure_of : WrittenProc → Proc
procedure_of p = record { result = p.result; name = p.name; params = p.params; body = statements (map statement_of p.body); end = p.end }

-- the items in the order that says of each whether it is a static
abbrev pub items_of : List Bool → List Static → List WrittenProc → List Item
items_of [] statics procedures = []
items_of (true ∷ order) [] procedures = items_of order [] procedures
items_of (true ∷ order) (x ∷ statics) procedures = Initialiser x ∷ items_of order statics procedures
items_of (false ∷ order) statics [] = items_of order statics []
items_of (false ∷ order) statics (p ∷ procedures) = Procedure (procedure_of p) ∷ items_of order statics procedures

abbrev pub client_of : Written → Client
client_of c = record { items = items_of c.order c.statics c.procedures; end = c.end }

-- the place of a value's first token, which is its call's place
abbrev pub place_of_value : Rhs → Place
place_of_value (rhs.Copy w) = w.place
place_of_value (rhs.New x) = x.place
place_of_value (rhs.Component x) = x.receiver.place
place_of_value (rhs.Call x) = x.procedure.place

-- the place of a statement's first token
abbrev pub place_of : Statement → Place
place_of (Declare place sort w v) = place
place_of (Assign w v) = w.place
place_of (Do v) = place_of_value v
place_of (If place t first second has_else) = place
place_of (While place t inner) = place
place_of (Break place) = place
place_of (Continue place) = place
place_of (Return r) = r.place
