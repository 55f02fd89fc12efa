-- Words for small texts of clients, all in one line, and a small specification, for worked examples.
use Rattle.std.proofs.Common.{ℕ, List, [], ◌∷◌}
use Prim.Native.String.{String}
use Rattle.std.specs.Prelude.{Bool, true, false, Option, Some, None, codes}
use Rattle.client_model.specs.declared.tree.Component.{Component}
use Rattle.client_model.specs.declared.tree.Rhs.{Rhs}
use Rattle.client_model.specs.declared.tree.Rhs.TheVariants as rhs
use Rattle.client_model.specs.declared.tree.Test.{Test}
use Rattle.client_model.specs.declared.tree.Test.TheVariants as test
use Rattle.client_model.specs.Faults.{Fault, Rule, fault}
use Rattle.client_model.specs.Rules.{first_fault}
use Rattle.client_model.specs.Statements.{Statement, Statements}
use Rattle.client_model.specs.Trees.{Initialiser, Item, Procedure}
use Rattle.client_model.specs.Statements as written
use Rattle.easl_model.specs.Form.{Form}
use Rattle.easl_model.specs.declared.form.Method.{Method}
use Rattle.easl_model.specs.declared.place.Place.{Place}
use Rattle.easl_model.specs.declared.tree.Opaque.TheVariants as opaque
use Rattle.easl_model.specs.declared.tree.Param.{Param}
use Rattle.easl_model.specs.declared.tree.Sort.{Sort}
use Rattle.easl_model.specs.declared.tree.Sort.TheVariants as sort
use Rattle.easl_model.specs.declared.tree.Word.{Word}

-- a method without clauses and statements
abbrev pub method : ℕ → String → Bool → List (Option ℕ) → Option ℕ → Bool → Method
method class name constructor params result gives = record {
  class = class;
  name = codes name;
  constructor = constructor;
  params = params;
  names = [];
  result = result;
  gives = gives;
  clauses = [];
  body = [];
  value = None;
}

-- class Set { void add(Object o) { } Iterator iterator() { return new Iterator(this); } }
-- class Iterator { Set set; Iterator(Set s) { set = s; } boolean hasNext() { } Object next() { } }
-- without what its bodies do, which no rule of clients asks
abbrev pub small : Form
small = record {
  classes =
      record { name = codes "Set"; field_names = []; field_classes = []; constructor = 0 }
      ∷ record { name = codes "Iterator"; field_names = codes "set" ∷ []; field_classes = 0 ∷ []; constructor = 3 }
      ∷ [];
  methods =
      method 0 "Set" true [] (Some 0) true
      ∷ method 0 "add" false (None ∷ []) None false
      ∷ method 0 "iterator" false [] (Some 1) true
      ∷ method 1 "Iterator" true (Some 0 ∷ []) (Some 1) true
      ∷ method 1 "hasNext" false [] None true
      ∷ method 1 "next" false [] None true
      ∷ [];
}

abbrev pub at : ℕ → Place
at n = record { line = 1; col = n }

abbrev pub w : String → ℕ → Word
w name n = record { name = codes name; place = at n }

abbrev pub void : Sort
void = sort.Void

abbrev pub int : Sort
int = sort.Opaque opaque.Int

abbrev pub of : String → ℕ → Sort
of name n = sort.Class (w name n)

abbrev pub param : ℕ → Sort → Word → Param
param n sort name = record { place = at n; sort = sort; name = name }

abbrev pub static : Sort → Word → Rhs → Item
static sort name v = Initialiser (record { place = name.place; sort = sort; name = name; value = v })

-- a procedure, and the column of its closing brace
abbrev pub procedure : Sort → Word → List Param → Statements → ℕ → Item
procedure result name params body n = Procedure (record { result = result; name = name; params = params; body = body; end = at n })

abbrev pub copy : Word → Rhs
copy = rhs.Copy

abbrev pub new : ℕ → Word → List Word → Rhs
new n class args = rhs.New (record { place = at n; class = class; args = args })

abbrev pub component : Word → Word → List Word → Component
component receiver method args = record { receiver = receiver; method = method; args = args }

abbrev pub on : Word → Word → List Word → Rhs
on receiver method args = rhs.Component (component receiver method args)

abbrev pub calls : Word → List Word → Rhs
calls procedure args = rhs.Call (record { procedure = procedure; args = args })

abbrev pub free : ℕ → Test
free n = test.Free (at n)

abbrev pub asks : Word → Word → List Word → Test
asks receiver method args = test.Call (component receiver method args)

abbrev pub returns : ℕ → Statement
returns n = written.Return (record { place = at n; value = None })

abbrev pub gives : ℕ → Word → Statement
gives n v = written.Return (record { place = at n; value = Some v })

-- the first fault of a text of these items, which ends at the column
abbrev pub first_in : List Item → ℕ → Option Fault
first_in items n = first_fault small (record { items = items; end = at n })

abbrev pub faulty : Rule → ℕ → Option Fault
faulty rule n = Some (fault rule (at n))
