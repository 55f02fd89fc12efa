-- Sets and iterators, for worked examples: the families and entries that are derived for them, and clients in their checked form.
use Rattle.std.proofs.Common.{ℕ, List, [], ◌∷◌}
use Prim.Native.String.{String}
use Rattle.std.specs.Prelude.{Bool, true, false, Option, Some, None, codes, map}
use Rattle.access_paths.specs.{term, var}
use Rattle.access_paths.specs.declared.term.Family.{Family}
use Rattle.access_paths.specs.declared.term.Literal.{Literal}
use Rattle.access_paths.specs.declared.term.Term.{Term}
use Rattle.client_facts.specs.Setting.{Setting}
use Rattle.client_model.specs.CheckedForm.{ClientForm}
use Rattle.easl_model.specs.Form.{Form}
use Rattle.easl_model.specs.declared.form.Method.{Method}
use Rattle.method_abstraction.specs.declared.entry.Abstraction.{Abstraction}
use Rattle.method_abstraction.specs.declared.entry.Disjunct.{Disjunct}
use Rattle.method_abstraction.specs.declared.entry.Disjunct.TheVariants as disjunct
use Rattle.method_abstraction.specs.declared.entry.Update.{Update}

-- what flows ask of a method: whether it is a constructor
abbrev method : ℕ → String → Bool → List (Option ℕ) → Option ℕ → Bool → Method
method class name constructor params result gives = record {
  class = class;
  name = codes name;
  constructor = constructor;
  params = params;
  names = [];
  result = result;
  gives = gives;
  clauses = [];
  body = [];
  value = None;
}

-- class Iterator { Set set; Version defVer; Iterator(Set s) .. void remove() .. Object next() .. boolean hasNext() .. }
-- class Set { Version ver; Set() .. boolean add(Object o) .. Iterator iterator() .. }
-- class Version { }
abbrev pub form : Form
form = record {
  classes =
      record { name = codes "Iterator"; field_names = codes "set" ∷ codes "defVer" ∷ []; field_classes = 1 ∷ 2 ∷ []; constructor = 0 }
      ∷ record { name = codes "Set"; field_names = codes "ver" ∷ []; field_classes = 2 ∷ []; constructor = 4 }
      ∷ record { name = codes "Version"; field_names = []; field_classes = []; constructor = 7 }
      ∷ [];
  methods =
      method 0 "Iterator" true (Some 1 ∷ []) (Some 0) true
      ∷ method 0 "remove" false [] None false
      ∷ method 0 "next" false [] None true
      ∷ method 0 "hasNext" false [] None true
      ∷ method 1 "Set" true [] (Some 1) true
      ∷ method 1 "add" false (None ∷ []) None true
      ∷ method 1 "iterator" false [] (Some 0) true
      ∷ method 2 "Version" true [] (Some 2) true
      ∷ [];
}

abbrev equal : Term → Term → Literal
equal t u = record { same = true; less = t; more = u }

abbrev unequal : Term → Term → Literal
unequal t u = record { same = false; less = t; more = u }

abbrev family : List ℕ → List Literal → Family
family classes literals = record { classes = classes; cube = record { literals = literals } }

-- F1 (Iterator x1) x1.defVer != x1.set.ver
-- F2 (Iterator x1, Iterator x2) x1 != x2, x1.set == x2.set
-- F3 (Set x1, Iterator x2) x1 == x2.set
-- F4 (Set x1, Set x2) x1 == x2
abbrev pub families : List Family
families =
    family (0 ∷ []) (unequal (term 0 (1 ∷ [])) (term 0 (0 ∷ 0 ∷ [])) ∷ [])
    ∷ family (0 ∷ 0 ∷ []) (unequal (term 0 []) (term 1 []) ∷ equal (term 0 (0 ∷ [])) (term 1 (0 ∷ [])) ∷ [])
    ∷ family (1 ∷ 0 ∷ []) (equal (term 0 []) (term 1 (0 ∷ [])) ∷ [])
    ∷ family (1 ∷ 1 ∷ []) (equal (term 0 []) (term 1 []) ∷ [])
    ∷ []

-- of a family by number from 0, with variables: 0 to 2 are x1 to x3, 3 is `this`
abbrev pub is : ℕ → List ℕ → Disjunct
is number vars = disjunct.Of number (map var vars)

abbrev update : ℕ → ℕ → ℕ → List Disjunct → Update
update method results family ds = record { method = method; results = results; family = family; disjuncts = ds }

-- those of the entries that the examples ask for
abbrev pub abstraction : Abstraction
abstraction = record {
  families = families;
  clauses =
      record { method = 1; clause = 1; disjuncts = is 0 (3 ∷ []) ∷ [] }
      ∷ record { method = 2; clause = 1; disjuncts = is 0 (3 ∷ []) ∷ [] }
      ∷ [];
  updates =
      update 1 0 0 (is 0 (0 ∷ []) ∷ is 1 (0 ∷ 3 ∷ []) ∷ [])
      ∷ update 5 0 0 (is 2 (3 ∷ 0 ∷ []) ∷ is 0 (0 ∷ []) ∷ [])
      ∷ update 6 2 1 (is 2 (3 ∷ 0 ∷ []) ∷ [])
      ∷ update 6 2 2 (is 3 (0 ∷ 3 ∷ []) ∷ [])
      ∷ update 4 3 3 (disjunct.Always ∷ [])
      ∷ [];
}

abbrev pub setting : ClientForm → Setting
setting client = record { form = form; client = client; abstraction = abstraction }
