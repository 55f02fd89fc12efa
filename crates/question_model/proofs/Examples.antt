-- The trees of two questions on sets and iterators: whether an iterator is stale after `add`, and whether `next` fails.
use Rattle.std.proofs.Common.{◌≡◌, ℕ, true, false, List, [], ◌∷◌, Some, None, refl}
use Rattle.easl_model.specs.{Condition, Write, statement_of}
use Rattle.easl_model.specs.Conditions.{Same}
use Rattle.easl_model.specs.Form.{Form}
use Rattle.easl_model.specs.declared.form.Act.{Act}
use Rattle.easl_model.specs.declared.form.Act.TheVariants as act
use Rattle.easl_model.specs.declared.form.ClassForm.{ClassForm}
use Rattle.easl_model.specs.declared.form.Method.{Method}
use Rattle.easl_model.specs.declared.form.Reach as path
use Rattle.easl_model.specs.declared.form.Source.TheVariants.{Make}
use Rattle.easl_model.proofs.Folds.{write_act}
use Rattle.access_paths.specs.{Ask, Leaf, term}
use Rattle.access_paths.specs.declared.term.Family.{Family}
use Rattle.question_model.specs.{IsTree, fails, update}

abbrev reach : ℕ → List ℕ → path.Reach
reach slot fields = record { slot = slot; fields = fields }

-- a class by the classes of its fields and its constructor
abbrev class : List ℕ → ℕ → ClassForm
class fields constructor = record { name = []; field_names = []; field_classes = fields; constructor = constructor }

-- class 0 are iterators with their set and their version, class 1 sets with their version, class 2 versions
abbrev next : Method
next = record {
  class = 0;
  name = [];
  constructor = false;
  params = [];
  names = [];
  result = None;
  gives = true;
  clauses = [];
  body = [];
  value = None;
}

-- the set takes a new version
abbrev new_ver : Act
new_ver = act.Write (reach 0 []) 0 (Make 2 [])

abbrev add : Method
add = record {
  class = 1;
  name = [];
  constructor = false;
  params = None ∷ [];
  names = [];
  result = None;
  gives = true;
  clauses = [];
  body = new_ver ∷ [];
  value = None;
}

abbrev new_version : Method
new_version = record {
  class = 2;
  name = [];
  constructor = true;
  params = [];
  names = [];
  result = Some 2;
  gives = true;
  clauses = [];
  body = [];
  value = None;
}

abbrev form : Form
form = record {
  classes = class (1 ∷ 2 ∷ []) 2 ∷ class (2 ∷ []) 2 ∷ class [] 2 ∷ [];
  methods = next ∷ add ∷ new_version ∷ [];
}

-- the version of the iterator x1 is not that of its set
abbrev stale : Family
stale = record {
  classes = 0 ∷ [];
  cube = record { literals = record { same = false; less = term 0 (1 ∷ []); more = term 0 (0 ∷ 0 ∷ []) } ∷ [] };
}

-- the clause of `next`: the two versions are the same
abbrev fresh : Condition
fresh = Same (reach 0 (1 ∷ [])) (reach 0 (0 ∷ 0 ∷ []))

added : statement_of new_ver ≡ Write (reach 0 []) 0 (Make 2 [])
added = write_act (reach 0 []) 0 (Make 2 [])

pub add_stale : IsTree (λ answers. update form (Some 6) answers add stale 0)
    (Ask (term 3 []) (term 0 (0 ∷ []))
    (Leaf true)
    (Ask (term 0 (1 ∷ [])) (term 0 (0 ∷ 0 ∷ [])) (Leaf false) (Leaf true)))
add_stale = (rw added refl, rw added refl, (rw added refl, rw added refl, rw added refl))

pub next_fails : IsTree (λ answers. fails form (Some 6) answers next fresh)
    (Ask (term 3 (1 ∷ [])) (term 3 (0 ∷ 0 ∷ [])) (Leaf false) (Leaf true))
next_fails = (refl, refl, refl)
