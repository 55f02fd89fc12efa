-- The bodies of a specification: the constructors and methods of all classes.
use Rattle.std.specs.Prelude.{ℕ, suc, Bool, true, false, List, [], ◌∷◌, ◌++◌, Option, Some, None, map}
use Rattle.easl_model.specs.Names.{constructor_in, methods_in}
use Rattle.easl_model.specs.declared.tree.Class.{Class}
use Rattle.easl_model.specs.declared.tree.Code.{Code}
use Rattle.easl_model.specs.declared.tree.Sort.TheVariants.{Void}
use Rattle.easl_model.specs.declared.tree.Spec.{Spec}

-- a constructor or a method, with the number of its class
pub record Body : Type 0 where
  pub class : ℕ
  pub constructor : Bool
  pub code : Code

-- the constructor of a class in which none is written: it has no parameters and no statements
abbrev pub implicit_constructor : Class → Code
implicit_constructor c = record {
  place = c.place;
  result = Void;
  name = c.name;
  params = [];
  clauses = [];
  body = [];
  value = None;
  end = c.name.place;
}

abbrev pub constructor_or_implicit : Class → Option Code → Code
constructor_or_implicit c None = implicit_constructor c
constructor_or_implicit c (Some code) = code

abbrev pub constructor_body : ℕ → Class → Body
constructor_body class c = record {
  class = class;
  constructor = true;
  code = constructor_or_implicit c (constructor_in c.members);
}

abbrev pub method_body : ℕ → Code → Body
method_body class code = record { class = class; constructor = false; code = code }

-- the constructor first and then the methods
abbrev pub bodies_in : ℕ → Class → List Body
bodies_in class c = constructor_body class c ∷ map (method_body class) (methods_in c.members)

-- those of classes that are numbered from here on
abbrev pub bodies_from : ℕ → List Class → List Body
bodies_from class [] = []
bodies_from class (c ∷ rest) = bodies_in class c ++ bodies_from (suc class) rest

abbrev pub bodies_of : Spec → List Body
bodies_of spec = bodies_from 0 spec.classes
