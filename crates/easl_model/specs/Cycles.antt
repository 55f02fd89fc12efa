-- Constructors that call each other.
use Rattle.std.specs.Prelude.{ℕ, zero, suc, Bool, ◌||◌, ◌==◌, List, [], ◌∷◌, ◌++◌, length}
use Rattle.std.specs.List.{filter_map, flat_map, list_any}
use Rattle.std.specs.Option.{option_map_or}
use Rattle.easl_model.specs.Names.{constructor_in, members_of}
use Rattle.easl_model.specs.declared.tree.Class.{Class}
use Rattle.easl_model.specs.declared.tree.New.{New}
use Rattle.easl_model.specs.declared.tree.Spec.{Spec}
use Rattle.easl_model.specs.declared.tree.Value.{Value}
use Rattle.easl_model.specs.declared.tree.Value.TheVariants as value
use Rattle.easl_model.specs.Faults.{broken_if}
use Rattle.easl_model.specs.Names.{class_named}
use Rattle.easl_model.specs.Steps.{Block, Written, Declare, Assign, If, block_of, none, ◌▸◌}
use Rattle.easl_model.specs.declared.fault.Fault.{Fault}
use Rattle.easl_model.specs.declared.fault.Rule.TheVariants as rule

abbrev pub new_in : Value → List New
new_in (value.Path path) = []
new_in (value.New new) = new ∷ []

-- the constructions in statements
abbrev mutual
  pub news_of : Written → List New
  news_of (Declare class name v) = new_in v
  news_of (Assign path v) = new_in v
  news_of (If place test first second has_else) = news_in first ++ news_in second

  pub news_in : Block → List New
  news_in none = []
  news_in (x ▸ rest) = news_of x ++ news_in rest

-- those in the constructor of the class
abbrev pub made_by : Spec → ℕ → List New
made_by spec class = option_map_or (λ code. news_in (block_of code.body)) (constructor_in (members_of spec class)) []

abbrev pub classes_made : Spec → ℕ → List ℕ
classes_made spec class = filter_map (λ new. class_named spec new.class.name) (made_by spec class)

-- the class's constructor calls that of the other, directly or through at most so many others
abbrev pub calls : Spec → ℕ → ℕ → ℕ → Bool
calls spec zero class other = list_any (λ made. made == other) (classes_made spec class)
calls spec (suc between) class other = list_any (λ made. (made == other) || calls spec between made other) (classes_made spec class)

-- a `new` of this class, or of one whose constructor calls this class's. There are no more others than classes
abbrev pub leads_back : Spec → ℕ → New → List Fault
leads_back spec class new = option_map_or (λ made. broken_if ((made == class) || calls spec (length spec.classes) made class) rule.ConstructorCycle new.place) (class_named spec new.class.name) []

abbrev pub cycles_from : Spec → ℕ → List Class → List Fault
cycles_from spec class [] = []
cycles_from spec class (c ∷ rest) = flat_map (leads_back spec class) (made_by spec class) ++ cycles_from spec (suc class) rest

abbrev pub faults_of_cycles : Spec → List Fault
faults_of_cycles spec = cycles_from spec 0 spec.classes
