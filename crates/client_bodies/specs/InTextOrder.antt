-- Going through the items of a client in text order: where one stands, and what there is in the end.
use Rattle.std.specs.Prelude.{◌≡◌, ℕ, suc, Bool, List, [], ◌∷◌, ◌++◌, Option, drop, filter_map, length, map, option_map}
use Rattle.std.specs.List.{flat_map}
use Rattle.client_model.specs.SetNumbers.{AreNumbered}
use Rattle.client_bodies.specs.declared.bodies.Progress.{Progress}
use Rattle.client_bodies.specs.declared.tables.Tables.{Tables}
use Rattle.client_model.specs.declared.tree.Client.{Client}
use Rattle.client_model.specs.Bodies.{before_initialiser, bodies_from}
use Rattle.client_points.specs.Wholes.{Whole, sets_by, unset_seen, with_bodies}
use Rattle.client_model.specs.Faults.{Fault, comes_before}
use Rattle.client_model.specs.Rules.{faults_of_body}
use Rattle.client_model.specs.Settings.{Header, Setting, Variable, header_of, statics_from}
use Rattle.client_model.specs.Trees.{Item, items_of, procedures_in, statics_in}
use Rattle.client_values.specs.Knowing.{Knows}
use Rattle.client_values.specs.ToldFaults.{fault_told}
use Rattle.easl_model.specs.Faults.{first_with}
use Rattle.easl_model.specs.Form.{Form}

-- the items in this order, behind so many statics and procedures
abbrev pub items_behind : Client → ℕ → ℕ → List Bool → List Item
items_behind client statics procedures order = items_of order (drop statics client.statics) (drop procedures client.procedures)

-- these statics, and those of the items in this order behind these
abbrev pub statics_in_end : Form → Client → Tables → List Bool → List Variable
statics_in_end form client t order =
    t.statics ++ statics_from form (length t.statics) (statics_in (items_behind client (length t.statics) (length t.procedures) order))

-- the same of headers
abbrev pub headers_in_end : Form → Client → Tables → List Bool → List Header
headers_in_end form client t order =
    t.procedures ++ map (header_of form) (procedures_in (items_behind client (length t.statics) (length t.procedures) order))

-- so many statics, procedures and calls stand before
pub record Stands (s : Setting) (p : Progress) : Type 0 where
  pub start : Knows (before_initialiser s p.start.points p.start.calls) p.start
  pub numbered : AreNumbered s

-- the first of what was found and of the faults of the items in this order behind these
abbrev pub first_in_end : Setting → Client → Progress → List Bool → Option Fault
first_in_end s client p order =
    let items = items_behind client p.start.points p.procedures order
    in first_with comes_before (option_map fault_told p.found) (flat_map faults_of_body (bodies_from s p.start.points (suc p.procedures) p.start.calls items))

-- the faults of the items in this order behind these
abbrev pub faults_behind : Setting → Client → Progress → List Bool → List Fault
faults_behind s client p order =
    flat_map faults_of_body (bodies_from s p.start.points (suc p.procedures) p.start.calls (items_behind client p.start.points p.procedures order))

-- the names that are set in the procedures so far, and in those of the items in this order behind these
abbrev pub sets_in_end : Setting → Client → Progress → List Bool → List (List (List ℕ))
sets_in_end s client p order =
    map (λ f. f.set) p.forms
    ++ filter_map (λ b. sets_by b b.item) (bodies_from s p.start.points (suc p.procedures) p.start.calls (items_behind client p.start.points p.procedures order))

-- where what stands behind breaks no rule, so does what stands behind the next item, and the same names are set in the end
abbrev pub SetsStay : Setting → Client → Progress → Progress → Bool → Type 0
SetsStay s client old new is_static = (order : List Bool) → faults_behind s client old (is_static ∷ order) ≡ []
    → (faults_behind s client new order ≡ []) × (sets_in_end s client new order ≡ sets_in_end s client old (is_static ∷ order))

-- what is written so far
abbrev pub so_far : Progress → Whole
so_far p = record { initial = p.written.points; procedures = map unset_seen p.forms; calls = p.written.calls }

abbrev pub nothing_yet : Whole
nothing_yet = record { initial = []; procedures = []; calls = [] }

-- that, and what is written of the items in this order behind these
abbrev pub all_in_end : Setting → Client → Progress → List Bool → Whole
all_in_end s client p order =
    with_bodies s.form (bodies_from s p.start.points (suc p.procedures) p.start.calls (items_behind client p.start.points p.procedures order)) (so_far p)
