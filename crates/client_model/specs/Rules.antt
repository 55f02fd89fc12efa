-- The rules of a client, pass by pass.
use Rattle.std.specs.Prelude.{◌≡◌, not, List, [], Option, ◌++◌}
use Rattle.std.specs.List.{flat_map, list_any}
use Rattle.std.specs.Option.{option_or}
use Rattle.client_model.specs.Bodies.{Body, all_in, bodies_of}
use Rattle.client_model.specs.BodyFaults.{faults_at, no_return}
use Rattle.client_model.specs.Faults.{Fault, NoMain, broken_if, first_of}
use Rattle.client_model.specs.HeaderFaults.{faults_of_headers, is_main}
use Rattle.client_model.specs.Trees.{Client, Initialiser, Item, Procedure, procedures_in}
use Rattle.easl_model.specs.Form.{Form}

-- of the end of an item
abbrev pub faults_of_end : Item → List Fault
faults_of_end (Initialiser x) = []
faults_of_end (Procedure p) = no_return p

-- of an initialiser, or of the body of a procedure
abbrev pub faults_of_body : Body → List Fault
faults_of_body b = flat_map faults_at (all_in b) ++ faults_of_end b.item

abbrev pub faults_of_bodies : Form → Client → List Fault
faults_of_bodies form client = flat_map faults_of_body (bodies_of form client)

-- NoMain: there is no procedure `main`, at the end of the text
abbrev pub no_main : Client → List Fault
no_main client = broken_if (not (list_any is_main (procedures_in client.items))) NoMain client.end

-- the first fault of the first pass that finds one
abbrev pub first_fault : Form → Client → Option Fault
first_fault form client =
    option_or (first_of (faults_of_headers form client)) (option_or (first_of (faults_of_bodies form client)) (first_of (no_main client)))

-- no rule applies
pub record IsWellFormed (form : Form) (client : Client) : Type 0 where
  pub headers : faults_of_headers form client ≡ []
  pub bodies : faults_of_bodies form client ≡ []
  pub main : no_main client ≡ []
