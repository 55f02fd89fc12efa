-- What the check of a client answers.
use Rattle.std.specs.Prelude.{◌≡◌, Option, Some, None}
use Rattle.client_model.specs.Program as told
use Rattle.client_model.specs.Checked.{seen}
use Rattle.client_model.specs.CheckedForm.{form_of}
use Rattle.client_model.specs.Faults.{Fault, Rule, fault}
use Rattle.client_model.specs.Faults as rule
use Rattle.client_model.specs.Rules.{first_fault}
use Rattle.client_model.specs.Trees.{Client}
use Rattle.client_types.specs.declared.client_fault.ClientFault.{ClientFault}
use Rattle.client_types.specs.declared.client_fault.ClientFault.TheVariants as answer
use Rattle.easl_model.specs.Form.{Form}
use Rattle.easl_model.specs.declared.place.Place.{Place}

-- the checked form of a client that breaks no rule of this specification
pub record IsCheckedAs (form : Form) (client : Client) (c : told.ClientForm) : Type 0 where
  pub well_formed : first_fault form client ≡ None
  pub is : seen c ≡ form_of form client

-- the answer that tells a fault
abbrev pub told_as : Rule → Place → ClientFault
told_as rule.Duplicate place = answer.Duplicate place
told_as rule.Unknown place = answer.Unknown place
told_as rule.Mismatch place = answer.Mismatch place
told_as rule.Unset place = answer.Unset place
told_as rule.NoReturn place = answer.NoReturn place
told_as rule.NoMain place = answer.NoMain place
told_as rule.Unreachable place = answer.Unreachable place
told_as rule.OutsideLoop place = answer.OutsideLoop place

-- the answer is the first fault, or that no memory was found
abbrev pub Tells : Option Fault → ClientFault → Type 0
Tells first (answer.Duplicate place) = first ≡ Some (fault rule.Duplicate place)
Tells first (answer.Unknown place) = first ≡ Some (fault rule.Unknown place)
Tells first (answer.Mismatch place) = first ≡ Some (fault rule.Mismatch place)
Tells first (answer.Unset place) = first ≡ Some (fault rule.Unset place)
Tells first (answer.NoReturn place) = first ≡ Some (fault rule.NoReturn place)
Tells first (answer.NoMain place) = first ≡ Some (fault rule.NoMain place)
Tells first (answer.Unreachable place) = first ≡ Some (fault rule.Unreachable place)
Tells first (answer.OutsideLoop place) = first ≡ Some (fault rule.OutsideLoop place)
Tells first answer.Memory = Unit {0}
