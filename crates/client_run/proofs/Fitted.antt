-- What a client that fits a specification keeps.
use Rattle.std.proofs.Common.{All, ap, subst, sym}
use Rattle.client_run.proofs.Calls.{calls_fit}
use Rattle.client_run.proofs.Forms.{forms_agree}
use Rattle.client_run.specs.Fitting.{CallFits}
use Rattle.client_run.specs.Graph.{AreAgreed}
use Rattle.client_model.specs.Program as told
use Rattle.client_model.specs.Checked.{IsFitting, seen}
use Rattle.easl_model.specs.Checked.{IsChecked}
use Rattle.easl_model.specs.Form.{Form}

pub fitting_agreed : (form : Form) (c : told.ClientForm) → IsFitting form c → AreAgreed (seen c)
fitting_agreed form c fits = forms_agree form (seen c) fits

pub fitting_calls : (form : Form) (c : told.ClientForm) → IsChecked form → IsFitting form c → All (CallFits form) c.calls
fitting_calls form c checked fits =
    subst (All (CallFits form)) (sym (ap (λ d. d.calls) fits.is)) (calls_fit form fits.client checked fits.well_formed.bodies)
