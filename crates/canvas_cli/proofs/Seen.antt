-- What is known of the calls of a client that fits.
use Rattle.std.proofs.Common.{◌≡◌, ◌<◌, ℕ, length}
use Rattle.std.specs.Prelude.{Some, slice_get}
use Rattle.client_run.proofs.Fitted.{fitting_calls}
use Rattle.client_run.specs.Fitting.{CallFits}
use Rattle.client_model.specs.Program as told
use Rattle.client_model.specs.declared.form.CallSite.{CallSite}
use Rattle.client_model.specs.Checked.{IsFitting}
use Rattle.easl_model.proofs.Items.{all_at}
use Rattle.easl_model.specs.Checked.{IsChecked}
use Rattle.easl_model.specs.Form.{Form}

-- the method of a call is there
pub method_there : (form : Form) (c : told.ClientForm) (call : ℕ) (site : CallSite) → IsChecked form → IsFitting form c → slice_get c.calls call ≡ Some site
    → site.method < length form.methods
method_there form c call site checked fits at = (all_at (CallFits form) c.calls call site (fitting_calls form c checked fits) at).there
