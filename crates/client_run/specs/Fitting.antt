-- Calls that can be made.
use Rattle.std.specs.Prelude.{◌≡◌, ◌<◌, IfSome, length, slice_get}
use Rattle.client_model.specs.declared.form.CallSite.{CallSite}
use Rattle.easl_heap.specs.Body.{argument_count}
use Rattle.easl_model.specs.Form.{Form}

-- the method is there, and takes as many arguments
pub record CallFits (form : Form) (site : CallSite) : Type 0 where
  pub there : site.method < length form.methods
  pub args : IfSome (slice_get form.methods site.method) (λ m. length site.args ≡ argument_count m)
