-- What the code holds of a setting.
use Rattle.client_facts.specs.Setting.{Setting}
use Rattle.client_model.specs.Checked.{seen}
use Rattle.client_model.specs.Program.{ClientForm}
use Rattle.easl_model.specs.Form.{Form}
use Rattle.method_abstraction.specs.declared.entry.Abstraction.{Abstraction}

-- the checked specification, the checked client as the code keeps it, and what is derived
pub record Held : Type 0 where
  pub form : Form
  pub client : ClientForm
  pub abstraction : Abstraction

abbrev pub setting : Held → Setting
setting h = record { form = h.form; client = seen h.client; abstraction = h.abstraction }
