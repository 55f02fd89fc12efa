use Rattle.client_facts.specs.Held.{setting}
use Rattle.client_facts.specs.NameLists.{lists_in, of_procedure, tables_in}
use Rattle.client_facts.specs.Setting.{variables_of}
use Rattle.client_facts.proofs.ListedNames.{are_codes}
use Rattle.client_model.specs.Codes.{static_code, variable_code}
use Rattle.client_facts.proofs.names.made.Goals as goal

pub returns : goal.returns
returns c = record {
  statics = are_codes static_code (setting c.args.setting.now).client.statics (lists_in c.in_ok-statics.statics.items) c.in_ok-statics.ensures;
  variables = λ p.
      are_codes variable_code (variables_of (setting c.args.setting.now) p) (of_procedure (tables_in c.in_ok-variables.variables.items) p)
      (c.in_ok-variables.ensures p);
}
