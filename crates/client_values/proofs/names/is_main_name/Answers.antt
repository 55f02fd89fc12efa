use Rattle.std.proofs.Common.{rules, ap, codes, ◌∙◌}
use Rattle.std.proofs.lemmas.Str.{chars-IsAscii}
use Rattle.client_model.specs.Lookups.{is_same}
use Rattle.client_values.proofs.names.is_main_name.Goals as goal

pub returns : goal.returns
returns c = c.is_text.ensures ∙ ap (is_same c.args.name.now) (chars-IsAscii (codes "main") (search rules))
