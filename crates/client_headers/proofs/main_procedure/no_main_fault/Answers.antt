use Rattle.std.proofs.Common.{ap, not, ◌∙◌}
use Rattle.std.specs.Prelude.{None}
use Rattle.std.specs.List.{list_any}
use Rattle.client_headers.proofs.Duplicates.{any_map}
use Rattle.client_headers.proofs.main_procedure.no_main_fault.Goals as goal
use Rattle.client_model.specs.Faults.{NoMain, broken_if, comes_before}
use Rattle.client_model.specs.HeaderFaults.{is_main}
use Rattle.client_model.specs.Trees.{procedure_of}
use Rattle.easl_model.specs.Faults.{first_with}

pub returns : goal.returns
returns c =
    let there = c.has_main-is_there.ensures ∙ any_map is_main procedure_of c.procedures_of.result.now ∙ ap (list_any is_main) c.procedures_of.ensures in
    c.note_if.ensures ∙ ap (λ b. first_with comes_before None (broken_if (not b) NoMain c.args.client.now.end)) there
