use Rattle.std.proofs.Common.{ap, sym, ◌+◌, ◌∙◌}
use Rattle.std.specs.Prelude.{option_and_then, option_map, slice_get}
use Rattle.client_model.specs.Settings.{procedure_from}
use Rattle.client_values.proofs.FirstNamed.{header_at}
use Rattle.client_values.specs.Calling.{callee_by_header}
use Rattle.client_values.proofs.headers.Headers.called.Goals as goal

pub returns-in-Some : goal.returns-in-Some
returns-in-Some c =
    let s = c.self.inside in
    c.numbered.ensures ∙ ap (λ hs. option_map (callee_by_header (c.in-Some.before + 1)) (slice_get hs c.in-Some.before)) (sym c.self.view_is)
    ∙ sym (ap (option_and_then (λ n. option_map (callee_by_header (n + 1)) (slice_get s.headers n))) c.in-Some.is)
    ∙ sym (header_at c.args.name.now s.headers s.names c.first.result c.self.invariant c.first.ensures.position)
    ∙ ap (λ hs. procedure_from 1 hs c.args.name.now) c.self.view_is

pub returns-in-None : goal.returns-in-None
returns-in-None c =
    let s = c.self.inside in
    sym (ap (option_and_then (λ n. option_map (callee_by_header (n + 1)) (slice_get s.headers n))) c.in-None.is)
    ∙ sym (header_at c.args.name.now s.headers s.names c.first.result c.self.invariant c.first.ensures.position)
    ∙ ap (λ hs. procedure_from 1 hs c.args.name.now) c.self.view_is
