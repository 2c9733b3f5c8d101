use Rattle.std.proofs.Common.{◌<◌, ap, ◌∙◌, refl, sym, map, length}
use Rattle.std.specs.Prelude.{slice_get, Some}
use Rattle.std.specs.Option.{option_map}
use Rattle.std.proofs.lemmas.Option.{slice_get-map, slice_get_read}
use Rattle.tick_source.specs.prover.Machine.{process_of}
use Rattle.tick_source.proofs.StandsFor.{in_range}
use Rattle.tick_source.proofs.machine.SourceMachine.variables.Goals as goal

pub returns : goal.returns
returns c =
    let m = c.self.inside in
    let qs = m.processes.items in
    let inside : c.args.p < length qs = in_range m c.args.self.now c.args.p c.self.view_is c.requires in
    ap (λ s. slice_get (map (λ q. q.variables) s.processes) c.args.p) (sym c.self.view_is)
    ∙ slice_get-map (λ q. q.variables) (map process_of qs) c.args.p
    ∙ ap (option_map (λ q. q.variables)) (slice_get-map process_of qs c.args.p ∙ ap (option_map process_of) (slice_get_read qs (length qs) c.args.p c.index.result.now refl inside c.index.ensures))
    ∙ ap Some (sym c.as_slice.ensures.value)
