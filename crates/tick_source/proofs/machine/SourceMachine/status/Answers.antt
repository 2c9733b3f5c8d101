use Rattle.std.proofs.Common.{◌<◌, ap, ◌∙◌, sym, length}
use Rattle.std.specs.Prelude.{slice_get}
use Rattle.tick_source.specs.Source.{statuses_of}
use Rattle.tick_source.proofs.StandsFor.{in_range, status_held}
use Rattle.tick_source.proofs.machine.SourceMachine.status.Goals as goal

pub returns : goal.returns
returns c =
    let m = c.self.inside in
    let inside : c.args.p < length m.processes.items = in_range m c.args.self.now c.args.p c.self.view_is c.requires in
    ap (λ s. slice_get (statuses_of s) c.args.p) (sym c.self.view_is) ∙ status_held m c.args.p c.index.result.now c.index.ensures inside
