use Rattle.std.proofs.Common.{◌∙◌, sym}
use Rattle.std.proofs.lemmas.List.{length-map}
use Rattle.ticklab_runs.proofs.seen.VisibleStateVisible.processes.Goals as goal

pub returns : goal.returns
returns c =
    let seen = c.args.self.now in
    seen.fits.0 ∙ sym (length-map seen.machine.now.processes (λ q. q.status))
