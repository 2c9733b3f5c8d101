use Rattle.std.proofs.Common.{◌<◌, arith}
use Rattle.std.proofs.lemmas.List.{length-map}
use Rattle.std.proofs.lemmas.Option.{slice_get_within}
use Rattle.tick_source.specs.Source.{statuses_of}
use Rattle.searches_hunt.proofs.Runs.{nothing_more}
use Rattle.searches_hunt.proofs.tried.Tried.have_stopped.Goals as goal

pub returns : goal.returns
returns c = λ e schedule.
    let s = c.args.self.now.machine in
    nothing_more c.args.self.now.processes schedule s (λ p status there runs.
    let inside : p < c.loop-p.p =
    omega (arith, slice_get_within (statuses_of s) p status there, length-map s.processes (λ q. q.status), c.args.self.now.count, c.loop-p-test.false) in
    c.loop-p.invariant p status inside there runs)
