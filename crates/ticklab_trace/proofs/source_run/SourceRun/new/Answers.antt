use Rattle.std.proofs.Common.{◌∙◌, ap, length, subst}
use Rattle.std.proofs.lemmas.List.{length-replicate}
use Rattle.tick_kinds.specs.Resolution.{resolved}
use Rattle.ticklab_trace.specs.prover.Links.{IsTable}
use Rattle.ticklab_trace.proofs.Running.{come_start}
use Rattle.ticklab_trace.proofs.source_run.SourceRun.new.Goals as goal

pub invariant_of-result : goal.invariant_of-result
invariant_of-result c =
    let zeros = c.in_ok-numbers.ensures.items_if_clones_equal (λ y same. same) in
    record {
      table = subst (λ b. IsTable b c.in_ok-links.links.items) c.body.ensures.resolved c.in_ok-links.ensures;
      processes = c.in_ok-machine.ensures.processes;
      numbers = ap length zeros ∙ length-replicate c.from.result 0 ∙ c.from.ensures ∙ c.processes.ensures.count;
      come = come_start (resolved c.args.program.now) c.in_ok-numbers.numbers.items c.from.result c.in_ok-machine.machine zeros c.in_ok-machine.ensures.start;
    }
