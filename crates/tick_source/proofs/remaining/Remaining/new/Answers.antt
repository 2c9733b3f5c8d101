use Rattle.std.proofs.Common.{ap, ◌∙◌}
use Rattle.tick_source.specs.prover.Remaining.{joined}
use Rattle.tick_source.proofs.Open.{onto-nil}
use Rattle.tick_kinds.specs.Resolved.{resolved_block}
use Rattle.base.specs.Plain.{onto}
use Rattle.tick_source.proofs.remaining.Remaining.new.Goals as goal

pub returns : goal.returns
returns c = c.in_ok-enter.ensures.ok ∙ ap (λ r. onto (resolved_block c.args.block.now) (joined r)) c.new.ensures.items ∙ onto-nil (resolved_block c.args.block.now)
