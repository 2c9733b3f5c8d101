use Rattle.std.proofs.Common.{◌∙◌}
use Rattle.tick_kinds.specs.Resolution.{resolved}
use Rattle.ticklab_verdicts.proofs.ToldLoops.{all_lawful}
use Rattle.ticklab_verdicts.proofs.ends.loops.loop_object.Goals as goal

pub source_steps-requires : goal.source_steps-requires
source_steps-requires c =
    all_lawful (resolved c.args.search.now.spelled.now.program).processes c.args.looped c.as_slice.result.now c.requires.lawful
    (c.as_slice.ensures.value ∙ c.in_ok-all.ensures)
