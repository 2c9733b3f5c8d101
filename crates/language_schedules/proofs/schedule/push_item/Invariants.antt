use Rattle.std.proofs.Common.{◌≡◌, ◌++◌, replicate}
use Rattle.language_schedules.proofs.schedule.push_item.Given as goal

abbrev pub invariant-steps : goal.invariant-steps
invariant-steps l = l.steps.items ≡ l.fn.steps.items ++ replicate l.counter l.process
