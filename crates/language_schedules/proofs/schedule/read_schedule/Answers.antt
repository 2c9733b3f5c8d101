use Rattle.std.proofs.Common.{ℕ, Vec, Global}
use Rattle.std.proofs.lemmas.Result.{IfOk-weaker}
use Rattle.language_schedules.proofs.ScheduleLemmas.{schedule_of-below}
use Rattle.language_schedules.proofs.schedule.read_schedule.Goals as goal

pub returns-clause-in_range : goal.returns-clause-in_range
returns-clause-in_range c = IfOk-weaker _ _ _ (λ (read : Vec ℕ Global) is. schedule_of-below c.args.n c.args.text.now read.items is) c.read_pieces.ensures.ok
