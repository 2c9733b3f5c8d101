use Rattle.std.proofs.Common.{refl}
use Rattle.ticketc_refusals.specs.Refusals.{no_schedule}
use Rattle.ticketc_refusals.proofs.judgement.schedule_refusal.Goals as goal

pub returns-in_default : goal.returns-in_default
returns-in_default c = no_schedule c.in-Err.fault (c.in-Err.ensures.err c.in_default.not-NoMemory) refl
