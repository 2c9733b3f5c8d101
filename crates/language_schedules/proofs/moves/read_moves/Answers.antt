use Rattle.std.proofs.Common.{Vec, Global}
use Rattle.std.proofs.lemmas.Result.{IfOk-weaker}
use Rattle.ticket_core.specs.declared.moves.Move.{Move}
use Rattle.language_schedules.proofs.ScheduleLemmas.{moves_of-below}
use Rattle.language_schedules.proofs.moves.read_moves.Goals as goal

pub returns-clause-in_range : goal.returns-clause-in_range
returns-clause-in_range c = IfOk-weaker _ _ _ (λ (read : Vec Move Global) is. moves_of-below c.args.n c.args.text.now read.items is) c.read_pieces.ensures.ok
