use Rattle.std.proofs.Common.{◌≡◌, ◌++◌, replicate}
use Rattle.language_schedules.proofs.moves.push_item.Given as goal

abbrev pub invariant-moves : goal.invariant-moves
invariant-moves l = l.moves.items ≡ l.fn.moves.items ++ replicate l.counter l.made
