use Rattle.std.proofs.Common.{◌≡◌, drop, map, length}
use Rattle.tick_syntax.specs.prover.Reading.{names_at}
use Rattle.base.specs.Plain.{name_of}
use Rattle.tick_syntax.proofs.Loops.{after_names}
use Rattle.tick_syntax.proofs.parser.Parser.names.Given as goal

abbrev pub invariant-loop-names : goal.invariant-loop-names
invariant-loop-names l =
    after_names (map name_of l.names.items) (names_at l.self.end (drop l.at l.self.tokens.now))
    ≡ names_at l.self.end (drop l.fn.start l.self.tokens.now)

abbrev pub decreases-loop-names : goal.decreases-loop-names
decreases-loop-names l = length (drop l.at l.self.tokens.now)
