use Rattle.std.proofs.Common.{List, ℕ, map, string_bytes}
use Rattle.std.specs.Vec.Iter.{into_iter_items}
use Rattle.ticklab_answers.specs.Checks.{IsAmong}
use Rattle.ticklab_answers.proofs.Listed.{AreReadSoFar}
use Rattle.ticklab_answers.proofs.commands.checking.sources_of.Given as goal

abbrev pub invariant-loop-name : goal.invariant-loop-name
invariant-loop-name g l =
    AreReadSoFar g.F.Files.Reads g.F.Files.ReadsInput l.fn.files (map string_bytes l.fn.names.items) l.files
    (map string_bytes (into_iter_items l.name-iterator)) l.sources.items
    × ((name : List ℕ) → IsAmong (map string_bytes (into_iter_items l.name-iterator)) name → IsAmong (map string_bytes l.fn.names.items) name)
