use Rattle.std.proofs.Common.{ℕ, List, drop, map, string_bytes}
use Rattle.ticklab_files.specs.Asking.{texts_of}
use Rattle.ticklab_answers.specs.Checks.{IsUnderOne}
use Rattle.ticklab_answers.proofs.Listed.{AreNamedSoFar}
use Rattle.ticklab_answers.proofs.commands.checking.names_of.Given as goal

abbrev pub invariant-loop-path : goal.invariant-loop-path
invariant-loop-path g l =
    AreNamedSoFar g.F.Files.Lists l.fn.files (texts_of l.paths) l.files (texts_of (drop l.path-index l.paths)) (map string_bytes l.names.items)
    × ((name : List ℕ) → IsUnderOne (texts_of (drop l.path-index l.paths)) name → IsUnderOne (texts_of l.paths) name)
