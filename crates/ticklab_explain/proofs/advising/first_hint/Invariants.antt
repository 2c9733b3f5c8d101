use Rattle.std.proofs.Common.{◌≡◌, drop}
use Rattle.ticklab_explain.specs.Advising.{first_hint}
use Rattle.ticklab_explain.specs.Rows.{slips_of}
use Rattle.ticklab_explain.proofs.advising.first_hint.Given as goal

abbrev pub invariant-loop-words : goal.invariant-loop-words
invariant-loop-words l =
    first_hint (slips_of (drop l.words-index l.slips)) l.letters l.other ≡ first_hint (slips_of l.slips) l.letters l.other
