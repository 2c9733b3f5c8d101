use Rattle.std.proofs.Common.{◌≡◌, ◌-◌, drop, length}
use Rattle.language_questions.specs.Missed.{missed_among}
use Rattle.language_questions.proofs.reader.Reader.missed.Given as goal

abbrev pub invariant-loop-place : goal.invariant-loop-place
invariant-loop-place l =
    missed_among l.self.text.now l.place (drop l.place l.self.text.now)
    ≡ missed_among l.self.text.now l.fn.from (drop l.fn.from l.self.text.now)

abbrev pub decreases-loop-place : goal.decreases-loop-place
decreases-loop-place l = length l.self.text.now - l.place
