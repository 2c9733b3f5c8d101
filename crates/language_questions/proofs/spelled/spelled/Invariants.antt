use Rattle.std.proofs.Common.{◌≡◌, drop}
use Rattle.language_questions.specs.Spelled.{spelled_now}
use Rattle.language_questions.proofs.spelled.spelled.Given as goal

abbrev pub invariant-loop-text : goal.invariant-loop-text
invariant-loop-text g l = spelled_now (drop l.text-index l.rows) l.letters ≡ spelled_now l.rows l.letters
