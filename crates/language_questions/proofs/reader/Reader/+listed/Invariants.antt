use Rattle.std.proofs.Common.{◌+◌, ◌*◌}
use Rattle.language_questions.proofs.reader.Reader.+listed.Given as goal

abbrev pub decreases-listed : goal.decreases-listed
decreases-listed l = 2 * l.room

abbrev pub decreases-next_listed : goal.decreases-next_listed
decreases-next_listed l = 2 * l.room + 1
