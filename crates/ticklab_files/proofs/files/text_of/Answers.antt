use Rattle.std.proofs.Common.{refl}
use Rattle.ticklab_files.specs.Ways.{held}
use Rattle.ticklab_files.proofs.files.text_of.Goals as goal

pub returns-clause-ok : goal.returns-clause-ok
returns-clause-ok g c = (held c.in_ok-from.texts, c.in_ok-from.ensures.ok, refl)
