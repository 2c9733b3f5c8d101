use Rattle.std.proofs.Common.{◌∙◌, ap, sym}
use Rattle.ticklab_line.specs.Conflicts.{conflict_in as conflict_found}
use Rattle.ticklab_line.proofs.Subcommands.{of_one}
use Rattle.ticklab_line.proofs.conflicts.conflict_in.Goals as goal

pub returns : goal.returns
returns c =
    c.conflict_of.ensures ∙ sym (ap conflict_found (of_one _ _ _ _ _ c.in_ok-name.ensures.name c.in_ok-name.ensures.rows))
