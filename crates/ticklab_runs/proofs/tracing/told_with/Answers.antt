use Rattle.ticklab_runs.proofs.tracing.told_with.Goals as goal

pub returns-in-Text : goal.returns-in-Text
returns-in-Text c = rw c.in-Text.is c.broken_lines.ensures

pub returns-in-Json : goal.returns-in-Json
returns-in-Json c = rw c.in-Json.is c.broken_objects.ensures
