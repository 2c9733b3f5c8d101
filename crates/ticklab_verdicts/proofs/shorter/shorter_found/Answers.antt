use Rattle.std.proofs.Common.{◌≡◌, Bool, ℕ, true, List, subst, sym}
use Rattle.std.specs.Prelude.{Vec}
use Rattle.std.specs.Global.{Global}
use Rattle.tick_source.specs.Source.{source}
use Rattle.searches_explore.specs.Lines.{is_fault, lines_of}
use Rattle.ticklab_verdicts.specs.Hearing.{hearing}
use Rattle.ticklab_verdicts.specs.Sought.{IsLawful}
use Rattle.ticklab_files.proofs.Responding.{then_ok}
use Rattle.ticklab_verdicts.proofs.Placed.{held_of, program_of}
use Rattle.ticklab_verdicts.proofs.Shortened.{told_on}
use Rattle.ticklab_verdicts.proofs.shorter.shorter_found.Goals as goal

pub shorter_sought-requires-clause-lawful : goal.shorter_sought-requires-clause-lawful
shorter_sought-requires-clause-lawful g c =
    subst (λ (s : Vec ℕ Global). IsLawful c.args.task.now.search s.items) (sym c.into_schedule.ensures) c.requires.lawful

pub shorter_sought-requires-clause-fault : goal.shorter_sought-requires-clause-fault
shorter_sought-requires-clause-fault g c =
    let q = c.args.task.now.search in
    subst (λ (s : Vec ℕ Global). is_fault (lines_of (held_of q)) (source (program_of q) s.items) ≡ true) (sym c.into_schedule.ensures) c.requires.fault

pub returns : goal.returns
returns g c =
    let q = c.args.task.now.search in
    let H = hearing g.W.Progress.begins g.W.Progress.finds g.W.Watch.hears in
    then_ok c.shorter_sought.result (λ x single. told_on q c.args.task.now.limits H _ _ c.args.merged _ _ x
    (subst (λ (k : Bool). g.W.Progress.finds c.args.progress.now k c.found.new.self) c.is_break.ensures c.found.ensures) single) c.shorter_sought.ensures
