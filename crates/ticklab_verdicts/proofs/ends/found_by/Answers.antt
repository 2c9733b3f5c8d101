use Rattle.ticklab_verdicts.specs.Hearing.{hearing}
use Rattle.ticklab_files.proofs.Responding.{then_ok}
use Rattle.ticklab_verdicts.proofs.EndsSearched.{ends_found_as, showable_if}
use Rattle.ticklab_verdicts.proofs.Placed.{within_places}
use Rattle.ticklab_verdicts.proofs.ends.found_by.Goals as goal

pub shown-requires : goal.shown-requires
shown-requires g c =
    let q = c.args.task.now.search in
    let e = c.in_ok-explored.explored in
    let is = c.in_ok-explored.ensures in
    record {
      sound = c.requires.sound;
      schedule = is.searched.known.lawful;
      line = within_places q c.requires.sound e is.searched.known.within;
      shown = showable_if q c.args.asked c.args.is_merged e is.known;
    }

pub returns : goal.returns
returns g c =
    then_ok c.shown.result (λ x shows. ends_found_as c.args.task.now.search c.args.task.now.limits c.args.asked (hearing g.W.Progress.begins g.W.Progress.finds g.W.Watch.hears) _ _
    c.args.is_merged c.in_ok-explored.explored x c.in_ok-explored.ensures shows) c.shown.ensures
