use Rattle.std.proofs.Common.{refl}
use Rattle.tick_kinds.specs.Resolution.{resolved}
use Rattle.ticklab_files.specs.Asking.{place_of}
use Rattle.ticklab_runs.specs.Breaking.{breaking}
use Rattle.ticklab_runs.proofs.Breaks.{found_in, held_there, placed}
use Rattle.ticklab_runs.proofs.following.program_run.Goals as goal

pub returns-in-Some-clause-broken : goal.returns-in-Some-clause-broken
returns-in-Some-clause-broken c =
    let a = resolved c.args.program.now in
    let lines = c.args.lines.now.properties.items in
    let places = c.args.lines.now.places.items in
    let schedule = c.args.schedule.now in
    let b = c.in-Some.broken in
    let place = c.index-place.result.now in
    let first =
    found_in a lines c.as_slice-properties.result.now schedule c.in_ok-steps.broken b c.as_slice-properties.ensures.value c.in-Some.is
    c.in_ok-steps.ensures.broken in
    breaking b first (place_of place) (held_there place_of places b.line place (placed a lines places schedule b first c.requires.lines) c.index-place.ensures) refl
