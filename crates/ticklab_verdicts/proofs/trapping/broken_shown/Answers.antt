use Rattle.ticklab_files.specs.Asking.{place_of}
use Rattle.ticklab_files.proofs.LinesAsked.{place_there}
use Rattle.ticklab_verdicts.proofs.trapping.broken_shown.Goals as goal

pub returns : goal.returns
returns c = record {
  place = place_of c.index-place.result.now;
  there = place_there c.args.search.now.lines.now.places.items c.args.line c.index-place.result.now c.requires.line c.index-place.ensures;
  shown = record {
    status = c.output.ensures.status;
    quiet = c.output.ensures.told;
    out = rw c.output.ensures.out c.in_ok-out.ensures;
  };
}
