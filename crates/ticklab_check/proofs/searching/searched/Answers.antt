use Rattle.std.proofs.Common.{◌∙◌, List, ap, map, subst}
use Rattle.language_properties.specs.Properties.{Formula}
use Rattle.language_questions.specs.Lines.{asked_of}
use Rattle.searches_explore.specs.Lines.{lines_of}
use Rattle.tick_kinds.specs.Resolution.{resolved}
use Rattle.ticklab_check.specs.Checking.{IsFound}
use Rattle.ticklab_check.proofs.Finding.{lines_kept}
use Rattle.ticklab_check.proofs.searching.searched.Goals as goal

pub returns : goal.returns
returns c =
    let asked = asked_of c.args.questions in
    let a = resolved c.args.program.now in
    let lines = ap lines_of (c.deref.ensures.value ∙ c.in_ok-properties.ensures) ∙ lines_kept c.args.questions.never.items in
    let found = subst (λ (lines : List Formula). IsFound a lines c.args.limits c.asked_for-asked.result c.in_ok-found.found) lines c.in_ok-found.ensures in record {
      program = c.args.program.now;
      is = c.requires.program;
      asked = asked;
      asks = c.requires.asks;
      finds = subst (λ who. IsFound a (map (λ line. line.0) asked.never) c.args.limits who c.in_ok-found.found) c.asked_for-asked.ensures found;
      expects = c.expected_of-expected.ensures;
      counts = c.lines_asked-lines.ensures;
    }
