-- What comes of the words, by where it ends: they can't be had, memory is refused for their line, or that line is answered;
-- the answer is written, or not all of it.
use Rattle.std.proofs.Common.{◌∙◌, ◌++◌, Err, Ok, ap, inl, inr, subst, sym}
use Rattle.ticklab_answers.specs.Answers.{IsOfWordsOrFile, is_data}
use Rattle.ticklab_answers.specs.Colours.{colours_for, shown_as}
use Rattle.ticklab_answers.specs.Serving.{Grows}
use Rattle.ticklab_answers.specs.declared.colours.Colours.{Colours}
use Rattle.ticklab_files.specs.Faults.{IsOfOutput, IsUnread}
use Rattle.ticklab_verdicts.specs.Hearing.{hearing}
use Rattle.ticklab_files.specs.declared.fault.LabFault.{LabFault}
use Rattle.ticklab_answers.proofs.Responded.{asks_line, of_line, of_words}
use Rattle.ticklab_answers.proofs.Shown.{first_or_plain, shown_alike, written_whole}
use Rattle.ticklab_answers.proofs.ending.ended.Goals as goal

pub returns-in-Err : goal.returns-in-Err
returns-in-Err g c = (
  Err c.in-Err.fault,
  tt,
  inl (of_words (IsUnread g.F.Files.Reads g.F.Files.ReadsInput g.F.Files.Lists g.F.Files.Fails) c.args.host.now.version.now c.args.given c.in-Err.fault c.in-Err.ensures.err),
  c.failed.ensures,
)

pub returns-in-Err-asked : goal.returns-in-Err-asked
returns-in-Err-asked g c =
    let U = IsUnread g.F.Files.Reads g.F.Files.ReadsInput g.F.Files.Lists g.F.Files.Fails in (
      Err c.from.result,
      tt,
      inl (subst (λ (fault : LabFault). IsOfWordsOrFile U c.args.host.now.version.now c.args.given fault) (sym c.from.ensures) tt),
      c.failed-in-Err-asked.ensures,
    )

pub returns-in-Ok-told : goal.returns-in-Ok-told
returns-in-Ok-told g c =
    let shown = c.colours_for-colours.ensures ∙ ap (colours_for c.args.host.now.colours) c.is_data.ensures in
    let colours = colours_for c.args.host.now.colours (is_data c.in-Ok-asked.line) in
    let out_holds = g.O.Write.contents in
    let err_holds = g.T.Write.contents in
    let between = c.response_to.new.host in
    let response = c.in-Ok-response_to.response in
    let answered = c.in-Ok-response_to.ensures.ok in (
      Ok c.in-Ok-told.status,
      asks_line c.args.host.now.version.now c.in-Ok.words c.as_slice.result.now c.in-Ok-asked.line c.as_slice.ensures.value c.in-Ok-asked.ensures _ c.args.given
          c.in-Ok.ensures.ok (
            answered.0,
            response,
            answered.1,
            written_whole out_holds err_holds c.args.host.now between c.told.new.out c.told.new.err colours answered.0 response c.in-Ok-told.status answered.2
                (shown_alike c.args.host.now.colours (is_data c.in-Ok-asked.line) answered.0
                (first_or_plain g.F.Files.Reads g.F.Files.ReadsInput g.F.Files.Lists g.M.Runner.Ran (hearing g.W.Progress.begins g.W.Progress.finds g.W.Watch.hears)
                c.args.host.now.files between.files c.args.runner.now c.response_to.new.runner c.args.progress.now c.response_to.new.progress answered.0 response
                c.in-Ok-asked.line answered.1))
                c.in-Ok-told.ensures.status
                (subst (λ (k : Colours). Grows (out_holds between.out) (out_holds c.told.new.out) (shown_as k.out response.out.items)) shown c.in-Ok-told.ensures.out)
                (subst (λ (k : Colours). Grows (err_holds between.err) (err_holds c.told.new.err) (shown_as k.err response.told.items)) shown c.in-Ok-told.ensures.told),
          ),
      tt,
      c.from-in-Ok-told.ensures,
    )

pub returns-in-Ok-response_to : goal.returns-in-Ok-response_to
returns-in-Ok-response_to g c =
    let shown = c.colours_for-colours.ensures ∙ ap (colours_for c.args.host.now.colours) c.is_data.ensures in
    let response = c.in-Ok-response_to.response in
    let answered = c.in-Ok-response_to.ensures.ok in (
      Err c.in-Err-told.fault,
      tt,
      inr (asks_line c.args.host.now.version.now c.in-Ok.words c.as_slice.result.now c.in-Ok-asked.line c.as_slice.ensures.value c.in-Ok-asked.ensures _ c.args.given
          c.in-Ok.ensures.ok (
            answered.0,
            response,
            answered.1,
            subst (λ (colours : Colours). IsOfOutput (shown_as colours.out response.out.items ++ shown_as colours.err response.told.items) c.in-Err-told.fault) shown
                c.in-Err-told.ensures.err,
          )),
      c.failed-in-Err-told.ensures,
    )

pub returns : goal.returns
returns g c =
    let U = IsUnread g.F.Files.Reads g.F.Files.ReadsInput g.F.Files.Lists g.F.Files.Fails in (
      Err c.in-Err-response_to.fault,
      tt,
      inl (of_line c.args.host.now.version.now c.in-Ok.words c.as_slice.result.now c.in-Ok-asked.line c.as_slice.ensures.value c.in-Ok-asked.ensures U c.args.given
          c.in-Ok.ensures.ok c.in-Err-response_to.fault c.in-Err-response_to.ensures.err),
      c.failed-in-Err-response_to.ensures,
    )
