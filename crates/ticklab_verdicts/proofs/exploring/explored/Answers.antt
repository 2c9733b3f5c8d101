use Rattle.std.proofs.Common.{◌∙◌, ℕ, List, [], Err, ap, map, refl, subst, sym}
use Rattle.searches_explore.specs.Lines.{lines_of}
use Rattle.ticklab_files.specs.Asking.{TextPlace, place_of, places_by, texts_of}
use Rattle.ticklab_check.specs.Checking.{asked_for}
use Rattle.ticklab_verdicts.specs.Exploring.{IsExplored, ends_too, explored, unexplored}
use Rattle.ticklab_verdicts.specs.Found.{IsFound}
use Rattle.ticklab_verdicts.specs.Hearing.{IsHeard, hearing}
use Rattle.ticklab_files.specs.declared.response.Response.{Response}
use Rattle.ticklab_verdicts.proofs.EndsSearched.{ends_moved}
use Rattle.ticklab_verdicts.proofs.Heard.{heard_as}
use Rattle.ticklab_files.proofs.ProgramFiles.{asks_of}
use Rattle.ticklab_files.proofs.Responding.{settled_with}
use Rattle.ticklab_verdicts.proofs.exploring.explored.Goals as goal

pub returns-in-Err-clause-ok : goal.returns-in-Err-clause-ok
returns-in-Err-clause-ok g c =
    let H = hearing g.W.Progress.begins g.W.Progress.finds g.W.Watch.hears in
    let explores : List ℕ → Response → Type 0 = λ input y. IsHeard H c.args.progress.now c.args.progress.now
    (IsExplored c.args.steps c.args.file.now (texts_of c.args.never.now) c.args.limits c.args.output input y) in
    let x = c.in_ok-settled-in-Err.field-0 in (
      c.in_ok-input.input.items,
      c.in_ok-input.ensures.ok,
      subst (λ (input : List ℕ). explores input x) c.as_slice-bytes.ensures.value
          (settled_with {P = λ y. ⊥} {R = explores c.as_slice-bytes.result.now} (Err c.in-Err.stop) x (λ y h. absurd h)
          (λ y refused. record { heard = []; is = refl; lawful = unexplored refused refl }) tt c.in-Err.ensures.refused c.in_ok-settled-in-Err.ensures),
    )

pub returns-in-Some-clause-ok : goal.returns-in-Some-clause-ok
returns-in-Some-clause-ok g c =
    let known = c.in-Ok.ensures.asks in
    let held = c.in-Ok.asked.lines in
    let texts = texts_of c.args.never.now in
    let input = c.as_slice-bytes.result.now in
    let x = c.in_ok-response-in-Some.response in (
      c.in_ok-input.input.items,
      c.in_ok-input.ensures.ok,
      subst (λ (input : List ℕ). IsHeard (hearing g.W.Progress.begins g.W.Progress.finds g.W.Watch.hears) c.args.progress.now c.ends_found.new.progress
          (IsExplored c.args.steps c.args.file.now texts c.args.limits c.args.output input x)) c.as_slice-bytes.ensures.value
          (ends_moved (hearing g.W.Progress.begins g.W.Progress.finds g.W.Watch.hears) _ _ c.args.steps
          (record { input = input; program = c.in-Ok.asked.spelled.program; lines = lines_of held.properties.items; places = []; output = c.args.output })
          (map place_of held.places.items) (places_by c.args.file.now input known.asked texts) c.in-Some.conditions c.in-Some.conditions c.args.limits x
          (IsExplored c.args.steps c.args.file.now texts c.args.limits c.args.output input x) known.stand refl
          (λ heard found. ends_too (asks_of known) c.in-Some.conditions (ap asked_for known.who ∙ sym c.asked_for.ensures ∙ c.in-Some.is) found)
          c.in_ok-response-in-Some.ensures),
    )

pub returns-clause-ok : goal.returns-clause-ok
returns-clause-ok g c =
    let known = c.in-Ok.ensures.asks in
    let held = c.in-Ok.asked.lines in
    let texts = texts_of c.args.never.now in
    let input = c.as_slice-bytes.result.now in
    let x = c.in_ok-response-in-None.response in (
      c.in_ok-input.input.items,
      c.in_ok-input.ensures.ok,
      subst (λ (input : List ℕ). IsHeard (hearing g.W.Progress.begins g.W.Progress.finds g.W.Watch.hears) c.args.progress.now c.found.new.progress
          (IsExplored c.args.steps c.args.file.now texts c.args.limits c.args.output input x)) c.as_slice-bytes.ensures.value
          (heard_as (hearing g.W.Progress.begins g.W.Progress.finds g.W.Watch.hears) _ _ (λ heard found. explored (asks_of known)
          (ap asked_for known.who ∙ sym c.asked_for.ensures ∙ c.in-None.is)
          (subst (λ (at : List TextPlace). IsFound (record { input = input; program = c.in-Ok.asked.spelled.program; lines = lines_of held.properties.items; places = at; output = c.args.output })
          c.args.limits c.args.steps x heard)
          known.stand found)) c.in_ok-response-in-None.ensures),
    )
