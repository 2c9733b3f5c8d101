use Rattle.std.proofs.Common.{◌≡◌, ℕ, List, subst}
use Rattle.std.proofs.lemmas.Result.{IfOk-weaker}
use Rattle.ticklab_explain.specs.declared.explanation.InputFault.TheVariants as I
use Rattle.ticklab_answers.specs.Explanations.{ExplainsSchedule, TellsFault, fine_in, schedule_explained, schedule_taken}
use Rattle.ticklab_answers.specs.Lines.{both_taken_line}
use Rattle.ticklab_files.specs.Responses.{Gives}
use Rattle.ticklab_answers.proofs.commands.explaining.explained_for.Goals as goal

pub returns-in-Some : goal.returns-in-Some
returns-in-Some c =
    let n = c.args.n in
    let from = c.args.from.now in
    let form = c.args.form in
    let refusal = c.in-Some.refusal in
    let refused = rw c.in-Some.is at c.in_ok-refusal.ensures in
    IfOk-weaker c.wrong.result (Gives 1 (TellsFault form n from c.as_bytes.result.now (I.Refused refusal)))
    (ExplainsSchedule n c.args.name.now from c.args.schedule.now form)
    (λ x h. schedule_explained refusal refused
    (subst (λ (text : List ℕ). Gives 1 (TellsFault form n from text (I.Refused refusal)) x) c.as_bytes.ensures.value h)) c.wrong.ensures

pub returns-in-None : goal.returns-in-None
returns-in-None c =
    let name = c.args.name.now in
    let spelled = rw c.in-None.is at c.in_ok-refusal.ensures in
    IfOk-weaker c.fine.result (Gives 0 (λ out. out ≡ fine_in c.args.form name (both_taken_line name)))
    (ExplainsSchedule c.args.n name c.args.from.now c.args.schedule.now c.args.form) (λ x h. schedule_taken spelled.0 spelled.1 h) c.fine.ensures
