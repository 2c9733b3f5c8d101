use Rattle.std.proofs.Common.{ℕ, Bor, List, subst}
use Rattle.ticklab_files.specs.Ways.{Texts, held}
use Rattle.ticklab_files.specs.Asking.{texts_of}
use Rattle.ticklab_runs.specs.Runs.{AnswersRun, IsTold, plain_telling, run, unrun}
use Rattle.ticklab_runs.proofs.Ran.{read_texts}
use Rattle.ticklab_files.proofs.Responding.{settled_with}
use Rattle.ticklab_runs.proofs.told_run.told.Goals as goal

pub returns-clause-ok : goal.returns-clause-ok
returns-clause-ok g c =
    let answered = c.run_told-answered.ensures in
    let asked = c.args.run.now in
    let file = asked.file.now in
    let input = c.in_ok-input.input.items in
    let from = c.in_ok-from.from.now in
    let response = c.in_ok-settled.field-0 in
    let telling = plain_telling c.args.telling.now in
    let given : Texts = held c.in_ok-from.given in
    let P : List (Bor (List ℕ)) → List ℕ → Type 0 =
    λ never input. AnswersRun telling asked.side (IsTold telling asked.side file (texts_of never) input) file from given response in
    read_texts g.F.Files.Reads g.F.Files.ReadsInput c.args.files.now c.bytes_of.new.files _ file asked.schedule.now input from
    given _ c.in_ok-input.ensures.ok c.is_input.result c.is_input.ensures c.in_ok-from.ensures.ok
    (subst (λ (bytes : List ℕ). P asked.never.items bytes) c.as_slice-input.ensures.value
    (subst (λ (never : List (Bor (List ℕ))). P never c.as_slice-input.result.now) c.as_slice-never.ensures.value
    (settled_with c.run_told-answered.result response (λ x h. run h) (λ x h. unrun h) answered.ok answered.refused c.in_ok-settled.ensures)))
