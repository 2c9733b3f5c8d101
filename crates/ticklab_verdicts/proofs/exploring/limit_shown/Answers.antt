use Rattle.std.proofs.Common.{◌∙◌, ℕ, List, IfOk, ap, length, subst, sym}
use Rattle.std.specs.Prelude.{codes}
use Rattle.std.proofs.lemmas.List.{length-map}
use Rattle.ticklab_verdicts.specs.Lines.{limit_line, next_line}
use Rattle.ticklab_files.specs.Asking.{place_of}
use Rattle.ticklab_files.specs.Responses.{Gives}
use Rattle.ticklab_verdicts.specs.Shown.{IsStatesAnswer}
use Rattle.ticklab_verdicts.proofs.exploring.limit_shown.Goals as goal

pub returns : goal.returns
returns c =
    let output = c.args.task.now.search.output in
    let merged = c.args.is_merged in
    let states = c.args.states in
    let more = next_line merged c.args.task.now.limits states in
    let places = c.args.task.now.search.lines.now.places.items in
    let told = c.as_slice-places.result.now in
    let lines = ap length c.as_slice-places.ensures.value ∙ sym (length-map places place_of) in
    subst (λ (count : ℕ). IfOk c.states_shown.result (Gives 6 (IsStatesAnswer output (codes "limit") (limit_line merged states) merged states count more)))
    lines
    (subst (λ (says : List ℕ). IfOk c.states_shown.result (Gives 6 (IsStatesAnswer output (codes "limit") says merged states (length told) more)))
    (c.deref.ensures ∙ c.in_ok-says.ensures)
    (subst (λ (rest : List ℕ). IfOk c.states_shown.result (Gives 6 (IsStatesAnswer output (codes "limit") c.deref.result.now merged states (length told) rest)))
    (c.deref-2.ensures ∙ c.in_ok-more.ensures) c.states_shown.ensures))
