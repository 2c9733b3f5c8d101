use Rattle.std.proofs.Common.{ℕ, List, Option, Bor, option_map, string_bytes, subst, sym}
use Rattle.ticklab_answers.specs.Explanations.{Explains, ExplainsBoth, ExplainsInput}
use Rattle.ticklab_runs.proofs.Ran.{read_both}
use Rattle.ticklab_answers.proofs.commands.explaining.explained.Goals as goal

pub returns-clause-ok : goal.returns-clause-ok
returns-clause-ok g c =
    let reads = g.F.Files.Reads in
    let reads_input = g.F.Files.ReadsInput in
    let file = c.args.file.now in
    let from = c.in_ok-from-in-Some.from.now in
    let response = c.in_ok-schedule_explained-in-Some.field-0 in
    subst (λ (given : Option (Bor (List ℕ))). Explains reads reads_input c.args.files.now c.text_of.new.files file (option_map (λ text. text.now) given) c.args.form response)
    (sym c.in-Some.is)
    (read_both reads reads_input c.args.files.now c.bytes_of.new.files _ file c.in-Some.schedule.now c.in_ok-input.input.items from
    (string_bytes c.in_ok-from-in-Some.text) _ c.in_ok-input.ensures.ok c.is_input.result c.is_input.ensures c.in_ok-from-in-Some.ensures.ok
    (subst (λ (text : List ℕ). ExplainsBoth file c.in_ok-input.input.items from text c.args.form response) c.deref.ensures
    (subst (λ (input : List ℕ). ExplainsBoth file input from c.deref.result.now c.args.form response) c.as_slice-in-Some.ensures.value
    c.in_ok-schedule_explained-in-Some.ensures)))

pub returns-in-None-clause-ok : goal.returns-in-None-clause-ok
returns-in-None-clause-ok g c =
    let file = c.args.file.now in
    let response = c.in_ok-input_explained-in-None.field-0 in
    subst (λ (given : Option (Bor (List ℕ))). Explains g.F.Files.Reads g.F.Files.ReadsInput c.args.files.now c.bytes_of.new.files file (option_map (λ text. text.now) given) c.args.form response)
    (sym c.in-None.is) (
      c.in_ok-input.input.items,
      c.in_ok-input.ensures.ok,
      subst (λ (input : List ℕ). ExplainsInput file input c.args.form response) c.as_slice.ensures.value c.in_ok-input_explained-in-None.ensures,
    )
