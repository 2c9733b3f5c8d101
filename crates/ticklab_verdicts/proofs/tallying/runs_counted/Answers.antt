use Rattle.std.proofs.Common.{◌≡◌, ◌∙◌, ap, refl}
use Rattle.ticklab_verdicts.specs.Lines.{count_texts}
use Rattle.ticklab_verdicts.specs.Tallies.{IsUncoded}
use Rattle.ticklab_files.proofs.Responding.{stopped_by}
use Rattle.ticklab_verdicts.proofs.Uncoded.{code_uncoded, file_uncoded, tally_by}
use Rattle.ticklab_verdicts.proofs.tallying.runs_counted.Goals as goal

pub returns-in_err-program-clause-refused : goal.returns-in_err-program-clause-refused
returns-in_err-program-clause-refused g c =
    stopped_by (λ report. IsUncoded c.args.name.now c.args.input.now report × (c.args.runner.now ≡ c.args.runner.now)) _ c.from_residual.result c.from_residual.ensures.1
    (file_uncoded refl c.args.name.now c.args.input.now _ c.in_err-program.ensures.refused)

pub returns-in_err-code-clause-refused : goal.returns-in_err-code-clause-refused
returns-in_err-code-clause-refused g c =
    stopped_by (λ report. IsUncoded c.args.name.now c.args.input.now report × (c.args.runner.now ≡ c.args.runner.now)) _ c.from_residual-in_err-code.result c.from_residual-in_err-code.ensures.1
    (code_uncoded refl c.args.name.now c.args.input.now c.in_ok-program.program c.in_ok-program.ensures.ok _ c.in_err-code.ensures.refused)

pub returns-clause-ok : goal.returns-clause-ok
returns-clause-ok g c =
    let made = c.in_ok-counts.ensures.counted in record {
      status = c.answer.ensures.status;
      quiet = c.answer.ensures.told;
      out = tally_by g.M.Runner.Ran _ _ c.args.times c.args.turns c.args.input.now c.in_ok-program.program c.in_ok-program.ensures.ok c.in_ok-code.ensures.has_code
          c.in_ok-code.code c.in_ok-code.ensures.code made.0 made.1 made.2 c.in_ok-counts.counts.items made.3 _
          (c.answer.ensures.out ∙ c.in_ok-text.ensures ∙ ap (count_texts c.args.times) c.as_slice.ensures.value);
    }
