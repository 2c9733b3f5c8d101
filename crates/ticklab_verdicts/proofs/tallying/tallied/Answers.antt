use Rattle.std.proofs.Common.{ℕ, List, subst}
use Rattle.ticklab_verdicts.specs.Tallies.{IsTallied, tallied, untallied}
use Rattle.ticklab_files.proofs.Responding.{settled_with}
use Rattle.ticklab_verdicts.proofs.tallying.tallied.Goals as goal

pub returns-clause-ok : goal.returns-clause-ok
returns-clause-ok g c =
    let counted = c.runs_counted-counted.ensures in (
      c.in_ok-input.input.items,
      c.in_ok-input.ensures.ok,
      subst (λ (input : List ℕ). IsTallied g.M.Runner.Ran c.args.runner.now c.runs_counted-counted.new.runner c.args.file.now c.args.times c.args.turns input c.in_ok-settled.field-0)
          c.as_slice.ensures.value
          (settled_with c.runs_counted-counted.result c.in_ok-settled.field-0 (λ x h. tallied h)
          (λ x h. untallied (record { status = h.status; nothing = h.nothing; told = h.told.0 }) h.told.1)
          counted.ok counted.refused c.in_ok-settled.ensures),
    )
