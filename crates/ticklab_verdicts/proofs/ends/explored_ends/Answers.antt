use Rattle.std.proofs.Common.{ℕ, List, refl, subst}
use Rattle.ticklab_files.specs.Asking.{texts_of}
use Rattle.ticklab_verdicts.specs.Ends.{IsEndsExplored, unexplored}
use Rattle.ticklab_verdicts.specs.Hearing.{IsHeard, hearing}
use Rattle.ticklab_verdicts.proofs.Heard.{unheard_of}
use Rattle.ticklab_files.proofs.Responding.{settled_with}
use Rattle.ticklab_verdicts.proofs.ends.explored_ends.Goals as goal

pub returns-clause-ok : goal.returns-clause-ok
returns-clause-ok g c =
    let searched = c.all_ends-searched.ensures in (
      c.in_ok-input.input.items,
      c.in_ok-input.ensures.ok,
      subst (λ (input : List ℕ). IsHeard (hearing g.W.Progress.begins g.W.Progress.finds g.W.Watch.hears) c.args.progress.now c.all_ends-searched.new.progress
          (IsEndsExplored c.args.steps c.args.file.now (texts_of c.args.never.now) c.args.process c.args.condition c.args.limits c.args.output input c.in_ok-concluded.field-0)) c.as_slice.ensures.value
          (settled_with c.all_ends-searched.result c.in_ok-concluded.field-0 (λ x h. h)
          (unheard_of (hearing g.W.Progress.begins g.W.Progress.finds g.W.Watch.hears) _ _ _ (λ x refused. unexplored refused refl))
          searched.ok searched.refused c.in_ok-concluded.ensures),
    )
