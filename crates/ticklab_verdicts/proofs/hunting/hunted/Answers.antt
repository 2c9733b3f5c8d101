use Rattle.std.proofs.Common.{ℕ, List, subst}
use Rattle.ticklab_files.specs.Asking.{texts_of}
use Rattle.ticklab_verdicts.specs.Hunting.{IsHunted, unhunted}
use Rattle.ticklab_files.proofs.Responding.{settled_with}
use Rattle.ticklab_verdicts.proofs.hunting.hunted.Goals as goal

pub returns-clause-ok : goal.returns-clause-ok
returns-clause-ok g c =
    let hunted = c.random_schedules-hunted.ensures in (
      c.in_ok-input.input.items,
      c.in_ok-input.ensures.ok,
      subst (λ (input : List ℕ). IsHunted c.args.file.now (texts_of c.args.never.now) c.args.plan c.args.from c.args.output input c.in_ok-settled.field-0) c.as_slice-bytes.ensures.value
          (settled_with c.random_schedules-hunted.result c.in_ok-settled.field-0 (λ x h. h) (λ x h. unhunted h)
          hunted.ok hunted.refused c.in_ok-settled.ensures),
    )
