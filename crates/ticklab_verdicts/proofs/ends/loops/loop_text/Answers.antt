use Rattle.std.proofs.Common.{◌∙◌, ℕ, List, ap, arith, drop, length, map, rules, string_bytes, subst, take}
use Rattle.tick_kinds.specs.Resolution.{resolved}
use Rattle.ticklab_trace.specs.Places.{told_standing}
use Rattle.ticklab_trace.specs.StatementSteps.{AreStatementSteps}
use Rattle.ticklab_verdicts.specs.Lines.{cycle_line}
use Rattle.ticklab_verdicts.proofs.ToldLoops.{all_lawful, counted, told_loop}
use Rattle.ticklab_verdicts.proofs.ends.loops.loop_text.Goals as goal

pub source_steps-requires : goal.source_steps-requires
source_steps-requires c =
    all_lawful (resolved c.args.spelled.now.program).processes c.args.looped c.as_slice.result.now c.requires.lawful (c.as_slice.ensures.value ∙ c.in_ok-all.ensures)

pub split_at-requires : goal.split_at-requires
split_at-requires c =
    omega (
      arith,
      c.as_slice-2.ensures.len,
      ap length c.as_slice-2.ensures.value,
      counted c.in_ok-steps.steps.items c.as_slice.result.now c.args.looped.schedule.now c.args.looped.lead_in.now c.args.looped.cycle.now
          c.in_ok-steps.ensures.steps.count (c.as_slice.ensures.value ∙ c.in_ok-all.ensures),
    )

pub split_at-requires-2 : goal.split_at-requires-2
split_at-requires-2 c =
    omega (
      arith,
      ap length c.as_slice-2.ensures.value,
      c.split_at.ensures.back_len,
      counted c.in_ok-steps.steps.items c.as_slice.result.now c.args.looped.schedule.now c.args.looped.lead_in.now c.args.looped.cycle.now
          c.in_ok-steps.ensures.steps.count (c.as_slice.ensures.value ∙ c.in_ok-all.ensures),
    )

pub returns : goal.returns
returns c =
    let a = c.args.spelled.now.program in
    let l = c.args.looped in
    let steps = c.in_ok-steps.steps.items in
    let same = c.as_slice-2.ensures.value in record {
      tokens = c.in_ok-spots.ensures.tokens;
      spelled = c.in_ok-spots.ensures.spelled;
      steps = steps;
      are_steps = subst (λ (all : List ℕ). AreStatementSteps (resolved a) all steps) (c.as_slice.ensures.value ∙ c.in_ok-all.ensures) c.in_ok-steps.ensures.steps;
      whole =
          told_loop a (map told_standing c.as_slice-spots.result.now) _ c.args.found.now l.schedule.now l.lead_in.now l.cycle.now c.cycle_line-words.result.now
          steps c.split_at.result.0.now c.split_at.result.1.now c.split_at-2.result.0.now c.split_at-2.result.1.now
          (string_bytes c.push_steps.new.text) (string_bytes c.push_lead_in.new.text) _
          (ap (map told_standing) c.as_slice-spots.ensures.value ∙ c.in_ok-spots.ensures.told)
          (c.split_at.ensures.front ∙ ap (take (length l.schedule.now)) same) (c.split_at.ensures.back ∙ ap (drop (length l.schedule.now)) same)
          c.split_at-2.ensures.front c.split_at-2.ensures.back (c.cycle_line-words.ensures ∙ ap cycle_line c.has_write.ensures)
          (search rules) c.in_ok-push_lead_in.ensures c.in_ok-push_steps-2.ensures;
    }
