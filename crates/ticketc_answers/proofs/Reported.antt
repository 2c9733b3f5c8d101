-- A report of a program and one of its code are the same, under schedules that stand for each other:
-- `drop_law` for the line that `drop` prints, `lift_law` for the one that `lift` prints.
--
-- Only what is done has status 0. So an answer of status 0 comes from an accepted program, whose code is not
-- too long, and from a schedule that spells steps (`scheduling`). For these steps the two laws of the
-- simulation give the same report (`same_dropped`, `same_lifted`).
-- The difficulty is that the steps are printed and read again. They read back as the same steps if each is of
-- a process that there is and they are at most 10,000,000 (`kept_reads_back`, `led_reads_back`). `drop` makes
-- no more steps than it reads. `lift` may make more, so there the number is a premise.
-- Read `drop_lowered` first.
use Rattle.std.proofs.Common.{◌≡◌, ◌<◌, ◌≤◌, ◌^◌, ◌++◌, ◌∙◌, ℕ, List, length, ap, refl, subst, sym, Result, Ok, Err, arith}
use Rattle.base.specs.Lines.{line_end}
use Rattle.base.specs.Plain.{Name, WholeProgram}
use Rattle.code_core.specs.Instructions.{StepCode}
use Rattle.code_machine.specs.Machine.{code_start}
use Rattle.language_schedules.specs.Schedule.{schedule_of}
use Rattle.language_schedules.specs.Written.{schedule_text}
use Rattle.language_schedules.specs.declared.schedule.ScheduleFault.{ScheduleFault}
use Rattle.language_schedules.proofs.Offered.{schedule_of-below, schedule_of-short, written_reads_back}
use Rattle.tick_kinds.specs.Accepted.{IsAccepted}
use Rattle.tick_kinds.specs.Resolution.{resolved}
use Rattle.tick_lower.specs.Lowered.{lowered, lowered_sizes}
use Rattle.tick_play.specs.Report.{code_report, report, source_report}
use Rattle.tick_sim.proofs.Offered.{drop_law as run_drop_law, lift_law as run_lift_law, dropped_lawful, dropped_short, lifted_lawful}
use Rattle.ticketc_refusals.specs.Refusals.{ProgramIn}
use Rattle.ticketc_refusals.specs.declared.refusal.Refusal.{Refusal}
use Rattle.ticketc_refusals.specs.declared.refusal.Refusal.TheVariants.{Schedule}
use Rattle.ticketc_refusals.proofs.Offered.{program_begins_otherwise}
use Rattle.ticketc_line.specs.declared.command.Command.TheVariants.{Source, Code, Drop}
use Rattle.ticketc_answers.specs.Answer.{Answer, done, refused, scheduled}
use Rattle.ticketc_answers.specs.Codes.{IsCodeOf, IsLowered, IsNoCode, IsNotLowered, code_answer, code_of, is_code, is_lowered, long_code, no_code, no_program, not_lowered}
use Rattle.ticketc_answers.specs.Commands.{CommandAnswers}
use Rattle.ticketc_answers.specs.Inputs.{Refuses, gives_up, takes}
use Rattle.ticketc_answers.specs.Laws.{DropLaw, LiftLaw}
use Rattle.ticketc_answers.specs.Maps.{carried, carried_answer, schedule_line}
use Rattle.ticketc_answers.specs.Programs.{source_answer}
use Rattle.ticketc_answers.specs.declared.maps.Way.TheVariants.{Lift, Drop}
use Rattle.ticketc_answers.proofs.Decided.{one_program_in}

-- Only what is done has status 0.
pub status_one : (a b : Answer) → a ≡ b → b.status ≡ 1 → a.status ≡ 1
status_one a b is one = ap (λ (z : Answer). z.status) is ∙ one

pub refusal_status : (has : Refusal → Type 0) (a : Answer) → Refuses has a → a.status ≡ 1
refusal_status has a h = status_one a (refused h.0) h.2 refl

pub not_lowered_status : (input : List ℕ) (a : Answer) → IsNotLowered input a → a.status ≡ 1
not_lowered_status input a (no_program h) = refusal_status _ a h
not_lowered_status input a (long_code is long told) = status_one a _ told refl

pub no_code_status : (input : List ℕ) (a : Answer) → IsNoCode input a → a.status ≡ 1
no_code_status input a (no_code begins h) = refusal_status _ a h
no_code_status input a (not_lowered isnt h) = not_lowered_status input a h

pub not_both : (a : Answer) → a.status ≡ 1 → a.status ≡ 0 → ⊥
not_both a one zero = absurd (omega (arith, one, zero))

-- A report is made under steps.
scheduling : (by : List ℕ → List ℕ) (r : Result (List ℕ) ScheduleFault) (a : Answer) → a ≡ scheduled by r → a.status ≡ 0
    → (steps : List ℕ) × (r ≡ Ok steps) × (a ≡ done (by steps))
scheduling by (Ok steps) a is zero = (steps, refl, is)
scheduling by (Err fault) a is zero = absurd (not_both a (status_one a (refused (Schedule fault)) is refl) zero)

-- the steps of the code that was run, as steps of the program
abbrev pub kept : WholeProgram Name → List ℕ → List ℕ
kept p steps = carried Drop (code_of p) steps

-- and the other way round
abbrev pub led : WholeProgram Name → List ℕ → List ℕ
led p steps = carried Lift (code_of p) steps

module _ (p : WholeProgram Name) (fine : IsAccepted p) where
  abbrev below : ℕ → Type 0
  below q = q < p.processes

  few : p.processes ≤ 2 ^ 64
  few = omega (arith, fine.processes)

  kept_reads_back : (text steps : List ℕ) → schedule_of p.processes text ≡ Ok steps → schedule_of p.processes (schedule_text (kept p steps)) ≡ Ok (kept p steps)
  kept_reads_back text steps read =
      written_reads_back p.processes (kept p steps) few
      (dropped_lawful p.processes (lowered (resolved p)) below steps (code_start (lowered_sizes (resolved p))) (schedule_of-below p.processes text steps read))
      (omega (arith, dropped_short p.processes (lowered (resolved p)) steps (code_start (lowered_sizes (resolved p))), schedule_of-short p.processes text steps read))

  led_reads_back : (text steps : List ℕ) → schedule_of p.processes text ≡ Ok steps → length (led p steps) ≤ 10000000
      → schedule_of p.processes (schedule_text (led p steps)) ≡ Ok (led p steps)
  led_reads_back text steps read short =
      written_reads_back p.processes (led p steps) few
      (lifted_lawful p.processes (lowered (resolved p)) below steps (code_start (lowered_sizes (resolved p))) (schedule_of-below p.processes text steps read))
      short

  same_dropped : (steps : List ℕ) → code_report (code_of p) steps ≡ source_report (resolved p) (kept p steps)
  same_dropped steps = ap report (run_drop_law (resolved p) steps)

  same_lifted : (steps : List ℕ) → source_report (resolved p) steps ≡ code_report (code_of p) (led p steps)
  same_lifted steps = ap report (run_lift_law (resolved p) steps)

-- the code of a program, as the code that an input has
as_code_of : (input : List ℕ) (p : WholeProgram Name) → ProgramIn input p → (c : StepCode) → IsLowered input c → IsCodeOf input c
as_code_of input p is c low = is_lowered (program_begins_otherwise input low.program.program low.program.is_text) low

module _ (schedule input : List ℕ) where
  drop_lowered : (reported : Answer) (c : StepCode) → IsLowered input c → reported ≡ code_answer schedule c → reported.status ≡ 0
      → (line : List ℕ) × CommandAnswers (Drop schedule) input (done (line ++ line_end)) × CommandAnswers (Source line) input reported
  drop_lowered reported c low told zero =
      let p = low.program.program in
      let fine = low.program.accepted in
      let run = scheduling (code_report (code_of p)) (schedule_of p.processes schedule) reported (told ∙ ap (code_answer schedule) low.code) zero in
      let steps = run.0 in
      let line = schedule_text (kept p steps) in
      let lowering : IsLowered input (code_of p) = record { program = low.program; fits = low.fits; code = refl } in (
        line,
        takes (code_of p) lowering (sym (ap (scheduled (λ these. schedule_line (kept p these))) run.1)),
        takes p (low.program, refl)
            (run.2 ∙ ap done (same_dropped p fine steps)
            ∙ sym (ap (scheduled (source_report (resolved p))) (kept_reads_back p fine schedule steps run.1))),
      )

  lift_lowered : (reported lifted : Answer) (p : WholeProgram Name) → ProgramIn input p → reported ≡ source_answer schedule p
      → (c : StepCode) → IsLowered input c → lifted.status ≡ 0
      → lifted ≡ scheduled (λ these. schedule_line (led p these)) (schedule_of p.processes schedule)
      → (steps : List ℕ) × (lifted ≡ done (schedule_line steps))
      × (length steps ≤ 10000000 → CommandAnswers (Code (schedule_text steps)) input reported)
  lift_lowered reported lifted p is told c low nought carries =
      let fine : IsAccepted p = subst IsAccepted (sym is.1) is.0.accepted in
      let run = scheduling (λ these. schedule_line (led p these)) (schedule_of p.processes schedule) lifted carries nought in
      let steps = run.0 in
      let same : p ≡ low.program.program = is.1 ∙ one_program_in input is.0 low.program in
      let lowering : IsLowered input (code_of p) = record { program = low.program; fits = low.fits; code = ap code_of same } in (
        led p steps,
        run.2,
        λ few. takes (code_of p) (as_code_of input p is (code_of p) lowering)
            (told ∙ ap (scheduled (source_report (resolved p))) run.1 ∙ ap done (same_lifted p fine steps)
            ∙ sym (ap (scheduled (code_report (code_of p))) (led_reads_back p fine schedule steps run.1 few))),
      )

pub drop_law : DropLaw
drop_law schedule input p reported is (takes c (is_code begins code) told) zero = absurd (program_begins_otherwise input p is begins)
drop_law schedule input p reported is (takes c (is_lowered isnt low) told) zero = drop_lowered schedule input reported c low told zero
drop_law schedule input p reported is (gives_up h) zero = absurd (not_both reported (no_code_status input reported h) zero)

pub lift_law : LiftLaw
lift_law schedule input reported lifted (takes p is told) zero (takes c low carries) nought =
    let same : c ≡ code_of p = low.code ∙ sym (ap code_of (is.1 ∙ one_program_in input is.0 low.program)) in
    let by : StepCode → Answer = carried_answer Lift schedule in
    lift_lowered schedule input reported lifted p is told c low nought (carries ∙ ap by same)
lift_law schedule input reported lifted (takes p is told) zero (gives_up h) nought =
    absurd (not_both lifted (not_lowered_status input lifted h) nought)
lift_law schedule input reported lifted (gives_up h) zero lifts nought = absurd (not_both reported (refusal_status _ reported h) zero)
