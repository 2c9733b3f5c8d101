-- A process goes on running its code, and asks for nothing else than it may.
use Rattle.std.proofs.Common.{◌≡◌, ℕ, ◌<◌, ◌≤◌, ap, sym, subst, Option, Some, None}
use Rattle.base.specs.declared.event.Event.{Event}
use Rattle.code_core.specs.Instructions.{StepCode, CodeSizes}
use Rattle.code_core.specs.declared.instr.Instr.{Instr}
use Rattle.code_core.specs.Heights.{greatest_height}
use Rattle.std.specs.Prelude.{List, slice_get}
use Rattle.code_machine.specs.declared.ask.Reply.{Reply}
use Rattle.code_machine.specs.Machine.{CodeProcess, CodeStep, alone, asks, does_at}
use Rattle.code_machine.specs.Safety.{IsSafe, HasWord}
use Rattle.code_machine.specs.Process.{OneProcess, IsOf, next_of, event_of, shown, after_advance, answered_by, advance_of, AsksLawfully}
use Rattle.code_machine.specs.prover.Held.{does_of, Becomes}
use Rattle.code_machine.proofs.Fine.{verified_places}
use Rattle.code_machine.proofs.Safe.{DidSafe, did_safe}

module _ (sizes : CodeSizes) (code : List Instr) (p : ℕ) (q : CodeProcess) (safe : IsSafe sizes code p q) where
  advanced : (d : CodeStep) → DidSafe sizes code p d → IsSafe sizes code p (after_advance q d)
  advanced (alone m) did = did
  advanced (asks ask answered) did = safe

  finished : (d : CodeStep) (reply : Reply) → HasWord sizes.processes reply → DidSafe sizes code p d → IsSafe sizes code p (answered_by q d reply).process
  finished (alone m) reply has did = safe
  finished (asks ask answered) reply has did = did.1 reply has

shown_lawful : (sizes : CodeSizes) (p : ℕ) (event : Option Event) → AsksLawfully sizes p (shown event)
shown_lawful sizes p None = tt
shown_lawful sizes p (Some event) = tt

asked_lawfully : (sizes : CodeSizes) (code : List Instr) (p : ℕ) (d : CodeStep) → DidSafe sizes code p d → AsksLawfully sizes p (advance_of p d)
asked_lawfully sizes code p (alone m) did = shown_lawful sizes p (event_of p m.act)
asked_lawfully sizes code p (asks ask answered) did = did.0

pub next_safe : (code : StepCode) (one : OneProcess) → IsOf code one → DidSafe code.sizes code.instructions one.me (next_of code one)
next_safe code one of =
    did_safe code.sizes code.instructions (verified_places code.sizes code.instructions of.verified) one.me of.me one.process of.safe

pub becomes_is : (old : OneProcess) (q : CodeProcess) (new : OneProcess) → Becomes old q new → new.process ≡ q
becomes_is old q new b = λ i. record {
  place = b.place i;
  stack = b.stack i;
  variables = b.variables i;
  scans = b.scans i;
  scratch = b.scratch i;
  beside = b.beside i;
  status = b.status i;
}

module _ (code : StepCode) (old new : OneProcess) (of : IsOf code old) (instruction : Instr) (here : slice_get code.instructions old.process.place ≡ Some instruction) where
  of_new : (q : CodeProcess) → Becomes old q new → IsSafe code.sizes code.instructions old.me q → IsOf code new
  of_new q b safe = record {
    verified = of.verified;
    me = subst (λ p. p < code.sizes.processes) (sym b.me) of.me;
    room = subst (λ r. greatest_height code.instructions ≤ r) (sym b.room) of.room;
    safe = subst (λ p. IsSafe code.sizes code.instructions p new.process) (sym b.me)
        (subst (IsSafe code.sizes code.instructions old.me) (sym (becomes_is old q new b)) safe);
  }

  does_safe : DidSafe code.sizes code.instructions old.me (does_of code old instruction)
  does_safe =
      subst (DidSafe code.sizes code.instructions old.me) (ap (does_at old.process code.sizes.processes old.me) here)
      (next_safe code old of)

  pub make_kept : Becomes old (after_advance old.process (does_of code old instruction)) new → IsOf code new
  make_kept b = of_new _ b (advanced code.sizes code.instructions old.me old.process of.safe (does_of code old instruction) does_safe)

  pub make_lawful : AsksLawfully code.sizes old.me (advance_of old.me (does_of code old instruction))
  make_lawful = asked_lawfully code.sizes code.instructions old.me (does_of code old instruction) does_safe

  pub finish_kept : (reply : Reply) → HasWord code.sizes.processes reply
      → Becomes old (answered_by old.process (does_of code old instruction) reply).process new → IsOf code new
  finish_kept reply has b =
      of_new _ b (finished code.sizes code.instructions old.me old.process of.safe (does_of code old instruction) reply has does_safe)
