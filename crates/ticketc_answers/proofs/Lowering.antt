-- From what the compiler says of an accepted program to the code that an input has.
use Rattle.std.proofs.Common.{◌≡◌, ◌<◌, ◌≤◌, ◌∙◌, inl, inr, ℕ, false, List, arith, ap, refl, subst}
use Rattle.std.proofs.lemmas.Bool.Decides.{leb_tells}
use Rattle.base.specs.Plain.{Name, WholeProgram}
use Rattle.code_core.specs.Instructions.{StepCode}
use Rattle.tick_kinds.specs.Resolution.{resolved}
use Rattle.tick_lower.specs.Lowered.{lowered_length}
use Rattle.tick_lower.specs.declared.fault.LowerFault.{LowerFault}
use Rattle.tick_lower.specs.declared.fault.LowerFault.TheVariants as lowering
use Rattle.ticketc_refusals.specs.Refusals.{IsProgramRefused, ProgramIn}
use Rattle.ticketc_answers.specs.Codes.{IsLowered, IsNotLowered, code_of, long_code, no_program}
use Rattle.ticketc_answers.specs.Inputs.{Refuses}
use Rattle.ticketc_answers.specs.Stop.{IfTold, lower_stop}
use Rattle.ticketc_answers.specs.declared.stop.Stop.{Stop}
use Rattle.ticketc_answers.proofs.Told.{if_told}

pub no_program_stops : (input : List ℕ) (stop : Stop) → IfTold false (Refuses (IsProgramRefused input)) stop → IfTold false (IsNotLowered input) stop
no_program_stops input stop held =
    if_told false (Refuses (IsProgramRefused input)) (IsNotLowered input) (λ a told. no_program told) stop held

-- a code that is too long is told
pub lower_stops : (input : List ℕ) (p : WholeProgram Name) → ProgramIn input p → (fault : LowerFault)
    → (fault ≡ lowering.TooLong → 65535 < lowered_length (resolved p)) → IfTold false (IsNotLowered input) (lower_stop fault)
lower_stops input p is lowering.TooLong long =
    long_code is.0 (subst (λ (q : WholeProgram Name). 65535 < lowered_length (resolved q)) is.1 (long refl)) refl
lower_stops input p is lowering.NoMemory long = tt

short_unless : (n : ℕ) → (65535 < n → ⊥) → n ≤ 65535
short_unless n fits = elim (leb_tells 65536 n) [ inl long ↦ absurd (fits (omega (arith, long.1))) | inr short ↦ omega (arith, short.1) ]

pub has_code : (input : List ℕ) (p : WholeProgram Name) → ProgramIn input p → (c : StepCode) → c ≡ code_of p
    → (65535 < lowered_length (resolved p) → ⊥) → IsLowered input c
has_code input p is c code fits = record {
  program = is.0;
  fits = subst (λ (q : WholeProgram Name). lowered_length (resolved q) ≤ 65535) is.1 (short_unless (lowered_length (resolved p)) fits);
  code = code ∙ ap code_of is.1;
}
