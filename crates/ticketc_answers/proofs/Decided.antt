-- Each input is taken for a text, a program, the code of one, or a code; or it is refused, with one answer; it
-- is never both.
use Rattle.std.proofs.Common.{◌≡◌, ◌∙◌, ◌⊎◌, inl, inr, ℕ, List, ap, refl, sym, arith}
use Rattle.std.proofs.lemmas.Bool.Decides.{leb_tells}
use Rattle.base.specs.Plain.{Name, WholeProgram}
use Rattle.code_core.specs.Instructions.{StepCode}
use Rattle.tick_kinds.specs.Resolution.{resolved}
use Rattle.tick_lower.specs.Lowered.{lowered_length}
use Rattle.ticketc_refusals.specs.Refusals.{BeginsCode, CodeIn, IsCodeRefused, IsNoText, IsProgram, IsProgramRefused, ProgramIn, TextIn}
use Rattle.ticketc_refusals.specs.declared.refusal.Refusal.{Refusal}
use Rattle.ticketc_refusals.proofs.Offered.{IsDecided, begins_or_not, code_decided, program_decided, text_decided}
use Rattle.ticketc_answers.specs.Answer.{Answer, refused, too_long}
use Rattle.ticketc_answers.specs.Codes.{IsCodeOf, IsLowered, IsNoCode, IsNotLowered, code_of, is_code, is_lowered, long_code, no_code, no_program, not_lowered}
use Rattle.ticketc_answers.specs.Inputs.{Refuses}

-- the same of the answers that tell the refusals
told : {T : Type 0} (taken : T → Type 0) (has : Refusal → Type 0) → IsDecided taken has → IsDecided taken (Refuses has)
told taken has is = record {
  one = is.one;
  one_refused = λ a b h k. h.2 ∙ ap refused (is.one_refused h.0 k.0 h.1 k.1) ∙ sym k.2;
  never = λ it a t h. is.never it h.0 t h.1;
  either = elim is.either [
    | inl found ↦ inl found
    | inr found ↦ inr (refused found.0, (found.0, found.1, refl))
  ];
}

pub texts : (input : List ℕ) → IsDecided (TextIn input) (Refuses (IsNoText input))
texts input = told (TextIn input) (IsNoText input) (text_decided input)

pub programs : (input : List ℕ) → IsDecided (ProgramIn input) (Refuses (IsProgramRefused input))
programs input = told (ProgramIn input) (IsProgramRefused input) (program_decided input)

codes_alone : (input : List ℕ) → IsDecided (CodeIn input) (Refuses (IsCodeRefused input))
codes_alone input = told (CodeIn input) (IsCodeRefused input) (code_decided input)

pub one_program_in : (input : List ℕ) (p q : IsProgram input) → p.program ≡ q.program
one_program_in input p q = (programs input).one p.program q.program (p, refl) (q, refl)

module _ (input : List ℕ) where
  one_lowered : (c d : StepCode) → IsLowered input c → IsLowered input d → c ≡ d
  one_lowered c d low other = low.code ∙ ap code_of (one_program_in input low.program other.program) ∙ sym other.code

  one_not_lowered : (a b : Answer) → IsNotLowered input a → IsNotLowered input b → a ≡ b
  one_not_lowered a b (no_program h) (no_program k) = (programs input).one_refused a b h k
  one_not_lowered a b (no_program h) (long_code is long same) = absurd ((programs input).never is.program a (is, refl) h)
  one_not_lowered a b (long_code is long same) (no_program k) = absurd ((programs input).never is.program b (is, refl) k)
  one_not_lowered a b (long_code is long same) (long_code other more said) = same ∙ sym said

  never_lowered : (c : StepCode) (a : Answer) → IsLowered input c → IsNotLowered input a → ⊥
  never_lowered c a low (no_program h) = (programs input).never low.program.program a (low.program, refl) h
  never_lowered c a low (long_code is long same) =
      absurd (omega (arith, low.fits, long, ap (λ (p : WholeProgram Name). lowered_length (resolved p)) (one_program_in input is low.program)))

  abbrev Lowered : Type 0
  Lowered = ((c : StepCode) × IsLowered input c) ⊎ ((a : Answer) × IsNotLowered input a)

  by_length : (is : IsProgram input) → Lowered
  by_length is = elim (leb_tells (lowered_length (resolved is.program)) 65535) [
    | inl short ↦ inl (code_of is.program, record { program = is; fits = short.1; code = refl })
    | inr long ↦ inr (too_long, long_code is (omega (arith, long.1)) refl)
  ]

  lowered_or_not : Lowered
  lowered_or_not = elim (programs input).either [
    | inl found ↦ by_length found.1.0
    | inr found ↦ inr (found.0, no_program found.1)
  ]

  pub lowerings : IsDecided (IsLowered input) (IsNotLowered input)
  lowerings = record { one = one_lowered; one_refused = one_not_lowered; never = never_lowered; either = lowered_or_not }

  pub one_code : (c d : StepCode) → IsCodeOf input c → IsCodeOf input d → c ≡ d
  one_code c d (is_code begins is) (is_code again other) = (codes_alone input).one c d is other
  one_code c d (is_code begins is) (is_lowered isnt other) = absurd (isnt begins)
  one_code c d (is_lowered isnt is) (is_code begins other) = absurd (isnt begins)
  one_code c d (is_lowered isnt is) (is_lowered never other) = one_lowered c d is other

  one_no_code : (a b : Answer) → IsNoCode input a → IsNoCode input b → a ≡ b
  one_no_code a b (no_code begins h) (no_code again k) = (codes_alone input).one_refused a b h k
  one_no_code a b (no_code begins h) (not_lowered isnt k) = absurd (isnt begins)
  one_no_code a b (not_lowered isnt h) (no_code begins k) = absurd (isnt begins)
  one_no_code a b (not_lowered isnt h) (not_lowered never k) = one_not_lowered a b h k

  pub never_code : (c : StepCode) (a : Answer) → IsCodeOf input c → IsNoCode input a → ⊥
  never_code c a (is_code begins is) (no_code again h) = (codes_alone input).never c a is h
  never_code c a (is_code begins is) (not_lowered isnt h) = isnt begins
  never_code c a (is_lowered isnt is) (no_code begins h) = isnt begins
  never_code c a (is_lowered isnt is) (not_lowered never h) = never_lowered c a is h

  abbrev Coded : Type 0
  Coded = ((c : StepCode) × IsCodeOf input c) ⊎ ((a : Answer) × IsNoCode input a)

  as_code : BeginsCode input → Coded
  as_code begins = elim (codes_alone input).either [
    | inl found ↦ inl (found.0, is_code begins found.1)
    | inr found ↦ inr (found.0, no_code begins found.1)
  ]

  as_program : (BeginsCode input → ⊥) → Coded
  as_program isnt = elim lowered_or_not [
    | inl found ↦ inl (found.0, is_lowered isnt found.1)
    | inr found ↦ inr (found.0, not_lowered isnt found.1)
  ]

  code_or_none : Coded
  code_or_none = elim (begins_or_not input) [ inl begins ↦ as_code begins | inr isnt ↦ as_program isnt ]

  pub codings : IsDecided (IsCodeOf input) (IsNoCode input)
  codings = record { one = one_code; one_refused = one_no_code; never = never_code; either = code_or_none }
