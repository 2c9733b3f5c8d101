-- What the reader of a text and the check of its tree say of the input that has the text.
use Rattle.std.proofs.Common.{◌≡◌, ◌≤◌, ℕ, List, length, Some, subst}
use Rattle.base.specs.Plain.{Name, WholeProgram}
use Rattle.tick_syntax.specs.Grammar.{nesting}
use Rattle.tick_syntax.specs.Refusal.{IsTextRefused}
use Rattle.tick_syntax.specs.RoundTrip.{IsTextOf}
use Rattle.tick_syntax.specs.declared.fault.TextFault.{TextFault}
use Rattle.tick_kinds.specs.Accepted.{IsAccepted}
use Rattle.tick_kinds.specs.Refusals.{first_refusal}
use Rattle.tick_kinds.specs.declared.fault.KindFault.{KindFault}
use Rattle.ticketc_refusals.specs.Refusals.{IsProgramRefused, ProgramIn, TextIn, no_program, not_accepted}
use Rattle.ticketc_refusals.specs.declared.refusal.Refusal.{Refusal}
use Rattle.ticketc_refusals.specs.declared.refusal.Refusal.TheVariants.{Text, Kinds}

module _ (input text : List ℕ) (is : TextIn input text) where
  pub no_tree : (fault : TextFault) (refusal : Refusal) → IsTextRefused text fault → refusal ≡ Text fault → IsProgramRefused input refusal
  no_tree fault refusal isnt told = no_program fault is.0 (subst (λ t. IsTextRefused t fault) is.1 isnt) told

  module _ (p : WholeProgram Name) (is_text : IsTextOf text p) (limits : (length text ≤ 1000000) × (nesting p ≤ 64)) where
    pub unaccepted : (fault : KindFault) (refusal : Refusal) → first_refusal p ≡ Some fault → refusal ≡ Kinds fault → IsProgramRefused input refusal
    unaccepted fault refusal first told = not_accepted p fault is.0 (subst (λ t. IsTextOf t p) is.1 is_text) limits.1 first told

    pub accepted_in : IsAccepted p → (program : WholeProgram Name) → program ≡ p → ProgramIn input program
    accepted_in accepted program same = (
      record { text = is.0; program = p; is_text = subst (λ t. IsTextOf t p) is.1 is_text; shallow = limits.1; accepted = accepted },
      same,
    )
