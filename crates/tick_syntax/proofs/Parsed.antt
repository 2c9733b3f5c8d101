-- What the reader answers of a text's tokens is the text's program, or its refusal. An answer that has either, with
-- more beside the program or without, is so wherever the text is a program, and wherever it is refused.
use Rattle.std.proofs.Common.{◌≡◌, ◌≢◌, ℕ, ◌≤◌, ◌⊎◌, inl, inr, MatchResult, length, map, List, [], ◌∷◌, Result, Ok, Err, IfOk, IfErr, refl, sym, ◌∙◌, ⊎_elim}
use Rattle.tick_syntax.specs.declared.fault.TextFault.{TextFault}
use Rattle.tick_syntax.specs.declared.fault.TextFault.TheVariants as F
use Rattle.base.specs.declared.span.Span.{Span}
use Rattle.tick_syntax.specs.declared.valued_token.ValuedToken.{ValuedToken}
use Rattle.base.specs.declared.tree.Tree.{Tree}
use Rattle.tick_syntax.specs.Decided.{IsWithinLimits}
use Rattle.tick_syntax.specs.Grammar.{nesting}
use Rattle.base.specs.Plain.{Name, WholeProgram, tree_of}
use Rattle.tick_syntax.specs.prover.Reading.{GivesWhole, program_at}
use Rattle.tick_syntax.specs.prover.ValuedTokens.{plain, AreValues}
use Rattle.tick_syntax.specs.Refusal.{IsTextRefused}
use Rattle.tick_syntax.specs.RoundTrip.{IsTextOf}
use Rattle.tick_syntax.specs.Spelling.{HasToken}
use Rattle.tick_syntax.proofs.Decided.{stand, program_read, fault_read, stop_refuses, one_program, one_refusal, never_both}
use Rattle.tick_syntax.proofs.SoundPrograms.{program_err}
use Rattle.tick_syntax.proofs.TokensTold.{is_memory, first_spelled}

-- an answer in which this is the program, or the text's refusal
module _ {V : Type 0} (text : List ℕ) (program : V → WholeProgram Name) where
  abbrev Has : Result V TextFault → Type 0
  Has r = IfOk r (λ v. IsWithinLimits text (program v))

  abbrev Refuses : Result V TextFault → Type 0
  Refuses r = IfErr r (λ fault. fault ≢ F.NoMemory → IsTextRefused text fault)

  pub answered_tree : (r : Result V TextFault) → Has r → IfOk r (λ v. IsTextOf text (program v))
  answered_tree (Ok v) within = within.1
  answered_tree (Err e) within = tt

  pub answered_limits : (r : Result V TextFault) → Has r → IfOk r (λ v. (length text ≤ 1000000) × (nesting (program v) ≤ 64))
  answered_limits (Ok v) within = (within.0, within.2)
  answered_limits (Err e) within = tt

  pub answered_accepted : (r : Result V TextFault) → Has r → Refuses r → (p : WholeProgram Name) → length text ≤ 1000000 → IsTextOf text p → nesting p ≤ 64
      → MatchResult r (λ v. p ≡ program v) (λ fault. fault ≡ F.NoMemory)
  answered_accepted (Ok v) within refused p short is shallow = one_program text p (program v) is within.1
  answered_accepted (Err e) within refused p short is shallow =
      ⊎_elim (λ memory. memory) (λ other. absurd (never_both text p e (short, is, shallow) (refused other))) (is_memory e)

  pub answered_first : (r : Result V TextFault) → Has r → Refuses r → (first : TextFault) → IsTextRefused text first
      → MatchResult r (λ v. ⊥) (λ fault. (fault ≡ first) ⊎ (fault ≡ F.NoMemory))
  answered_first (Ok v) within refused first is = never_both text (program v) first within is
  answered_first (Err e) within refused first is =
      ⊎_elim (λ memory. inr memory) (λ other. inl (one_refusal text e first (refused other) is)) (is_memory e)

module _ (text : List ℕ) (is : List ValuedToken) (short : length text ≤ 1000000) (values : AreValues text is) where
  abbrev Gave : Result Tree TextFault → Type 0
  Gave r = GivesWhole tree_of r (program_at (length text) 64 is)

  pub parsed_within : (r : Result Tree TextFault) → Gave r → IfOk r (λ tree. IsWithinLimits text (tree_of tree))
  parsed_within (Ok tree) h =
      let d = program_read text is (map plain is) values.said_as (tree_of tree) h in
      (short, (map plain is, values.spelled, d.0), d.1)
  parsed_within (Err e) h = tt

  fault_refused : (e : TextFault) → program_at (length text) 64 is ≡ Err e → IsTextRefused text e
  fault_refused e h = stop_refuses text e
      (map plain is, short, values.spelled, fault_read text is (map plain is) (stand text (map plain is) values.spelled) values.said_as e (program_err (length text) 64 is e h))

  pub parsed_refused : (r : Result Tree TextFault) → Gave r → IfErr r (λ fault. fault ≢ F.NoMemory → IsTextRefused text fault)
  parsed_refused (Ok tree) h = tt
  parsed_refused (Err F.NoMemory) h = λ other. absurd (other refl)
  parsed_refused (Err e) h = λ other. fault_refused e h

not_memory : (place : Span) → (let r : Result Tree TextFault = Err (F.Unexpected place) in r) ≡ Err F.NoMemory → ⊥
not_memory place h = cc

-- memory is wanted only for a text that has a token
pub parsed_memory : (text : List ℕ) (is : List ValuedToken) (place : Span) (r : Result Tree TextFault) → AreValues text is
    → (is ≡ [] → r ≡ Err (F.Unexpected place)) → r ≡ Err F.NoMemory → HasToken text
parsed_memory text [] place r values none h = absurd (not_memory place (sym (none refl) ∙ h))
parsed_memory text (i ∷ is) place r values none h = first_spelled text (map plain (i ∷ is)) values.spelled (λ e. cc)
