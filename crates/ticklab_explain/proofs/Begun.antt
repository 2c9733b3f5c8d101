-- Whether a program goes on from a text's end, and whether the text is one: told by what the parser says of it.
use Rattle.std.proofs.Common.{◌≡◌, ◌≢◌, ◌≤◌, ◌⊎◌, ◌==◌, ℕ, List, Bool, true, false, length, inl, inr, ap, refl, subst, sym}
use Rattle.std.proofs.lemmas.Bool.{eqb-true, eqb-false}
use Rattle.base.specs.Plain.{Name, WholeProgram, nowhere}
use Rattle.base.specs.declared.span.Span.{Span}
use Rattle.tick_syntax.specs.Grammar.{nesting}
use Rattle.tick_syntax.specs.Refusal.{IsTextRefused}
use Rattle.tick_syntax.specs.RoundTrip.{IsTextOf}
use Rattle.tick_syntax.specs.declared.fault.TextFault.{TextFault}
use Rattle.tick_syntax.specs.declared.fault.TextFault.TheVariants.{TextTooLong, BadCharacter, NumberTooBig, NameTooLong, Unexpected, TooDeep, NoMemory}
use Rattle.ticklab_explain.specs.Following.{BeginsProgram, IsWhole, Tests, is_at_end}

-- what the parser says at a fault
abbrev pub Accepted : List ℕ → TextFault → Type 0
Accepted text fault =
    (p : WholeProgram Name) → length text ≤ 1000000 → IsTextOf text p → nesting p ≤ 64 → fault ≡ NoMemory

abbrev pub First : List ℕ → TextFault → Type 0
First text fault = (other : TextFault) → IsTextRefused text other → (fault ≡ other) ⊎ (fault ≡ NoMemory)

abbrev span_in : TextFault → Span
span_in (Unexpected span) = span
span_in fault = nowhere

pub not_whole : (text : List ℕ) (fault : TextFault) → fault ≢ NoMemory → Accepted text fault → IsWhole text → ⊥
not_whole text fault known accepted whole = known (accepted whole.0 whole.1.0 whole.1.1 whole.1.2)

same : (text : List ℕ) (fault other : TextFault) → fault ≢ NoMemory → First text fault → IsTextRefused text other → fault ≡ other
same text fault other known first refused = elim (first other refused) [ inl e ↦ e | inr e ↦ absurd (known e) ]

not_begun : (text : List ℕ) (fault : TextFault) → fault ≢ NoMemory → Accepted text fault → First text fault
    → ((span : Span) → fault ≡ Unexpected span → span.start ≡ length text → ⊥) → BeginsProgram text → ⊥
not_begun text fault known accepted first none (inl whole) = not_whole text fault known accepted whole
not_begun text fault known accepted first none (inr begun) =
    none begun.0 (same text fault (Unexpected begun.0) known first begun.1) begun.2

decided : (text : List ℕ) (fault : TextFault) → fault ≢ NoMemory → IsTextRefused text fault → Accepted text fault → First text fault
    → Tests (BeginsProgram text) (is_at_end fault (length text))
decided text TextTooLong known refused accepted first = not_begun text TextTooLong known accepted first (λ span e at. cc e)
decided text (BadCharacter place) known refused accepted first =
    not_begun text (BadCharacter place) known accepted first (λ span e at. cc e)
decided text (NumberTooBig span) known refused accepted first =
    not_begun text (NumberTooBig span) known accepted first (λ other e at. cc e)
decided text (NameTooLong span) known refused accepted first =
    not_begun text (NameTooLong span) known accepted first (λ other e at. cc e)
decided text (Unexpected span) known refused accepted first =
    elim (span.start == length text) as (λ b. (span.start == length text) ≡ b → Tests (BeginsProgram text) b) [
      | true ↦ λ t. inr (span, refused, eqb-true span.start (length text) t)
      | false ↦ λ f. not_begun text (Unexpected span) known accepted first (λ other e at.
          eqb-false span.start (length text) f (subst (λ (s : Span). s.start ≡ length text) (sym (ap span_in e)) at))
    ] refl
decided text (TooDeep span) known refused accepted first =
    not_begun text (TooDeep span) known accepted first (λ other e at. cc e)
decided text NoMemory known refused accepted first = absurd (known refl)

pub tested : (text : List ℕ) (fault : TextFault) (b : Bool) → fault ≢ NoMemory → b ≡ is_at_end fault (length text)
    → IsTextRefused text fault → Accepted text fault → First text fault → Tests (BeginsProgram text) b
tested text fault b known e refused accepted first =
    subst (Tests (BeginsProgram text)) (sym e) (decided text fault known refused accepted first)
