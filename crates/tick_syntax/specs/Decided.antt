-- Each text is one program within the limits, or it has one refusal; it is never both, and never neither.
use Rattle.std.specs.Prelude.{◌≡◌, ◌≤◌, ◌⊎◌, ℕ, List, length}
use Rattle.tick_syntax.specs.declared.fault.TextFault.{TextFault}
use Rattle.tick_syntax.specs.Grammar.{nesting}
use Rattle.base.specs.Plain.{Name, WholeProgram}
use Rattle.tick_syntax.specs.Refusal.{IsTextRefused}
use Rattle.tick_syntax.specs.RoundTrip.{IsTextOf}

-- the text is this program, within the limits
abbrev pub IsWithinLimits : List ℕ → WholeProgram Name → Type 0
IsWithinLimits text p = (length text ≤ 1000000) × IsTextOf text p × (nesting p ≤ 64)

abbrev pub OneProgram : Type 0
OneProgram = (text : List ℕ) (p q : WholeProgram Name) → IsTextOf text p → IsTextOf text q → p ≡ q

abbrev pub OneRefusal : Type 0
OneRefusal = (text : List ℕ) (a b : TextFault) → IsTextRefused text a → IsTextRefused text b → a ≡ b

abbrev pub NeverBoth : Type 0
NeverBoth = (text : List ℕ) (p : WholeProgram Name) (fault : TextFault) → IsWithinLimits text p → IsTextRefused text fault → ⊥

abbrev pub NeverNeither : Type 0
NeverNeither =
    (text : List ℕ)
    → ((p : WholeProgram Name) × IsWithinLimits text p) ⊎ ((fault : TextFault) × IsTextRefused text fault)
