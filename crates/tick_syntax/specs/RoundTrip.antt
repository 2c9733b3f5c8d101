-- Which program a text is, and what it means that a printed program reads back.
use Rattle.std.specs.Prelude.{◌≡◌, ℕ, List}
use Rattle.tick_syntax.specs.declared.token.Token.{Token}
use Rattle.tick_syntax.specs.Grammar.{Derives, nesting}
use Rattle.base.specs.Plain.{Name, WholeProgram, without_spans}
use Rattle.tick_syntax.specs.Printed.{printed}
use Rattle.tick_syntax.specs.Spelling.{Spells}

-- the text is spelled by tokens that are this program
abbrev pub IsTextOf : List ℕ → WholeProgram Name → Type 0
IsTextOf text p = (tokens : List Token) × Spells text tokens × Derives text tokens p

-- apart from spans the text is this program, and no other
pub record ReadsAs (text : List ℕ) (p : WholeProgram Name) : Type 0 where
  pub back : (q : WholeProgram Name) × IsTextOf text q × (without_spans q ≡ without_spans p)
  pub only : (q : WholeProgram Name) → IsTextOf text q → without_spans q ≡ without_spans p

-- Of every program that some text is, the printed form is a text again.
abbrev pub PrintedReadsBack : Type 0
PrintedReadsBack = (text : List ℕ) (p : WholeProgram Name) → IsTextOf text p → ReadsAs (printed p) p

-- A program that was read in a printed form has that very form.
abbrev pub PrintedStays : Type 0
PrintedStays = (text : List ℕ) (p q : WholeProgram Name) → IsTextOf text p → IsTextOf (printed p) q → printed q ≡ printed p

-- Spans don't show in the printed form, nor in how deep brackets stand.
abbrev pub SpansDoNotShow : Type 0
SpansDoNotShow =
    (p q : WholeProgram Name) → without_spans p ≡ without_spans q → (printed p ≡ printed q) × (nesting p ≡ nesting q)
