-- Spans that letters stand at, so that they can be taken from the text.
use Rattle.std.specs.Prelude.{ℕ, ◌≤◌, List, length}
use Rattle.std.specs.Str.{IsAscii}
use Rattle.base.specs.declared.span.Span.{Span}
use Rattle.language_questions.specs.Tokens.{letters_at}

pub record IsLetters (text : List ℕ) (span : Span) : Type 0 where
  pub ordered : span.start ≤ span.end
  pub within : span.end ≤ length text
  pub ascii : IsAscii (letters_at text span)
