-- What a token says, read in its text.
use Rattle.std.specs.Prelude.{ℕ, List, Option, Some, None, map, slice_range}
use Rattle.base.specs.declared.span.Span.{Span}
use Rattle.tick_syntax.specs.declared.token.Sort.{Sort}
use Rattle.tick_syntax.specs.declared.token.Sort.TheVariants as K
use Rattle.tick_syntax.specs.declared.token.Token.{Token}
use Rattle.tick_syntax.specs.declared.terminals.Terminal.{Terminal}
use Rattle.base.specs.Plain.{Name}
use Rattle.tick_syntax.specs.Terminals.{signs, keywords, spelled_among}

-- a name, a number, a keyword or a sign; or nothing that the language has
pub data Lexeme : Type 0 where
  a_name : Name → Lexeme
  a_number : ℕ → Lexeme
  a_terminal : Terminal → Lexeme
  nothing : Lexeme

abbrev pub of_terminal : Option Terminal → Lexeme
of_terminal None = nothing
of_terminal (Some w) = a_terminal w

-- what a token of this sort says at these bytes
abbrev pub lexeme_at : Sort → List ℕ → Span → Lexeme
lexeme_at K.Name bytes span = a_name (record { letters = bytes; span = span })
lexeme_at (K.Num v) bytes span = a_number v
lexeme_at K.Keyword bytes span = of_terminal (spelled_among keywords bytes)
lexeme_at K.Sign bytes span = of_terminal (spelled_among signs bytes)

-- the bytes of a token
abbrev pub bytes_at : List ℕ → Span → List ℕ
bytes_at text span = slice_range text span.start span.end

abbrev pub lexeme_of : List ℕ → Token → Lexeme
lexeme_of text token = lexeme_at token.sort (bytes_at text token.span) token.span

abbrev pub lexemes : List ℕ → List Token → List Lexeme
lexemes text tokens = map (lexeme_of text) tokens
