-- The tokens of a question. Each place of a text has one: blanks are skipped, and where the text ends or a `#` stands
-- it is the end of the question. What a question can't have is a token too, which stands nowhere.
use Rattle.std.specs.Prelude.{ℕ, ◌+◌, ◌==◌, nat_lt, Bool, true, false, if◌then◌else◌, List, drop, length, option_map, slice_get, slice_range, take, Option, Some, None}
use Rattle.base.specs.Number.{capped, number_of}
use Rattle.base.specs.Plain.{Name, WholeProgram}
use Rattle.base.specs.declared.span.Span.{Span}
use Rattle.tick_kinds.specs.Declarations.{declarations, slot_in}
use Rattle.language_questions.specs.Characters.{hash, is_digit, is_letter}
use Rattle.language_questions.specs.Extents.{end_of}
use Rattle.language_questions.specs.Names.{is_row}
use Rattle.language_questions.specs.Signs.{signs}
use Rattle.language_questions.specs.Spelled.{spelled}
use Rattle.language_questions.specs.Words.{words}
use Rattle.language_questions.specs.declared.extents.Extent.TheVariants as E
use Rattle.language_questions.specs.declared.fault.Missing.{Missing}
use Rattle.language_questions.specs.declared.fault.QuestionFault.{QuestionFault}
use Rattle.language_questions.specs.declared.fault.QuestionFault.TheVariants as F
use Rattle.language_questions.specs.declared.token.Sign.{Sign}
use Rattle.language_questions.specs.declared.token.Meaning.{Meaning}
use Rattle.language_questions.specs.declared.token.Meaning.TheVariants as M
use Rattle.language_questions.specs.declared.token.Token.{Token}
use Rattle.language_questions.specs.declared.token.Word.{Word}

-- why a token can't stand where this is missing
abbrev pub wrong : Missing → Meaning → Span → QuestionFault
wrong missing M.NoToken span = F.BadCharacter span
wrong missing M.TooBig span = F.NumberTooBig span
wrong missing M.TwoMeanings span = F.TwoMeanings span
wrong missing _ span = F.Unexpected missing span

-- what a number says, as it is read
abbrev pub number_meaning : Option ℕ → Meaning
number_meaning None = M.TooBig
number_meaning (Some v) = if nat_lt v 4294967296 then M.Number v else M.TooBig

-- what a word says, where it may be a word of questions, and names a row or not
abbrev pub word_by : Option Word → Bool → Meaning
word_by None names_row = M.Name
word_by (Some word) true = M.TwoMeanings
word_by (Some word) false = M.Word word

-- what letters say to a program
abbrev pub word_meaning : WholeProgram Name → List ℕ → Meaning
word_meaning p letters = word_by (spelled words letters) (is_row (slot_in (declarations p) letters))

-- A piece: what a token says, and where it ends.
abbrev pub Piece : Type 0
Piece = Meaning × ℕ

abbrev pub word_piece : WholeProgram Name → List ℕ → ℕ → Piece
word_piece p text from =
    (word_meaning p (slice_range text from (end_of E.Word text from)), end_of E.Word text from)

abbrev pub number_piece : List ℕ → ℕ → Piece
number_piece text from =
    (number_meaning (option_map capped (number_of (slice_range text from (end_of E.Digits text from)))), end_of E.Digits text from)

-- a sign that ends here, if it is one; else another piece
abbrev pub sign_or : Piece → ℕ → Option Sign → Piece
sign_or other end None = other
sign_or other end (Some sign) = (M.Sign sign, end)

-- a sign of one byte, or a character that no token begins with
unfoldable pub short_piece : List ℕ → ℕ → Piece
short_piece text from =
    sign_or (M.NoToken, end_of E.Further text (from + 1)) (from + 1) (spelled signs (slice_range text from (from + 1)))

-- the longest sign that stands here
unfoldable pub sign_piece : List ℕ → ℕ → Piece
sign_piece text from =
    sign_or (short_piece text from) (from + length (take 2 (drop from text))) (spelled signs (take 2 (drop from text)))

-- the piece at a place with this byte
abbrev pub piece_by : WholeProgram Name → Option ℕ → List ℕ → ℕ → Piece
piece_by p None text from = (M.End, from)
piece_by p (Some byte) text from =
    if byte == hash then (M.End, from)
    else if is_letter byte then word_piece p text from
    else if is_digit byte then number_piece text from
    else sign_piece text from

abbrev pub token_of : ℕ → Piece → Token
token_of start piece = record { meaning = piece.0; span = record { start = start; end = piece.1 } }

-- the token at a place of the text, after blanks
unfoldable pub token_from : WholeProgram Name → List ℕ → ℕ → Token
token_from p text start = token_of start (piece_by p (slice_get text start) text start)

unfoldable pub token_at : WholeProgram Name → List ℕ → ℕ → Token
token_at p text at = token_from p text (end_of E.Blanks text at)

-- the letters of a name
abbrev pub letters_at : List ℕ → Span → List ℕ
letters_at text span = slice_range text span.start span.end

-- the letters and digits at a place, after blanks
abbrev pub word_span : List ℕ → ℕ → Span
word_span text at = record { start = end_of E.Blanks text at; end = end_of E.Word text (end_of E.Blanks text at) }
