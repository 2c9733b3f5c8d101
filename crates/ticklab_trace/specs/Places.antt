-- Where the statements of a program stand in its text.
use Rattle.std.specs.Prelude.{◌≡◌, ℕ, ◌+◌, ◌-◌, ◌==◌, ◌||◌, nat_lt, nat_le, Bool, if◌then◌else◌, List, [], ◌∷◌, ◌++◌, drop, length, map, slice_get, slice_range, take, Option, Some}
use Rattle.std.specs.List.{before_first}
use Rattle.std.specs.Str.{trim_end}
use Rattle.base.specs.declared.span.Span.{Span}
use Rattle.tick_syntax.specs.declared.terminals.Terminal.TheVariants as T
use Rattle.tick_syntax.specs.declared.token.Token.{Token}
use Rattle.tick_syntax.specs.Grammar.{block_tokens, expression_tokens, section_tokens, statement_tokens}
use Rattle.tick_syntax.specs.Lexeme.{Lexeme, a_number, a_terminal}
use Rattle.base.specs.Plain.{nowhere, Name, Statement, branch, repeat, Block, nil, cons, WholeProgram}
use Rattle.tick_syntax.specs.Spelling.{Spells}
use Rattle.ticklab_trace.specs.declared.spots.LineColumn.{LineColumn}
use Rattle.ticklab_trace.specs.declared.spots.StatementPlace.{StatementPlace}

-- the tokens of a program before its body
abbrev pub opening_tokens : WholeProgram Name → List Lexeme
opening_tokens a =
    a_terminal T.Processes ∷ a_number a.processes ∷ a_terminal T.Semicolon
    ∷ (section_tokens T.Var a.variables ++ (section_tokens T.Scan a.scans ++ (section_tokens T.Reg a.registers ++ a_terminal T.Begin ∷ [])))

-- the head of a statement: its tokens up to its block or its end
abbrev pub head_tokens : Statement Name → List Lexeme
head_tokens (branch e a b) = a_terminal T.If ∷ expression_tokens e
head_tokens (repeat e a) = a_terminal T.While ∷ expression_tokens e
head_tokens s = statement_tokens s

-- from the first of some tokens to the last
abbrev pub between : Option Token → Option Token → Span
between (Some first) (Some last) = record { start = first.span.start; end = last.span.end }
between _ _ = nowhere

abbrev pub extent : List Token → Span
extent tokens = between (slice_get tokens 0) (slice_get tokens (length tokens - 1))

abbrev mutual
  -- For each statement of a block, in the order of the text, where its head stands. The tokens are those from
  -- the block on.
  pub heads : List Token → Block Name → List Span
  heads tokens nil = []
  heads tokens (cons s b) =
      extent (take (length (head_tokens s)) tokens)
      ∷ (inner_heads (drop (length (head_tokens s)) tokens) s ++ heads (drop (length (statement_tokens s)) tokens) b)

  -- And for each statement of the blocks of a statement. The tokens are those after its head.
  pub inner_heads : List Token → Statement Name → List Span
  inner_heads tokens (branch e a b) = heads (drop 1 tokens) a ++ heads (drop (length (block_tokens a) + 4) tokens) b
  inner_heads tokens (repeat e a) = heads (drop 1 tokens) a
  inner_heads tokens _ = []

abbrev pub statement_heads : List Token → WholeProgram Name → List Span
statement_heads tokens a = heads (drop (length (opening_tokens a)) tokens) a.body

abbrev pub is_line_feed : ℕ → Bool
is_line_feed byte = byte == 10

-- The place after a byte that stands at this place. A character is one column, and begins with any byte but
-- 128 to 191.
abbrev pub next_place : LineColumn → ℕ → LineColumn
next_place place byte =
    if is_line_feed byte then record { line = place.line + 1; column = 1 }
    else if nat_lt byte 128 || nat_le 192 byte then record { line = place.line; column = place.column + 1 }
    else place

abbrev pub place_after : LineColumn → List ℕ → LineColumn
place_after place [] = place
place_after place (byte ∷ bytes) = place_after (next_place place byte) bytes

-- lines and columns count from 1
abbrev pub first_place : LineColumn
first_place = record { line = 1; column = 1 }

-- where a statement stands, and how its head reads in its first line
pub record Standing : Type 0 where
  pub line : ℕ
  pub column : ℕ
  pub words : List ℕ

abbrev pub first_line : List ℕ → List ℕ
first_line text = trim_end (before_first is_line_feed text)

abbrev pub standing_at : List ℕ → Span → Standing
standing_at text head =
    let place = place_after first_place (take head.start text) in
    record { line = place.line; column = place.column; words = first_line (slice_range text head.start head.end) }

-- the statements of this program in its text, which has these tokens
abbrev pub standings : List ℕ → List Token → WholeProgram Name → List Standing
standings text tokens a = map (standing_at text) (statement_heads tokens a)

-- as they are told
abbrev pub told_standing : StatementPlace → Standing
told_standing spot = record { line = spot.line; column = spot.column; words = spot.words.now }

-- these are the statements of the program in the text
pub record Stand (text : List ℕ) (a : WholeProgram Name) (spots : List StatementPlace) : Type 0 where
  pub tokens : List Token
  pub spelled : Spells text tokens
  pub told : map told_standing spots ≡ standings text tokens a
