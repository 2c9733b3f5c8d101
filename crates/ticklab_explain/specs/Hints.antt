-- What each hint says.
use Rattle.std.specs.Prelude.{ℕ, Bool, true, false, ◌&&◌, ◌||◌, List, [], ◌∷◌, ◌++◌, codes, map, Option, Some, None, if◌then◌else◌}
use Rattle.std.specs.Fmt.{decimal}
use Rattle.std.specs.List.{flat_map}
use Rattle.std.specs.Str.{bytes_eq}
use Rattle.base.specs.declared.span.Span.{Span}
use Rattle.tick_syntax.specs.declared.token.Token.{Token}
use Rattle.ticklab_explain.specs.Parts.{quoted}
use Rattle.ticklab_explain.specs.Pieces.{beside, or_else}
use Rattle.ticklab_explain.specs.Rows.{Help}
use Rattle.ticklab_explain.specs.Settings.{Setting, about, after, before, front_end, here, is_name, open_brace, text_at}
use Rattle.ticklab_explain.specs.declared.declared.TheConstants.{NO_NAMES, SECTIONS}
use Rattle.ticklab_explain.specs.declared.hint.OtherPlace.{OtherPlace}
use Rattle.ticklab_explain.specs.declared.hint.OtherPlace.TheVariants as O
use Rattle.ticklab_explain.specs.declared.piece.TheConstants.{MEANINGS, STATEMENTS}
use Rattle.ticklab_explain.specs.declared.piece.Quote.{Quote}
use Rattle.ticklab_explain.specs.declared.piece.Quote.TheVariants as Q

-- the first name that is written so
abbrev pub first_written : List ℕ → List ℕ → List Token → Option Span
first_written text name [] = None
first_written text name (token ∷ tokens) =
    if is_name token.sort && bytes_eq (text_at text token.span) name then Some token.span else first_written text name tokens

unfoldable pub first_declaration : Setting → Option Span
first_declaration s = first_written s.text (about s) s.tokens

-- what a keyword means that looks like a name
unfoldable pub meaning : List ℕ → List ℕ
meaning keyword = beside (map (λ row. (row.0.now, row.1.now)) MEANINGS.now) keyword []

-- a statement of a keyword that has operands, or gives a scan
unfoldable pub statement_of : List ℕ → List ℕ
statement_of keyword = beside (map (λ row. (row.0.now, row.1.now)) STATEMENTS.now) keyword []

-- the keyword of a section, and what it declares
unfoldable pub is_section : List ℕ → Bool
is_section word = bytes_eq word (codes "var") || bytes_eq word (codes "scan") || bytes_eq word (codes "reg")

unfoldable pub section_name : List ℕ → List ℕ
section_name keyword = beside (map (λ row. (row.0.now, row.1.now)) SECTIONS.now) keyword []

abbrev pub no_names : Bool → List ℕ
no_names is_first = if is_first then NO_NAMES.now else []

-- The names by sections, up to `begin`. Before the first section stands a blank, before others a semicolon,
-- and a comma between names.
abbrev pub declared_in : List ℕ → Bool → Bool → List Token → List ℕ
declared_in text is_first is_next [] = no_names is_first
declared_in text is_first is_next (token ∷ tokens) =
    if bytes_eq (text_at text token.span) (codes "begin") then no_names is_first
    else if is_section (text_at text token.span)
    then (if is_first then codes " " else codes "; ") ++ section_name (text_at text token.span) ++ declared_in text false false tokens
    else if is_name token.sort
    then (if is_next then codes ", " else codes " ") ++ text_at text token.span ++ declared_in text is_first true tokens
    else declared_in text is_first is_next tokens

-- a piece of a hint, with the words that it may need: these words, or what is quoted of the text
abbrev pub piece_text : Setting → Quote → List ℕ → List ℕ
piece_text s Q.Words words = words
piece_text s Q.About words = about s
piece_text s Q.Here words = here s
piece_text s (Q.Before count) words = before s count
piece_text s (Q.After count) words = after s count
piece_text s Q.Left words = or_else s.left words
piece_text s Q.Right words = or_else s.right words
piece_text s Q.Meaning words = meaning (here s)
piece_text s Q.Statement words = statement_of (here s)
piece_text s Q.StatementBefore words = statement_of (before s 1)
piece_text s (Q.Tokens part) words = quoted s part
piece_text s Q.DeclaredNames words = declared_in s.text true false s.tokens
piece_text s Q.ProcessCount words = decimal s.items.processes

abbrev pub text_of : Setting → List (Quote × List ℕ) → List ℕ
text_of s pieces = flat_map (λ piece. piece_text s piece.0 piece.1) pieces

-- what a hint says
abbrev pub hint_text : Setting → Help → List ℕ
hint_text s hint = text_of s hint.0

-- the other place that it speaks of
abbrev pub place_span : Setting → OtherPlace → Option Span
place_span s O.Nowhere = None
place_span s O.FirstDeclaration = first_declaration s
place_span s O.OpenBrace = open_brace s
place_span s O.EndBefore = Some (record { start = front_end s; end = front_end s })

abbrev pub hint_span : Setting → Help → Option Span
hint_span s hint = place_span s hint.1
