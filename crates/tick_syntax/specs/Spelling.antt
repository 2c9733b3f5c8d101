-- How a text is spelled by tokens, and which fault a text has first.
use Rattle.std.specs.Prelude.{◌≡◌, ℕ, ◌+◌, ◌<◌, ◌≤◌, Bool, true, false, ◌&&◌, ◌||◌, ◌==◌, List, [], ◌∷◌, ◌++◌, length, drop, slice_range}
use Rattle.std.specs.List.{list_all}
use Rattle.std.specs.Str.Parse.{digits_value}
use Rattle.base.specs.Blanks.{is_blank}
use Rattle.tick_syntax.specs.Characters.{hash, line_feed, is_letter, is_digit, is_name_part, is_keyword, is_sign}
use Rattle.base.specs.declared.span.Span.{Span}
use Rattle.tick_syntax.specs.declared.token.Sort.{Sort}
use Rattle.tick_syntax.specs.declared.token.Sort.TheVariants.{Name, Num, Keyword, Sign}
use Rattle.tick_syntax.specs.declared.token.Token.{Token}
use Rattle.tick_syntax.specs.declared.fault.TextFault.{TextFault}
use Rattle.tick_syntax.specs.declared.fault.TextFault.TheVariants.{TextTooLong, BadCharacter, NumberTooBig, NameTooLong, Unexpected, TooDeep, NoMemory}

-- A gap is blanks and comments, and a comment runs from `#` to before the next
-- line feed. `gap_length` is how many bytes at the front of a text are gap, and
-- `comment_length` the same of what follows a `#`.
abbrev mutual
  pub gap_length : List ℕ → ℕ
  gap_length [] = 0
  gap_length (b ∷ bs) = elim (is_blank b) [ true ↦ 1 + gap_length bs | false ↦ elim (b == hash) [ true ↦ 1 + comment_length bs | false ↦ 0 ] ]

  pub comment_length : List ℕ → ℕ
  comment_length [] = 0
  comment_length (b ∷ bs) = elim (b == line_feed) [ true ↦ 1 + gap_length bs | false ↦ 1 + comment_length bs ]

abbrev pub after_gap : List ℕ → List ℕ
after_gap text = drop (gap_length text) text

-- the text has a first byte, and it passes
abbrev pub starts : (ℕ → Bool) → List ℕ → Bool
starts test [] = false
starts test (b ∷ bs) = test b

-- a letter, then letters and digits: a name or a keyword
abbrev pub is_word : List ℕ → Bool
is_word piece = starts is_letter piece && list_all is_name_part piece

-- one or more digits
abbrev pub is_number : List ℕ → Bool
is_number piece = starts is_digit piece && list_all is_digit piece

-- The longest token is taken: what follows a word, a number or a sign makes no longer one of it.
pub record IsWord (piece more : List ℕ) : Type 0 where
  pub word : is_word piece ≡ true
  pub longest : starts is_name_part more ≡ false

pub record IsNumber (piece more : List ℕ) : Type 0 where
  pub number : is_number piece ≡ true
  pub longest : starts is_digit more ≡ false

pub record IsSign (piece more : List ℕ) : Type 0 where
  pub sign : is_sign piece ≡ true
  pub longest : starts (λ b. is_sign (piece ++ b ∷ [])) more ≡ false

-- the piece is a token of this sort where `more` follows it
abbrev pub IsToken : List ℕ → List ℕ → Sort → Type 0
IsToken piece more Name = IsWord piece more × (is_keyword piece ≡ false) × (length piece ≤ 64)
IsToken piece more (Num value) = IsNumber piece more × (digits_value 10 piece ≡ value) × (value ≤ 4294967295)
IsToken piece more Keyword = IsWord piece more × (is_keyword piece ≡ true)
IsToken piece more Sign = IsSign piece more

-- the span of a piece that stands at this place
abbrev pub span_of : ℕ → List ℕ → Span
span_of at piece = record { start = at; end = at + length piece }

-- the text from this place on is the token's piece and then `more`
pub record TokenAt (at : ℕ) (text : List ℕ) (token : Token) (more : List ℕ) : Type 0 where
  pub piece : List ℕ
  pub split : text ≡ piece ++ more
  pub kind : IsToken piece more token.sort
  pub place : token.span ≡ span_of at piece

-- the text from this place on is tokens with gaps round them
abbrev pub SpellsFrom : ℕ → List ℕ → List Token → Type 0
SpellsFrom at text [] = after_gap text ≡ []
SpellsFrom at text (token ∷ tokens) =
    (more : List ℕ) × TokenAt (at + gap_length text) (after_gap text) token more × SpellsFrom token.span.end more tokens

abbrev pub Spells : List ℕ → List Token → Type 0
Spells text tokens = SpellsFrom 0 text tokens

-- the text has a first token
abbrev pub HasToken : List ℕ → Type 0
HasToken text = (token : Token) × (more : List ℕ) × TokenAt (gap_length text) (after_gap text) token more

-- the tokens stand in this text one after another, from this place on, each on the bytes at its span
abbrev pub StandInOrder : List ℕ → ℕ → List Token → Type 0
StandInOrder text from [] = from ≤ length text
StandInOrder text from (token ∷ tokens) =
    (from ≤ token.span.start) × (token.span.start < token.span.end) × IsToken (slice_range text token.span.start token.span.end) (drop token.span.end text) token.sort × StandInOrder text token.span.end tokens

-- some token begins with the text's first byte
abbrev pub starts_token : List ℕ → Bool
starts_token [] = false
starts_token (b ∷ bs) = is_name_part b || is_sign (b ∷ []) || starts (λ next. is_sign (b ∷ next ∷ [])) bs

-- no token can be taken from the text at this place, and this is why
abbrev pub FaultAt : ℕ → List ℕ → TextFault → Type 0
FaultAt at text (BadCharacter place) = (0 < length text) × (starts_token text ≡ false) × (place ≡ at)
FaultAt at text (NumberTooBig span) =
    (piece more : List ℕ) × (text ≡ piece ++ more) × IsNumber piece more × (4294967295 < digits_value 10 piece) × (span ≡ span_of at piece)
FaultAt at text (NameTooLong span) =
    (piece more : List ℕ) × (text ≡ piece ++ more) × IsWord piece more × (64 < length piece) × (span ≡ span_of at piece)
FaultAt at text TextTooLong = ⊥
FaultAt at text (Unexpected span) = ⊥
FaultAt at text (TooDeep span) = ⊥
FaultAt at text NoMemory = ⊥

-- the text from this place on is these tokens with gaps round them, and then the fault
abbrev pub FaultAfter : ℕ → List ℕ → List Token → TextFault → Type 0
FaultAfter at text [] fault = FaultAt (at + gap_length text) (after_gap text) fault
FaultAfter at text (token ∷ tokens) fault =
    (more : List ℕ) × TokenAt (at + gap_length text) (after_gap text) token more × FaultAfter token.span.end more tokens fault

-- what stands before the fault is spelled by tokens
abbrev pub FirstFault : List ℕ → TextFault → Type 0
FirstFault text fault = (before : List Token) × FaultAfter 0 text before fault

-- the first refusal of a whole text: its length, or else its first fault
abbrev pub FirstRefusal : List ℕ → TextFault → Type 0
FirstRefusal text TextTooLong = 1000000 < length text
FirstRefusal text fault = (length text ≤ 1000000) × FirstFault text fault
