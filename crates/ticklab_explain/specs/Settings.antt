-- A place of a text, and what stands around it.
use Rattle.std.specs.Prelude.{◌≡◌, ◌≢◌, ◌≤◌, ◌<◌, ℕ, ◌+◌, ◌-◌, ◌==◌, nat_le, nat_lt, Bool, true, false, ◌&&◌, ◌||◌, List, [], ◌∷◌, codes, length, reverse, take, slice_get, slice_index, slice_range, min, Option, Some, None, option_map, if◌then◌else◌}
use Rattle.std.specs.List.{list_any}
use Rattle.std.specs.Option.{option_map_or, unwrap_or}
use Rattle.std.specs.Str.{bytes_eq, is_utf8}
use Rattle.std.specs.Char.{is_ascii_alphabetic, is_ascii_digit}
use Rattle.base.specs.declared.span.Span.{Span}
use Rattle.base.specs.Plain.{nowhere}
use Rattle.tick_syntax.specs.Spelling.{Spells}
use Rattle.tick_syntax.specs.declared.token.Sort.{Sort}
use Rattle.tick_syntax.specs.declared.token.Sort.TheVariants as K
use Rattle.tick_syntax.specs.declared.token.Token.{Token}
use Rattle.ticketc_refusals.specs.Refusals.{IsText}
use Rattle.ticklab_explain.specs.Spots.{IsSpanAt, spot_of}
use Rattle.ticketc_refusals.specs.declared.refusal.Refusal.{Refusal}
use Rattle.ticklab_explain.specs.declared.items.Items.{Items}
use Rattle.ticklab_explain.specs.declared.scene.Scene.{Scene}
use Rattle.ticklab_explain.specs.declared.spot.Spot.{Spot}
use Rattle.ticklab_explain.specs.declared.spot.Spot.TheVariants.{Character}

-- bytes that are a text; for others nothing
unfoldable pub as_text : List ℕ → List ℕ
as_text bytes = if is_utf8 bytes then bytes else []

-- the bytes of a span, where they are a text of it
unfoldable pub text_at : List ℕ → Span → List ℕ
text_at text span =
    if nat_lt span.end span.start || nat_lt (length text) span.end then [] else as_text (slice_range text span.start span.end)

-- the first 80 bytes of a longer word
unfoldable pub shortened : List ℕ → List ℕ
shortened word = if nat_lt (length word) 80 then word else as_text (take 80 word)

-- The tokens that spell the text. A text that none spell has none here.
pub data AreTokens (text : List ℕ) (tokens : List Token) : Type 0 where
  spelled : IsText text → Spells text tokens → AreTokens text tokens
  unspelled : ((other : List Token) → IsText text → Spells text other → ⊥) → tokens ≡ [] → AreTokens text tokens

-- the first token that begins at this byte or after it; their number where none does
abbrev pub index_from : ℕ → List Token → ℕ
index_from start [] = 0
index_from start (token ∷ tokens) = if nat_le start token.span.start then 0 else 1 + index_from start tokens

-- what words are made of, outside of strings
abbrev pub is_word_byte : ℕ → Bool
is_word_byte byte = is_ascii_alphabetic byte || is_ascii_digit byte || (byte == 95)

-- the blanks before this byte begin here
pub record AreBlanksBefore (text : List ℕ) (at start : ℕ) : Type 0 where
  pub order : start ≤ at
  pub blank : (k : ℕ) → start ≤ k → k < at → slice_index text k ≡ 32
  pub all_of_them : 0 < start → slice_index text (start - 1) ≢ 32

-- the blanks from this byte on end here
pub record AreBlanksAfter (text : List ℕ) (at stop : ℕ) : Type 0 where
  pub order : at ≤ stop
  pub within : stop ≤ length text
  pub blank : (k : ℕ) → at ≤ k → k < stop → slice_index text k ≡ 32
  pub all_of_them : stop < length text → slice_index text stop ≢ 32

-- the word before this byte begins here, or the last 64 bytes of a longer one
pub record IsWordStart (text : List ℕ) (at start : ℕ) : Type 0 where
  pub order : start ≤ at
  pub few : at ≤ start + 64
  pub inside : (k : ℕ) → start ≤ k → k < at → is_word_byte (slice_index text k) ≡ true
  pub whole : 0 < start → at < start + 64 → is_word_byte (slice_index text (start - 1)) ≡ false

-- the word from this byte on ends here, or the first 64 bytes of a longer one
pub record IsWordEnd (text : List ℕ) (at stop : ℕ) : Type 0 where
  pub order : at ≤ stop
  pub within : stop ≤ length text
  pub few : stop ≤ at + 64
  pub inside : (k : ℕ) → at ≤ k → k < stop → is_word_byte (slice_index text k) ≡ true
  pub whole : stop < length text → stop < at + 64 → is_word_byte (slice_index text stop) ≡ false

-- the word right before this byte, with blanks between
abbrev pub IsWordBefore : List ℕ → ℕ → List ℕ → Type 0
IsWordBefore text at word =
    (stop start : ℕ) × AreBlanksBefore text (min at (length text)) stop × IsWordStart text stop start
    × (word ≡ as_text (slice_range text start stop))

-- the word right after this byte
abbrev pub IsWordAfter : List ℕ → ℕ → List ℕ → Type 0
IsWordAfter text at word =
    (start stop : ℕ) × AreBlanksAfter text (min at (length text)) start × IsWordEnd text start stop
    × (word ≡ as_text (slice_range text start stop))

-- what stands behind a sign of comparison, which a second byte may be part of, and behind all else
abbrev pub is_doubled : ℕ → Bool
is_doubled byte = (byte == 61) || (byte == 38) || (byte == 124)

unfoldable pub is_compared : List ℕ → Bool
is_compared word =
    bytes_eq word (codes ">") || bytes_eq word (226 ∷ 137 ∷ 165 ∷ []) || bytes_eq word (codes "&") || bytes_eq word (codes "|")

unfoldable pub behind : List ℕ → Span → ℕ
behind text span =
    if is_compared (text_at text span) && is_doubled (slice_index text span.end) then span.end + 1 else span.end

-- What tokens are sought in: where a character begins no token, what stands before it.
abbrev pub part_before : List ℕ → Spot → List ℕ
part_before text (Character place) = take (min place (length text)) text
part_before text _ = text

abbrev pub read_part : List ℕ → Refusal → List ℕ
read_part text refusal = part_before text (spot_of refusal)

-- the items of a schedule of so many processes
abbrev pub step_items : ℕ → Items
step_items processes = record { processes = processes; clears = false }

-- those of their stamps and clears
abbrev pub move_items : ℕ → Items
move_items processes = record { processes = processes; clears = true }

-- a refusal's place in a text, and what stands about it
pub record Setting : Type 0 where
  pub text : List ℕ
  pub tokens : List Token
  -- what the refusal is about
  pub span : Span
  -- which token stands there; how many there are, where it is the text's end
  pub at : ℕ
  -- the words on both sides of the span
  pub left : List ℕ
  pub right : List ℕ
  -- what the items of a schedule may be
  pub items : Items

-- This is the place of the refusal in the text. One that is nowhere is set at its begin.
pub record IsSetting (items : Items) (text : List ℕ) (refusal : Refusal) (s : Setting) : Type 0 where
  pub same_text : s.text ≡ text
  pub are_tokens : AreTokens (read_part text refusal) s.tokens
  pub found : Option Span
  pub is_found : IsSpanAt text (spot_of refusal) found
  pub same_span : s.span ≡ unwrap_or found nowhere
  pub same_at : s.at ≡ index_from s.span.start s.tokens
  pub is_left : IsWordBefore text s.span.start s.left
  pub is_right : IsWordAfter text (behind text s.span) s.right
  pub same_items : s.items ≡ items

-- what the refusal is about, as it is written
unfoldable pub about : Setting → List ℕ
about s = text_at s.text s.span

-- a token as it is written
abbrev pub written : List ℕ → Option Token → List ℕ
written text None = []
written text (Some token) = shortened (text_at text token.span)

unfoldable pub word : Setting → ℕ → List ℕ
word s index = written s.text (slice_get s.tokens index)

unfoldable pub here : Setting → List ℕ
here s = word s s.at

-- so many tokens before
unfoldable pub before : Setting → ℕ → List ℕ
before s count = if nat_lt s.at count then [] else word s (s.at - count)

-- so many tokens after
unfoldable pub after : Setting → ℕ → List ℕ
after s count = word s (s.at + count)

abbrev pub is_name : Sort → Bool
is_name K.Name = true
is_name _ = false

abbrev pub is_keyword : Sort → Bool
is_keyword K.Keyword = true
is_keyword _ = false

-- nothing at the text's end
unfoldable pub sort_here : Setting → Option Sort
sort_here s = option_map (λ token. token.sort) (slice_get s.tokens s.at)

unfoldable pub is_keyword_here : Setting → Bool
is_keyword_here s = option_map_or is_keyword (sort_here s) false

abbrev pub is_name_token : Option Token → Bool
is_name_token None = false
is_name_token (Some token) = is_name token.sort

unfoldable pub is_name_at : Setting → ℕ → Bool
is_name_at s index = is_name_token (slice_get s.tokens index)

-- a name stands so many tokens before
unfoldable pub is_name_before : Setting → ℕ → Bool
is_name_before s count = if nat_lt s.at count then false else is_name_at s (s.at - count)

-- a name stands so many tokens after
unfoldable pub is_name_after : Setting → ℕ → Bool
is_name_after s count = is_name_at s (s.at + count)

-- where the token before ends
abbrev pub end_of : List ℕ → Option Token → ℕ
end_of text None = 0
end_of text (Some token) = min token.span.end (length text)

unfoldable pub front_end : Setting → ℕ
front_end s = if s.at == 0 then 0 else end_of s.text (slice_get s.tokens (s.at - 1))

abbrev pub begins_at : ℕ → Option Token → Bool
begins_at place None = false
begins_at place (Some token) = token.span.start == place

-- no byte stands between the token before and this one
unfoldable pub touches : Setting → Bool
touches s = begins_at (front_end s) (slice_get s.tokens s.at)

-- the tokens before
unfoldable pub front : Setting → List Token
front s = take s.at s.tokens

unfoldable pub has_begun : Setting → Bool
has_begun s = list_any (λ token. bytes_eq (text_at s.text token.span) (codes "begin")) (front s)

-- After so many `}` that close one stands this word: after how many stand the words before it. At a `{` that
-- none of them closes there is no such number.
unfoldable pub counted : List ℕ → ℕ → Option ℕ
counted word closed =
    if bytes_eq word (codes "}") then Some (closed + 1)
    else if bytes_eq word (codes "{") then (if closed == 0 then None else Some (closed - 1))
    else Some closed

-- of tokens whose last stands first: the first `{` that none of them closes
abbrev pub unclosed : List ℕ → ℕ → List Token → Option Span
unclosed text closed [] = None
unclosed text closed (token ∷ tokens) =
    option_map_or (λ more. unclosed text more tokens) (counted (text_at text token.span) closed) (Some token.span)

-- the innermost `{` before that is still open
unfoldable pub open_brace : Setting → Option Span
open_brace s = unclosed s.text 0 (reverse (front s))

-- what a scene is
abbrev pub setting : Scene → Setting
setting scene = record {
  text = scene.text.now;
  tokens = scene.tokens.now;
  span = scene.span;
  at = scene.at;
  left = scene.left.now;
  right = scene.right.now;
  items = scene.items;
}
