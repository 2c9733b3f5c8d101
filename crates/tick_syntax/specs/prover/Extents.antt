-- What a text has at its front: how long its first word, number or sign is, and its first token.
use Rattle.std.specs.Prelude.{◌≡◌, ℕ, Bool, ◌<◌, ◌≤◌, ◌&&◌, ◌==◌, List, [], ◌∷◌, if◌then◌else◌, length, drop, Result, Ok, Err}
use Rattle.std.specs.List.{prefix_len}
use Rattle.tick_syntax.specs.Characters.{is_digit, is_name_part, is_lone_sign, may_precede_equals}
use Rattle.tick_syntax.specs.Spelling.{starts, TokenAt, FaultAt}
use Rattle.tick_syntax.specs.declared.extents.Extent.{Extent}
use Rattle.tick_syntax.specs.declared.extents.Extent.TheVariants as E
use Rattle.tick_syntax.specs.declared.valued_token.ValuedToken.{ValuedToken}
use Rattle.tick_syntax.specs.Lexeme.{lexeme_of}
use Rattle.tick_syntax.specs.prover.ValuedTokens.{plain, said}
use Rattle.tick_syntax.specs.declared.fault.TextFault.{TextFault}

-- the bytes that words and numbers are made of
abbrev pub takes : Extent → ℕ → Bool
takes E.Word = is_name_part
takes E.Number = is_digit

-- how many of these bytes the text begins with
abbrev pub taken_length : Extent → List ℕ → ℕ
taken_length extent text = prefix_len (takes extent) text

abbrev pub word_length : List ℕ → ℕ
word_length text = taken_length E.Word text

abbrev pub number_length : List ℕ → ℕ
number_length text = taken_length E.Number text

-- the longest sign that the text begins with, 0 where it begins with none
abbrev pub sign_length : List ℕ → ℕ
sign_length [] = 0
sign_length (b ∷ bs) = if may_precede_equals b && starts (λ next. next == 61) bs then 2 else (if is_lone_sign b then 1 else 0)

-- the token that the text has at this place, with what it says
pub record IsReadAt (text : List ℕ) (from : ℕ) (valued : ValuedToken) : Type 0 where
  pub here : TokenAt from (drop from text) (plain valued) (drop valued.span.end text)
  pub says_it : said valued ≡ lexeme_of text (plain valued)
  pub after : from < valued.span.end
  pub within : valued.span.end ≤ length text

-- the token that the text has at this place, or why none can be taken there
abbrev pub ReadsAt : List ℕ → ℕ → Result ValuedToken TextFault → Type 0
ReadsAt text from (Ok valued) = IsReadAt text from valued
ReadsAt text from (Err fault) = FaultAt from (drop from text) fault
