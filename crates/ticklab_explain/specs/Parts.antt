-- Stretches of tokens about a place, which hints quote: operands, what an open bracket holds, statements.
use Rattle.std.specs.Prelude.{ℕ, ◌+◌, ◌-◌, ◌==◌, Bool, true, false, not, ◌||◌, ◌&&◌, List, [], ◌∷◌, ◌++◌, codes, length, take, drop, if◌then◌else◌}
use Rattle.std.specs.Str.{bytes_eq}
use Rattle.tick_syntax.specs.declared.token.Sort.{Sort}
use Rattle.tick_syntax.specs.declared.token.Sort.TheVariants as K
use Rattle.tick_syntax.specs.declared.token.Token.{Token}
use Rattle.ticklab_explain.specs.Settings.{Setting, front, shortened, text_at}
use Rattle.ticklab_explain.specs.declared.part.Part.{Part}
use Rattle.ticklab_explain.specs.declared.part.Part.TheVariants.{OperandBefore, OperandAfter, Bracket, ToSemicolon}

-- the sort of a name or a number
abbrev pub is_valued : Sort → Bool
is_valued K.Name = true
is_valued (K.Num value) = true
is_valued K.Keyword = false
is_valued K.Sign = false

-- an operand of one token
unfoldable pub is_operand : List ℕ → Token → Bool
is_operand text token =
    is_valued token.sort || (bytes_eq (text_at text token.span) (codes "me") || bytes_eq (text_at text token.span) (codes "n"))

-- how many brackets are open after this word
unfoldable pub nested : List ℕ → ℕ → ℕ
nested word depth =
    if bytes_eq word (codes "(") then depth + 1 else if bytes_eq word (codes ")") then depth - 1 else depth

-- after how many tokens no bracket is open, as many counted before; 0 where one stays open
abbrev pub closed_after : List ℕ → ℕ → ℕ → List Token → ℕ
closed_after text depth count [] = 0
closed_after text depth count (token ∷ tokens) =
    if nested (text_at text token.span) depth == 0 then count + 1
    else closed_after text (nested (text_at text token.span) depth) (count + 1) tokens

unfoldable pub begins_operand : List ℕ → List Token → Bool
begins_operand text [] = false
begins_operand text (token ∷ tokens) = is_operand text token || bytes_eq (text_at text token.span) (codes "(")

-- the operand that these tokens begin with
unfoldable pub leading : List ℕ → List Token → List Token
leading text tokens = if begins_operand text tokens then take (closed_after text 0 0 tokens) tokens else []

-- the operand that these tokens end with
abbrev pub trailing : List ℕ → List Token → List Token
trailing text [] = []
trailing text (token ∷ tokens) =
    if length (leading text (token ∷ tokens)) == length (token ∷ tokens) then token ∷ tokens else trailing text tokens

-- the tokens begin with a bracket that none of them closes
unfoldable pub opens : List ℕ → List Token → Bool
opens text [] = false
opens text (token ∷ tokens) =
    bytes_eq (text_at text token.span) (codes "(") && (closed_after text 0 0 (token ∷ tokens) == 0)

-- from the last bracket on that stays open; these tokens where all are closed
abbrev pub last_open : List ℕ → List Token → List Token → List Token
last_open text found [] = found
last_open text found (token ∷ tokens) =
    last_open text (if opens text (token ∷ tokens) then token ∷ tokens else found) tokens

-- after how many tokens the first semicolon has come, as many counted before; 0 where none comes
abbrev pub ended_after : List ℕ → ℕ → List Token → ℕ
ended_after text count [] = 0
ended_after text count (token ∷ tokens) =
    if bytes_eq (text_at text token.span) (codes ";") then count + 1 else ended_after text (count + 1) tokens

-- the last 16 tokens before the place
unfoldable pub recent : Setting → List Token
recent s = drop (length (front s) - 16) (front s)

-- 16 tokens, the first of which stands so many after the place
unfoldable pub coming : Setting → ℕ → List Token
coming s count = take 16 (drop (s.at + count) s.tokens)

abbrev pub part_of : Setting → Part → List Token
part_of s OperandBefore = trailing s.text (recent s)
part_of s (OperandAfter count) = leading s.text (coming s count)
part_of s Bracket = last_open s.text [] (recent s)
part_of s ToSemicolon = take (ended_after s.text 0 (coming s 0)) (coming s 0)

-- there is such a part, of at most 16 tokens
unfoldable pub has : Setting → Part → Bool
has s part = not (length (part_of s part) == 0)

-- tokens as they are written, with a blank between those that don't touch
abbrev pub spelled : List ℕ → ℕ → List Token → List ℕ
spelled text end [] = []
spelled text end (token ∷ tokens) =
    (if token.span.start == end then [] else codes " ") ++ shortened (text_at text token.span) ++ spelled text token.span.end tokens

abbrev pub first_byte : List Token → ℕ
first_byte [] = 0
first_byte (token ∷ tokens) = token.span.start

unfoldable pub quoted : Setting → Part → List ℕ
quoted s part = spelled s.text (first_byte (part_of s part)) (part_of s part)
