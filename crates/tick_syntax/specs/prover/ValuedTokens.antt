-- What valued tokens say, and which tokens they are without their values.
use Rattle.std.specs.Prelude.{◌≡◌, Bool, true, false, ℕ, List, [], ◌∷◌, map}
use Rattle.tick_syntax.specs.declared.token.Sort.{Sort}
use Rattle.tick_syntax.specs.declared.token.Sort.TheVariants as K
use Rattle.base.specs.declared.span.Span.{Span}
use Rattle.tick_syntax.specs.declared.terminals.Terminal.{Terminal}
use Rattle.tick_syntax.specs.declared.terminals.Terminal.TheVariants as T
use Rattle.tick_syntax.specs.declared.valued_token.ValuedToken.{ValuedToken}
use Rattle.tick_syntax.specs.declared.valued_token.Meaning.{Meaning}
use Rattle.tick_syntax.specs.declared.valued_token.Meaning.TheVariants as M
use Rattle.tick_syntax.specs.declared.token.Token.{Token}
use Rattle.tick_syntax.specs.Spelling.{Spells}
use Rattle.tick_syntax.specs.Lexeme.{Lexeme, a_name, a_number, a_terminal, lexeme_of}

abbrev pub said_by : Meaning → Span → Lexeme
said_by (M.Name letters) span = a_name (record { letters = letters.now; span = span })
said_by (M.Number v) span = a_number v
said_by (M.Terminal w) span = a_terminal w

-- what a valued token says
abbrev pub said : ValuedToken → Lexeme
said i = said_by i.meaning i.span

-- whether the terminal is a sign, and no keyword
abbrev pub is_sign_terminal : Terminal → Bool
is_sign_terminal T.Semicolon = true
is_sign_terminal T.Comma = true
is_sign_terminal T.Open = true
is_sign_terminal T.Close = true
is_sign_terminal T.OpenBrace = true
is_sign_terminal T.CloseBrace = true
is_sign_terminal T.Becomes = true
is_sign_terminal (T.Operator op) = true
is_sign_terminal _ = false

abbrev pub sign_or_keyword : Bool → Sort
sign_or_keyword true = K.Sign
sign_or_keyword false = K.Keyword

abbrev pub sort_by : Meaning → Sort
sort_by (M.Name letters) = K.Name
sort_by (M.Number v) = K.Num v
sort_by (M.Terminal w) = sign_or_keyword (is_sign_terminal w)

-- the token without its value
abbrev pub plain : ValuedToken → Token
plain i = record { sort = sort_by i.meaning; span = i.span }

-- it says what the token says, at its place
abbrev pub SaysAs : List ℕ → ValuedToken → Token → Type 0
SaysAs text valued token = (said valued ≡ lexeme_of text token) × (valued.span ≡ token.span)

-- each says what its token says
abbrev pub SayAs : List ℕ → List ValuedToken → List Token → Type 0
SayAs text [] [] = Unit {0}
SayAs text (i ∷ is) (t ∷ ts) = SaysAs text i t × SayAs text is ts
SayAs text _ _ = ⊥

-- they say what the tokens say that spell the text
pub record AreValues (text : List ℕ) (is : List ValuedToken) : Type 0 where
  pub spelled : Spells text (map plain is)
  pub said_as : SayAs text is (map plain is)
