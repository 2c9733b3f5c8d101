-- Where a list of tokens stops being a program within the limits.
use Rattle.std.specs.Prelude.{◌≡◌, ℕ, ◌≤◌, true, false, List, [], ◌∷◌, ◌++◌, length}
use Rattle.base.specs.declared.span.Span.{Span}
use Rattle.tick_syntax.specs.declared.fault.TextFault.{TextFault}
use Rattle.tick_syntax.specs.declared.fault.TextFault.TheVariants as F
use Rattle.tick_syntax.specs.declared.token.Token.{Token}
use Rattle.tick_syntax.specs.Characters.{is_keyword}
use Rattle.tick_syntax.specs.Lexeme.{Lexeme, a_name, a_number, a_terminal, nothing, lexeme_of, lexemes}
use Rattle.tick_syntax.specs.Grammar.{program_tokens}
use Rattle.tick_syntax.specs.Nesting.{IsOpening, IsShallow, open_after}
use Rattle.base.specs.Plain.{Name, WholeProgram}
use Rattle.tick_syntax.specs.Spelling.{is_word, Spells, FirstRefusal}

-- a text can have this token
abbrev pub CanStand : Lexeme → Type 0
CanStand (a_name x) = (is_word x.letters ≡ true) × (is_keyword x.letters ≡ false) × (length x.letters ≤ 64)
CanStand (a_number v) = v ≤ 4294967295
CanStand (a_terminal w) = Unit {0}
CanStand nothing = ⊥

abbrev pub AllCanStand : List Lexeme → Type 0
AllCanStand [] = Unit {0}
AllCanStand (t ∷ ts) = CanStand t × AllCanStand ts

-- some program goes on from these tokens, by tokens that a text can have
abbrev pub GoesOn : List Lexeme → Type 0
GoesOn ts = (more : List Lexeme) × AllCanStand more × (p : WholeProgram Name) × (ts ++ more ≡ program_tokens p)

-- programs within the limits begin so
abbrev pub Begins : List Lexeme → Type 0
Begins front = GoesOn front × IsShallow front 0

-- The front goes on, and not with the next token; or there is none, and the front is no whole program.
abbrev pub StopsAfter : List ℕ → List Token → List Token → Span → Type 0
StopsAfter text front [] place =
    (place ≡ record { start = length text; end = length text })
    × ((p : WholeProgram Name) → lexemes text front ≡ program_tokens p → ⊥)
StopsAfter text front (token ∷ rest) place =
    (place ≡ token.span) × (GoesOn (lexemes text (front ++ token ∷ [])) → ⊥)

-- the first token at which no program goes on is there
abbrev pub IsUnexpected : List ℕ → List Token → Span → Type 0
IsUnexpected text tokens place =
    (front rest : List Token) × (tokens ≡ front ++ rest)
    × Begins (lexemes text front) × StopsAfter text front rest place

-- the first bracket that may stand there and would be the 65th open is there
abbrev pub IsTooDeep : List ℕ → List Token → Span → Type 0
IsTooDeep text tokens place =
    (front : List Token) × (token : Token) × (rest : List Token) × (tokens ≡ front ++ token ∷ rest)
    × Begins (lexemes text front) × (open_after (lexemes text front) 0 ≡ 64)
    × IsOpening (lexeme_of text token) × GoesOn (lexemes text (front ++ token ∷ []))
    × (place ≡ token.span)

-- The first refusal of a whole text: its length, the first fault of its tokens, or, where tokens
-- spell it, the first place at which they stop being a program within the limits.
abbrev pub IsTextRefused : List ℕ → TextFault → Type 0
IsTextRefused text (F.Unexpected place) =
    (tokens : List Token) × (length text ≤ 1000000) × Spells text tokens × IsUnexpected text tokens place
IsTextRefused text (F.TooDeep place) =
    (tokens : List Token) × (length text ≤ 1000000) × Spells text tokens × IsTooDeep text tokens place
IsTextRefused text fault = FirstRefusal text fault
