-- Names and tokens apart from their places in a text.
use Rattle.std.specs.Prelude.{ℕ, List, map}
use Rattle.tick_syntax.specs.Lexeme.{Lexeme, a_name, a_number, a_terminal, nothing}
use Rattle.base.specs.Plain.{nowhere, Name}

abbrev pub letters_of : Name → List ℕ
letters_of x = x.letters

abbrev pub spanless : Lexeme → Lexeme
spanless (a_name x) = a_name (record { letters = x.letters; span = nowhere })
spanless (a_number v) = a_number v
spanless (a_terminal w) = a_terminal w
spanless nothing = nothing

abbrev pub spanless_all : List Lexeme → List Lexeme
spanless_all ts = map spanless ts
