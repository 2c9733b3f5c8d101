-- The printed form of a program: its tokens in order, each with what follows it.
use Rattle.std.specs.Prelude.{ℕ, List, [], ◌∷◌, ◌++◌}
use Rattle.std.specs.List.{flat_map}
use Rattle.std.specs.Fmt.{decimal}
use Rattle.tick_syntax.specs.declared.terminals.Terminal.{Terminal}
use Rattle.tick_syntax.specs.declared.terminals.Terminal.TheVariants as T
use Rattle.tick_syntax.specs.Terminals.{spelling}
use Rattle.tick_syntax.specs.Grammar.{program_tokens}
use Rattle.tick_syntax.specs.Lexeme.{Lexeme, a_name, a_number, a_terminal, nothing}
use Rattle.base.specs.Plain.{Name, WholeProgram}

-- a line feed after these terminals, and a space after all others
abbrev pub after_terminal : Terminal → ℕ
after_terminal T.Semicolon = 10
after_terminal T.OpenBrace = 10
after_terminal T.CloseBrace = 10
after_terminal T.Begin = 10
after_terminal T.End = 10
after_terminal _ = 32

-- a token as it is printed
abbrev pub printed_token : Lexeme → List ℕ
printed_token (a_name x) = x.letters ++ 32 ∷ []
printed_token (a_number v) = decimal v ++ 32 ∷ []
printed_token (a_terminal w) = spelling w ++ after_terminal w ∷ []
printed_token nothing = []

abbrev pub printed_tokens : List Lexeme → List ℕ
printed_tokens ts = flat_map printed_token ts

-- the printed form
abbrev pub printed : WholeProgram Name → List ℕ
printed p = printed_tokens (program_tokens p)
