-- Parts of a program's tokens.
use Rattle.std.specs.Prelude.{List, [], ◌∷◌, ◌++◌}
use Rattle.tick_syntax.specs.declared.terminals.Terminal.TheVariants as T
use Rattle.tick_syntax.specs.Lexeme.{Lexeme, a_name, a_terminal}
use Rattle.base.specs.Plain.{Name, WholeProgram}
use Rattle.tick_syntax.specs.Grammar.{section_tokens}

-- each name with a comma before it
abbrev pub more_names : List Name → List Lexeme
more_names [] = []
more_names (x ∷ xs) = a_terminal T.Comma ∷ a_name x ∷ more_names xs

-- the sections of declarations
abbrev pub declaration_tokens : WholeProgram Name → List Lexeme
declaration_tokens p =
    section_tokens T.Var p.variables ++ (section_tokens T.Scan p.scans ++ section_tokens T.Reg p.registers)
