-- The definitions computed on small programs.
use Rattle.std.proofs.Common.{◌≡◌, ℕ, List, [], ◌∷◌, ◌++◌, Some, None, refl, codes}
use Rattle.std.specs.Fmt.{decimal}
use Rattle.base.specs.declared.span.Span.{Span}
use Rattle.tick_syntax.specs.declared.token.Sort.TheVariants as K
use Rattle.base.specs.declared.operator.Op.TheVariants as O
use Rattle.tick_syntax.specs.declared.terminals.Terminal.TheVariants as T
use Rattle.tick_syntax.specs.Lexeme.{Lexeme, a_name, a_number, a_terminal, lexemes}
use Rattle.base.specs.Plain.{Name, named, me, count, binary, out, repeat, nil, cons, WholeProgram}
use Rattle.tick_syntax.specs.Grammar.{program_tokens, nesting}
use Rattle.tick_syntax.specs.Terminals.{signs, keywords, spelled_among}
use Rattle.tick_syntax.specs.Printed.{printed}

abbrev span : ℕ → ℕ → Span
span a b = record { start = a; end = b }

terminals : (spelled_among keywords (codes "processes") ≡ Some T.Processes) × (spelled_among keywords (codes "n") ≡ Some T.Count)
    × (spelled_among signs (codes "<=") ≡ Some (T.Operator O.AtMost)) × (spelled_among signs (codes "!") ≡ None)
unfolding spelled_among
terminals = (refl, refl, refl, refl)

-- `x<=1 # y`
line : lexemes (codes "x<=1 # y")
    (record { sort = K.Name; span = span 0 1 } ∷ record { sort = K.Sign; span = span 1 3 }
    ∷ record { sort = K.Num 1; span = span 3 4 } ∷ [])
    ≡ a_name (record { letters = codes "x"; span = span 0 1 }) ∷ a_terminal (T.Operator O.AtMost)
    ∷ a_number 1 ∷ []
unfolding spelled_among
line = refl

-- `processes 2; var x; begin while (x < n) { out me; } end`
abbrev x : ℕ → ℕ → Name
x a b = record { letters = codes "x"; span = span a b }

abbrev small : WholeProgram Name
small = record {
  processes = 2;
  span = span 10 11;
  variables = x 17 18 ∷ [];
  scans = [];
  registers = [];
  body = cons (repeat (binary (named (x 33 34)) O.Less count) (cons (out me) nil)) nil;
}

abbrev small_tokens : List Lexeme
small_tokens =
    a_terminal T.Processes ∷ a_number 2 ∷ a_terminal T.Semicolon
    ∷ a_terminal T.Var ∷ a_name (x 17 18) ∷ a_terminal T.Semicolon ∷ a_terminal T.Begin
    ∷ a_terminal T.While ∷ a_terminal T.Open ∷ a_name (x 33 34) ∷ a_terminal (T.Operator O.Less) ∷ a_terminal T.Count ∷ a_terminal T.Close
    ∷ a_terminal T.OpenBrace ∷ a_terminal T.Out ∷ a_terminal T.Me ∷ a_terminal T.Semicolon ∷ a_terminal T.CloseBrace ∷ a_terminal T.End ∷ []

small_says : program_tokens small ≡ small_tokens
small_says = refl

small_nesting : nesting small ≡ 1
small_nesting = refl

small_printed : printed small
    ≡ codes "processes " ++ ((decimal 2 ++ 32 ∷ []) ++ codes ";\nvar x ;\nbegin\nwhile ( x < n ) {\nout me ;\n}\nend\n")
small_printed = refl
