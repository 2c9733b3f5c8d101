-- The keywords and the signs, and how each is spelled.
use Rattle.std.specs.Prelude.{ℕ, List, [], ◌∷◌, Option, codes}
use Rattle.std.specs.List.{find}
use Rattle.std.specs.Str.{bytes_eq}
use Rattle.base.specs.declared.operator.Op.TheVariants as O
use Rattle.base.specs.Operators.{sign}
use Rattle.tick_syntax.specs.declared.terminals.Terminal.{Terminal}
use Rattle.tick_syntax.specs.declared.terminals.Terminal.TheVariants as T

abbrev pub spelling : Terminal → List ℕ
spelling T.Processes = codes "processes"
spelling T.Var = codes "var"
spelling T.Scan = codes "scan"
spelling T.Reg = codes "reg"
spelling T.Begin = codes "begin"
spelling T.End = codes "end"
spelling T.Get = codes "get"
spelling T.Put = codes "put"
spelling T.Stamp = codes "stamp"
spelling T.Clear = codes "clear"
spelling T.Copy = codes "copy"
spelling T.Older = codes "older"
spelling T.Held = codes "held"
spelling T.Out = codes "out"
spelling T.If = codes "if"
spelling T.Else = codes "else"
spelling T.While = codes "while"
spelling T.Me = codes "me"
spelling T.Count = codes "n"
spelling T.Semicolon = codes ";"
spelling T.Comma = codes ","
spelling T.Open = codes "("
spelling T.Close = codes ")"
spelling T.OpenBrace = codes "{"
spelling T.CloseBrace = codes "}"
spelling T.Becomes = codes "="
spelling (T.Operator op) = sign op

abbrev pub signs : List Terminal
signs =
    T.Semicolon ∷ T.Becomes ∷ T.Open ∷ T.Close ∷ T.OpenBrace ∷ T.CloseBrace ∷ T.Comma ∷
    T.Operator O.Add ∷ T.Operator O.Sub ∷ T.Operator O.Mul ∷ T.Operator O.Div ∷ T.Operator O.Rem ∷
    T.Operator O.Less ∷ T.Operator O.AtMost ∷ T.Operator O.Equal ∷ T.Operator O.Differs ∷ []

abbrev pub keywords : List Terminal
keywords =
    T.Me ∷ T.Count ∷ T.Put ∷ T.Get ∷ T.Out ∷ T.If ∷ T.Else ∷ T.While ∷ T.Stamp ∷ T.Clear ∷ T.Scan ∷ T.Copy ∷ T.Older ∷ T.Held ∷
    T.Processes ∷ T.Var ∷ T.Reg ∷ T.Begin ∷ T.End ∷ []

-- of these the one that is spelled so, if one is
unfoldable pub spelled_among : List Terminal → List ℕ → Option Terminal
spelled_among ws bytes = find (λ w. bytes_eq (spelling w) bytes) ws
