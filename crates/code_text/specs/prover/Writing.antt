-- The operands that stand after the name of an instruction.
use Rattle.std.specs.Prelude.{ℕ, List, [], ◌++◌, codes}
use Rattle.std.specs.Fmt.{decimal}
use Rattle.base.specs.Operators.{sign}
use Rattle.code_text.specs.declared.writing.Operands.{Operands}
use Rattle.code_text.specs.declared.writing.Operands.TheVariants as P

abbrev pub operands_text : Operands → List ℕ
operands_text P.Nothing = []
operands_text (P.Sign op) = sign op
operands_text (P.One number) = decimal number
operands_text (P.Two first second) = decimal first ++ codes " " ++ decimal second
