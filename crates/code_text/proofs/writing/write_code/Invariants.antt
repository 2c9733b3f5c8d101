use Rattle.std.proofs.Common.{◌≡◌, ◌++◌, string_bytes, take}
use Rattle.code_text.specs.CodeText.{header_line, code_lines}
use Rattle.code_text.proofs.writing.write_code.Given as goal

-- the lines so far
abbrev pub invariant-loop-place : goal.invariant-loop-place
invariant-loop-place l = string_bytes l.text ≡ header_line 2 l.code.sizes ++ code_lines (take l.place l.code.instructions)
