use Rattle.std.proofs.Common.{◌≡◌, map, string_bytes, take}
use Rattle.code_text.specs.CodeText.{instr_text}
use Rattle.ticklab_page.proofs.lists.instructions_of.Given as goal

abbrev pub invariant-loop-place : goal.invariant-loop-place
invariant-loop-place l = map string_bytes l.texts.items ≡ map instr_text (take l.place l.code.instructions)
