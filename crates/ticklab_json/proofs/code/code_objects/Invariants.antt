use Rattle.std.proofs.Common.{◌≡◌, ◌++◌, drop, string_bytes}
use Rattle.ticklab_json.specs.Members.{lines}
use Rattle.ticklab_json.specs.Steps.{instruction_list, instruction_objects}
use Rattle.ticklab_json.proofs.code.code_objects.Given as goal

abbrev pub invariant-loop-number : goal.invariant-loop-number
invariant-loop-number l =
    string_bytes l.text ++ lines (instruction_list l.program l.tells l.number (drop l.number l.steps)) ≡ instruction_objects l.program l.tells l.steps
