use Rattle.std.proofs.Common.{◌≡◌, ◌++◌, drop, map, string_bytes}
use Rattle.ticklab_answers.specs.Checks.{name_in}
use Rattle.ticklab_answers.proofs.commands.checking.names_in.Given as goal

abbrev pub invariant-loop-file : goal.invariant-loop-file
invariant-loop-file l =
    map string_bytes l.names.items ++ map (λ file. name_in l.folder (string_bytes file)) (drop l.file-index l.ticks)
    ≡ map (λ file. name_in l.folder (string_bytes file)) l.ticks
