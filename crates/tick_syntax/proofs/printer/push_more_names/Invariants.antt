use Rattle.std.proofs.Common.{◌≡◌, ◌++◌, drop, map, string_bytes}
use Rattle.tick_syntax.specs.Printed.{printed_tokens}
use Rattle.tick_syntax.specs.prover.Printing.{more_names}
use Rattle.base.specs.Plain.{name_of}
use Rattle.tick_syntax.proofs.printer.push_more_names.Given as goal

abbrev pub invariant-loop-name : goal.invariant-loop-name
invariant-loop-name l =
    string_bytes l.out ++ printed_tokens (more_names (map name_of (drop l.name-index l.names)))
    ≡ string_bytes l.fn.out ++ printed_tokens (more_names (map name_of l.names))
