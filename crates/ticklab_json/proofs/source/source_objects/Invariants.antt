use Rattle.std.proofs.Common.{◌≡◌, ◌++◌, drop, map, option_map, string_bytes}
use Rattle.ticklab_trace.specs.Places.{told_standing}
use Rattle.ticklab_json.specs.Members.{lines}
use Rattle.ticklab_json.specs.Steps.{broken_line, statement_list, statement_objects}
use Rattle.ticklab_json.proofs.source.source_objects.Given as goal

abbrev pub invariant-loop-number : goal.invariant-loop-number
invariant-loop-number l =
    string_bytes l.text ++ lines (statement_list l.program (map told_standing l.spots) l.parts l.tells (option_map broken_line l.broken) l.number (drop l.number l.steps))
    ≡ statement_objects l.program (map told_standing l.spots) l.parts l.tells (option_map broken_line l.broken) l.steps
