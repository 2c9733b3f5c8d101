use Rattle.std.proofs.Common.{◌≡◌, ◌++◌, drop, map, string_bytes}
use Rattle.tick_play.specs.Lines.{row_lines}
use Rattle.tick_play.proofs.lines.push_rows.Given as goal

abbrev pub invariant-loop-number : goal.invariant-loop-number
invariant-loop-number l =
    string_bytes l.text ++ row_lines l.name l.number (map (λ row. row.items) (drop l.number l.rows))
    ≡ string_bytes l.fn.text ++ row_lines l.name 0 (map (λ row. row.items) l.rows)
