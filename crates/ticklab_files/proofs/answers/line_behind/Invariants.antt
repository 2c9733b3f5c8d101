use Rattle.std.proofs.Common.{◌≡◌, ◌++◌, ◌∷◌, drop, map, string_bytes}
use Rattle.ticklab_files.specs.Ways.{line_behind}
use Rattle.ticklab_files.proofs.answers.line_behind.Given as goal

abbrev pub invariant-loop-at : goal.invariant-loop-at
invariant-loop-at l =
    string_bytes l.text ++ line_behind l.start (map (λ line. line.now) (drop l.at l.lines))
    ≡ 10 ∷ 10 ∷ line_behind l.start (map (λ line. line.now) l.lines)
