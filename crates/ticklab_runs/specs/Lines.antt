-- Lines of runs.
use Rattle.std.specs.Prelude.{◌++◌, ◌-◌, ℕ, ◌+◌, List, Ok, Err, codes}
use Rattle.std.specs.Fmt.{decimal}
use Rattle.language_properties.specs.Values.{Valued}
use Rattle.tick_play.specs.Lines.{trap_text}

-- what a line that breaks comes to: it has this value, which isn't 0, or it traps
abbrev pub broken_text : Valued → List ℕ
broken_text (Ok v) = codes "this must never hold, and its value is " ++ decimal v
broken_text (Err trap) = codes "this has no value: it traps with " ++ trap_text trap

-- a run of more steps than a page has; `from` says where the schedule is from
abbrev pub long_run_line : List ℕ → ℕ → List ℕ
long_run_line from count = from ++ codes ": error: there are " ++ decimal count ++ codes " steps, and a page has at most 20000\n"
