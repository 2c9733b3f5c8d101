use Rattle.std.proofs.Common.{◌≡◌, ◌++◌, string_bytes}
use Rattle.std.specs.List.{filter}
use Rattle.std.specs.Vec.Iter.{into_iter_items}
use Rattle.ticklab_files.specs.Reading.{is_tick}
use Rattle.ticklab_answers.proofs.commands.checking.ticks_among.Given as goal

abbrev pub invariant-loop-entry : goal.invariant-loop-entry
invariant-loop-entry l =
    l.ticks.items ++ filter (λ entry. is_tick (string_bytes entry)) (into_iter_items l.entry-iterator)
    ≡ filter (λ entry. is_tick (string_bytes entry)) l.fn.entries.items
