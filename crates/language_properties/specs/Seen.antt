-- What is seen of a program's state on whole-number tickets.
use Rattle.tick_source.specs.Source.{SourceState, statuses_of}
use Rattle.language_properties.specs.Values.{SeenState, seen_with}

abbrev pub seen_of : SourceState → SeenState
seen_of s = seen_with s.tickets s.rows (statuses_of s)
