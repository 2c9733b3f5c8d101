-- What the crates above may cite: what is read of a schedule and of moves, and that what is written reads back.
pub use Rattle.language_schedules.proofs.ScheduleLemmas.{schedule_of-below, schedule_of-short, moves_of-below, moves_of-short}
pub use Rattle.language_schedules.proofs.ReadingBack.{written_reads_back}
