-- What the crates above may cite: each text has one reading.
pub use Rattle.code_text.proofs.Unique.{one_reading}
pub use Rattle.code_text.proofs.Readings.{some_reading}
