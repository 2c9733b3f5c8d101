-- What the crates above may cite: that states which are seen alike have the same values.
pub use Rattle.language_properties.proofs.Alike.{alike_law}
pub use Rattle.language_properties.proofs.Asking.{unasked_law}
