-- What the crates above may cite: an input is what it is taken for, or it has one refusal.
pub use Rattle.ticketc_refusals.proofs.Decided.{IsDecided, text_decided, program_decided, code_decided, begins_or_not, program_begins_otherwise}
