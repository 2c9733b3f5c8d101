-- What the crates above may cite: what each text is, how the text of a program begins, and that the tokens of a text
-- stand in it in their order.
pub use Rattle.tick_syntax.proofs.Beginnings.{program_text_begins}
pub use Rattle.tick_syntax.proofs.Decided.{one_program, one_refusal, never_both, never_neither}
pub use Rattle.tick_syntax.proofs.SpelledInOrder.{spells_in_order}
