-- The lemmas on the machine of step code that other crates may cite.
use Rattle.std.proofs.Common.{◌≡◌, true}
use Rattle.word_core.specs.Stamps.{Labels}
use Rattle.code_machine.specs.Machine.{same_labels}
use Rattle.code_machine.specs.Laws.{NeverStuckLaw}
use Rattle.code_machine.proofs.Runs
use Rattle.code_machine.proofs.Words
pub use Rattle.code_core.proofs.Offered.{get-set, get-replicate, get-snoc}

pub never_stuck_law : NeverStuckLaw
never_stuck_law = Runs.never_stuck_law

-- an exchange is won exactly where it finds the labels that it has
pub equal_from_same : (a b : Labels) → same_labels a b ≡ true → a ≡ b
equal_from_same = Words.equal_labels

pub same_self : (a : Labels) → same_labels a a ≡ true
same_self = Words.labels_self
