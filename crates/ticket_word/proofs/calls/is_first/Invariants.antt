use Rattle.std.proofs.Common.{◌<◌, ℕ}
use Rattle.std.specs.Prelude.{IsTrue}
use Rattle.word_core.specs.Stamps.{label_at, is_present}
use Rattle.word_core.specs.Order.{older_label}
use Rattle.ticket_word.proofs.calls.is_first.Given as goal

-- nobody so far who is present is older
abbrev pub invariant-loop-other : goal.invariant-loop-other
invariant-loop-other l = (i : ℕ) → i < l.other → IsTrue (is_present (label_at l.labels i)) → ¬ IsTrue (older_label l.labels i l.p)
