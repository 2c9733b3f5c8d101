-- What one try to stamp answers.
use Rattle.std.specs.Prelude.{◌≡◌, ◌≢◌, ℕ}
use Rattle.word_core.specs.Stamps.{Labels, stamped}
use Rattle.word_core.specs.Packed.{word}
use Rattle.word_core.specs.declared.history.SharedAct.{SharedAct}
use Rattle.word_core.specs.declared.history.SharedAct.TheVariants as A
use Rattle.stamp_calls.specs.declared.calls.Tried.{Tried}
use Rattle.stamp_calls.specs.declared.calls.Tried.TheVariants.{Won, Lost}

-- the order that is told
abbrev pub tried_order : Tried → Labels
tried_order (Won order) = order
tried_order (Lost order) = order

-- the step that a try with this order was
abbrev pub tried_act : Labels → Tried → SharedAct
tried_act given (Won order) = A.Won (word given) (word order)
tried_act given (Lost order) = A.Lost (word given) (word order)

-- a won try of process `p` gives the order handed in with its stamp, a lost one an order with other
-- labels and another word
abbrev pub AnswersTry : ℕ → Labels → Tried → Type 0
AnswersTry p given (Won order) = order ≡ stamped p given
AnswersTry p given (Lost order) = (order ≢ given) × (word order ≢ word given)
