use Rattle.std.proofs.Common.{◌≡◌, ℕ, ◌<◌, ◌≤◌, get_or, true}
use Rattle.ticklab_explain.specs.Settings.{is_word_byte}
use Rattle.ticklab_explain.proofs.setting.word_end.Given as goal

abbrev pub invariant-loop-end : goal.invariant-loop-end
invariant-loop-end l = (k : ℕ) → l.at ≤ k → k < l.end → is_word_byte (get_or l.text k 0) ≡ true
