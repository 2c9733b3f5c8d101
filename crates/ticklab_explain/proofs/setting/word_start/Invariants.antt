use Rattle.std.proofs.Common.{◌≡◌, ℕ, ◌<◌, ◌≤◌, get_or, true}
use Rattle.ticklab_explain.specs.Settings.{is_word_byte}
use Rattle.ticklab_explain.proofs.setting.word_start.Given as goal

abbrev pub invariant-loop-start : goal.invariant-loop-start
invariant-loop-start l = (k : ℕ) → l.start ≤ k → k < l.at → is_word_byte (get_or l.text k 0) ≡ true
