use Rattle.std.proofs.Common.{◌≡◌, ◌++◌, take, drop}
use Rattle.code_text.specs.prover.Guess.{word}
use Rattle.code_text.proofs.reader.Reader.word.Given as goal

-- the bytes so far are part of the word
abbrev pub invariant-loop-at : goal.invariant-loop-at
invariant-loop-at l = word l.all ≡ (take l.at l.all ++ (word (drop l.at l.all)).0, (word (drop l.at l.all)).1)
