-- what was told so far, with the words that are left behind it, is the whole command
use Rattle.std.proofs.Common.{◌≡◌, drop}
use Rattle.clap.specs.Simple.{App}
use Rattle.ticklab_line.specs.CommandLine.{IsCommand}
use Rattle.ticklab_line.specs.prover.Described.{app_for, with_words}
use Rattle.ticklab_line.proofs.described.described.Given as goal

abbrev pub invariant-loop-word : goal.invariant-loop-word
invariant-loop-word l =
    (app : App) × IsCommand app l.command × (with_words app (drop l.word-index l.word-items) ≡ app_for l.fn.description)
