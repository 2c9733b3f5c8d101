-- What `merge` holds while it goes through a history.
use Rattle.std.specs.Prelude.{◌≡◌, ◌+◌, ℕ, zero, suc, List, Option, Some, None}
use Rattle.base.specs.declared.status.Status.{Status}
use Rattle.base.specs.declared.status.Status.TheVariants.{Running}
use Rattle.word_core.specs.History.{Memory}
use Rattle.word_core.specs.declared.history.SharedAct.{SharedAct}
use Rattle.code_core.specs.declared.instr.Instr.{Instr}
use Rattle.code_machine.specs.declared.memory.CodeMemory.{CodeMemory}
use Rattle.code_machine.specs.Machine.{CodeProcess, CodeStep, alone, asks, did}
use Rattle.tick_merge.specs.Ran.{act_by}
use Rattle.tick_merge.specs.Merged.{alone_for}

abbrev pub memory_held : CodeMemory → Memory
memory_held words = record { labels = words.labels; rows = words.registers }

abbrev pub further : Status → CodeStep → (CodeProcess → CodeProcess) → CodeProcess → CodeProcess
further Running (alone moved) later q = later moved.process
further _ d later q = q

-- the process after what it makes alone, at most `most` instructions
abbrev pub after_alone : ℕ → List Instr → ℕ → ℕ → CodeProcess → CodeProcess
after_alone n code p zero q = q
after_alone n code p (suc most) q = further q.status (did n p code q) (after_alone n code p most) q

-- the act on what is shared that comes next, if the process makes one next
abbrev pub act_next : Status → Memory → CodeStep → Option SharedAct
act_next Running m (asks ask answered) = Some (act_by m ask)
act_next _ m d = None

-- After `count` instructions that it made alone the process stands so; of `most` it may make these more.
pub record GoesAlone (n : ℕ) (code : List Instr) (p most : ℕ) (first : CodeProcess) (count : ℕ) (q : CodeProcess) : Type 0 where
  pub rest : ℕ
  pub counts : count + rest ≡ most
  pub alone : alone_for n code p most first ≡ count + alone_for n code p rest q
  pub after : after_alone n code p most first ≡ after_alone n code p rest q
