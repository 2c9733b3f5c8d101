-- What stops a command. If it is a refusal: what holds of its report, and the answer to it.
use Rattle.std.specs.Prelude.{◌≡◌, ℕ, List, []}
use Rattle.tick_merge.specs.declared.run_fault.RunFault.{RunFault}
use Rattle.tick_merge.specs.declared.run_fault.RunFault.TheVariants as run
use Rattle.ticklab_files.specs.declared.fault.AnswerFault.{AnswerFault}
use Rattle.ticklab_files.specs.declared.fault.AnswerFault.TheVariants as answer
use Rattle.ticklab_files.specs.declared.response.Response.{Response}
use Rattle.ticklab_files.specs.declared.stop.NoAnswer.{NoAnswer}
use Rattle.ticklab_files.specs.declared.stop.NoAnswer.TheVariants.{Refused, Fault}

abbrev pub IfRefused : NoAnswer → (List ℕ → Type 0) → Type 0
IfRefused (Refused report) P = P report.items
IfRefused (Fault fault) P = Unit {0}

-- what a run that was not made comes to: want of memory stays one, and so does want of a thread
abbrev pub fault_of : RunFault → AnswerFault
fault_of run.NoMemory = answer.NoMemory
fault_of run.NoThread = answer.NoThread

-- nothing goes out, and the report is told
pub record TellsReport (response : Response) (report : List ℕ) : Type 0 where
  pub status : response.status ≡ 1
  pub nothing : response.out.items ≡ []
  pub told : response.told.items ≡ report

-- a fault has no answer
abbrev pub IsRefusal : Response → NoAnswer → Type 0
IsRefusal response (Refused report) = TellsReport response report.items
IsRefusal response (Fault fault) = ⊥
