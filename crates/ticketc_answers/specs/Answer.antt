-- An answer is a status and a text.
use Rattle.std.specs.Prelude.{ℕ, List, ◌++◌, codes, Result, Ok, Err}
use Rattle.base.specs.Lines.{line_end}
use Rattle.language_schedules.specs.declared.schedule.ScheduleFault.{ScheduleFault}
use Rattle.ticketc_refusals.specs.RefusalLine.{refusal_line}
use Rattle.ticketc_refusals.specs.declared.refusal.Refusal.{Refusal}
use Rattle.ticketc_refusals.specs.declared.refusal.Refusal.TheVariants.{Schedule}

pub record Answer : Type 0 where
  pub status : ℕ
  pub text : List ℕ

abbrev pub done : List ℕ → Answer
done text = record { status = 0; text = text }

abbrev pub refused : Refusal → Answer
refused refusal = record { status = 1; text = refusal_line refusal }

-- the code of a program is too long
abbrev pub too_long : Answer
too_long = record { status = 1; text = codes "refused 31 TooLong" ++ line_end }

-- the number of processes that a command line gives isn't 1 to 6
abbrev pub no_processes : Answer
no_processes = record { status = 1; text = codes "refused 11 Processes" ++ line_end }

-- the text of the steps that a schedule spells, or why it spells none
abbrev pub scheduled : {S : Type 0} → (List S → List ℕ) → Result (List S) ScheduleFault → Answer
scheduled by (Ok steps) = done (by steps)
scheduled by (Err fault) = refused (Schedule fault)

abbrev pub usage : Answer
usage = record {
  status = 2;
  text = codes "usage: ticketc order N | check | emit | source S | code S | lift S | drop S | run TURNS" ++ line_end;
}
