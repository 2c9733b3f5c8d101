-- An answer of `run` on a small program, worked by hand, and answers that are none of it.
use Rattle.std.proofs.Common.{ℕ, List, [], ◌++◌, codes, refl, ap, arith}
use Rattle.std.specs.Fmt.{digits}
use Rattle.base.specs.Lines.{line_end}
use Rattle.base.specs.Plain.{Name, number, out, nil, cons, nowhere, WholeProgram}
use Rattle.tick_merge.proofs.Offered.{seven_given, seven_run}
use Rattle.threads_source.proofs.Offered.{threaded_source_law}
use Rattle.tick_kinds.specs.Resolution.{resolved}
use Rattle.ticketc_answers.specs.Answer.{Answer, done}
use Rattle.ticketc_answers.specs.Runs.{IsProgramOutcome}

-- one process that gives out 7, and ends
abbrev gives_seven : WholeProgram Name
gives_seven = record { processes = 1; span = nowhere; variables = []; scans = []; registers = []; body = cons (out (number 7)) nil }

abbrev seven_told : Answer
seven_told = done (codes "outputs 0 7" ++ line_end ++ codes "status 0 ended" ++ line_end)

told_seven : IsProgramOutcome gives_seven 5 seven_told
unfolding digits
told_seven = record {
  outcome = seven_given;
  is_run = seven_run;
  shows = threaded_source_law (resolved gives_seven) 5 10000 seven_given seven_run;
  told = refl;
}

-- no answer of another status is one
none_refused : (text : List ℕ) → IsProgramOutcome gives_seven 5 (record { status = 1; text = text }) → ⊥
none_refused text answered = absurd (omega (arith, ap (λ (a : Answer). a.status) answered.told))
