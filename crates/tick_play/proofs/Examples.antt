-- Small runs, and their texts. All of it is computed.
-- Three runs are of programs (`in_turn`, `registers`, `trapped`), and two of a code (`code_in_turn`, `exchange_lost`). The
-- program of `in_turn` and its code have one text. `each_kind` has an event of each kind, and `each_end` an end of each
-- kind.
-- Read `in_turn` first, then `each_kind`.
use Rattle.std.proofs.Common.{◌≡◌, ℕ, List, [], ◌∷◌, ◌++◌, codes, refl, replicate}
use Rattle.std.specs.Fmt.{digits}
use Rattle.base.specs.Lines.{line_end}
use Rattle.base.specs.declared.operator.Op.TheVariants as O
use Rattle.base.specs.Plain.{number, named, me, binary, get, put, stamp, scan, older, out, Block, nil, cons, nowhere, WholeProgram}
use Rattle.base.specs.declared.status.Trap.TheVariants as T
use Rattle.base.specs.declared.status.Status.TheVariants as S
use Rattle.base.specs.declared.event.Act.TheVariants as A
use Rattle.code_core.specs.declared.instr.Instr.TheVariants as I
use Rattle.code_core.specs.Instructions.{StepCode, sizes}
use Rattle.base.specs.declared.run_outcome.RunEnd.TheVariants as E
use Rattle.tick_play.specs.Outcome.{outcome_lines}
use Rattle.tick_play.specs.Report.{code_report, report, source_report}

abbrev lines : List (List ℕ) → List ℕ
lines [] = []
lines (text ∷ texts) = text ++ line_end ++ lines texts

abbrev program : ℕ → List ℕ → List ℕ → List ℕ → Block ℕ → WholeProgram ℕ
program n variables scans registers body =
    record { processes = n; span = nowhere; variables = variables; scans = scans; registers = registers; body = body }

-- process 1 stamps after process 0 has ended
abbrev one_after_the_other : List ℕ
one_after_the_other =
    lines
    (codes "0 stamp" ∷ codes "0 scan 1 0" ∷ codes "0 older 0 1 0" ∷ codes "0 out 0" ∷ codes "0 end"
    ∷ codes "1 stamp" ∷ codes "1 scan 0 1" ∷ codes "1 older 0 1 1" ∷ codes "1 out 1" ∷ codes "1 end"
    ∷ codes "status 0 ended" ∷ codes "status 1 ended" ∷ [])

-- processes 2; var x; scan s; begin stamp; s = scan; x = older s 0 1; out x; end
in_turn : source_report
    (program 2 (0 ∷ []) (0 ∷ []) []
    (cons stamp (cons (scan 0) (cons (older 0 0 (number 0) (number 1)) (cons (out (named 0)) nil)))))
    (0 ∷ 0 ∷ 0 ∷ 0 ∷ 0 ∷ 1 ∷ 1 ∷ 1 ∷ 1 ∷ 1 ∷ [])
    ≡ one_after_the_other
unfolding digits
in_turn = refl

-- processes 2; var x; reg r; begin put r (me + 7); x = get r 0; out x; end
registers : source_report
    (program 2 (0 ∷ []) [] (0 ∷ [])
    (cons (put 0 (binary me O.Add (number 7))) (cons (get 0 0 (number 0)) (cons (out (named 0)) nil))))
    (1 ∷ 1 ∷ 0 ∷ 1 ∷ [])
    ≡ lines
    (codes "1 put 0 8" ∷ codes "1 get 0 0 0" ∷ codes "0 put 0 7" ∷ codes "1 out 0" ∷ codes "reg 0 7 8"
    ∷ codes "status 0 running" ∷ codes "status 1 running" ∷ [])
unfolding digits
registers = refl

-- processes 2; begin out (0 - 1); end
trapped : source_report (program 2 [] [] [] (cons (out (binary (number 0) O.Sub (number 1))) nil)) (1 ∷ [])
    ≡ lines (codes "1 trap Below" ∷ codes "status 0 running" ∷ codes "status 1 trapped Below" ∷ [])
unfolding digits
trapped = refl

-- the program of `in_turn` as a code
abbrev in_turn_code : StepCode
in_turn_code = record {
  sizes = sizes 2 1 1 0;
  instructions = I.LoadWord ∷ I.Next ∷ I.Exchange 0 ∷ I.Scan 0 ∷ I.Push 0 ∷ I.Push 1 ∷ I.Older 0 0 ∷ I.Load 0 ∷ I.Out ∷ I.Halt ∷ [];
}

code_in_turn : code_report in_turn_code (replicate 10 0 ++ replicate 10 1)
    ≡ one_after_the_other
unfolding digits
code_in_turn = refl

-- the first exchange of process 1 is lost
exchange_lost : code_report in_turn_code (0 ∷ 1 ∷ 0 ∷ 1 ∷ 0 ∷ 1 ∷ 1 ∷ 1 ∷ 1 ∷ [])
    ≡ lines (codes "0 stamp" ∷ codes "1 stamp" ∷ codes "status 0 running" ∷ codes "status 1 running" ∷ [])
unfolding digits
exchange_lost = refl

-- each kind of event, of three processes
each_kind : report (record {
  events = record { process = 2; act = A.Put 7 4294967295 }
      ∷ record { process = 0; act = A.Get 1 2 30 }
      ∷ record { process = 1; act = A.Stamp }
      ∷ record { process = 1; act = A.Scan (0 ∷ 2 ∷ 0 ∷ 0 ∷ 0 ∷ 0 ∷ []) }
      ∷ record { process = 1; act = A.Older 0 1 1 }
      ∷ record { process = 0; act = A.Held 2 0 }
      ∷ record { process = 1; act = A.Clear }
      ∷ record { process = 0; act = A.Out 0 }
      ∷ record { process = 2; act = A.Trap T.Overflow }
      ∷ record { process = 0; act = A.End }
      ∷ [];
  rows = (1 ∷ 2 ∷ 3 ∷ []) ∷ (0 ∷ 0 ∷ 10 ∷ []) ∷ [];
  statuses = S.Ended ∷ S.Running ∷ S.Trapped T.Overflow ∷ [];
})
    ≡ lines
    (codes "2 put 7 4294967295" ∷ codes "0 get 1 2 30" ∷ codes "1 stamp" ∷ codes "1 scan 0 2 0" ∷ codes "1 older 0 1 1"
    ∷ codes "0 held 2 0" ∷ codes "1 clear" ∷ codes "0 out 0" ∷ codes "2 trap Overflow" ∷ codes "0 end"
    ∷ codes "reg 0 1 2 3" ∷ codes "reg 1 0 0 10"
    ∷ codes "status 0 ended" ∷ codes "status 1 running" ∷ codes "status 2 trapped Overflow" ∷ [])
unfolding digits
each_kind = refl

-- what `processes 1; var x; begin while (x < 2) { x = (x + 1); } out x; end` lets others see when it has ended
ended_alone : outcome_lines (record { outputs = (2 ∷ []) ∷ []; ends = E.Ended ∷ []; rows = [] })
    ≡ lines (codes "outputs 0 2" ∷ codes "status 0 ended" ∷ [])
unfolding digits
ended_alone = refl

-- each kind of end, of four processes
each_end : outcome_lines (record {
  outputs = [] ∷ (7 ∷ 4294967295 ∷ []) ∷ [] ∷ (0 ∷ []) ∷ [];
  ends = E.TurnsSpent ∷ E.OutputsFull ∷ E.Trapped T.Below ∷ E.Ended ∷ [];
  rows = (1 ∷ 2 ∷ 3 ∷ 4 ∷ []) ∷ [];
})
    ≡ lines
    (codes "outputs 0" ∷ codes "outputs 1 7 4294967295" ∷ codes "outputs 2" ∷ codes "outputs 3 0" ∷ codes "reg 0 1 2 3 4"
    ∷ codes "status 0 turns" ∷ codes "status 1 outputs" ∷ codes "status 2 trapped Below" ∷ codes "status 3 ended" ∷ [])
unfolding digits
each_end = refl
