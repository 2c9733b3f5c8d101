-- Which steps of the code of a program end a step of the program, and the maps between schedules of
-- the code and schedules of the program.
use Rattle.std.specs.Prelude.{ℕ, zero, suc, Bool, true, false, ◌||◌, if◌then◌else◌, List, [], ◌∷◌, ◌++◌, length, replicate, slice_get, Option, Some, None}
use Rattle.base.specs.declared.status.Status.{Status}
use Rattle.base.specs.declared.status.Status.TheVariants.{Running}
use Rattle.base.specs.declared.event.Act.{Act}
use Rattle.base.specs.declared.event.Act.TheVariants as A
use Rattle.code_core.specs.declared.instr.Instr.{Instr}
use Rattle.code_core.specs.declared.instr.Instr.TheVariants as I
use Rattle.code_core.specs.Instructions.{CodeSizes}
use Rattle.code_machine.specs.Machine.{CodeProcess, CodeState, made, did, code_step, code_run, code_start}
use Rattle.tick_lower.specs.Commits.{ends_step}

abbrev pub is_stamp : Option Act → Bool
is_stamp (Some A.Stamp) = true
is_stamp _ = false

abbrev pub is_trap : Option Act → Bool
is_trap (Some (A.Trap t)) = true
is_trap _ = false

-- Whether a step that made this instruction, and let this be seen, ended a step of the program: an
-- exchange where it was won, any other instruction also where it trapped.
abbrev pub ended : Instr → Option Act → Bool
ended (I.Exchange l) act = is_stamp act
ended i act = ends_step i || is_trap act

abbrev pub ended_at : Option Instr → Option Act → Bool
ended_at None act = false
ended_at (Some i) act = ended i act

-- a process that has stopped ends no step
abbrev pub commit_as : ℕ → List Instr → ℕ → CodeState → CodeProcess → Status → Bool
commit_as n code p s q Running = ended_at (slice_get code q.place) (made s.labels s.rows (did n p code q)).act
commit_as n code p s q _ = false

abbrev pub commit_of : ℕ → List Instr → ℕ → CodeState → Option CodeProcess → Bool
commit_of n code p s (Some q) = commit_as n code p s q q.status
commit_of n code p s None = false

-- whether the next step of process `p` of `n` ends a step of the program
abbrev pub is_commit : ℕ → List Instr → ℕ → CodeState → Bool
is_commit n code p s = commit_of n code p s (slice_get s.processes p)

-- the schedule without each item whose step ends none, where the code goes on from this state
abbrev pub dropped_from : ℕ → List Instr → List ℕ → CodeState → List ℕ
dropped_from n code [] s = []
dropped_from n code (p ∷ schedule) s =
    let later = dropped_from n code schedule (code_step n code p s) in
    if is_commit n code p s then p ∷ later else later

-- the schedule of the program that a schedule of its code stands for
abbrev pub dropped : CodeSizes → List Instr → List ℕ → List ℕ
dropped sizes code schedule = dropped_from sizes.processes code schedule (code_start sizes)

abbrev pub one_more : Option ℕ → Option ℕ
one_more None = None
one_more (Some k) = Some (suc k)

-- The least number of steps of process `p`, at most `most`, the last of which ends a step of the
-- program.
abbrev pub steps_to_commit : ℕ → List Instr → ℕ → ℕ → CodeState → Option ℕ
steps_to_commit n code p zero s = None
steps_to_commit n code p (suc most) s =
    elim (is_commit n code p s) [ true ↦ Some 1 | false ↦ one_more (steps_to_commit n code p most (code_step n code p s)) ]

abbrev pub repeated : ℕ → Option ℕ → List ℕ
repeated p None = []
repeated p (Some k) = replicate k p

-- the items that stand for one item `p`: none where the process has stopped
abbrev pub steps_of : ℕ → List Instr → ℕ → CodeState → List ℕ
steps_of n code p s = repeated p (steps_to_commit n code p (length code) s)

abbrev pub lifted_from : ℕ → List Instr → List ℕ → CodeState → List ℕ
lifted_from n code [] s = []
lifted_from n code (p ∷ schedule) s =
    let steps = steps_of n code p s in
    steps ++ lifted_from n code schedule (code_run n code steps s)

-- the schedule of the code of a program that leads through the steps of a schedule of the program
abbrev pub lifted : CodeSizes → List Instr → List ℕ → List ℕ
lifted sizes code schedule = lifted_from sizes.processes code schedule (code_start sizes)
