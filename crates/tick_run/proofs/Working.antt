-- A worker after one more turn.
use Rattle.std.proofs.Common.{◌≡◌, ◌∙◌, ℕ, ◌+◌, ◌<◌, ◌≤◌, nat_le, true, false, List, [], ◌∷◌, ◌++◌, length, ap, sym, subst, arith}
use Rattle.std.specs.Prelude.{Option, Some, ◌&&◌, slice_get}
use Rattle.std.proofs.lemmas.Bool.{leb-false}
use Rattle.std.proofs.lemmas.List.{length-append}
use Rattle.base.specs.declared.status.Status.{Status}
use Rattle.base.specs.declared.status.Status.TheVariants.{Running}
use Rattle.code_core.specs.declared.instr.Instr.{Instr}
use Rattle.code_core.specs.Instructions.{StepCode}
use Rattle.code_machine.specs.Process.{OneProcess, IsOf, is_out, gives_out}
use Rattle.stamp_table.specs.Passes.{TableView, PassView, Holds, mine}
use Rattle.tick_run.specs.declared.worker.Turn.TheVariants as T
use Rattle.base.specs.declared.run_outcome.RunEnd.{RunEnd}
use Rattle.tick_run.specs.prover.Alone.{RanSo}
use Rattle.tick_run.specs.prover.Turns.{IsTurn, end_by}
use Rattle.tick_run.specs.prover.Work.{IsWorking, IsWork}
use Rattle.tick_run.proofs.Ending.{ran_out}

module _ (t : TableView) (c : StepCode) (p turns outs count : ℕ) (one next : OneProcess) (pass further : PassView) (given : List ℕ) (room : ℕ)
    (was : IsWorking t c p turns outs count one pass given room) (me : next.me ≡ p) (of : IsOf c next)
    (here : further.table ≡ t) (held : further.held ≡ pass.held) where
  pub after_went : IsTurn T.Went c p one.process (mine p pass.seen) next.process (mine p further.seen)
      → IsWorking t c p turns outs (count + 1) next further given room
  after_went turn = record {
    me = me;
    of = of;
    here = here;
    held = subst (λ h. Holds h p) (sym held) was.held;
    at = turn count given was.at;
    made = (let made : length given ≤ count = was.made in omega (arith, made));
    few = was.few;
    has_room = was.has_room;
  }

  pub after_gave : (v : ℕ) → IsTurn (T.Gave v) c p one.process (mine p pass.seen) next.process (mine p further.seen)
      → (gives_out one.process.status (slice_get c.instructions one.process.place) ≡ true → length given < outs)
      → IsWorking t c p turns outs (count + 1) next further (given ++ v ∷ []) room
  after_gave v turn more =
      let made : length given ≤ count = was.made in
      let few : length given < outs = more turn.0 in
      let longer : length (given ++ v ∷ []) ≡ length given + 1 = length-append given (v ∷ []) in
      record {
        me = me;
        of = of;
        here = here;
        held = subst (λ h. Holds h p) (sym held) was.held;
        at = turn.1 count given was.at;
        made = omega (arith, made, longer);
        few = omega (arith, few, longer);
        has_room = was.has_room;
      }

-- it makes no further one
pub worked : (t : TableView) (c : StepCode) (p turns outs count : ℕ) (one : OneProcess) (pass : PassView) (given : List ℕ) (room : ℕ) (end : RunEnd)
    → IsWorking t c p turns outs count one pass given room → count ≤ turns → (one.process.status ≡ Running → count ≡ turns)
    → end ≡ end_by one.process.status → IsWork t c p turns outs pass given end
worked t c p turns outs count one pass given room end was turns_kept spent ends = record {
  here = was.here;
  held = was.held;
  ran =
      subst (RanSo c p turns outs (mine p pass.seen) given) (sym ends)
      (ran_out c p turns outs count one.process (mine p pass.seen) given was.at turns_kept was.few spent);
}

-- an instruction that gives out a value, and not one too many
pub room_for_one : (status : Status) (next : Option Instr) (instruction : Instr) (given outs : ℕ) → status ≡ Running → next ≡ Some instruction
    → (is_out (Some instruction) && nat_le outs given) ≡ false → gives_out status next ≡ true → given < outs
room_for_one status next instruction given outs running here not_past out =
    let gives : is_out (Some instruction) ≡ true = sym (ap (λ s. gives_out s next) running ∙ ap is_out here) ∙ out in
    leb-false outs given (sym (ap (λ b. b && nat_le outs given) gives) ∙ not_past)
