-- Before the first step the code of a program matches the program, each process between two steps.
use Rattle.std.proofs.Common.{◌≡◌, ℕ, List, length, refl, ap, sym, ◌∙◌, subst, arith}
use Rattle.std.proofs.lemmas.List.{length-replicate}
use Rattle.code_core.specs.declared.instr.Instr.{Instr}
use Rattle.word_core.proofs.Offered.{agreement_law}
use Rattle.base.specs.Plain.{Block, nil, cons, onto, WholeProgram}
use Rattle.tick_source.specs.Source as S
use Rattle.code_machine.specs.Machine as C
use Rattle.code_machine.proofs.Offered.{get-replicate}
use Rattle.tick_lower.specs.Lowered.{block_length, lowered, lowered_sizes}
use Rattle.tick_lower.proofs.Offered.{lowered_long, lowered_body, lowered_halt}
use Rattle.tick_sim.proofs.Scans.{scans_start}
use Rattle.tick_sim.proofs.Stands.{Stands, ends, block_stands}
use Rattle.tick_sim.proofs.Match.{Between, rests}
use Rattle.tick_sim.proofs.States.{AllBetween}

onto_nil : (b : Block ℕ) → onto b nil ≡ b
onto_nil nil = refl
onto_nil (cons s b) = ap (cons s) (onto_nil b)

module _ (a : WholeProgram ℕ) where
  abbrev code : List Instr
  code = lowered a

  process_start : Between a.processes code (S.start_process a) (C.start_process (lowered_sizes a))
  process_start =
      let at_end : Stands code 1 (block_length a.body) nil = ends (lowered_halt a) (omega (arith, lowered_long a)) in
      let body = block_stands code a.body 1 0 (block_length a.body) nil (lowered_body a)
      (omega arith) (omega (arith, lowered_long a)) at_end in
      rests (refl, refl, refl, scans_start a.processes (length a.scans)) refl
      (body.0, subst (Stands code body.0 0) (onto_nil a.body) body.2)

  pub start_between : AllBetween a.processes code (S.source_start a) (C.code_start (lowered_sizes a))
  start_between = record {
    agrees = agreement_law.start a.processes;
    same_rows = refl;
    same_events = refl;
    processes = record {
      many = length-replicate a.processes (S.start_process a)
          ∙ sym (length-replicate a.processes (C.start_process (lowered_sizes a)));
      each = λ p x y at_x at_y.
          subst (λ x. Between a.processes code x y) (get-replicate a.processes p (S.start_process a) x at_x).1
          (subst (λ y. Between a.processes code (S.start_process a) y)
          (get-replicate a.processes p (C.start_process (lowered_sizes a)) y at_y).1 process_start);
    };
  }
