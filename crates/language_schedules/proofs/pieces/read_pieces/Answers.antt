use Rattle.std.proofs.Common.{◌∙◌, ap, arith, sym}
use Rattle.std.proofs.lemmas.Result.{err_from_is_err_and}
use Rattle.language_schedules.specs.Schedule.{all_pieces}
use Rattle.language_schedules.proofs.ScheduleLemmas.{last_piece, piece_added, piece_faulty, piece_goes_on}
use Rattle.language_schedules.proofs.pieces.read_pieces.Goals as goal
use Rattle.language_schedules.proofs.pieces.read_pieces.Goals.{then-is_blank+in_ok-push_piece, else-is_blank}

pub returns-in_err-push_piece-clause-err : goal.returns-in_err-push_piece-clause-err
returns-in_err-push_piece-clause-err g c =
    let p = err_from_is_err_and c.from_residual.result c.from_residual.ensures.1 in
    rw (p.1, p.2) (λ not_memory.
    ap (all_pieces (g.S.Spelled.with c.args.n)) (sym c.as_bytes-bytes.ensures.value)
    ∙ piece_faulty (g.S.Spelled.with c.args.n) _ _ _ _ _ c.loop-place.invariant c.loop-place-test.true (sym c.is_blank.ensures ∙ c.if-is_blank.true) (c.in_err-push_piece.ensures.err not_memory))

pub loop-place-preserved : goal.loop-place-preserved
loop-place-preserved g c =
    elim c.if-is_blank.branch [
      | then-is_blank+in_ok-push_piece w ↦ rw (w.read-is, w.start-is)
          (piece_added (g.S.Spelled.with c.args.n) _ _ _ _ _ c.loop-place.invariant c.loop-place-test.true (sym c.is_blank.ensures ∙ w.if-is_blank.true) w.in_ok-push_piece.ensures.ok)
      | else-is_blank w ↦ rw (w.read-is, w.start-is)
          (piece_goes_on (g.S.Spelled.with c.args.n) _ _ _ _ c.loop-place.invariant c.loop-place-test.true (sym c.is_blank.ensures ∙ w.if-is_blank.false))
    ]

pub returns-in_err-push_piece-2-clause-err : goal.returns-in_err-push_piece-2-clause-err
returns-in_err-push_piece-2-clause-err g c =
    let p = err_from_is_err_and c.from_residual-in_err-push_piece-2.result c.from_residual-in_err-push_piece-2.ensures.1 in
    rw (p.1, p.2) (λ not_memory.
    ap (all_pieces (g.S.Spelled.with c.args.n)) (sym c.as_bytes-bytes.ensures.value)
    ∙ sym (last_piece (g.S.Spelled.with c.args.n) _ _ _ _ c.loop-place.invariant (omega arith)) ∙ c.in_err-push_piece-2.ensures.err not_memory)

pub returns-clause-ok : goal.returns-clause-ok
returns-clause-ok g c =
    ap (all_pieces (g.S.Spelled.with c.args.n)) (sym c.as_bytes-bytes.ensures.value)
    ∙ sym (last_piece (g.S.Spelled.with c.args.n) _ _ _ _ c.loop-place.invariant (omega arith)) ∙ c.in_ok-push_piece-2.ensures.ok
