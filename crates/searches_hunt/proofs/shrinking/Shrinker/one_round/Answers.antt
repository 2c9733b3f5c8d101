use Rattle.std.proofs.Common.{arith}
use Rattle.std.proofs.lemmas.Result.{IfOk-weaker}
use Rattle.tick_kinds.specs.Resolution.{resolved}
use Rattle.searches_explore.specs.Lines.{lines_of}
use Rattle.searches_hunt.specs.prover.Parts.{IsPassed}
use Rattle.searches_hunt.proofs.Left.{fault_again, left_short}
use Rattle.searches_hunt.proofs.shrinking.Shrinker.one_round.Goals as goal

pub returns : goal.returns
returns c =
    let a = resolved c.args.self.now.program.now in
    let lines = lines_of c.args.self.now.lines.now in
    let whole = c.args.schedule.items in
    let kept = c.in_ok-kept.kept.items in
    let of_whole = c.in_ok-kept.ensures in
    IfOk-weaker c.without_some.result (λ left. IsPassed a lines kept left.items) (λ left. IsPassed a lines whole left.items)
    (λ left of_kept. record {
      of_whole = fault_again a lines whole kept left.items of_whole of_kept.of_whole;
      needed = λ same. of_kept.needed (omega (arith, same, left_short kept whole of_whole.left, c.if-len-before.false, c.len-before.ensures, c.len.ensures));
    }) c.without_some.ensures
