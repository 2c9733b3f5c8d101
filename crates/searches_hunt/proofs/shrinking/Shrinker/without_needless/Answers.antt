use Rattle.std.proofs.Common.{◌<◌, length, ap, arith}
use Rattle.std.proofs.lemmas.Result.{IfOk-weaker}
use Rattle.tick_kinds.specs.Resolution.{resolved}
use Rattle.searches_explore.specs.Lines.{lines_of}
use Rattle.searches_hunt.specs.prover.Parts.{IsFaultOf, IsPassed}
use Rattle.searches_hunt.proofs.Left.{fault_again, fault_all, fault_seen, left_short, some_at}
use Rattle.searches_hunt.proofs.shrinking.Shrinker.without_needless.Goals as goal

pub returns-in-Some : goal.returns-in-Some
returns-in-Some c =
    let a = resolved c.args.self.now.program.now in
    let lines = lines_of c.args.self.now.lines.now in
    let whole = c.args.schedule.items in
    let seen = c.deref-2.result.now in
    let left = c.in-Some.left.items in
    let of_whole : IsFaultOf a lines whole left =
    fault_seen a lines whole whole seen left (fault_all a lines whole c.requires) c.deref-2.ensures.value
    (some_at (λ made. IsFaultOf a lines seen made.items) c.in_ok-left.field-0 c.in-Some.left c.in-Some.is c.in_ok-left.ensures.fault) in
    let short : length left < length seen =
    some_at (λ made. length made.items < length seen) c.in_ok-left.field-0 c.in-Some.left c.in-Some.is c.in_ok-left.ensures.fewer in
    IfOk-weaker c.without_more.result (λ kept. IsFaultOf a lines left kept.items) (λ kept. IsPassed a lines whole kept.items)
    (λ kept of_left. record {
      of_whole = fault_again a lines whole left kept.items of_whole of_left;
      needed = λ same. absurd (omega (arith, same, short, ap length c.deref-2.ensures.value, left_short kept.items left of_left.left));
    }) c.without_more.ensures
