use Rattle.std.proofs.Common.{◌≤◌, ◌∙◌, arith, length, drop}
use Rattle.std.proofs.Math.ListN.{length-drop}
use Rattle.std.proofs.Math.Seq.{take-add}
use Rattle.std.proofs.lemmas.List.{take_rest}
use Rattle.ticketc_io.proofs.WritingLemmas.{Appends-trans, after_moved}
use Rattle.ticketc_io.proofs.writing.write_text.Goals as goal

pub loop-sent-preserved-in-Moved : goal.loop-sent-preserved-in-Moved
loop-sent-preserved-in-Moved g c =
    let moved = rw (take_rest c.args.text.now c.loop-sent.sent) at c.in-Moved.ensures.bytes in
    let within : c.in-Moved.count ≤ length (drop c.loop-sent.sent c.args.text.now) = moved.0 in
    let after = after_moved c.in-Moved.count _ _ _ c.if-count-eq0.false c.in-Moved.ensures.counted in
    record {
      within = omega (arith, length-drop c.loop-sent.sent c.args.text.now);
      written = rw take-add (Appends-trans _ _ _ _ _ c.loop-sent.invariant.written moved.1);
      none_failed = after.0 ∙ c.loop-sent.invariant.none_failed;
      few = omega arith;
      told = omega arith;
      no_more = omega (arith, after.1);
    }
