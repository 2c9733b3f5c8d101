use Rattle.std.proofs.Common.{◌≡◌, ◌∙◌, ◌≤◌, ◌++◌, ℕ, List, ap, subst, sym, length, take, arith, Vec, Global}
use Rattle.std.proofs.Math.ListN.{length-append, length-take}
use Rattle.std.specs.Io.KnownBytes.{Consumes}
use Rattle.ticketc_io.specs.Reading.{IsRead}
use Rattle.ticketc_io.proofs.ReadingLemmas.{Consumes-keeps, Consumes-trans, after_some, grown_by}
use Rattle.ticketc_io.specs.declared.counts.Counts.{Counts}
use Rattle.ticketc_io.proofs.reading.read_input.Goals as goal
use Rattle.ticketc_io.proofs.reading.read_input.Goals.{in-Moved+in_ok-extend_from_slice-in-Moved, in-Interrupted}

pub returns-in_err-extend_from_slice-in-Moved-clause-few :
    goal.returns-in_err-extend_from_slice-in-Moved-clause-few
returns-in_err-extend_from_slice-in-Moved-clause-few g c =
    let moved = c.in-Moved.ensures.bytes in
    let within : c.in-Moved.count ≤ length c.read.new.buffer = moved.0 in
    record {
      bytes = c.calls.input.items ++ take c.in-Moved.count c.read.new.buffer;
      taken = Consumes-trans _ _ _ _ _ c.calls.invariant.taken moved.1;
      few = omega (arith, length-append {A = ℕ}, length-take {A = ℕ});
    }

pub returns-then-len-gt-INPUT_LIMIT-clause-ok : goal.returns-then-len-gt-INPUT_LIMIT-clause-ok
returns-then-len-gt-INPUT_LIMIT-clause-ok g c =
    elim c.match-read.branch [
      | in-Moved+in_ok-extend_from_slice-in-Moved w ↦
          let moved = w.in-Moved.ensures.bytes in
          let grown : c.match-read.input.items ≡ c.calls.input.items ++ take w.in-Moved.count c.read.new.buffer =
          grown_by c.match-read.input _ c.calls.input.items c.read.new.buffer _ w.in-Moved.count w.input-is w.in_ok-extend_from_slice-in-Moved.ensures.items moved.0 in
          let P : List ℕ → Type 0 = Consumes (g.R.ByteSource.remaining c.args.reader.now) (g.R.ByteSource.remaining c.read.new.self) in
          record {
            taken = subst P (sym grown) (Consumes-trans _ _ _ _ _ c.calls.invariant.taken moved.1);
            short = omega (arith, ap length grown, length-append {A = ℕ}, length-take {A = ℕ});
            whole = λ few. absurd (omega arith);
          }
      | in-Interrupted w ↦ absurd (omega (arith, ap (λ (v : Vec ℕ Global). length v.items) w.input-is))
    ]

pub returns-then-len-gt-INPUT_LIMIT-clause-few : goal.returns-then-len-gt-INPUT_LIMIT-clause-few
returns-then-len-gt-INPUT_LIMIT-clause-few g c =
    let read : IsRead (g.R.ByteSource.remaining c.args.reader.now) (g.R.ByteSource.remaining c.read.new.self) c.match-read.input.items
    = returns-then-len-gt-INPUT_LIMIT-clause-ok g c in
    record { bytes = c.match-read.input.items; taken = read.taken; few = read.short }

pub calls-preserved : goal.calls-preserved
calls-preserved g c =
    elim c.match-read.branch [
      | in-Moved+in_ok-extend_from_slice-in-Moved w ↦
          let moved = w.in-Moved.ensures.bytes in
          let grown : c.match-read.input.items ≡ c.calls.input.items ++ take w.in-Moved.count c.read.new.buffer =
          grown_by c.match-read.input _ c.calls.input.items c.read.new.buffer _ w.in-Moved.count w.input-is w.in_ok-extend_from_slice-in-Moved.ensures.items moved.0 in
          let after = after_some w.in-Moved.count _ _ w.in-Moved.count-test.1 w.in-Moved.ensures.counted in
          record {
            taken = rw grown (Consumes-trans _ _ _ _ _ c.calls.invariant.taken moved.1);
            room = omega arith;
            none_failed = after.0 ∙ c.calls.invariant.none_failed;
            none_ended = after.1 ∙ c.calls.invariant.none_ended;
            asked = omega (arith, after.2);
            few = omega (arith, after.2);
          }
      | in-Interrupted w ↦
          let counted = w.in-Interrupted.ensures.counted in
          record {
            taken = rw w.input-is (Consumes-keeps _ _ _ _ c.calls.invariant.taken w.in-Interrupted.ensures.bytes);
            room = omega arith;
            none_failed = ap (λ (n : Counts). n.failures) counted ∙ c.calls.invariant.none_failed;
            none_ended = ap (λ (n : Counts). n.ends) counted ∙ c.calls.invariant.none_ended;
            asked = omega (arith, ap (λ (n : Counts). n.calls) counted);
            few = omega (arith, ap (λ (n : Counts). n.calls) counted);
          }
    ]
