use Rattle.std.proofs.Common.{◌≡◌, ◌∙◌, arith, List, ◌++◌, [], ◌∷◌, ap, subst, length}
use Rattle.ticklab_draw.specs.declared.mark.Mark.{Mark}
use Rattle.ticklab_draw.specs.declared.mark.Sight.{Sight}
use Rattle.ticklab_draw.specs.prover.Tables.{Notes}
use Rattle.ticklab_draw.proofs.Tabled.{noted}
use Rattle.ticklab_draw.proofs.marking.Marking.add_event.Goals as goal

pub invariant_of-self-2 : goal.invariant_of-self-2
invariant_of-self-2 c =
    let old = c.args.self.now in
    let shows : Sight → Mark = λ x. record { step = c.args.step; process = c.args.event.process; sight = x } in
    let same = c.in_ok-reserve.ensures.items in
    let place : c.len.result ≡ length old.marks.items = omega (arith, c.len.ensures, c.reserve.new.self.ok.0, ap length same) in
    record {
      tabled =
          noted c.args.step c.args.held c.args.event old.puts c.note.new.puts old.marks.items c.push_reserved.new.self.items old.tabled
          (subst (λ k. Notes k c.args.event old.puts c.note.new.puts) place c.in_ok-note.ensures.ok)
          (c.push_reserved.ensures.items
          ∙ ap (λ (marks : List Mark). marks ++ shows c.sight_of-sight.result ∷ []) same
          ∙ ap (λ x. old.marks.items ++ shows x ∷ []) c.sight_of-sight.ensures);
    }
