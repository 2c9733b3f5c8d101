use Rattle.std.proofs.Common.{◌∙◌, ap}
use Rattle.ticklab_draw.specs.Marks.{with_lost}
use Rattle.ticklab_draw.proofs.Tabled.{not_noted}
use Rattle.ticklab_draw.proofs.marking.Marking.add_lost.Goals as goal

pub invariant_of-self-2 : goal.invariant_of-self-2
invariant_of-self-2 c =
    let old = c.args.self.now in
    record {
      tabled =
          not_noted c.args.step c.args.process c.args.held old.puts old.marks.items c.push_reserved.new.self.items old.tabled
          (c.push_reserved.ensures.items ∙ ap (with_lost c.args.step c.args.process c.args.held) c.in_ok-reserve.ensures.items);
    }
