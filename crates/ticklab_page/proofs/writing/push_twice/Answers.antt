use Rattle.std.proofs.Common.{[]}
use Rattle.ticklab_page.specs.Writing.{around, twice}
use Rattle.ticklab_page.proofs.Pieces.{on_ok, two}
use Rattle.ticklab_page.proofs.writing.push_twice.Goals as goal

pub returns : goal.returns
unfolding twice
returns c =
    on_ok c.push_around-2.result
    (two c.args.page.now.items c.push_around.new.page.items c.push_around-2.new.page.items
    (around c.args.before.now c.args.number []) (around c.args.between.now c.args.number c.args.after.now)
    c.in_ok-push_around.ensures)
    c.push_around-2.ensures
