use Rattle.ticklab_page.specs.Pages.{linked, step_link}
use Rattle.ticklab_page.specs.Writing.{markup}
use Rattle.ticklab_page.proofs.Pieces.{on_ok, three}
use Rattle.ticklab_page.proofs.page.push_linked.Goals as goal

pub returns : goal.returns
unfolding linked
returns c =
    on_ok c.push-2.result
    (three c.args.out.now.items c.push.new.page.items c.push_step_link.new.out.items c.push-2.new.page.items
    (markup c.args.before.now) (step_link c.args.step) (markup c.args.after.now)
    c.in_ok-push.ensures c.in_ok-push_step_link.ensures)
    c.push-2.ensures
