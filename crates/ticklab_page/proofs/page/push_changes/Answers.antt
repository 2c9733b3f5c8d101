use Rattle.std.proofs.Common.{codes}
use Rattle.ticklab_page.specs.Pages.{changes_text}
use Rattle.ticklab_page.specs.Writing.{markup}
use Rattle.ticklab_page.proofs.Pieces.{on_ok, three}
use Rattle.ticklab_page.proofs.page.push_changes.Goals as goal

pub returns : goal.returns
unfolding changes_text
returns c =
    on_ok c.push-2.result
    (three c.args.out.now.items c.push.new.page.items c.extend_from_slice.new.self.items c.push-2.new.page.items
    (markup (codes "<pre id=\"changes\" hidden>\n")) c.args.changes.now (markup (codes "</pre>\n"))
    c.in_ok-push.ensures c.in_ok-extend_from_slice.ensures.items)
    c.push-2.ensures
