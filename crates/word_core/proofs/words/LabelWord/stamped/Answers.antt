use Rattle.std.proofs.Common.{◌≡◌, None, Some, ap, sym, subst, ◌∙◌, length}
use Rattle.std.specs.Prelude.{slice_set}
use Rattle.std.proofs.lemmas.List.{set-set}
use Rattle.ticket_core.specs.Tickets.{stamp_ticket}
use Rattle.word_core.specs.Stamps.{stamped}
use Rattle.word_core.specs.Order.{IsOrdered}
use Rattle.word_core.specs.Agreement.{Agrees}
use Rattle.word_core.proofs.Stamping.{agreement_law, stamped_ordered}
use Rattle.word_core.proofs.words.LabelWord.stamped.Goals as goal

is : (c : goal.After-with_label) → c.with_label.result ≡ stamped c.args.p c.args.self.now
is c =
    let labels = c.args.self.now in
    let p = c.args.p in
    c.with_label.ensures ∙ ap (λ others. slice_set others p (Some c.next-next.result)) c.cleared.ensures.cleared
    ∙ set-set labels p None (Some c.next-next.result) ∙ ap (λ next. slice_set labels p (Some next)) c.next-next.ensures.next

pub returns-clause-stamped : goal.returns-clause-stamped
returns-clause-stamped c = is c

pub returns-clause-agrees : goal.returns-clause-agrees
returns-clause-agrees c = λ tickets agrees.
    let n = length c.args.self.now in
    subst (Agrees n (stamp_ticket c.args.p tickets)) (sym (is c)) (agreement_law.stamped n c.args.p tickets c.args.self.now agrees)

pub returns-clause-ordered : goal.returns-clause-ordered
returns-clause-ordered c =
    subst IsOrdered (sym (is c)) (stamped_ordered c.n-n.result c.args.p c.args.self.now c.n-n.ensures.labels c.requires.ordered c.requires.in_range)
