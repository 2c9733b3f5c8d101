use Rattle.std.proofs.Common.{◌-◌, [], List, ℕ, ap, sym, subst, ◌∙◌, take, replicate, length}
use Rattle.std.proofs.lemmas.List.{take_at}
use Rattle.label_core.specs.Labels.{CanChoose}
use Rattle.word_core.specs.Stamps.{present}
use Rattle.word_core.proofs.Choosing.{can_choose}
use Rattle.word_core.proofs.words.LabelWord.next.Goals as goal

pub next_label-requires-clause-can : goal.next_label-requires-clause-can
next_label-requires-clause-can c =
    let labels = c.args.self.now in
    let count = c.gather-count.result in
    let others = present c.cleared.result in
    let none : List ℕ = [] in
    let taken = ap (take count) c.gather-count.ensures.labels ∙ take_at others (replicate (6 - length others) none) count (sym c.gather-count.ensures.count)
    ∙ ap present c.cleared.ensures.cleared in
    subst (CanChoose c.n-n.result) (sym taken) (can_choose c.n-n.result c.args.p labels c.requires.ordered.0 c.n-n.ensures.labels c.requires.ordered.1 c.requires.in_range)
