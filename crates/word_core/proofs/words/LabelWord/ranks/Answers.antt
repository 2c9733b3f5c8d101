use Rattle.std.proofs.Common.{◌-◌, [], List, ℕ, ap, sym, subst, ◌∙◌, take, replicate, length}
use Rattle.std.specs.Prelude.{All}
use Rattle.std.proofs.lemmas.List.{take_at}
use Rattle.label_core.specs.Labels.{IsLabel}
use Rattle.word_core.specs.Stamps.{present}
use Rattle.word_core.proofs.Choosing.{All-present}
use Rattle.word_core.proofs.words.LabelWord.ranks.Goals as goal

pub ranks-requires-clause-alike : goal.ranks-requires-clause-alike
ranks-requires-clause-alike c =
    let labels = c.args.self.now in
    let digits = c.n-n.result - 1 in
    let all = present labels in
    let none : List ℕ = [] in
    let taken = ap (take c.gather-count.result) c.gather-count.ensures.labels ∙ take_at all (replicate (6 - length all) none) c.gather-count.result (sym c.gather-count.ensures.count) in
    (digits, subst (All (IsLabel digits)) (sym taken) (All-present (IsLabel digits) labels c.n-n.ensures.labels.each))
