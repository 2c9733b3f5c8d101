use Rattle.std.proofs.Common.{◌∙◌, ℕ, List, sym}
use Rattle.std.proofs.lemmas.List.Folds.{list_all-map}
use Rattle.std.specs.Borrow.{Bor}
use Rattle.ticklab_explain.specs.Conditions.{holds}
use Rattle.ticklab_explain.specs.Rows.{words_of}
use Rattle.ticklab_explain.specs.Settings.{setting}
use Rattle.ticklab_explain.specs.declared.condition.Ask.{Ask}
use Rattle.ticklab_explain.proofs.condition.fit.Goals as goal

pub returns : goal.returns
returns c =
    c.all_hold.ensures
    ∙ sym (list_all-map (λ one. holds (setting c.args.scene.now) c.args.wanted.now one.0 one.1)
    (λ (one : Ask × Bor (List (Bor (List ℕ)))). (one.0, words_of one.1.now)) c.args.conditions.now)
