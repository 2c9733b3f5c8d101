use Rattle.std.proofs.Common.{◌≡◌, ℕ, ◌-◌, true, List, Option, None, Some, ap, sym, subst, ◌∙◌}
use Rattle.std.specs.Prelude.{All}
use Rattle.std.proofs.lemmas.List.Elements.{All-from_recursion}
use Rattle.label_core.specs.Labels.{IsLabel, CanChoose, dominates, greatest, choice_beside, next}
use Rattle.label_core.proofs.Greatest.{greatest_alike, next_is}
use Rattle.label_core.proofs.choosing.next_label.Goals as goal

-- what is made beside the greatest is the next label
made_next : (n : ℕ) (others : List (List ℕ)) (made : List ℕ) (found : Option (List ℕ)) → made ≡ choice_beside (n - 1) found others
    → found ≡ greatest others → made ≡ next n others
made_next n others made found is most = is ∙ ap (λ top. choice_beside (n - 1) top others) most

-- and so it dominates the others
beats : (n : ℕ) (others : List (List ℕ)) (made : List ℕ) → CanChoose n others → made ≡ next n others
    → All (λ other. dominates made other ≡ true) others
beats n others made can same =
    subst (λ label. All (λ other. dominates label other ≡ true) others) (sym same)
    (All-from_recursion (λ other. dominates (next n others) other ≡ true) others (next_is n others can).beats)

pub returns-in-Some-clause-dominates : goal.returns-in-Some-clause-dominates
returns-in-Some-clause-dominates c =
    beats c.args.n c.args.others.now c.choice.result c.requires.can
    (made_next c.args.n c.args.others.now c.choice.result (Some c.in-Some.top) c.choice.ensures (sym c.in-Some.is ∙ c.greatest.ensures))

pub returns-in-Some-clause-label : goal.returns-in-Some-clause-label
returns-in-Some-clause-label c =
    let same = made_next c.args.n c.args.others.now c.choice.result (Some c.in-Some.top) c.choice.ensures (sym c.in-Some.is ∙ c.greatest.ensures) in
    subst (IsLabel (c.args.n - 1)) (sym same) (next_is c.args.n c.args.others.now c.requires.can).is

pub returns-in-None-clause-dominates : goal.returns-in-None-clause-dominates
returns-in-None-clause-dominates c =
    beats c.args.n c.args.others.now c.zeros.result c.requires.can
    (made_next c.args.n c.args.others.now c.zeros.result None c.zeros.ensures (sym c.in-None.is ∙ c.greatest.ensures))

pub choice-requires : goal.choice-requires
choice-requires c =
    greatest_alike (c.args.n - 1) c.args.others.now c.in-Some.top c.requires.can.labels (sym c.greatest.ensures ∙ c.in-Some.is)
