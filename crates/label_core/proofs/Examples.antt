-- The choice rule on labels that were worked out by hand.
use Rattle.std.proofs.Common.{◌≡◌, true, [], ◌∷◌, refl}
use Rattle.label_core.specs.Labels.{dominates, next, label_ranks}

-- three processes: the second stamp comes beside 10 and 00, the third beside 10 and 11
second : next 3 ((1 ∷ 0 ∷ []) ∷ (0 ∷ 0 ∷ []) ∷ []) ≡ 1 ∷ 1 ∷ []
second = refl

third : next 3 ((1 ∷ 0 ∷ []) ∷ (1 ∷ 1 ∷ []) ∷ []) ≡ 2 ∷ 0 ∷ []
third = refl

-- the cycle wraps: 0 dominates 2
wrapped : dominates (0 ∷ 0 ∷ []) (2 ∷ 1 ∷ []) ≡ true
wrapped = refl

-- two processes go round the one cycle
round : next 2 ((2 ∷ []) ∷ []) ≡ 0 ∷ []
round = refl

alone : next 1 [] ≡ []
alone = refl

first_of_six : next 6 ((0 ∷ 0 ∷ 0 ∷ 0 ∷ 0 ∷ []) ∷ (0 ∷ 0 ∷ 0 ∷ 0 ∷ 0 ∷ []) ∷ (0 ∷ 0 ∷ 0 ∷ 0 ∷ 0 ∷ []) ∷ (0 ∷ 0 ∷ 0 ∷ 0 ∷ 0 ∷ []) ∷ (0 ∷ 0 ∷ 0 ∷ 0 ∷ 0 ∷ []) ∷ [])
    ≡ 1 ∷ 0 ∷ 0 ∷ 0 ∷ 0 ∷ []
first_of_six = refl

ranks : label_ranks ((2 ∷ 1 ∷ []) ∷ (0 ∷ 0 ∷ []) ∷ (0 ∷ 1 ∷ []) ∷ []) ≡ 0 ∷ 1 ∷ 2 ∷ []
ranks = refl
