use Rattle.std.proofs.Common.{◌<◌, ◌≤◌, cond, string_eq, ◌∙◌, rules, arith}
use Rattle.std.proofs.lemmas.List.Elements.{Contains-get_or}
use Rattle.std.proofs.lemmas.List.Sorted.{All-permutation, IsNonDecreasingBy-from_sort_by_key, answers_always, length_permutation, sum_by-IsPermutation}
use Rattle.std.specs.List.{Contains, sum_by}
use Rattle.std.specs.List.Sorted.{IsNonDecreasingBy, IsStableByKey}
use Rattle.std.specs.Ordering.{nat_cmp}
use Rattle.searches_hunt.proofs.Ordered.{all_counted, commonest_first, distinct, rareness, ties_in_order}
use Rattle.searches_hunt.proofs.tallying.counting.count_texts.Goals as goal

pub returns-clause-each : goal.returns-clause-each
returns-clause-each c =
    all_counted _ _ _ c.in_ok-sort.ensures.sorted c.in_ok-counts.ensures.texts c.sort_by_key.ensures.permutation (Contains c.args.texts.items)
    (All-permutation (Contains c.args.texts.items) _ _ c.sort.ensures.permutation (λ k d p. Contains-get_or c.args.texts.items k d p))

pub returns-clause-positive : goal.returns-clause-positive
returns-clause-positive c = All-permutation (λ d. 1 ≤ d.times) _ _ c.sort_by_key.ensures.permutation c.in_ok-counts.ensures.positive

pub returns-clause-counted : goal.returns-clause-counted
returns-clause-counted c t =
    sum_by-IsPermutation (λ d. cond (string_eq t d.outcome) d.times 0) _ _ c.sort_by_key.ensures.permutation ∙ c.in_ok-counts.ensures.counted t
    ∙ sum_by-IsPermutation (λ x. cond (string_eq t x) 1 0) _ _ c.sort.ensures.permutation

pub returns-clause-distinct : goal.returns-clause-distinct
returns-clause-distinct c = distinct _ _ _ c.in_ok-sort.ensures.sorted c.in_ok-counts.ensures.texts c.sort_by_key.ensures.permutation

rises : (c : goal.In_ok-sort_by_key) → IsNonDecreasingBy rareness c.sort_by_key.new.self.items
rises c = IsNonDecreasingBy-from_sort_by_key rareness _ c.in_ok-sort_by_key.ensures.sorted (λ a r q k. search rules)

stays : (c : goal.In_ok-sort_by_key) → IsStableByKey rareness nat_cmp c.in_ok-counts.counts.items c.sort_by_key.new.self.items
stays c = c.sort_by_key.ensures.stable rareness (answers_always _ _ _ (λ f a r g h. search rules))

few : (c : goal.In_ok-sort_by_key) → sum_by (λ d. d.times) c.sort_by_key.new.self.items < 4294967296
few c =
    omega (arith, c.requires, length_permutation _ _ c.sort.ensures.permutation, c.in_ok-counts.ensures.times, sum_by-IsPermutation (λ d. d.times) _ _ c.sort_by_key.ensures.permutation)

pub returns-clause-commonest_first : goal.returns-clause-commonest_first
returns-clause-commonest_first c =
    commonest_first _ _ _ c.in_ok-sort.ensures.sorted c.in_ok-counts.ensures.texts c.sort_by_key.ensures.permutation (few c) (rises c) (stays c)

pub returns-clause-ties : goal.returns-clause-ties
returns-clause-ties c =
    ties_in_order _ _ _ c.in_ok-sort.ensures.sorted c.in_ok-counts.ensures.texts c.sort_by_key.ensures.permutation (few c) (rises c) (stays c)
