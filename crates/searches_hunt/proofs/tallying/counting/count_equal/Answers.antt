use Rattle.std.proofs.Common.{◌+◌, ◌∷◌, [], cond, string_eq, ap, ◌∙◌, sym, rules, length-append}
use Rattle.std.proofs.lemmas.List.Sums.{sum_by_push}
use Rattle.searches_hunt.proofs.Joined.{one_more}
use Rattle.searches_hunt.specs.prover.Counting.{with_text}
use Rattle.searches_hunt.proofs.tallying.counting.count_equal.Goals as goal

pub loop-text-preserved : goal.loop-text-preserved
loop-text-preserved c = (
  c.in_ok-count.ensures.times ∙ ap (λ n. n + 1) c.loop-text.invariant.0 ∙ sym (length-append c.loop-text.yielded (c.in-Some.text ∷ [])),
  search rules,
  c.in_ok-count.ensures.texts ∙ ap (λ l. with_text l c.in-Some.text) c.loop-text.invariant.2 ∙ sym (one_more c.loop-text.yielded c.in-Some.text),
  λ t. c.in_ok-count.ensures.counted t ∙ ap (λ n. n + cond (string_eq t c.in-Some.text) 1 0) (c.loop-text.invariant.3 t)
      ∙ sym (sum_by_push (λ x. cond (string_eq t x) 1 0) c.loop-text.yielded c.in-Some.text),
)
