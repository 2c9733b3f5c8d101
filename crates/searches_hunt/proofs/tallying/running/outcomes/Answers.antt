use Rattle.std.proofs.Common.{◌+◌, ◌++◌, ◌∷◌, [], map, string_bytes, length-append, refl, sym, ap, ◌∙◌}
use Rattle.std.proofs.lemmas.List.{map-append}
use Rattle.tick_play.specs.Outcome.{outcome_lines}
use Rattle.searches_hunt.specs.Tallies.{no_run}
use Rattle.searches_hunt.proofs.Chained.{one_more_run}
use Rattle.searches_hunt.proofs.tallying.running.outcomes.Goals as goal

pub loop-init : goal.loop-init
loop-init g c = ([], refl, no_run _, ap (map string_bytes) c.new-texts.ensures.items)

pub loop-preserved : goal.loop-preserved
loop-preserved g c =
    let before = c.loop.invariant in
    let made = c.in_ok-text.ensures in
    let items = c.push_reserved.ensures.items ∙ ap (λ l. l ++ c.in_ok-text.text ∷ []) c.in_ok-reserve.ensures.items in (
      before.0 ++ made.0 ∷ [],
      length-append before.0 (made.0 ∷ []) ∙ ap (λ n. n + 1) before.1,
      one_more_run _ _ _ _ before.0 made.0 before.2 made.1,
      ap (map string_bytes) items ∙ map-append string_bytes _ _ ∙ ap (λ l. l ++ string_bytes c.in_ok-text.text ∷ []) before.3
          ∙ ap (λ b. map outcome_lines before.0 ++ b ∷ []) made.2 ∙ sym (map-append outcome_lines before.0 (made.0 ∷ [])),
    )
