use Rattle.std.proofs.Common.{refl, subst}
use Rattle.ticklab_explain.specs.Spots.{IsSpanAt}
use Rattle.ticklab_explain.specs.declared.spot.Spot.{Spot}
use Rattle.ticklab_explain.proofs.setting.scene_of.Goals as goal

pub returns : goal.returns
returns c =
    let P : Spot → Type 0 = λ s. IsSpanAt c.args.text.now s c.span_at.result in
    record {
      same_text = refl;
      are_tokens = c.requires;
      found = c.span_at.result;
      is_found = subst P c.spot_of.ensures c.span_at.ensures;
      same_span = c.unwrap_or-span.ensures;
      same_at = c.index_from.ensures;
      is_left =
          (c.blank_start-before.result, c.word_start.result, rw c.min.ensures at c.blank_start-before.ensures, c.word_start.ensures, c.as_text.ensures);
      is_right =
          (c.blank_end-after.result, c.word_end.result, rw c.behind.ensures at (rw c.min-2.ensures at c.blank_end-after.ensures), c.word_end.ensures, c.as_text-2.ensures);
      same_items = refl;
    }
