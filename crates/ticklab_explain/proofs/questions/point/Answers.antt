use Rattle.std.proofs.Common.{◌∙◌, ◌++◌, ℕ, List, ap}
use Rattle.ticklab_explain.specs.Reports.{error_text, place_text}
use Rattle.ticklab_explain.proofs.questions.point.Goals as goal

pub returns : goal.returns
returns c =
    let h = c.in_ok-push_placed.ensures in
    record {
      place = h.0;
      is_place = h.2;
      drawn = h.1;
      is_picture = h.3;
      whole =
          h.4
          ∙ ap (λ (x : List ℕ). x ++ (place_text c.args.name.now h.0 ++ error_text c.args.message.now ++ h.1)) c.new-told.ensures.items;
    }
