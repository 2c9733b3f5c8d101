use Rattle.std.proofs.Common.{◌∙◌, ℕ, List, Some, ap, length, string_bytes, subst}
use Rattle.std.specs.Str.Lossy.{utf8_lossy}
use Rattle.ticklab_explain.specs.Places.{IsPlace}
use Rattle.ticklab_json.specs.Found.{head_members}
use Rattle.ticklab_verdicts.specs.RunObjects.{IsRunObject}
use Rattle.ticklab_files.proofs.Responding.{then_ok}
use Rattle.ticklab_verdicts.proofs.run_objects.break_object.Goals as goal

pub returns : goal.returns
returns c =
    let place = c.args.place.now in
    let at = c.place_of-at.result in
    let q = c.args.search.now in
    then_ok c.run_object.result
    (λ out h. record {
      at = at;
      is_place = subst (λ (start : ℕ). IsPlace place.text.now start at) c.min.ensures c.place_of-at.ensures;
      object = subst (λ (text : List ℕ). IsRunObject (head_members c.args.head) q.input.now q.spelled.now.program c.args.schedule.now
          (Some (record { steps = length c.args.schedule.now; file = place.name.now; line = at.line; column = at.column; text = text; value = c.args.value })) (string_bytes out))
          (c.deref.ensures ∙ c.in_ok-text.ensures.lossy ∙ ap utf8_lossy c.part_of.ensures) h;
    }) c.run_object.ensures
