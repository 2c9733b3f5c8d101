use Rattle.std.proofs.Common.{◌∙◌, ◌++◌, ℕ, List, Option, ap, subst}
use Rattle.ticklab_explain.specs.Reports.{AreHintLines, IsHead, last_line}
use Rattle.ticklab_explain.specs.Rows.{Help}
use Rattle.ticklab_explain.specs.Settings.{setting}
use Rattle.ticklab_explain.proofs.report.told.Goals as goal

pub returns : goal.returns
returns c =
    let name = c.args.name.now in
    let s = setting c.args.scene.now in
    let h = c.in_ok-push_head.ensures in
    let k = c.in_ok-push_hint.ensures in
    let P : List ℕ → Type 0 = λ m. IsHead name s.text c.args.refusal m h.0 in
    let Q : Option Help → Type 0 = λ o. AreHintLines name s.text s o k.0 in
    record {
      head = h.0;
      is_head = subst P (c.deref.ensures ∙ c.in_ok-message.ensures) h.1;
      hints = k.0;
      are_hints = subst Q c.hint_of-hint.ensures k.1;
      whole =
          c.in_ok-push_last.ensures
          ∙ ap (λ (x : List ℕ). x ++ last_line c.args.refusal)
          (k.2 ∙ ap (λ (x : List ℕ). x ++ k.0) (h.2 ∙ ap (λ (x : List ℕ). x ++ h.0) c.new-out.ensures.items));
    }
