use Rattle.std.proofs.Common.{◌∙◌, ◌++◌, ℕ, List, Option, ap, append_assoc, option_map, refl, subst}
use Rattle.base.specs.Lines.{line_end}
use Rattle.base.specs.declared.span.Span.{Span}
use Rattle.ticklab_explain.specs.Hints.{hint_text}
use Rattle.ticklab_explain.specs.Reports.{IsSeen, hinted}
use Rattle.ticklab_explain.specs.Rows.{help_of}
use Rattle.ticklab_explain.specs.Settings.{setting}
use Rattle.ticklab_explain.specs.declared.report.TheConstants.{HINT}
use Rattle.ticklab_explain.proofs.report.push_hint.Goals as goal

pub returns-in_ok-push_seen-in-Some : goal.returns-in_ok-push_seen-in-Some
returns-in_ok-push_seen-in-Some c =
    let s = setting c.args.scene.now in
    let it = help_of c.in-Some.hint in
    let h = c.in_ok-push_seen-in-Some.ensures in
    let words = HINT.now ++ hint_text s it ++ line_end in
    let P : Option Span → Type 0 = λ o. IsSeen c.args.name.now s.text o h.0 in (
      words ++ h.0,
      hinted it h.0 (ap (option_map help_of) c.in-Some.is) (subst P c.span.ensures h.1) refl,
      h.2 ∙ (ap (λ (x : List ℕ). x ++ h.0) c.in_ok-push_words-in-Some.ensures ∙ append_assoc c.args.out.now.items words h.0),
    )
