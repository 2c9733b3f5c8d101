use Rattle.std.proofs.Common.{ℕ, List, subst}
use Rattle.base.specs.declared.span.Span.{Span}
use Rattle.ticklab_explain.specs.Questions.{IsPointed, question_message}
use Rattle.ticklab_explain.proofs.questions.reported.Goals as goal

pub returns : goal.returns
returns c =
    let name = c.args.name.now in
    let text = c.args.text.now in
    let pointed = c.in_ok-report.report.items in
    let P : Span → Type 0 = λ span. IsPointed name text span (question_message c.args.fault) pointed in
    let Q : List ℕ → Type 0 = λ message. IsPointed name text c.told.result.0 message pointed in
    record {
      pointed = pointed;
      is = subst P c.told.ensures.span (subst Q c.told.ensures.message c.in_ok-report.ensures);
      whole = rw c.told.ensures.hint at c.in_ok-push_help.ensures;
    }
