-- Each command but `check` writes nothing before its answer.
use Rattle.std.proofs.Common.{◌∙◌, [], ap, refl}
use Rattle.ticklab_line.specs.declared.asking.Line.TheVariants as line
use Rattle.ticklab_files.proofs.Responding.{then_ok}
use Rattle.ticklab_answers.proofs.CheckFaults.{of_line, then_err}
use Rattle.ticklab_answers.proofs.Heard.{writes_nothing}
use Rattle.ticklab_files.specs.Faults.{IsUnread}
use Rattle.ticklab_answers.proofs.commands.response_to.Goals as goal

pub returns-in-Help-clause-ok : goal.returns-in-Help-clause-ok
returns-in-Help-clause-ok g c =
    rw c.in-Help.is ([], (refl, refl, refl, refl, c.help.ensures), writes_nothing g.O.Write.contents _ _ refl refl refl refl)

pub returns-in-Version-clause-ok : goal.returns-in-Version-clause-ok
returns-in-Version-clause-ok g c =
    rw c.in-Version.is ([], (refl, refl, refl, refl, c.help-in-Version.ensures), writes_nothing g.O.Write.contents _ _ refl refl refl refl)

pub returns-in-Refused-clause-ok : goal.returns-in-Refused-clause-ok
returns-in-Refused-clause-ok g c =
    rw c.in-Refused.is ([], (refl, refl, refl, refl, c.no_command.ensures), writes_nothing g.O.Write.contents _ _ refl refl refl refl)

pub returns-in-Explore-clause-ok : goal.returns-in-Explore-clause-ok
returns-in-Explore-clause-ok g c =
    rw (c.in-Request.is ∙ ap (λ (r : _). line.Request r c.in-Request.output) c.in-Explore.is)
    (then_ok c.explored.result (λ x h. ([], (refl, refl, h), writes_nothing g.O.Write.contents _ _ refl refl refl refl)) (rw (c.limits_of-limits.ensures, c.deref.ensures.value) at c.explored.ensures.ok))

pub returns-in-Ends-clause-ok : goal.returns-in-Ends-clause-ok
returns-in-Ends-clause-ok g c =
    rw (c.in-Request.is ∙ ap (λ (r : _). line.Request r c.in-Request.output) c.in-Ends.is)
    (then_ok c.explored_ends.result (λ x h. ([], (refl, refl, h), writes_nothing g.O.Write.contents _ _ refl refl refl refl)) (rw (c.limits_of-limits-in-Ends.ensures, c.as_slice-never.ensures.value) at c.explored_ends.ensures.ok))

pub returns-in-Lasso-clause-ok : goal.returns-in-Lasso-clause-ok
returns-in-Lasso-clause-ok g c =
    rw (c.in-Request.is ∙ ap (λ (r : _). line.Request r c.in-Request.output) c.in-Lasso.is)
    (then_ok c.lassoed.result (λ x h. ([], (refl, refl, refl, h), writes_nothing g.O.Write.contents _ _ refl refl refl refl)) c.lassoed.ensures.ok)

pub returns-in-Hunt-clause-ok : goal.returns-in-Hunt-clause-ok
returns-in-Hunt-clause-ok g c =
    rw (c.in-Request.is ∙ ap (λ (r : _). line.Request r c.in-Request.output) c.in-Hunt.is)
    (then_ok c.hunted.result (λ x h. ([], (refl, refl, refl, h), writes_nothing g.O.Write.contents _ _ refl refl refl refl)) (rw (c.plan_of-plan.ensures, c.deref-in-Hunt.ensures.value) at c.hunted.ensures.ok))

pub returns-in-Runs-clause-ok : goal.returns-in-Runs-clause-ok
returns-in-Runs-clause-ok g c =
    rw (c.in-Request.is ∙ ap (λ (r : _). line.Request r c.in-Request.output) c.in-Runs.is)
    (then_ok c.tallied.result (λ x h. ([], (refl, refl, h), writes_nothing g.O.Write.contents _ _ refl refl refl refl)) c.tallied.ensures.ok)

pub returns-in-Trace-clause-ok : goal.returns-in-Trace-clause-ok
returns-in-Trace-clause-ok g c =
    rw (c.in-Request.is ∙ ap (λ (r : _). line.Request r c.in-Request.output) c.in-Trace.is)
    (then_ok c.told.result (λ x h. ([], (refl, refl, refl, h), writes_nothing g.O.Write.contents _ _ refl refl refl refl)) (rw c.form_of-form.ensures at c.told.ensures.ok))

pub returns-in-Draw-clause-ok : goal.returns-in-Draw-clause-ok
returns-in-Draw-clause-ok g c =
    rw (c.in-Request.is ∙ ap (λ (r : _). line.Request r c.in-Request.output) c.in-Draw.is)
    (then_ok c.told-in-Draw.result (λ x h. ([], (refl, refl, refl, h), writes_nothing g.O.Write.contents _ _ refl refl refl refl)) c.told-in-Draw.ensures.ok)

pub returns-in-Page-clause-ok : goal.returns-in-Page-clause-ok
returns-in-Page-clause-ok g c =
    rw (c.in-Request.is ∙ ap (λ (r : _). line.Request r c.in-Request.output) c.in-Page.is)
    (then_ok c.told-in-Page.result (λ x h. ([], (refl, refl, refl, h), writes_nothing g.O.Write.contents _ _ refl refl refl refl)) c.told-in-Page.ensures.ok)

pub returns-in-Explain-clause-ok : goal.returns-in-Explain-clause-ok
returns-in-Explain-clause-ok g c =
    rw (c.in-Request.is ∙ ap (λ (r : _). line.Request r c.in-Request.output) c.in-Explain.is)
    (then_ok c.explained.result (λ x h. ([], (refl, refl, refl, h), writes_nothing g.O.Write.contents _ _ refl refl refl refl)) (rw c.form_of-form.ensures at c.explained.ensures.ok))

pub returns-in-Labels-clause-ok : goal.returns-in-Labels-clause-ok
returns-in-Labels-clause-ok g c =
    rw (c.in-Request.is ∙ ap (λ (r : _). line.Request r c.in-Request.output) c.in-Labels.is)
    (then_ok c.labelled.result (λ x h. ([], (refl, refl, refl, refl, h), writes_nothing g.O.Write.contents _ _ refl refl refl refl)) c.labelled.ensures.ok)

pub returns-in-Check-clause-err : goal.returns-in-Check-clause-err
returns-in-Check-clause-err g c =
    rw (c.in-Request.is ∙ ap (λ (r : _). line.Request r c.in-Request.output) c.in-Check.is)
    (then_err c.checked.result (of_line (IsUnread g.F.Files.Reads g.F.Files.ReadsInput g.F.Files.Lists g.F.Files.Fails) c.in-Check.paths c.in-Check.limit c.in-Check.memory
    c.in-Check.jobs c.in-Request.output) (rw (c.form_of-form.ensures, c.deref-in-Check.ensures.value) at c.checked.ensures.err))
