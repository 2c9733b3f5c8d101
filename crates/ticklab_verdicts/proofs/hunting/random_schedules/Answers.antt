use Rattle.std.proofs.Common.{◌∙◌, ◌<◌, Bool, List, ap, is_some, map, IfSome, IfNone, subst, sym}
use Rattle.language_properties.specs.declared.property.Property.{Property}
use Rattle.tick_kinds.specs.Resolution.{resolved}
use Rattle.searches_explore.specs.Lines.{lines_of}
use Rattle.searches_explore.specs.Never.{IfBreaks, IfTraps}
use Rattle.searches_hunt.specs.Never.{IsFirstFault, IsMinimalBroken, IsMinimalTrapped, NoRunFaults}
use Rattle.ticklab_files.specs.Asking.{place_of, texts_of}
use Rattle.ticklab_check.specs.Checking.{asked_for}
use Rattle.ticklab_verdicts.specs.Shown.{ShowsHunt}
use Rattle.ticklab_verdicts.specs.Sought.{sought_of}
use Rattle.ticklab_verdicts.proofs.HuntSearched.{hunted_by, hunted_lawful, hunted_within}
use Rattle.ticklab_verdicts.proofs.Placed.{placed}
use Rattle.ticklab_verdicts.proofs.Within.{as_many_as}
use Rattle.ticklab_files.proofs.ProgramFiles.{asks_of}
use Rattle.ticklab_verdicts.proofs.hunting.random_schedules.Goals as goal

pub shown-requires-clause-schedule : goal.shown-requires-clause-schedule
shown-requires-clause-schedule g c =
    hunted_lawful (resolved c.in-Ok.asked.spelled.program) c.as_slice-properties.result.now c.in_ok-hunted.hunted
    c.in_ok-hunted.ensures.trapped c.in_ok-hunted.ensures.broken

pub shown-requires-clause-line : goal.shown-requires-clause-line
shown-requires-clause-line g c =
    as_many_as (λ count. IfSome c.in_ok-hunted.hunted (λ f. IfBreaks f.1 (λ schedule line v. line < count))) _ _ _ c.as_slice-properties.ensures.value
    c.in-Ok.ensures.as_many
    (hunted_within (resolved c.in-Ok.asked.spelled.program) c.as_slice-properties.result.now c.in_ok-hunted.hunted c.in_ok-hunted.ensures.broken)

pub returns-clause-ok : goal.returns-clause-ok
returns-clause-ok g c =
    let known = c.in-Ok.ensures.asks in
    let p = c.in-Ok.asked.spelled.program in
    let h = c.in_ok-hunted.hunted in
    let e = c.in_ok-hunted.ensures in
    let plan = c.args.plan in
    let from = c.args.from in
    let value = c.as_slice-properties.ensures.value in
    let places = map place_of c.in-Ok.asked.lines.places.items in
    let found = placed (sought_of c.args.name.now (texts_of c.args.never.now) c.args.output c.args.input.now (asks_of known)) places in
    hunted_by c.args.name.now (texts_of c.args.never.now) c.args.output plan from c.args.input.now (asks_of known) places
    known.stand known.many h c.in_ok-shown.field-0
    (subst (λ (lines : List Property). IfSome h (λ f. IsFirstFault (resolved p) (lines_of lines) plan from f.0)) value e.first)
    (subst (λ (lines : List Property). IfSome h (λ f. IfTraps f.1 (IsMinimalTrapped (resolved p) (lines_of lines)))) value e.trapped)
    (subst (λ (lines : List Property). IfSome h (λ f. IfBreaks f.1 (IsMinimalBroken (resolved p) (lines_of lines)))) value e.broken)
    e.part e.short
    (subst (λ (lines : List Property). IfNone h (NoRunFaults (resolved p) (lines_of lines) plan from)) value e.nothing)
    (subst (λ (unasked : Bool). ShowsHunt found plan from unasked h c.in_ok-shown.field-0) (c.is_some-ends_unasked.ensures ∙ ap is_some c.asked_for.ensures ∙ ap (λ lines. is_some (asked_for lines)) (sym known.who)) c.in_ok-shown.ensures)
