use Rattle.std.proofs.Common.{◌+◌, List, subst, sym}
use Rattle.ticklab_check.specs.Checking.{SourceComesTo}
use Rattle.ticklab_check.specs.declared.checked.Timed.{Timed}
use Rattle.ticklab_check.specs.declared.source.Source.{Source}
use Rattle.ticklab_check.proofs.Listing.{AreHeardSoFar, AreSoFar, all_heard, all_of_them, one_more, one_more_heard}
use Rattle.ticklab_check.proofs.checks.InTurnChecks.checked.Goals as goal

pub loop-source-preserved : goal.loop-source-preserved
loop-source-preserved g c =
    let R : Source → Timed → Type 0 = λ source timed. SourceComesTo c.args.limits source timed.checked in
    let hears = g.L.Listener.hears in
    let first = c.args.listener.now in
    let sources = c.args.sources.now in
    let i = c.loop-source.source-index in
    let files = c.loop-source.files.items in (
      subst (λ (all : List Timed). AreSoFar R sources (i + 1) all) (sym c.in_ok-push.ensures.items)
          (one_more R sources i files c.source-item.result c.in_ok-timed.timed c.loop-source-test.true c.source-item.is c.in_ok-timed.ensures
          c.loop-source.invariant.0),
      subst (λ (all : List Timed). AreHeardSoFar hears sources first (i + 1) all c.hear.new.self) (sym c.in_ok-push.ensures.items)
          (one_more_heard hears sources first i files c.loop-source.listener c.hear.new.self c.source-item.result c.in_ok-timed.timed c.loop-source-test.true
          c.source-item.is c.in_ok-hear.ensures.ok c.loop-source.invariant.1),
    )

pub returns-clause-come : goal.returns-clause-come
returns-clause-come g c =
    all_of_them (λ source timed. SourceComesTo c.args.limits source timed.checked) c.args.sources.now c.loop-source.source-index c.loop-source.files.items
    c.loop-source-test.false c.loop-source.invariant.0

pub returns-clause-heard : goal.returns-clause-heard
returns-clause-heard g c =
    all_heard g.L.Listener.hears c.args.sources.now c.args.listener.now c.loop-source.source-index c.loop-source.files.items c.loop-source.listener
    c.loop-source-test.false c.loop-source.invariant.1
