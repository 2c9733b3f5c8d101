use Rattle.std.proofs.Common.{map, string_bytes}
use Rattle.ticklab_files.specs.Asking.{texts_of}
use Rattle.ticklab_answers.specs.Checks.{IsAmong, IsUnderOne}
use Rattle.ticklab_answers.specs.Hearing.{IsOfCheck}
use Rattle.ticklab_files.specs.Faults.{IsUnread}
use Rattle.ticklab_answers.proofs.CheckFaults.{of_reading}
use Rattle.ticklab_answers.proofs.FilesChecked.{told_as_data, told_people}
use Rattle.ticklab_answers.proofs.Listed.{all_under}
use Rattle.ticklab_files.proofs.Faulted.{faulty_by}
use Rattle.ticklab_files.proofs.Responding.{then_ok}
use Rattle.ticklab_answers.proofs.commands.checking.checked.Goals as goal

pub returns-in_err-names-clause-err : goal.returns-in_err-names-clause-err
returns-in_err-names-clause-err g c =
    let under = IsUnderOne (texts_of c.args.paths.now) in
    let causes = IsUnread g.F.Files.Reads g.F.Files.ReadsInput g.F.Files.Lists g.F.Files.Fails in
    faulty_by (IsOfCheck causes under c.args.form) _ c.from_residual.result c.from_residual.ensures.1
    (of_reading causes under under c.args.form (λ name is. is) _ c.in_err-names.ensures.err)

pub returns-in_err-sources-clause-err : goal.returns-in_err-sources-clause-err
returns-in_err-sources-clause-err g c =
    let texts = texts_of c.args.paths.now in
    let names = map string_bytes c.in_ok-names.names.items in
    let causes = IsUnread g.F.Files.Reads g.F.Files.ReadsInput g.F.Files.Lists g.F.Files.Fails in
    faulty_by (IsOfCheck causes (IsUnderOne texts) c.args.form) _ c.from_residual-in_err-sources.result c.from_residual-in_err-sources.ensures.1
    (of_reading causes (IsAmong names) (IsUnderOne texts) c.args.form
    (all_under g.F.Files.Lists c.args.host.now.files c.names_of.new.files texts names c.in_ok-names.ensures.ok) _ c.in_err-sources.ensures.err)

pub returns-in-Text-clause-ok : goal.returns-in-Text-clause-ok
returns-in-Text-clause-ok g c =
    then_ok c.heard.result
    (λ x told. told_people g.O.Write.contents g.F.Files.Reads g.F.Files.ReadsInput g.F.Files.Lists c.args.host.now c.names_of.new.files c.sources_of.new.files
    (texts_of c.args.paths.now) (map string_bytes c.in_ok-names.names.items) c.in_ok-sources.sources.items c.args.limits (g.C.Checks.most c.args.checks.now) c.args.form
    c.in_ok-names.ensures.ok c.in_ok-sources.ensures.ok x c.heard.new.listener c.in-Text.is told)
    (rw c.deref.ensures.value at c.heard.ensures.ok)

pub returns-clause-ok : goal.returns-clause-ok
returns-clause-ok g c =
    then_ok c.heard-in-Json.result
    (λ x told. told_as_data g.O.Write.contents g.F.Files.Reads g.F.Files.ReadsInput g.F.Files.Lists c.args.host.now c.names_of.new.files c.sources_of.new.files
    (texts_of c.args.paths.now) (map string_bytes c.in_ok-names.names.items) c.in_ok-sources.sources.items c.args.limits (g.C.Checks.most c.args.checks.now) c.args.form
    c.in_ok-names.ensures.ok c.in_ok-sources.ensures.ok x _ _ _ c.in-Json.is told)
    (rw c.deref-in-Json.ensures.value at c.heard-in-Json.ensures.ok)
