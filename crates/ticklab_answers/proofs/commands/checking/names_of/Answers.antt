use Rattle.std.proofs.Common.{◌≡◌, ◌∙◌, ◌+◌, ℕ, Bor, List, ap, drop, get_or, inl, inr, map, string_bytes, subst, sym}
use Rattle.std.proofs.Math.ListN.{drop_of_length-le}
use Rattle.std.proofs.lemmas.List.{map-append}
use Rattle.ticklab_files.specs.Asking.{texts_of}
use Rattle.ticklab_answers.specs.Checks.{IsUnderOne}
use Rattle.ticklab_files.specs.Faults.{IsOfFileThat, IsUnread}
use Rattle.ticklab_answers.proofs.Listed.{AreNamedSoFar, all_named, more_named, nothing}
use Rattle.ticklab_files.proofs.Faulted.{faulty_by, of_file_as}
use Rattle.ticklab_files.proofs.LinesAsked.{next_text}
use Rattle.ticklab_answers.proofs.commands.checking.names_of.Goals as goal

pub returns-in_err-more-clause-err : goal.returns-in_err-more-clause-err
returns-in_err-more-clause-err g c =
    let paths = c.args.paths.now in
    let causes = IsUnread g.F.Files.Reads g.F.Files.ReadsInput g.F.Files.Lists g.F.Files.Fails in
    faulty_by (IsOfFileThat causes (IsUnderOne (texts_of paths))) _ c.from_residual.result c.from_residual.ensures.1
    (of_file_as causes (λ name. name ≡ (get_or paths c.loop-path.path-index nothing).now) (IsUnderOne (texts_of paths)) (λ name is. c.loop-path.invariant.1 name
    (subst (λ (texts : List (List ℕ)). IsUnderOne texts name) (sym (next_text paths c.loop-path.path-index nothing c.loop-path-test.true)) (inl (inl is))))
    _ c.in_err-more.ensures.err)

pub loop-path-preserved : goal.loop-path-preserved
loop-path-preserved g c =
    let paths = c.args.paths.now in
    let i = c.loop-path.path-index in
    let next = next_text paths i nothing c.loop-path-test.true in
    let Lists = g.F.Files.Lists in (
      subst (λ (names : List (List ℕ)). AreNamedSoFar Lists c.args.files.now (texts_of paths) c.names_at.new.files (texts_of (drop (i + 1) paths)) names)
          (sym (ap (map string_bytes) c.in_ok-append.ensures.items ∙ map-append string_bytes c.loop-path.names.items c.in_ok-more.more.items))
          (more_named Lists c.args.files.now (texts_of paths) c.loop-path.files c.names_at.new.files (get_or paths i nothing).now (texts_of (drop (i + 1) paths)) (map string_bytes c.loop-path.names.items)
          (map string_bytes c.in_ok-more.more.items) c.in_ok-more.ensures.ok
          (subst (λ (left : List (List ℕ)). AreNamedSoFar Lists c.args.files.now (texts_of paths) c.loop-path.files left (map string_bytes c.loop-path.names.items)) next
          c.loop-path.invariant.0)),
      λ name under. c.loop-path.invariant.1 name (subst (λ (texts : List (List ℕ)). IsUnderOne texts name) (sym next) (inr under)),
    )

pub returns-clause-ok : goal.returns-clause-ok
returns-clause-ok g c =
    let paths = c.args.paths.now in
    let names = map string_bytes c.loop-path.names.items in
    all_named g.F.Files.Lists c.args.files.now (texts_of paths) c.loop-path.files names
    (subst (λ (left : List (Bor (List ℕ))). AreNamedSoFar g.F.Files.Lists c.args.files.now (texts_of paths) c.loop-path.files (texts_of left) names)
    (drop_of_length-le paths c.loop-path-test.false) c.loop-path.invariant.0)
