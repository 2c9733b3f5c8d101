use Rattle.std.proofs.Common.{◌≡◌, ◌∙◌, List, [], String, map, string_bytes, subst, sym}
use Rattle.std.proofs.lemmas.List.{nil_from_length}
use Rattle.std.specs.Global.{Global}
use Rattle.std.specs.Vec.Iter.{into_iter_items}
use Rattle.ticklab_answers.proofs.Listed.{AreReadSoFar, all_read}
use Rattle.ticklab_answers.proofs.commands.checking.sources_of.Goals as goal

pub returns-clause-ok : goal.returns-clause-ok
returns-clause-ok g c =
    let names = map string_bytes c.args.names.items in
    let sources = c.loop-name.sources.items in
    let Reads = g.F.Files.Reads in
    let ReadsInput = g.F.Files.ReadsInput in
    let gone : into_iter_items c.loop-name.name-iterator ≡ [] = nil_from_length _ (sym c.loop-name.name-iterator.rest.ok.0 ∙ c.in-None.ensures.steps.0) in
    all_read Reads ReadsInput c.args.files.now names c.loop-name.files sources
    (subst (λ (left : List (String Global)). AreReadSoFar Reads ReadsInput c.args.files.now names c.loop-name.files (map string_bytes left) sources) gone
    c.loop-name.invariant.0)
