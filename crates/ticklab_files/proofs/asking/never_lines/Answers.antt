use Rattle.std.proofs.Common.{◌≡◌, ◌++◌, ◌∙◌, List, IfErr, IfOk, Ok, ap, map, subst}
use Rattle.language_properties.specs.Properties.{Formula}
use Rattle.searches_explore.specs.Lines.{lines_of}
use Rattle.ticklab_files.specs.Asking.{TellsOption, TextPlace, option_place, options_after, place_of, texts_of}
use Rattle.ticklab_files.specs.Stops.{IfRefused}
use Rattle.ticklab_files.proofs.LinesAsked.{lines_kept, places_kept}
use Rattle.ticklab_files.proofs.asking.never_lines.Goals as goal

pub returns-clause-places : goal.returns-clause-places
returns-clause-places c =
    let texts = texts_of c.args.never.now in
    let same = c.in_ok-lines.ensures.places ∙ places_kept c.args.name.now c.args.input.now c.args.questions.never.items in
    subst (λ (places : List TextPlace). IfOk c.with_options.result (λ held. map place_of held.places.items ≡ places ++ map option_place texts)) same
    c.with_options.ensures.places

pub returns-clause-read : goal.returns-clause-read
returns-clause-read c =
    let texts = texts_of c.args.never.now in
    let same = ap lines_of c.in_ok-lines.ensures.properties ∙ lines_kept c.args.questions.never.items in
    subst (λ (lines : List Formula). IfOk c.with_options.result (λ held. options_after c.args.program.now lines texts ≡ Ok (lines_of held.properties.items))) same
    c.with_options.ensures.read

pub returns-clause-refused : goal.returns-clause-refused
returns-clause-refused c =
    let texts = texts_of c.args.never.now in
    let same = ap lines_of c.in_ok-lines.ensures.properties ∙ lines_kept c.args.questions.never.items in
    subst (λ (lines : List Formula). IfErr c.with_options.result (λ stop. IfRefused stop (TellsOption c.args.program.now lines texts))) same
    c.with_options.ensures.refused
