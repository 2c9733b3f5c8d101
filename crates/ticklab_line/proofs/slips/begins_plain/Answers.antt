use Rattle.std.proofs.Common.{◌∙◌, ◌≤◌, ◌&&◌, ap, length, map, not, string_bytes, subst, sym, take}
use Rattle.std.specs.List.{list_any}
use Rattle.std.proofs.lemmas.Bool.{le-leb}
use Rattle.std.proofs.lemmas.List.{length-map, take-map}
use Rattle.clap.proofs.WalkLemmas.{list_any-map}
use Rattle.ticklab_line.specs.Slips.{is_option}
use Rattle.ticklab_line.proofs.slips.begins_plain.Goals as goal

pub returns-then-count-words : goal.returns-then-count-words
returns-then-count-words c =
    let words = c.args.words.now in
    let count = c.args.count in
    let long : count ≤ length (map string_bytes words) = subst (λ k. count ≤ k) (sym (length-map words string_bytes)) c.if-count-words.true in
    ap not (c.has_option.ensures ∙ list_any-map is_option string_bytes (take count words) ∙ ap (list_any is_option) (sym (take-map string_bytes count words)))
    ∙ ap (λ it. it && not (list_any is_option (take count (map string_bytes words)))) (sym (le-leb count (length (map string_bytes words)) long))
