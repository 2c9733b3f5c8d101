use Rattle.std.proofs.Common.{◌≡◌, ◌∙◌, ◌+◌, ◌++◌, List, [], ◌∷◌, ap, append_assoc, arith, drop, map, sym}
use Rattle.std.proofs.lemmas.List.{append-nil, map-append}
use Rattle.serde_json.specs.Data.{Data}
use Rattle.serde_json.specs.View.{view}
use Rattle.serde_json.specs.declared.value.Value.{Value}
use Rattle.ticklab_check.proofs.Offered.{next_two, no_two}
use Rattle.ticklab_check.specs.declared.checked.Timed.{Timed}
use Rattle.ticklab_check.specs.declared.source.Source.{Source}
use Rattle.ticklab_json.specs.Checks.{file_data, file_list}
use Rattle.ticklab_json.proofs.checks.file_values.Goals as goal

abbrev told : List (Source × Timed) → List Data
told files = map (λ file. file_data file.0 file.1) files

-- one value more, of what was left
one_more : (values more : List Value) (value : Value) (left rest whole : List Data) (one : Data) → more ≡ values ++ value ∷ [] → view value ≡ one → left ≡ one ∷ rest
    → map view values ++ left ≡ whole → map view more ++ rest ≡ whole
one_more values more value left rest whole one pushed is next held =
    ap (λ (vs : List Value). map view vs ++ rest) pushed
    ∙ ap (λ (ds : List Data). ds ++ rest) (map-append view values (value ∷ []))
    ∙ append_assoc (map view values) (view value ∷ []) rest
    ∙ ap (λ (d : Data). map view values ++ d ∷ rest) is
    ∙ ap (λ (ds : List Data). map view values ++ ds) (sym next)
    ∙ held

pub loop-place-preserved : goal.loop-place-preserved
loop-place-preserved c =
    let sources = c.args.sources.now in
    let files = c.args.files.now in
    let i = c.loop-place.place in
    one_more c.loop-place.values.items c.push.new.self.items c.in_ok-value.value (file_list (drop i sources) (drop i files))
    (file_list (drop (i + 1) sources) (drop (i + 1) files)) (file_list sources files)
    (file_data c.index-sources-place.result c.index-files-place.result) c.in_ok-push.ensures.items c.in_ok-value.ensures
    (ap told (next_two sources files i c.index-sources-place.result c.index-files-place.result (omega (arith, c.requires, c.loop-place-test.true)) c.loop-place-test.true
    c.index-sources-place.is c.index-files-place.is))
    c.loop-place.invariant

pub returns : goal.returns
returns c =
    let sources = c.args.sources.now in
    let files = c.args.files.now in
    let i = c.loop-place.place in
    let values = map view c.loop-place.values.items in
    sym (append-nil values)
    ∙ ap (λ (left : List (Source × Timed)). values ++ told left) (sym (no_two sources files i (omega (arith, c.requires, c.loop-place-test.false)) c.loop-place-test.false))
    ∙ c.loop-place.invariant
