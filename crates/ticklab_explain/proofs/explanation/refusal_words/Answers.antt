use Rattle.std.proofs.Common.{◌≡◌, ◌∙◌, ◌+◌, ◌-◌, ◌<◌, ◌++◌, ℕ, List, [], ◌∷◌, String, ap, ap₂, arith, get_or, length, string_bytes, take}
use Rattle.std.proofs.Math.Seq.{get_or-append_seam, take-append_seam}
use Rattle.std.proofs.lemmas.List.{length-append}
use Rattle.std.specs.Global.{Global}
use Rattle.std.specs.Prelude.{slice_index}
use Rattle.std.specs.String.{string_len}
use Rattle.ticklab_explain.specs.Explanations.{refusal_words}
use Rattle.ticklab_explain.proofs.explanation.refusal_words.Goals as goal

-- a text without the line feed at its end
cut : (words : List ℕ) (line rest : String Global) → string_bytes line ≡ words ++ 10 ∷ []
    → (0 < string_len line → slice_index (string_bytes line) (string_len line - 1) < 128 → string_bytes rest ≡ take (string_len line - 1) (string_bytes line))
    → string_bytes rest ≡ words
cut words line rest same gone =
    let long : string_len line ≡ length words + 1 = line.bytes.ok.0 ∙ ap length same ∙ length-append words (10 ∷ []) in
    let shorter : string_len line - 1 ≡ length words = omega (arith, long) in
    let last : slice_index (string_bytes line) (string_len line - 1) ≡ 10 =
    ap₂ (λ (l : List ℕ) (i : ℕ). get_or l i 0) same shorter ∙ get_or-append_seam words 10 [] 0 in
    gone (omega (arith, long)) (omega (arith, last)) ∙ ap₂ (λ (i : ℕ) (l : List ℕ). take i l) shorter same ∙ take-append_seam words (10 ∷ [])

pub returns : goal.returns
returns c = cut (refusal_words c.args.refusal) c.in_ok-line.line c.pop-end.new.self c.in_ok-line.ensures c.pop-end.ensures.ascii_bytes
