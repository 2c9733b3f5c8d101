use Rattle.std.proofs.Common.{◌≡◌, ◌∙◌, ◌+◌, ◌&&◌, ◌||◌, Bool, List, ◌∷◌, String, ap, drop, map, string_bytes, sym, true, false}
use Rattle.std.specs.Prelude.{bytes_eq}
use Rattle.std.specs.Global.{Global}
use Rattle.std.proofs.lemmas.List.{drop_all, drop_more}
use Rattle.ticklab_line.specs.Slips.{is_text, lacks_behind}
use Rattle.ticklab_line.proofs.slips.lacks_number.Goals as goal

pub returns-then-is_text_behind : goal.returns-then-is_text_behind
unfolding lacks_behind
returns-then-is_text_behind c =
    let words = c.args.words.now in
    let name = c.args.name.now in
    let at = c.loop-word.word-index in
    let behind = c.loop-word.is_behind in
    let word = c.word-item.result in
    let lacks : List (String Global) → Bool = λ ws. lacks_behind behind name (map string_bytes ws) in
    let next = lacks_behind (bytes_eq (string_bytes word) name) name (map string_bytes (drop (at + 1) words)) in
    let found : (behind && is_text (string_bytes word)) ≡ true =
    ap (λ text. behind && is_text text) (sym c.deref.ensures) ∙ sym c.is_text_behind.ensures ∙ c.if-is_text_behind.true in
    let whole = ap lacks (drop_more words at word c.loop-word-test.true) ∙ ap (λ w. lacks (w ∷ drop (at + 1) words)) (sym c.word-item.is) in
    ap (λ it. it || next) (sym found) ∙ sym whole ∙ c.loop-word.invariant

pub loop-word-preserved : goal.loop-word-preserved
unfolding lacks_behind
loop-word-preserved c =
    let words = c.args.words.now in
    let name = c.args.name.now in
    let at = c.loop-word.word-index in
    let behind = c.loop-word.is_behind in
    let word = c.word-item.result in
    let lacks : List (String Global) → Bool = λ ws. lacks_behind behind name (map string_bytes ws) in
    let rest = map string_bytes (drop (at + 1) words) in
    let none : (behind && is_text (string_bytes word)) ≡ false =
    ap (λ text. behind && is_text text) (sym c.deref.ensures) ∙ sym c.is_text_behind.ensures ∙ c.if-is_text_behind.false in
    let whole = ap lacks (drop_more words at word c.loop-word-test.true) ∙ ap (λ w. lacks (w ∷ drop (at + 1) words)) (sym c.word-item.is) in
    let named : c.eq-is_behind.result ≡ bytes_eq (string_bytes word) name =
    c.eq-is_behind.ensures ∙ ap (λ text. bytes_eq text name) c.as_str.ensures.value in
    ap (λ it. lacks_behind it name rest) named ∙ ap (λ it. it || lacks_behind (bytes_eq (string_bytes word) name) name rest) (sym none) ∙ sym whole ∙ c.loop-word.invariant

pub returns : goal.returns
unfolding lacks_behind
returns c =
    let lacks : List (String Global) → Bool = λ ws. lacks_behind c.loop-word.is_behind c.args.name.now (map string_bytes ws) in
    sym (ap lacks (drop_all c.loop-word.word-index c.args.words.now c.loop-word-test.false)) ∙ c.loop-word.invariant
