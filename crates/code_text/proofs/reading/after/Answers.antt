use Rattle.std.proofs.Common.{◌++◌, ap, ◌∙◌, sym, length, take, drop}
use Rattle.std.proofs.lemmas.List.{length-drop}
use Rattle.std.proofs.lemmas.Slice.Eq.{starts_is}
use Rattle.std.proofs.lemmas.Bool.Decides.{Decides-eqb}
use Rattle.std.proofs.Math.Seq.{take-length}
use Rattle.code_text.proofs.reading.after.Goals as goal

pub returns-then-starts_with : goal.returns-then-starts_with
returns-then-starts_with c =
    let text = c.args.text.now in
    let front = c.args.front.now in
    ap (λ x. front ++ x) (ap (λ n. take n (drop (length front) text)) (sym (length-drop (length front) text)) ∙ take-length (drop (length front) text))
    ∙ sym ((starts_is Decides-eqb text front c.starts_with.result c.starts_with.ensures.value).0 c.if-starts_with.true)

pub returns-else-starts_with : goal.returns-else-starts_with
returns-else-starts_with c = λ more is.
    let found = (starts_is Decides-eqb c.args.text.now c.args.front.now c.starts_with.result c.starts_with.ensures.value).1 more (sym is) in
    let other = c.if-starts_with.false in
    (cc)
