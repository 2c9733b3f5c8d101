use Rattle.std.proofs.Common.{◌≡◌, ap, ◌∙◌, sym, drop}
use Rattle.std.specs.Prelude.{if◌then◌else◌, slice_index}
use Rattle.std.proofs.lemmas.Bool.{ne_eqb}
use Rattle.code_core.specs.declared.instr.Instr.TheVariants.{Bin}
use Rattle.code_text.specs.prover.Guess.{word, leading, second, operator, named}
use Rattle.code_text.proofs.guess.guess.Goals as goal

pub returns-clause-instruction : goal.returns-clause-instruction
returns-clause-instruction c =
    let text = c.args.text.now in
    let name = (word text).0 in
    let tail = drop 1 (word text).1 in
    let after : c.skip.new.self.rest.now ≡ tail = c.skip.ensures ∙ ap (drop 1) c.word-name.ensures.rest in
    let first : c.number-first.result ≡ (leading 0 tail).0 = c.number-first.ensures.number ∙ ap (λ t. (leading 0 t).0) after in
    let other : c.number.result ≡ (second tail).0 =
    c.number.ensures.number ∙ ap (λ t. (leading 0 t).0) (c.skip-2.ensures ∙ ap (drop 1) (c.number-first.ensures.rest ∙ ap (λ t. (leading 0 t).1) after)) in
    let letter : c.first_letter.result ≡ slice_index name 0 = c.first_letter.ensures ∙ ap (λ n. slice_index n 0) c.word-name.ensures.word in
    c.named.ensures.instruction
    ∙ ap (λ n. named n c.number-first.result c.number.result) c.word-name.ensures.word
    ∙ ap (λ a. named name a c.number.result) first
    ∙ ap (λ b. named name (leading 0 tail).0 b) other
    ∙ sym (ap (λ t. if t then Bin (operator (word tail).0) else named name (leading 0 tail).0 (second tail).0)
    (ne_eqb (slice_index name 0) 66 (λ e. c.if-first_letter-eq66.false (letter ∙ e))))
