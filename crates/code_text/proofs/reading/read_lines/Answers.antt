use Rattle.std.proofs.Common.{◌+◌, ◌++◌, ap, ◌∙◌, sym, subst, length}
use Rattle.code_core.specs.declared.fault.CodeFault.TheVariants.{BadLine}
use Rattle.code_text.specs.CodeText.{code_lines, AllMayStand}
use Rattle.code_text.specs.prover.Guess.{guess}
use Rattle.code_text.proofs.Lines.{may_more, read_more, bad_line, not_empty, none_follows, follows_some}
use Rattle.code_text.proofs.reading.read_lines.Goals as goal

pub returns-in_default-clause-err : goal.returns-in_default-clause-err
returns-in_default-clause-err c = λ _.
    let is = c.loop-rest.instructions.items in
    let rest = c.loop-rest.rest.now in
    let some = not_empty (length rest) (sym c.is_empty.ensures ∙ c.loop-rest-test.true) in (
      length is,
      ap (λ n. BadLine (n + 2)) (c.len.ensures ∙ c.loop-rest.instructions.ok.0),
      bad_line c.args.version is rest c.args.text.now c.loop-rest.invariant.1 c.loop-rest.invariant.0 some
          (none_follows c.args.version c.guess-instruction.result (guess rest) rest c.in_ok-more.field-0 c.in_default.not-Some
          c.guess-instruction.ensures.instruction c.in_ok-more.ensures),
    )

pub loop-rest-preserved : goal.loop-rest-preserved
loop-rest-preserved c =
    let is = c.loop-rest.instructions.items in
    let i = c.guess-instruction.result in
    let follows = follows_some c.args.version i c.loop-rest.rest.now c.in_ok-more.field-0 c.in-Some.more c.in-Some.is c.in_ok-more.ensures in (
      ap (λ xs. code_lines xs ++ c.in-Some.more.now) c.in_ok-push.ensures.items
          ∙ read_more is i c.loop-rest.rest.now c.in-Some.more.now c.args.text.now c.loop-rest.invariant.0 follows.1,
      subst (AllMayStand c.args.version) (sym c.in_ok-push.ensures.items)
          (may_more c.args.version is i c.loop-rest.invariant.1 (follows.0, c.guess-instruction.ensures.in_range)),
    )
