use Rattle.std.proofs.Common.{◌≡◌, ap, ◌∙◌, refl, sym, take, arith}
use Rattle.std.proofs.lemmas.List.{length-map, take_all}
use Rattle.language_properties.specs.Properties.{formula_of}
use Rattle.searches_explore.specs.Lines.{breaks, is_broken, line_value, lines_of}
use Rattle.ticklab_runs.proofs.Breaks.{held_there, none_more}
use Rattle.ticklab_runs.proofs.breaking.first_broken.Goals as goal

pub returns-then-is_broken-clause-broken : goal.returns-then-is_broken-clause-broken
returns-then-is_broken-clause-broken c =
    let one = c.index-lines-line.result in (
      refl,
      record {
        formula = formula_of one;
        there = held_there formula_of c.args.lines.now c.loop-line.line one c.loop-line-test.true c.index-lines-line.is;
        valued = sym c.value_in-value.ensures;
        broken = sym c.is_broken.ensures ∙ c.if-is_broken.true;
        first = c.loop-line.invariant;
      },
    )

pub loop-line-preserved : goal.loop-line-preserved
loop-line-preserved c =
    let s = c.args.machine.now in
    let one = c.index-lines-line.result in
    none_more (λ line. is_broken (line_value s line)) (lines_of c.args.lines.now) c.loop-line.line (formula_of one)
    (held_there formula_of c.args.lines.now c.loop-line.line one c.loop-line-test.true c.index-lines-line.is) c.loop-line.invariant
    (ap is_broken (sym c.value_in-value.ensures) ∙ sym c.is_broken.ensures ∙ c.if-is_broken.false)

pub returns-clause-none : goal.returns-clause-none
returns-clause-none c =
    let lines = lines_of c.args.lines.now in
    let all : take c.loop-line.line lines ≡ lines = take_all c.loop-line.line lines (omega (arith, length-map c.args.lines.now formula_of, c.loop-line-test.false)) in
    ap (λ ls. breaks ls c.args.machine.now) (sym all) ∙ c.loop-line.invariant
