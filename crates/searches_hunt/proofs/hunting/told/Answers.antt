use Rattle.std.proofs.Common.{refl, ap, ◌∙◌, sym, subst}
use Rattle.tick_kinds.specs.Resolution.{resolved}
use Rattle.tick_source.specs.Source.{source}
use Rattle.searches_explore.specs.Explored.{has_trapped}
use Rattle.searches_explore.specs.Lines.{IsFirstBroken, lines_of}
use Rattle.searches_hunt.proofs.hunting.told.Goals as goal

pub returns-then-has_trapped : goal.returns-then-has_trapped
returns-then-has_trapped c =
    let a = resolved c.args.program.now in
    let led = c.in_ok-tried.ensures.led ∙ ap (source a) c.deref.ensures.value in
    record {
      fault = refl;
      trapped = record {
        lawful = c.requires.fault.lawful;
        traps = ap has_trapped (sym led) ∙ sym c.has_trapped.ensures ∙ c.if-has_trapped.true;
        needed = c.requires.needed;
      };
      broken = tt;
    }

pub returns-in-Some : goal.returns-in-Some
returns-in-Some c =
    let a = resolved c.args.program.now in
    let schedule = c.args.schedule.items in
    let led = c.in_ok-tried.ensures.led ∙ ap (source a) c.deref.ensures.value in
    record {
      fault = refl;
      trapped = tt;
      broken = record {
        broken = record {
          lawful = c.requires.fault.lawful;
          untrapped = ap has_trapped (sym led) ∙ sym c.has_trapped.ensures ∙ c.if-has_trapped.false;
          first = subst (λ ls. IsFirstBroken (lines_of ls) (source a schedule) c.in-Some.line c.in-Some.value) c.in_ok-tried.ensures.lines
              (subst (λ s. IsFirstBroken (lines_of c.in_ok-tried.tried.lines.now) s c.in-Some.line c.in-Some.value) led c.in-Some.ensures.broken);
        };
        needed = c.requires.needed;
      };
    }
