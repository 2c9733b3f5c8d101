use Rattle.std.proofs.Common.{◌≡◌, [], length, subst, arith}
use Rattle.std.proofs.lemmas.List.{nil_from_length}
use Rattle.tick_kinds.specs.Resolution.{resolved}
use Rattle.searches_explore.specs.Lines.{lines_of}
use Rattle.searches_explore.specs.Needed.{NeedsAll}
use Rattle.searches_hunt.proofs.Left.{fault_all, some_at}
use Rattle.searches_hunt.proofs.shrinking.Shrinker.without_some.Goals as goal

pub returns-then-len-eq0 : goal.returns-then-len-eq0
returns-then-len-eq0 c =
    let a = resolved c.args.self.now.program.now in
    let lines = lines_of c.args.self.now.lines.now in
    let seen = c.deref.result.now in
    let none : c.in-Some.places.items ≡ [] = nil_from_length c.in-Some.places.items (let e : length c.in-Some.places.items ≡ 0 = omega (arith, c.len-in-Some.ensures, c.if-len-eq0.true) in e) in
    record {
      of_whole = fault_all a lines c.args.schedule.items c.requires;
      needed = λ same. subst (NeedsAll a lines) c.deref.ensures.value
          (some_at (λ places. places.items ≡ [] → NeedsAll a lines seen) c.in_ok-places.field-0 c.in-Some.places c.in-Some.is c.in_ok-places.ensures none);
    }
