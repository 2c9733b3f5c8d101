use Rattle.std.proofs.Common.{◌≡◌, ◌<◌, length, sym, refl, arith, vec_items}
use Rattle.std.specs.Prelude.{slice_get, Some}
use Rattle.std.proofs.lemmas.List.{get_or_read}
use Rattle.std.proofs.lemmas.Option.{slice_get_read}
use Rattle.tick_merge.specs.prover.Reached.{IsHeld}
use Rattle.tick_merge.proofs.Reaching.{is_led}
use Rattle.tick_merge.proofs.merging.Merging.lead.Goals as goal

-- the process that is led
led : (c : goal.After-go_alone-arg-1) → slice_get (vec_items c.args.self.now.processes) c.args.p ≡ Some c.index_mut-process.result.now
led c =
    let r = c.requires.reached.2 in
    slice_get_read (vec_items c.args.self.now.processes) c.args.code.now.sizes.processes c.args.p c.index_mut-process.result.now (sym r.many) c.requires.in_range
    c.index_mut-process.ensures.value

held : (c : goal.After-go_alone-arg-1) → IsHeld c.args.code.now (vec_items c.args.self.now.schedule) c.args.p c.index_mut-process.result.now
held c = c.requires.reached.2.each c.args.p c.index_mut-process.result.now (led c)

pub go_alone-requires-clause-of : goal.go_alone-requires-clause-of
go_alone-requires-clause-of c = (held c).of

pub go_alone-requires-clause-me : goal.go_alone-requires-clause-me
go_alone-requires-clause-me c = (held c).me

pub returns-clause-led : goal.returns-clause-led
returns-clause-led c = λ turns history r.
    let inside : c.args.p < length (vec_items c.args.self.now.left) = omega (arith, c.requires.in_range, r.all_left) in
    is_led c.args.code.now turns history c.args.p c.requires.in_range c.args.self.now r _ c.index_mut-process.result.now c.go_alone.new.proc
    c.index-most.result.now c.in_ok-alone.alone
    (slice_get_read (vec_items c.args.self.now.processes) c.args.code.now.sizes.processes c.args.p c.index_mut-process.result.now (sym r.many) c.requires.in_range
    c.index_mut-process.ensures.value)
    (get_or_read (vec_items c.args.self.now.left) _ _ inside c.index-most.ensures 0)
    c.in_ok-alone.ensures.count c.in_ok-alone.ensures.process c.in_ok-alone.ensures.of c.in_ok-alone.ensures.me
    refl refl refl c.in_ok-alone.ensures.schedule
