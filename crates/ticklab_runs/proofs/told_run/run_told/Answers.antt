use Rattle.std.proofs.Common.{◌≡◌, ◌∙◌, ◌++◌, ℕ, Bool, List, ap, arith, length, map, refl, subst, sym}
use Rattle.ticketc_refusals.specs.Refusals.{SpelledIn}
use Rattle.searches_explore.specs.Lines.{lines_of}
use Rattle.ticklab_files.specs.Asking.{TextPlace, place_of, texts_of}
use Rattle.ticklab_files.specs.Asking.{IsUnexplored}
use Rattle.ticklab_runs.specs.Parts.{parts_of}
use Rattle.ticklab_runs.specs.Runs.{IsTold, IsToldWith, IsUnrun, is_of_code, plain_telling, schedule_on}
use Rattle.ticklab_files.specs.Ways.{held}
use Rattle.ticklab_files.proofs.ProgramFiles.{asks_of}
use Rattle.ticklab_runs.proofs.Ran.{all_in_range, all_spelled, code_unrun, long_unrun, run_by, unexplored_unrun, way_unrun}
use Rattle.ticklab_files.proofs.Responding.{refused_as}
use Rattle.ticklab_runs.proofs.told_run.run_told.Goals as goal

pub returns-in-Err-clause-refused : goal.returns-in-Err-clause-refused
returns-in-Err-clause-refused c =
    refused_as {P = IsUnexplored c.args.name.now (texts_of c.args.never.now) c.args.input.now}
    {Q = IsUnrun (plain_telling c.args.telling.now) c.args.name.now (texts_of c.args.never.now) c.args.input.now c.args.from.now (held c.args.given.now) c.args.side} c.in-Err.stop
    (unexplored_unrun (plain_telling c.args.telling.now) _ _ _ c.args.from.now (held c.args.given.now) c.args.side) c.in-Err.ensures.refused

pub returns-in_err-way-clause-refused : goal.returns-in_err-way-clause-refused
returns-in_err-way-clause-refused c =
    way_unrun c.in-Ok.ensures.asks (plain_telling c.args.telling.now) c.args.from.now (held c.args.given.now) c.args.side c.processes.result c.processes.ensures.count
    c.from_residual.result _ c.from_residual.ensures.1 c.in_err-way.ensures.refused

pub returns-in_err-steps-clause-refused : goal.returns-in_err-steps-clause-refused
returns-in_err-steps-clause-refused c =
    code_unrun c.in-Ok.ensures.asks (plain_telling c.args.telling.now) c.args.from.now (held c.args.given.now) c.args.side c.processes.result c.processes.ensures.count
    c.from_residual-in_err-steps.result _ c.from_residual-in_err-steps.ensures.1 (is_of_code c.args.side) refl
    c.in_ok-whole.whole.items (all_spelled (held c.args.given.now) c.processes.result c.in_ok-way.way c.in_ok-whole.whole.items c.in_ok-way.ensures.ok c.in_ok-whole.ensures.value)
    c.in_err-steps.ensures.refused

pub returns-in_err-within_a_page-clause-refused : goal.returns-in_err-within_a_page-clause-refused
returns-in_err-within_a_page-clause-refused c =
    long_unrun c.in-Ok.ensures.asks (plain_telling c.args.telling.now) c.args.from.now (held c.args.given.now) c.args.side c.processes.result c.processes.ensures.count
    c.from_residual-in_err-within_a_page.result _ c.from_residual-in_err-within_a_page.ensures.1
    c.in_ok-whole.whole.items (all_spelled (held c.args.given.now) c.processes.result c.in_ok-way.way c.in_ok-whole.whole.items c.in_ok-way.ensures.ok c.in_ok-whole.ensures.value)
    (length c.as_slice-steps.result.now) (ap length (c.as_slice-steps.ensures.value ∙ c.in_ok-steps.ensures.ok)) c.in_err-within_a_page.ensures.refused

pub returns-in_err-out-clause-refused : goal.returns-in_err-out-clause-refused
returns-in_err-out-clause-refused c =
    code_unrun c.in-Ok.ensures.asks (plain_telling c.args.telling.now) c.args.from.now (held c.args.given.now) c.args.side c.processes.result c.processes.ensures.count
    c.from_residual-in_err-out.result _ c.from_residual-in_err-out.ensures.1 c.is_of_code.result c.is_of_code.ensures
    c.in_ok-whole.whole.items (all_spelled (held c.args.given.now) c.processes.result c.in_ok-way.way c.in_ok-whole.whole.items c.in_ok-way.ensures.ok c.in_ok-whole.ensures.value)
    c.in_err-out.ensures.refused

pub schedule_on-requires : goal.schedule_on-requires
schedule_on-requires c =
    let way = c.in_ok-way.way in
    let known = c.in_ok-way.ensures in
    all_in_range c.processes.result _ c.processes.ensures.count way.schedule.items way.lead_in.items way.cycle.items c.in_ok-whole.whole.items
    known.schedule known.lead_in known.cycle c.in_ok-whole.ensures.value

pub text_in-text-requires : goal.text_in-text-requires
text_in-text-requires c = c.in-Ok.ensures.spelled.0.0.text.utf8

pub telling_of-requires-clause-program : goal.telling_of-requires-clause-program
telling_of-requires-clause-program c =
    subst (λ (text : List ℕ). SpelledIn text c.in-Ok.asked.spelled) (sym c.text_in-text.ensures) c.in-Ok.ensures.spelled

pub returns-clause-ok : goal.returns-clause-ok
returns-clause-ok c =
    let known = c.in-Ok.ensures.asks in
    let name = c.args.name.now in
    let input = c.args.input.now in
    let side = c.args.side in
    let telling = plain_telling c.args.telling.now in
    let texts = texts_of c.args.never.now in
    let p = c.in-Ok.asked.spelled.program in
    let lines = lines_of c.in-Ok.asked.lines.properties.items in
    let steps = c.as_slice-steps.result.now in
    let out = c.in_ok-out.out.items in
    let way = c.in_ok-way.way in
    let places = map place_of c.in-Ok.asked.lines.places.items in
    let parts = c.parts_of-parts.result in
    let all = c.in_ok-whole.whole.items in
    let parted : parts ≡ parts_of (length way.schedule.items) (length way.cycle.items) (length (way.schedule.items ++ way.lead_in.items ++ way.cycle.items)) =
    c.parts_of-parts.ensures
    ∙ ap (λ (k : ℕ). parts_of k c.len-round.result c.len.result) (let e : c.len-first.result ≡ length way.schedule.items = omega (arith, c.len-first.ensures, way.schedule.ok.0) in e)
    ∙ ap (λ (k : ℕ). parts_of (length way.schedule.items) k c.len.result) (let e : c.len-round.result ≡ length way.cycle.items = omega (arith, c.len-round.ensures, way.cycle.ok.0) in e)
    ∙ ap (λ (k : ℕ). parts_of (length way.schedule.items) (length way.cycle.items) k)
    ((let e : c.len.result ≡ length all = omega (arith, c.len.ensures, c.in_ok-whole.whole.ok.0) in e) ∙ ap length c.in_ok-whole.ensures.value) in
    record {
      status = c.output.ensures.status;
      quiet = c.output.ensures.told;
      out = run_by side (IsTold telling side name texts input) (asks_of known) (held c.args.given.now)
          c.processes.result c.processes.ensures.count way.schedule.items way.lead_in.items way.cycle.items steps c.in_ok-way.ensures.ok
          (c.as_slice-steps.ensures.value ∙ c.in_ok-steps.ensures.ok ∙ ap (schedule_on side p) c.in_ok-whole.ensures.value) parts parted out _ (ap (λ out. out.items) c.output.ensures.out) (
            c.in_ok-within_a_page.ensures.ok,
            subst (λ (places : List TextPlace). IsToldWith telling (is_of_code side) name lines places input p parts steps out) known.stand
                (subst (λ (is_code : Bool). IsToldWith telling is_code name lines places input p parts steps out) c.is_of_code.ensures
                (subst (λ (text : List ℕ). IsToldWith telling c.is_of_code.result name lines places text p parts steps out) c.text_in-text.ensures c.in_ok-out.ensures.ok)),
          );
    }
