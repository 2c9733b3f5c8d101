use Rattle.std.proofs.Common.{◌≡◌, ◌≤◌, ap, ◌∙◌, sym, length, set, get_or, arith, Some, refl}
use Rattle.std.specs.Prelude.{slice_get}
use Rattle.std.specs.Vec.{with_item}
use Rattle.std.proofs.lemmas.List.{with_items_is, length-set}
use Rattle.std.proofs.lemmas.Option.{slice_get-get_or, slice_get_read}
use Rattle.code_core.specs.declared.instr.Instr.{Instr}
use Rattle.code_core.specs.declared.instr.Instr.TheVariants as I
use Rattle.code_core.specs.Instructions.{left, target}
use Rattle.code_core.specs.Heights.{height_by}
use Rattle.code_core.specs.Verified.{fault_at}
use Rattle.code_core.specs.prover.Passing.{noted_to, noted}
use Rattle.code_core.proofs.Passing.{length-noted, fault_told, passing_as, pass_on, height_below}
use Rattle.code_core.proofs.verifier.Verifier.step.Goals as goal
use Rattle.code_core.proofs.verifier.Verifier.step.Goals.{After-fault_at}

-- the instruction at the place
abbrev at_place : goal.After-fault_at → Instr
at_place c = get_or c.args.code.now c.from.result (I.Push 0)

here : (c : goal.After-fault_at) → slice_get c.args.code.now c.args.place ≡ Some (at_place c)
here c = ap (slice_get c.args.code.now) (sym c.from.ensures) ∙ slice_get-get_or c.args.code.now c.from.result (I.Push 0) (omega arith)

-- what was known of its height
held : (c : goal.After-fault_at) → slice_get c.args.self.now.heights.items c.args.place ≡ Some c.index-came.result.now
held c =
    let hs = c.args.self.now.heights.items in
    ap (slice_get hs) (sym c.from-2.ensures) ∙ slice_get_read hs (length hs) c.from-2.result c.index-came.result.now refl (omega arith) c.index-came.ensures

low : (c : goal.After-fault_at) → c.height_by-height.result ≤ c.args.place
low c =
    let self = c.args.self.now in
    let below = height_below c.args.sizes c.args.code.now c.args.place self.heights.items self.before self.greatest c.requires.passing (at_place c) (here c) c.index-came.result.now (held c) in
    omega (arith, below, c.height_by-height.ensures)

-- the fault that is told of it
told : (c : goal.After-fault_at) →
    let hs = c.args.self.now.heights.items in
    let came = c.index-came.result.now in
    let h = height_by c.args.self.now.before came in
    fault_at c.args.sizes c.args.code.now c.args.place (at_place c) h came (noted_to (set hs c.args.place (Some h)) (target (at_place c))) ≡ c.fault_at.result
told c =
    let own = c.deref.ensures.value ∙ (λ j. set c.args.self.now.heights.items (c.from-3.ensures j) (Some (c.height_by-height.ensures j))) in
    let there = c.known_to-there.ensures ∙ (λ j. noted_to (own j) (c.target.ensures j)) in
    (λ j. fault_at c.args.sizes c.args.code.now c.args.place (at_place c) (sym c.height_by-height.ensures j) c.index-came.result.now (sym there j)) ∙ sym c.fault_at.ensures

pub returns-in-Some-clause-err : goal.returns-in-Some-clause-err
returns-in-Some-clause-err c =
    let self = c.args.self.now in
    let seen = (goal.at.returns-in-Some-clause-err c).After-fault_at in
    fault_told c.args.sizes c.args.code.now c.args.place self.heights.items self.before self.greatest c.requires.passing (at_place seen) (here seen) c.index-came.result.now (held seen)
    c.in-Some.fault (told seen ∙ c.in-Some.is)

pub left-left-requires : goal.left-left-requires
left-left-requires c = omega (arith, low (goal.at.left-left-requires c).After-fault_at)

pub hands_on-self-requires : goal.hands_on-self-requires
hands_on-self-requires c = omega (arith, low (goal.at.hands_on-self-requires c).After-fault_at)

pub returns-clause-ok : goal.returns-clause-ok
returns-clause-ok c =
    let self = c.args.self.now in
    let hs = self.heights.items in
    let seen = (goal.at.returns-clause-ok c).After-fault_at in
    let i = at_place seen in
    let g = c.height_by-height.result in
    let passing =
    pass_on c.args.sizes c.args.code.now c.args.place hs self.before self.greatest c.requires.passing i (here seen) c.index-came.result.now (held seen) (told seen ∙ c.in_default.is) g c.height_by-height.ensures in
    let noted_is : c.note.new.heights ≡ noted (set hs c.args.place (Some g)) (target i) (left i g) =
    c.note.ensures ∙ (λ j. noted ((c.deref_mut.ensures.value ∙ ap (λ k. set hs k (Some g)) c.from-3.ensures) j) (c.target-2.ensures j) (c.left-left.ensures.exact j)) in
    let long : length c.note.new.heights ≡ self.heights.len =
    ap length noted_is ∙ length-noted (set hs c.args.place (Some g)) (target i) (left i g) ∙ length-set hs c.args.place (Some g) ∙ sym self.heights.ok.0 in
    passing_as _ _ _ _ _ _ _ _ _ (with_items_is (with_item self.heights c.from-3.result (Some g)) c.note.new.heights long ∙ noted_is) c.hands_on-self.ensures.exact c.max-self.ensures passing
