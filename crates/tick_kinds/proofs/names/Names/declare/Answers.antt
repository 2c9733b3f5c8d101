use Rattle.std.proofs.Common.{◌<◌, ◌∙◌, arith, sym}
use Rattle.std.proofs.lemmas.Map.Text.{hash_map_updates_str}
use Rattle.tick_kinds.proofs.Declaring.{declares}
use Rattle.tick_kinds.proofs.names.Names.declare.Goals as goal
use Rattle.tick_kinds.specs.Declarations.{limit}
use Rattle.tick_kinds.specs.prover.Table.{slot_at}
use Rattle.base.specs.Plain.{name_of}

pub returns : goal.returns
returns c =
    let fits : c.args.number < limit c.args.kind = omega (arith, c.limit_of.ensures) in
    declares (record { name = name_of c.args.named.now; slot = (c.args.kind, c.args.number) }) c.as_str-letters.result.now
    (slot_at c.args.self.now.slots) (slot_at c.insert.new.self) c.as_str-letters.ensures.value
    (sym c.contains_key.ensures ∙ c.if-contains_key.false) fits
    (hash_map_updates_str _ c.args.self.now.slots c.insert.new.self _ c.in_ok-insert.ensures.updates)
