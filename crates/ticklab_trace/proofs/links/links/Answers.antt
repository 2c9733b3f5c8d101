use Rattle.std.proofs.Common.{◌≡◌, ap, arith, length}
use Rattle.tick_kinds.specs.Resolved.{resolved_block}
use Rattle.ticklab_trace.specs.Numbers.{size}
use Rattle.ticklab_trace.proofs.Linked.{table_of, block_long}
use Rattle.ticklab_trace.proofs.links.links.Goals as goal

pub returns : goal.returns
returns c =
    let body = resolved_block c.args.body.now in
    let new = c.add_block.new.links in
    let long = block_long body c.size.result c.new-links.result.items new.items c.in_ok-add_block.ensures in
    let all : c.size.result ≡ size body =
    omega (arith, c.size.ensures, long, ap length c.new-links.ensures.items, new.ok.0, new.ok.1, new.small) in
    table_of body c.size.result c.new-links.result.items new.items c.new-links.ensures.items all c.in_ok-add_block.ensures
