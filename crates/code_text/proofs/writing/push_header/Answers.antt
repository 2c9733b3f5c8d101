use Rattle.std.proofs.Common.{◌++◌, codes, ap, ◌∙◌, string_bytes}
use Rattle.std.specs.Fmt.{decimal}
use Rattle.code_text.proofs.Lines.{header_added}
use Rattle.code_text.proofs.writing.push_header.Goals as goal

pub returns : goal.returns
returns c =
    let front = string_bytes c.write.new.self in
    let space = string_bytes c.push_str.new.self in
    header_added c.push_str-2.result (string_bytes c.args.text.now) front (string_bytes c.push_pair.new.text) space
    (string_bytes c.push_pair-2.new.text) (string_bytes c.push_str-2.new.self) c.args.version c.args.sizes
    c.in_ok-write.ensures.bytes
    (c.in_ok-push_pair.ensures
    ∙ ap (λ n. front ++ (decimal n ++ codes " " ++ decimal c.variables.result)) c.processes.ensures.count
    ∙ ap (λ n. front ++ (decimal c.args.sizes.processes ++ codes " " ++ decimal n)) c.variables.ensures)
    c.in_ok-push_str.ensures.bytes
    (c.in_ok-push_pair-2.ensures
    ∙ ap (λ n. space ++ (decimal n ++ codes " " ++ decimal c.registers.result)) c.scans.ensures
    ∙ ap (λ n. space ++ (decimal c.args.sizes.scans ++ codes " " ++ decimal n)) c.registers.ensures)
    c.push_str-2.ensures.bytes
