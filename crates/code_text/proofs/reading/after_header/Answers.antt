use Rattle.std.proofs.Common.{◌++◌, ap, ◌∙◌}
use Rattle.code_text.specs.CodeText.{header_line}
use Rattle.code_text.proofs.Lines.{follows_header}
use Rattle.code_text.proofs.reading.after_header.Goals as goal

pub returns : goal.returns
returns c =
    follows_header c.args.version c.args.sizes c.args.text.now c.as_bytes.result.now c.after.result
    (c.as_bytes.ensures.value ∙ c.in_ok-push_header.ensures ∙ ap (λ x. x ++ header_line c.args.version c.args.sizes) c.new-header.ensures.bytes)
    c.after.ensures
