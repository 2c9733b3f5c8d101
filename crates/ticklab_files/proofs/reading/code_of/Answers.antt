use Rattle.std.proofs.Common.{◌∙◌, ap, Err}
use Rattle.ticklab_files.proofs.reading.code_of.Goals as goal

pub returns-in_ok-text-in-Err-TooLong-clause-refused : goal.returns-in_ok-text-in-Err-TooLong-clause-refused
returns-in_ok-text-in-Err-TooLong-clause-refused c = record {
  too_long = c.in-Err-TooLong.ensures.too_long.0 (ap Err c.in-Err-TooLong.field-0-is);
  told = ap (λ report. report.items) c.into_bytes.ensures.value ∙ c.in_ok-text-in-Err-TooLong.ensures.ok;
}
