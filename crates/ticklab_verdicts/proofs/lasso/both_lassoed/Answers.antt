use Rattle.std.proofs.Common.{ℕ, Bool, List, string_bytes, subst}
use Rattle.ticklab_verdicts.specs.Lasso.{ChecksLasso, IsChecked, IsUnchecked, checked, unchecked}
use Rattle.ticklab_files.specs.Reading.{IsSchedule}
use Rattle.ticklab_files.proofs.Responding.{settled_with}
use Rattle.ticklab_verdicts.proofs.lasso.both_lassoed.Goals as goal

pub returns-clause-ok : goal.returns-clause-ok
returns-clause-ok g c =
    let answered = c.checked-answered.ensures in
    let file = c.args.file.now in
    let reads = g.F.Files.Reads in
    let reads_input = g.F.Files.ReadsInput in
    let input = c.as_slice-bytes.result.now in
    let first_from = c.in_ok-first_from.first_from.now in
    let first = c.deref.result.now in
    let second_from = c.in_ok-second_from.second_from.now in
    let second = c.deref-2.result.now in
    let x = c.in_ok-settled.field-0 in (
      c.in_ok-input.input.items,
      c.bytes_of.new.files,
      c.in_ok-input.ensures.ok,
      first_from,
      string_bytes c.in_ok-first_from.first,
      c.text_of.new.files,
      subst (λ (is_read : Bool). IsSchedule reads reads_input is_read c.bytes_of.new.files c.text_of.new.files c.args.prefix.now first_from (string_bytes c.in_ok-first_from.first))
          c.is_input.ensures c.in_ok-first_from.ensures.ok,
      second_from,
      string_bytes c.in_ok-second_from.second,
      subst (λ (is_read : Bool). IsSchedule reads reads_input is_read c.text_of.new.files c.text_of-2.new.files c.args.cycle.now second_from (string_bytes c.in_ok-second_from.second))
          c.is_input_read-is_read.ensures c.in_ok-second_from.ensures.ok,
      subst (λ (bytes : List ℕ). ChecksLasso file bytes first_from (string_bytes c.in_ok-first_from.first) second_from (string_bytes c.in_ok-second_from.second) x) c.as_slice-bytes.ensures.value
          (subst (λ (text : List ℕ). ChecksLasso file input first_from text second_from (string_bytes c.in_ok-second_from.second) x) c.deref.ensures
          (subst (λ (text : List ℕ). ChecksLasso file input first_from first second_from text x) c.deref-2.ensures
          (settled_with {P = IsChecked input first second} {R = ChecksLasso file input first_from first second_from second}
          {Q = IsUnchecked file input first_from first second_from second} c.checked-answered.result x
          (λ x h. checked h) (λ x h. unchecked h) answered.ok answered.refused c.in_ok-settled.ensures))),
    )
